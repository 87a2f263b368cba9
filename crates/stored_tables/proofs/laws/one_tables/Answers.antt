use Rattle.stored_tables.proofs.Ones.{one_tables}
use Rattle.stored_tables.proofs.laws.one_tables.Goals as goal

pub returns : goal.returns
returns c = one_tables
