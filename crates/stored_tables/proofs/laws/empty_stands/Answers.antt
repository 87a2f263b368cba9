use Rattle.stored_tables.specs.Empty.{stands_empty}
use Rattle.stored_tables.proofs.laws.empty_stands.Goals as goal

pub returns : goal.returns
returns c = stands_empty
