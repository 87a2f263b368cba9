use Rattle.stored_tables.proofs.Packing.{rows_pack}
use Rattle.stored_tables.proofs.weights.rows_pack.Goals as goal

pub returns : goal.returns
returns c = rows_pack
