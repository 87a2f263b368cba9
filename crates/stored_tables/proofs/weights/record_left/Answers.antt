use Rattle.stored_tables.proofs.WeightLeft.{record_left}
use Rattle.stored_tables.proofs.weights.record_left.Goals as goal

pub returns : goal.returns
returns c = record_left
