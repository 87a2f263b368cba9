use Rattle.stored_tables.proofs.WeightLeft.{empty_weighs_nothing}
use Rattle.stored_tables.proofs.weights.empty_weighs_nothing.Goals as goal

pub returns : goal.returns
returns c = empty_weighs_nothing
