use Rattle.stored_tables.proofs.WeightPlans.{adds_after}
use Rattle.stored_tables.proofs.weights.adds_after.Goals as goal

pub returns : goal.returns
returns c = adds_after
