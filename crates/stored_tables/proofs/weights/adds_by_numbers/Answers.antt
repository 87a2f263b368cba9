use Rattle.stored_tables.proofs.WeightPlans.{adds_by_numbers}
use Rattle.stored_tables.proofs.weights.adds_by_numbers.Goals as goal

pub returns : goal.returns
returns c = adds_by_numbers
