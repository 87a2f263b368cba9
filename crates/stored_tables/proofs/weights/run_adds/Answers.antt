use Rattle.stored_tables.proofs.WeightPlans.{run_adds}
use Rattle.stored_tables.proofs.weights.run_adds.Goals as goal

pub returns : goal.returns
returns c = run_adds
