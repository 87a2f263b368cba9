use Rattle.stored_tables.proofs.WeightPlans.{command_adds}
use Rattle.stored_tables.proofs.weights.command_adds.Goals as goal

pub returns : goal.returns
returns c = command_adds
