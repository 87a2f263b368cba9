use Rattle.stored_tables.proofs.Weight.{spares_within_weight}
use Rattle.stored_tables.proofs.weights.spares_within_weight.Goals as goal

pub returns : goal.returns
returns c = spares_within_weight
