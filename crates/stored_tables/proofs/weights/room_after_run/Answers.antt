use Rattle.stored_tables.proofs.WeightAsks.{room_after_run}
use Rattle.stored_tables.proofs.weights.room_after_run.Goals as goal

pub returns : goal.returns
returns c = room_after_run
