use Rattle.stored_tables.proofs.WeightAsks.{room_to_ask}
use Rattle.stored_tables.proofs.weights.room_to_ask.Goals as goal

pub returns : goal.returns
returns c = room_to_ask
