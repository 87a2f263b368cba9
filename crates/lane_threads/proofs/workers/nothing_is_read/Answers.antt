use Rattle.lane_threads.proofs.LaneLists.{nothing_is_read}
use Rattle.lane_threads.proofs.workers.nothing_is_read.Goals as goal

pub returns : goal.returns
returns c = nothing_is_read
