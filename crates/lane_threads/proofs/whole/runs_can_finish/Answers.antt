use Rattle.lane_threads.proofs.Remaining.{runs_can_finish}
use Rattle.lane_threads.proofs.whole.runs_can_finish.Goals as goal

pub returns : goal.returns
returns c = runs_can_finish c.adds_after.ensures
