use Rattle.lane_runner.proofs.Weighing.{runs_weigh}
use Rattle.lane_runner.proofs.laws.runs_weigh.Goals as goal

pub returns : goal.returns
returns c = runs_weigh c.adds_after.ensures
