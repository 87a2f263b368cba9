use Rattle.std.proofs.Common.{[], refl}
use Rattle.lane_threads.proofs.lane_run.WorkersLaneRun.first.Goals as goal

pub returns : goal.returns
returns g c = c.nothing_is_read.ensures c.args.tries c.args.worker.pass c.args.worker.taker c.work_lane_by_lane-worked.result [] refl c.work_lane_by_lane-worked.ensures
