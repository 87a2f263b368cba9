use Rattle.std.proofs.Common.{[], refl}
use Rattle.lane_futures.proofs.turns.TurnsLaneRun.first.Goals as goal

pub returns : goal.returns
returns g c = c.nothing_is_read.ensures c.args.tries c.args.worker.pass c.args.worker.taker c.work_by_turns-worked.result [] refl c.work_by_turns-worked.ensures
