use Rattle.std.proofs.Common.{◌<◌}
use Rattle.lane_queue.specs.View.{known}
use Rattle.lane_queue.proofs.EachOnceKept.{pops, learns_end}
use Rattle.lane_queue.proofs.queue.LaneQueue.take.Goals as goal

pub pop_as-requires-clause-rule : goal.pop_as-requires-clause-rule
pop_as-requires-clause-rule g c =
    let some_end : 0 < (known c.pass.inside.inner).ends = c.pass.invariant.3 c.if-pass.false in
    (pops _ _ some_end, learns_end _ _ some_end)
