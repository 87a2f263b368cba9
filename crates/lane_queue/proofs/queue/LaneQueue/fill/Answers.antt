use Rattle.std.proofs.Common.{◌≡◌, length, arith, ap, ◌∙◌, rules}
use Rattle.lane_queue.specs.View.{View, known}
use Rattle.lane_queue.proofs.EachOnceKept.{begins}
use Rattle.lane_queue.proofs.PassLists.{length-numbered}
use Rattle.lane_queue.proofs.queue.LaneQueue.fill.Goals as goal

pub ruled-requires-clause-rule : goal.ruled-requires-clause-rule
ruled-requires-clause-rule g c = begins

pub put_ends-requires-clause-room : goal.put_ends-requires-clause-room
put_ends-requires-clause-room g c =
    let lanes : length (known c.put_lanes.new.pass).lanes ≡ length c.into_vec-lanes.result.items =
    ap (λ (v : View). length v.lanes) c.put_lanes.ensures.view ∙ length-numbered 1 c.into_vec-lanes.result.items in
    let capacity = c.in_ok-items.ensures.0 in
    let counted : c.len.result ≡ length c.into_vec-lanes.result.items = search rules in omega (arith, lanes, capacity, counted)
