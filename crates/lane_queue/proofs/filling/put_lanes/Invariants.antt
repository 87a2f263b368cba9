use Rattle.std.specs.Prelude.{◌≡◌, ◌+◌, ◌^◌, ◌<◌, ◌++◌, length}
use Rattle.std.specs.Vec.Iter.{into_iter_items}
use Rattle.crossbeam_queue.specs.Passes.{IsPassOf, ruled_capacity}
use Rattle.lane_queue.specs.View.{known, filled_view}
use Rattle.lane_queue.specs.Passes.{numbered}
use Rattle.lane_queue.proofs.filling.put_lanes.Given as goal

abbrev pub invariant-loop-blocks : goal.invariant-loop-blocks
invariant-loop-blocks g l =
    let rest = into_iter_items l.blocks-iterator in let all = into_iter_items l.initial.blocks-iterator in
    IsPassOf l.items l.pass × (known l.pass ≡ filled_view (known l.pass).lanes 0)
    × ((known l.pass).lanes ++ numbered (l.number + 1) rest ≡ numbered 1 all)
    × (length (known l.pass).lanes ≡ l.number) × (l.number + length rest ≡ length all)
    × (length all < 2 ^ 32) × (length all < ruled_capacity l.items)
