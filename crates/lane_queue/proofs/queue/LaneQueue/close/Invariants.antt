use Rattle.std.specs.Prelude.{◌≡◌, length}
use Rattle.std.specs.Vec.Iter.{into_iter_items, into_iter_len}
use Rattle.crossbeam_queue.specs.Passes.{IsPassOf}
use Rattle.lane_queue.specs.View.{known}
use Rattle.lane_queue.specs.Gathering.{Gathering}
use Rattle.lane_queue.proofs.queue.LaneQueue.close.Given as goal

abbrev pub invariant-loop-other : goal.invariant-loop-other
invariant-loop-other g l =
    let lanes = (known l.initial.inner).lanes in
    IsPassOf l.self-inside.items l.inner
    × Gathering l.fn.self l.fn.passes.items (into_iter_items l.other-iterator) lanes (known l.inner)
    × (length (into_iter_items l.other-iterator) ≡ into_iter_len l.other-iterator)
