use Rattle.std.specs.Prelude.{◌≡◌, ◌+◌, ◌-◌, length}
use Rattle.std.specs.List.{sum_by, AllByRecursion}
use Rattle.crossbeam_queue.specs.Passes.{IsPassOf}
use Rattle.lane_queue.specs.View.{known, dealing_view}
use Rattle.lane_queue.specs.Passes.{Taker, IsFresh, AreOf}
use Rattle.lane_queue.proofs.filling.deal_all.Given as goal

abbrev pub invariant-loop : goal.invariant-loop
invariant-loop l =
    let lanes = (known l.initial.first).lanes in
    IsPassOf l.items l.first
    × (known l.first ≡ dealing_view lanes (l.counter - 1) l.workers)
    × (length l.passes.items + 1 ≡ l.counter)
    × (sum_by (λ (p : Taker). p.share) l.passes.items ≡ length l.passes.items)
    × AllByRecursion (λ p. p.queue ≡ l.items.table.shared.table_id) l.passes.items
    × AreOf lanes l.passes.items
    × AllByRecursion IsFresh l.passes.items
