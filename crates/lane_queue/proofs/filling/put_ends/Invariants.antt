use Rattle.std.specs.Prelude.{◌≡◌}
use Rattle.crossbeam_queue.specs.Passes.{IsPassOf}
use Rattle.lane_queue.specs.View.{known, filled_view}
use Rattle.lane_queue.proofs.filling.put_ends.Given as goal

abbrev pub invariant-loop : goal.invariant-loop
invariant-loop g l = IsPassOf l.items l.pass × (known l.pass ≡ filled_view (known l.initial.pass).lanes l.counter)
