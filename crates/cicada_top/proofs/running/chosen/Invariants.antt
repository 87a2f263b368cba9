use Rattle.std.proofs.Common.{◌≡◌, ◌+◌, length}
use Rattle.std.specs.Vec.Iter.{into_iter_items}
use Rattle.cicada_top.proofs.running.chosen.Given as goal

abbrev pub invariant-loop-clock : goal.invariant-loop-clock
invariant-loop-clock g l = length l.chosen.items + length (into_iter_items l.clock-iterator) ≡ length (into_iter_items l.initial.clock-iterator)
