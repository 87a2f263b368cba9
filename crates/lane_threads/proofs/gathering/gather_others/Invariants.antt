use Rattle.std.specs.Prelude.{◌≡◌, length}
use Rattle.std.specs.Vec.Iter.{into_iter_items, into_iter_len}
use Rattle.lane_threads.specs.declared.gathering.Gathered.{Gathered}
use Rattle.lane_threads.specs.Gathers.{GoesOnByEach}
use Rattle.lane_threads.proofs.gathering.gather_others.Given as goal

abbrev pub invariant-loop-one : goal.invariant-loop-one
invariant-loop-one l = record {
  goes : (all : Gathered) → GoesOnByEach l.gathered (into_iter_items l.one-iterator) all → GoesOnByEach l.initial.gathered (into_iter_items l.initial.one-iterator) all;
  remain : length (into_iter_items l.one-iterator) ≡ into_iter_len l.one-iterator;
}
