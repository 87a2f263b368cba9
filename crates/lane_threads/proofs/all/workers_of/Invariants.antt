use Rattle.std.specs.Prelude.{◌≡◌, ◌≤◌, ◌++◌, map, length}
use Rattle.std.specs.Vec.Iter.{into_iter_items, into_iter_len}
use Rattle.lane_threads.proofs.all.workers_of.Given as goal

abbrev pub invariant-loop-pass : goal.invariant-loop-pass
invariant-loop-pass g l = record {
  same : length (into_iter_items l.pass-iterator) ≡ length (into_iter_items l.takers);
  enough : length (into_iter_items l.pass-iterator) ≤ length (into_iter_items l.clocks);
  passes : map (λ w. w.pass) l.workers.items ++ into_iter_items l.pass-iterator ≡ into_iter_items l.initial.pass-iterator;
  takers : map (λ w. w.taker) l.workers.items ++ into_iter_items l.takers ≡ into_iter_items l.initial.takers;
  remain : length (into_iter_items l.pass-iterator) ≡ into_iter_len l.pass-iterator;
  takers_remain : length (into_iter_items l.takers) ≡ into_iter_len l.takers;
  clocks_remain : length (into_iter_items l.clocks) ≡ into_iter_len l.clocks;
}
