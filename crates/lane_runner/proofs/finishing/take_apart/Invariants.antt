use Rattle.std.proofs.Common.{◌≡◌, ◌++◌}
use Rattle.std.specs.Vec.Iter.{into_iter_items}
use Rattle.lane_runner.specs.Finishing.{results_of, rests_of}
use Rattle.lane_runner.proofs.finishing.take_apart.Given as goal

abbrev pub invariant-loop-lane : goal.invariant-loop-lane
invariant-loop-lane l = record {
  lanes : l.yielded ++ into_iter_items l.lane-iterator ≡ into_iter_items l.initial.lane-iterator;
  results : l.results.items ≡ results_of l.yielded;
  rests : l.rests.items ≡ rests_of l.yielded;
}
