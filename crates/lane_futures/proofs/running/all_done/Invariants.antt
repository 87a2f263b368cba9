use Rattle.std.proofs.Common.{◌≡◌, ◌≤◌, map}
use Rattle.std.specs.Vec.{vec_capacity}
use Rattle.lane_runner.specs.Session.{done_of}
use Rattle.lane_futures.proofs.running.all_done.Given as goal

abbrev pub invariant-loop-session : goal.invariant-loop-session
invariant-loop-session l = record {
  made : l.done.items ≡ map done_of l.yielded;
  room : vec_capacity l.initial.done ≤ vec_capacity l.done;
}
