use Rattle.std.proofs.Common.{◌≡◌}
use Rattle.txn_engine.specs.Pass.{engine_of}
use Rattle.lane_queue.specs.Passes.{IsSamePass}
use Rattle.lane_queue.specs.Subsequences.{IsSubsequence}
use Rattle.lane_threads.specs.Workers.{DoesLanes}
use Rattle.lane_futures.proofs.turns.work_groups.Given as goal

abbrev pub invariant-loop : goal.invariant-loop
invariant-loop g l = record {
  queue_is : l.taker.queue ≡ l.queue;
  engine_is : engine_of l.seat.pass ≡ l.engine;
  same : IsSamePass l.initial.taker l.taker;
  part : IsSubsequence l.taker.took l.taker.lanes;
  does : DoesLanes l.tries l.initial.seat.pass l.seat.pass l.taker.took l.done.items;
}
