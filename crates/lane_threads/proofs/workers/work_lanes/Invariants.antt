use Rattle.std.proofs.Common.{◌≡◌}
use Rattle.txn_engine.specs.Pass.{engine_of}
use Rattle.lane_queue.specs.Passes.{IsSamePass}
use Rattle.lane_threads.specs.Workers.{DoesLanes}
use Rattle.lane_threads.proofs.workers.work_lanes.Given as goal

abbrev pub invariant-loop : goal.invariant-loop
invariant-loop g l = record {
  queue_is : l.taker.queue ≡ l.queue;
  engine_is : engine_of l.pass ≡ l.engine;
  same : IsSamePass l.initial.taker l.taker;
  does : DoesLanes l.tries l.initial.pass l.pass l.taker.took l.done.items;
}
