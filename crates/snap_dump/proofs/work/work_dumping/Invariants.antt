use Rattle.std.proofs.Common.{◌≡◌, ◌+◌, ◌≤◌, length}
use Rattle.lane_queue.specs.Passes.{IsSamePass}
use Rattle.lane_threads.specs.Workers.{RunsLanes, draws_of}
use Rattle.txn_engine.specs.Pass.{engine_of}
use Rattle.lane_runner.specs.Finishing.{results_of}
use Rattle.snap_dump.specs.Beside.{AreBeside}
use Rattle.snap_dump.specs.Dumps.{DumpsMade, how_many}
use Rattle.snap_dump.proofs.work.work_dumping.Given as goal

abbrev pub invariant-loop : goal.invariant-loop
invariant-loop g l = record {
  queue_is : l.taker.queue ≡ l.queue;
  engine_is : engine_of l.pass ≡ l.engine;
  same : IsSamePass l.initial.taker l.taker;
  does : RunsLanes l.tries (draws_of l.taker.took l.tries + how_many l.initial.made.items l.made.items) l.initial.pass l.pass l.taker.took l.done.items;
  made : DumpsMade l.initial.pass l.pass l.initial.made.items l.made.items;
  beside : AreBeside l.due l.initial.made.items made.more (results_of l.done.items);
  within : length l.made.items ≤ l.due;
}
