use Rattle.std.proofs.Common.{◌≡◌, ◌≤◌, ◌++◌, length}
use Rattle.std.specs.Prelude.{All}
use Rattle.std.specs.Vec.Iter.{into_iter_items, into_iter_len}
use Rattle.txn_engine.specs.Pass.{engine_of}
use Rattle.lane_runner.specs.Finishing.{MayFinish, RunsRests}
use Rattle.lane_runner.specs.Weighs.{blocks_add}
use Rattle.lane_runner.specs.Holding.{HasRecords}
use Rattle.lane_runner.specs.Room.{clock_after}
use Rattle.lane_runner.proofs.finishing.run_rests.Given as goal

abbrev pub invariant-loop-block : goal.invariant-loop-block
invariant-loop-block l = record {
  engine : engine_of l.alone.pass ≡ l.engine;
  ran : RunsRests l.yielded l.initial.results.items l.initial.alone.pass l.results.items l.alone.pass;
  blocks : l.yielded ++ into_iter_items l.block-iterator ≡ into_iter_items l.initial.block-iterator;
  remain : length (into_iter_items l.block-iterator) ≡ into_iter_len l.block-iterator;
  may : All MayFinish (into_iter_items l.block-iterator);
  records : HasRecords l.alone.pass (blocks_add (into_iter_items l.block-iterator));
  clock : l.alone.pass.clock ≤ clock_after l.initial.alone.pass.clock (length l.yielded);
}
