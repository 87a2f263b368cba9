use Rattle.std.proofs.Common.{◌≡◌, ◌≤◌, take}
use Rattle.replay_model.specs.TableMap.{loaded}
use Rattle.txn_engine.specs.Pass.{engine_of}
use Rattle.lane_runner.specs.Loading.{HasLoaded}
use Rattle.lane_runner.specs.Room.{clock_after}
use Rattle.lane_runner.proofs.loading.put_rows.Given as goal

abbrev pub invariant-loop-row : goal.invariant-loop-row
invariant-loop-row l = record {
  engine : engine_of l.alone.pass ≡ l.engine;
  loaded : HasLoaded (loaded (take l.row-index l.rows) l.indexes) l.row-index l.initial.alone.pass l.alone.pass;
  clock : l.alone.pass.clock ≤ clock_after l.initial.alone.pass.clock l.row-index;
  shared : l.alone.shared ≡ l.initial.alone.shared;
}
