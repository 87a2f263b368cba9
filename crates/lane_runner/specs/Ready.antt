-- What the pass of a seat that is alone has where it refuses no block.
use Rattle.std.specs.Prelude.{List, [], ◌++◌, All}
use Rattle.replay_model.specs.declared.input.Block.{Block}
use Rattle.replay_model.specs.declared.outcome.Outcome.{Outcome}
use Rattle.replay_model.specs.declared.outcome.Placed.{Placed}
use Rattle.txn_engine.specs.Leaves.{HoldsAbsent}
use Rattle.txn_engine.specs.Lists.{IsRoomy, IsRoomyOnceCollected}
use Rattle.txn_engine.specs.Pass.{PassView, IsAlone, engine_of}
use Rattle.lane_runner.specs.Lanes.{Runs}
use Rattle.lane_runner.specs.Weighs.{blocks_add}
use Rattle.lane_runner.specs.Holding.{HasPlaces, HasRecords}
use Rattle.lane_runner.specs.Finishing.{MayFinish}

-- No other seat is open. Each record from `fixed` on that the log leaves absent is a spare one, and each record has one version at most
-- outside its inline place. And the same but for what a collection takes back.
pub record IsReady (p : PassView) : Type 0 where
  pub alone : IsAlone p
  pub absent : HoldsAbsent p
  pub roomy : IsRoomy p

pub record IsReadyOnceCollected (p : PassView) : Type 0 where
  pub alone : IsAlone p
  pub absent : HoldsAbsent p
  pub roomy : IsRoomyOnceCollected p

-- The records suffice for blocks: the log left tables before some earlier blocks ran, and the records from `fixed` on are enough for their
-- weight and for what the earlier blocks and these add. Where none ran since, this is said of the tables that the log leaves.
pub record HasRecordsFor (p : PassView) (blocks : List Block) : Type 0 where
  pub first : PassView
  pub earlier : List Block
  pub results : List (Placed × Outcome)
  pub ran : Runs earlier results [] first p
  pub records : HasRecords first (blocks_add (earlier ++ blocks))

-- a pass that refuses none of these blocks
pub record IsAmple (p : PassView) (blocks : List Block) : Type 0 where
  pub ready : IsReady p
  pub places : HasPlaces (engine_of p)
  pub may : All MayFinish blocks
  pub records : HasRecordsFor p blocks
