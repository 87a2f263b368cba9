-- What a lane comes to.
use Rattle.std.specs.Prelude.{◌≡◌, ℕ, List, [], ◌∷◌}
use Rattle.replay_model.specs.declared.input.Block.{Block}
use Rattle.lane_queue.specs.declared.lane.Lane.{Lane}
use Rattle.txn_engine.specs.Pass.{PassView}
use Rattle.lane_runner.specs.declared.done.LaneDone.{LaneDone}
use Rattle.lane_runner.specs.Blocks.{AreOfSeat}
use Rattle.lane_runner.specs.Lanes.{Runs, KeepOrder}

-- the results are those of the first blocks of the lane, each with its entry, in their order and at the seat of the pass; the others are the
-- rest
pub record DoesLane (lane : Lane) (done : LaneDone) (before after' : PassView) : Type 0 where
  pub lane_is : done.lane ≡ lane.number
  pub runs : Runs lane.blocks done.results done.rest before after'
  pub order : KeepOrder done.results
  pub seats : AreOfSeat before.seat done.results

-- so many tries of a lane with a rest
abbrev pub tries_of_rest : (tries : ℕ) → List Block → ℕ
tries_of_rest tries [] = 0
tries_of_rest tries (block ∷ rest) = tries
