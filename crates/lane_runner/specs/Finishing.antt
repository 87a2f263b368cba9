-- What is left when the seat that is alone has run the blocks that remain.
use Rattle.std.specs.Prelude.{◌≡◌, ℕ, ◌≤◌, true, List, [], ◌∷◌, ◌++◌, All, sum_by, length}
use Rattle.std.specs.List.Sorted.{IsPermutation, IsSorted}
use Rattle.std.specs.Ordering.{nat_cmp}
use Rattle.replay_model.specs.declared.input.Block.{Block}
use Rattle.replay_model.specs.declared.outcome.Outcome.{Outcome}
use Rattle.replay_model.specs.declared.outcome.Placed.{Placed}
use Rattle.replay_model.specs.TableMap.{TableMap}
use Rattle.txn_engine.specs.Pass.{PassView}
use Rattle.lane_runner.specs.declared.done.LaneDone.{LaneDone}
use Rattle.lane_runner.specs.Lanes.{MayRun, Runs}
use Rattle.lane_runner.specs.Weighs.{blocks_add}
use Rattle.lane_runner.specs.Holding.{Holds, IsBehind}

-- a block that can be run, of at most 64 commands
pub record MayFinish (block : Block) : Type 0 where
  pub may : MayRun block
  pub few : length block.commands ≤ 64

-- the results of lanes, and the blocks that remain, lane behind lane
abbrev pub results_of : List LaneDone → List (Placed × Outcome)
results_of [] = []
results_of (lane ∷ lanes) = lane.results ++ results_of lanes

abbrev pub rests_of : List LaneDone → List Block
rests_of [] = []
rests_of (lane ∷ lanes) = lane.rest ++ rests_of lanes

-- so do the rests of lanes; and their blocks are so many
abbrev pub rests_add : List LaneDone → TableMap → ℕ
rests_add lanes tables = sum_by (λ (lane : LaneDone). blocks_add lane.rest tables) lanes

abbrev pub how_many_remain : List LaneDone → ℕ
how_many_remain lanes = sum_by (λ (lane : LaneDone). length lane.rest) lanes

abbrev pub MayFinishAll : List LaneDone → Type 0
MayFinishAll lanes = All (λ (lane : LaneDone). All MayFinish lane.rest) lanes

-- a snapshot stands behind each transaction of a log
abbrev pub AreBehind : PassView → List (Placed × Outcome) → Type 0
AreBehind p results = All (λ (result : Placed × Outcome). result.0.snap ≡ true → IsBehind p.log result.0.stamp) results

-- blocks ran one behind the other, and their results stand behind those that were there
pub record RunsRests (blocks : List Block) (earlier : List (Placed × Outcome)) (before : PassView) (results : List (Placed × Outcome)) (after' : PassView) : Type 0 where
  pub holds : Holds after'
  pub rests : List (Placed × Outcome)
  pub all : results ≡ earlier ++ rests
  pub runs : Runs blocks rests [] before after'
  pub behind : AreBehind before rests

-- The results are those of the lanes, and one for each block that remained: these ran in the order of their lanes, each with its entry.
pub record Finishes (done : List LaneDone) (before after' : PassView) (results : List (Placed × Outcome)) : Type 0 where
  pub holds : Holds after'
  pub order : List LaneDone
  pub same : IsPermutation done order
  pub sorted : IsSorted (λ (a b : LaneDone). nat_cmp a.lane b.lane) order
  pub rests : List (Placed × Outcome)
  pub all : results ≡ results_of order ++ rests
  pub runs : Runs (rests_of order) rests [] before after'
  pub behind : AreBehind before rests
