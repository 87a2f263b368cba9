-- What the log of a seat that is alone has once all blocks of an input have run: the loading, and behind it the entries of the blocks.
use Rattle.std.specs.Prelude.{◌≡◌, ℕ, ◌+◌, ◌-◌, ◌≤◌, false, List, ◌++◌, length, map, All, Contains}
use Rattle.std.specs.List.{flat_map}
use Rattle.std.specs.List.Sorted.{IsPermutation}
use Rattle.plain_data.specs.declared.entry.Entry.{Entry}
use Rattle.core_rule.specs.Views.{Among}
use Rattle.replay_model.specs.declared.input.Block.{Block}
use Rattle.replay_model.specs.declared.input.Input.{Input}
use Rattle.replay_model.specs.declared.outcome.Outcome.{Outcome}
use Rattle.replay_model.specs.declared.outcome.Placed.{Placed}
use Rattle.replay_model.specs.Input.{IsWellFormed}
use Rattle.replay_model.specs.TableMap.{TableMap, loaded}
use Rattle.histories.specs.History.{Lawful}
use Rattle.history_replay.specs.Results.{StandsForSome, LeaveTables, KeepsLane, AreResults}
use Rattle.stamp_base.specs.Stamp.{bound_of_clock}
use Rattle.seat_post.specs.Logs.{IsAbove}
use Rattle.txn_engine.specs.Alone.{AloneView}
use Rattle.txn_engine.specs.Pass.{PassView, IsIdle, bare, engine_of}
use Rattle.txn_engine.specs.Sharing.{shares}
use Rattle.lane_runner.specs.declared.done.LaneDone.{LaneDone}
use Rattle.lane_runner.specs.Rows.{stands}
use Rattle.lane_runner.specs.Behind.{ComesBehind}
use Rattle.lane_runner.specs.Lanes.{AreEntries}
use Rattle.lane_threads.specs.All.{RunsAll}
use Rattle.lane_runner.specs.Weighs.{blocks_add}
use Rattle.lane_runner.specs.Holding.{HasRecords}
use Rattle.lane_runner.specs.Loading.{Loads, rows_weigh}
use Rattle.lane_runner.specs.Finishing.{MayFinish, MayFinishAll, Finishes, rests_add, how_many_remain}

-- all blocks, lane behind lane
abbrev pub blocks_of : List (List Block) → List Block
blocks_of lanes = flat_map (λ (blocks : List Block). blocks) lanes

pub record RunsWhole (records start : ℕ) (log : List Entry) (input : Input) (results : List (Placed × Outcome)) : Type 0 where
  -- the loading leaves the rows and the indexes of the input, up to this stamp
  pub loading : List Entry
  pub loads : LeaveTables stands (Contains loading) (loaded input.rows input.indexes)
  pub up_to : (entry : Entry) → Among entry loading → entry.snapshot ≡ false → entry.stamp ≤ start
  -- behind it stand the entries of the blocks, each of which ran once
  pub entries : List Entry
  pub log_is : log ≡ loading ++ entries
  pub behind : (entry : Entry) → Among entry entries → ComesBehind start entry
  pub blocks : List Block
  pub each_once : IsPermutation (blocks_of input.lanes) blocks
  -- the results in the order of their entries, and the same as they are told
  pub ordered : List (Placed × Outcome)
  pub are_entries : AreEntries records entries blocks ordered
  pub same : IsPermutation ordered results
  -- each lane kept its order
  pub lanes_kept : All (λ (a : Placed × Outcome). All (λ (b : Placed × Outcome). KeepsLane a.0 b.0) results) results

-- so the results are those of the input in a history that was loaded up to the stamp
abbrev pub WholeRunsAreResults : Type 0
WholeRunsAreResults =
    (records start : ℕ) (log : List Entry) (input : Input) (results : List (Placed × Outcome))
    → IsWellFormed input
    → Lawful (StandsForSome stands) records log
    → RunsWhole records start log input results
    → AreResults stands records log start input results

-- ---- the run of an input: loading, sharing, running, and what remains

-- the passes that a share of the pass gives; nothing that was committed before is stamped above its clock
pub record AreShared (p : PassView) (passes : List PassView) : Type 0 where
  pub idle : IsIdle p
  pub first : p.seat ≡ 0
  pub are_shares : map bare passes ≡ shares p
  pub above : IsAbove p.log (bound_of_clock p.clock)

-- the lanes of an input were run on all passes that a share gave of the seat that had loaded it
pub record HasRun (input : Input) (tries due : ℕ) (loaded : PassView) (alone : AloneView) (done : List LaneDone) : Type 0 where
  pub well_formed : IsWellFormed input
  pub first : PassView
  pub loads : Loads input first loaded
  pub passes : List PassView
  pub shared : AreShared loaded passes
  pub runs : RunsAll (engine_of loaded) passes input.lanes tries due alone done

-- the tables that the loading leaves
abbrev pub loaded_rows : Input → TableMap
loaded_rows input = loaded input.rows input.indexes

-- where the records are enough for the rows and all blocks, the blocks that remain can be run
pub record CanFinish (input : Input) (alone : AloneView) (done : List LaneDone) : Type 0 where
  pub blocks : MayFinishAll done
  pub records : HasRecords alone.pass (rests_add done)
  pub few : how_many_remain done ≤ length (blocks_of input.lanes)

abbrev pub RunsCanFinish : Type 0
RunsCanFinish =
    (input : Input) (tries due : ℕ) (loaded : PassView) (alone : AloneView) (done : List LaneDone)
    → HasRun input tries due loaded alone done
    → Lawful (StandsForSome stands) loaded.shared.size.records alone.pass.log
    → All (All MayFinish) input.lanes
    → loaded.fixed + (rows_weigh input.rows + blocks_add (blocks_of input.lanes) (loaded_rows input)) ≤ loaded.shared.size.records
    → CanFinish input alone done

-- and when they have run, each block of the input has run once
abbrev pub RunsBecomeWhole : Type 0
RunsBecomeWhole =
    (input : Input) (tries due : ℕ) (loaded : PassView) (alone : AloneView) (done : List LaneDone) (last : PassView) (results : List (Placed × Outcome))
    → HasRun input tries due loaded alone done
    → Finishes done alone.pass last results
    → RunsWhole loaded.shared.size.records (bound_of_clock loaded.clock - 1) last.log input results
