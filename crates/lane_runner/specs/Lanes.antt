-- What the run of a lane's blocks leaves of a pass.
use Rattle.std.specs.Prelude.{◌≡◌, ℕ, ◌+◌, ◌*◌, ◌<◌, ◌≤◌, length, true, false, List, [], ◌∷◌, ◌++◌, All, ⊤}
use Rattle.core_rule.specs.Views.{Among}
use Rattle.plain_data.specs.declared.entry.Entry.{Entry}
use Rattle.replay_model.specs.Input.{AreCommands}
use Rattle.replay_model.specs.declared.input.Block.{Block}
use Rattle.replay_model.specs.declared.outcome.Outcome.{Outcome}
use Rattle.replay_model.specs.declared.outcome.Placed.{Placed}
use Rattle.history_replay.specs.Results.{IsEntryOf}
use Rattle.stored_tables.specs.Answers.{IsShort, ReadsAlone}
use Rattle.txn_engine.specs.Pass.{PassView}
use Rattle.lane_runner.specs.Rows.{stands}
use Rattle.lane_runner.specs.Adds.{Adds}
use Rattle.lane_runner.specs.Blocks.{IsPlaceOf}
use Rattle.lane_runner.specs.Weighs.{WeighsAtMost, LeavesTables}

-- a block that can be run: its commands name the first 8 tables, and list at most 256 rows each; those of a snapshot read alone
pub record MayRun (block : Block) : Type 0 where
  pub commands : AreCommands 8 block.commands
  pub short : All IsShort block.commands
  pub reads : block.snap ≡ true → All ReadsAlone block.commands

-- a result of a block: its place, and the outcome of its commands, which have this entry; that of a transaction adds no more to the weight
-- than its commands may
pub record IsResult (records : ℕ) (block : Block) (result : Placed × Outcome) (entry : Entry) : Type 0 where
  pub place : IsPlaceOf block result.0
  pub is_entry : IsEntryOf stands records block.commands result.0 result.1 entry
  pub weighs : entry.snapshot ≡ false → WeighsAtMost records block.commands entry

-- the entries of blocks with these results, in their order; other entries between them leave the tables and their weight
pub data AreEntries (records : ℕ) : List Entry → List Block → List (Placed × Outcome) → Type 0 where
  none : AreEntries records [] [] []
  result : (entry : Entry) (entries : List Entry) (block : Block) (blocks : List Block) (result : Placed × Outcome)
      (results : List (Placed × Outcome)) → IsResult records block result entry → AreEntries records entries blocks results
      → AreEntries records (entry ∷ entries) (block ∷ blocks) (result ∷ results)
  other : (entry : Entry) (entries : List Entry) (blocks : List Block) (results : List (Placed × Outcome))
      → LeavesTables records entry → AreEntries records entries blocks results → AreEntries records (entry ∷ entries) blocks results

-- the first of these blocks have results, in their order, each with its entry; the others are the rest
pub record Runs (blocks : List Block) (results : List (Placed × Outcome)) (rest : List Block) (before after' : PassView) : Type 0 where
  pub done : List Block
  pub blocks_are : blocks ≡ done ++ rest
  pub entries : List Entry
  pub are_entries : AreEntries before.shared.size.records entries done results
  pub adds : Adds before after' entries

-- what a block adds to a run, whatever ran before it
abbrev pub RunsNext : Block → (results : List (Placed × Outcome)) (rest : List Block) (before : PassView)
    → (results' : List (Placed × Outcome)) (rest' : List Block) (after' : PassView) → Type 0
RunsNext block results rest before results' rest' after' =
    (blocks : List Block) (first : PassView) → Runs blocks results rest first before
    → Runs (blocks ++ block ∷ []) results' rest' first after'

-- some entries were added
abbrev pub AddsSome : PassView → PassView → Type 0
AddsSome before after' = (entries : List Entry) × Adds before after' entries

-- how many stamps a lane may draw, with so many tries of each block
abbrev pub lane_draws : List Block → (tries : ℕ) → ℕ
lane_draws blocks tries = length blocks * (tries + 2)

-- of two results of a lane the later one: stamps of transaction blocks rise, and those of snapshot blocks never fall
pub record IsAfter (first second : Placed) : Type 0 where
  pub commits : first.snap ≡ false → second.snap ≡ false → first.stamp < second.stamp
  pub snapshots : first.snap ≡ true → second.snap ≡ true → first.stamp ≤ second.stamp

abbrev pub KeepOrder : List (Placed × Outcome) → Type 0
KeepOrder [] = ⊤
KeepOrder (first ∷ results) = ((second : Placed × Outcome) → Among second results → IsAfter first.0 second.0) × KeepOrder results
