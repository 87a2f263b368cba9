-- What the run of a block leaves of a pass.
use Rattle.std.specs.Prelude.{◌≡◌, ℕ, ◌+◌, ◌<◌, ◌≤◌, false, List, [], ◌∷◌, All, Option, Some, None, IfSome}
use Rattle.plain_data.specs.declared.entry.Entry.{Entry}
use Rattle.stamp_base.specs.Stamp.{stamp_of}
use Rattle.core_rule.specs.Views.{Among}
use Rattle.replay_model.specs.declared.command.Command.{Command}
use Rattle.replay_model.specs.declared.input.Block.{Block}
use Rattle.replay_model.specs.declared.outcome.Outcome.{Outcome}
use Rattle.replay_model.specs.declared.outcome.Placed.{Placed}
use Rattle.history_replay.specs.Results.{IsEntryOf}
use Rattle.txn_engine.specs.Pass.{PassView}
use Rattle.lane_runner.specs.declared.done.BlockDone.{BlockDone}
use Rattle.lane_runner.specs.Rows.{stands}
use Rattle.lane_runner.specs.Adds.{Adds}
use Rattle.lane_runner.specs.Weighs.{WeighsAtMost, LeavesTables}

-- a place is that of a block: of its kind, lane and number, at any stamp
pub record IsPlaceOf (block : Block) (placed : Placed) : Type 0 where
  pub snap : placed.snap ≡ block.snap
  pub lane : placed.lane ≡ block.lane
  pub number : placed.number ≡ block.number

-- the place is that of a snapshot, or its stamp is one of this seat
abbrev pub IsOfSeat : (seat : ℕ) → Placed → Type 0
IsOfSeat seat placed = placed.snap ≡ false → (clock : ℕ) × (placed.stamp ≡ stamp_of clock seat)

-- so it is of each of these results
abbrev pub AreOfSeat : (seat : ℕ) → List (Placed × Outcome) → Type 0
AreOfSeat seat results = All (λ (result : Placed × Outcome). IsOfSeat seat result.0) results

-- exactly one entry was added, that of the commands with this outcome; that of a transaction is stamped at the seat of the pass, and adds no
-- more to the weight than they may
pub record Commits (commands : List Command) (before after' : PassView) (placed : Placed) (outcome : Outcome) : Type 0 where
  pub entry : Entry
  pub adds : Adds before after' (entry ∷ [])
  pub is_entry : IsEntryOf stands before.shared.size.records commands placed outcome entry
  pub seat : IsOfSeat before.seat placed
  pub weighs : entry.snapshot ≡ false → WeighsAtMost before.shared.size.records commands entry

-- no entry was added, and so many refusals were counted
pub record IsRefused (times : ℕ) (before after' : PassView) : Type 0 where
  pub adds : Adds before after' []
  pub refusals : after'.refusals ≡ before.refusals + times

-- one refusal was counted at most
pub record CountsOnce (before after' : PassView) : Type 0 where
  pub once : after'.refusals ≤ before.refusals + 1

-- A block has run: exactly its entry was added, with this place of it and this outcome.
pub record RunsBlock (block : Block) (before after' : PassView) (placed : Placed) (outcome : Outcome) : Type 0 where
  pub commits : Commits block.commands before after' placed outcome
  pub place : IsPlaceOf block placed

-- It has run at a pass, which counted one refusal at most; the record that its transaction read first is one of the engine's.
pub record IsDone (block : Block) (before after' : PassView) (done : BlockDone) : Type 0 where
  pub ran : RunsBlock block before after' done.placed done.outcome
  pub once : CountsOnce before after'
  pub first : IfSome done.first_read (λ rid. rid < before.shared.size.records)

-- what a try of a block came to: it has run, or it was refused once and nothing was added
abbrev pub IsTried : Block → (before after' : PassView) → Option BlockDone → Type 0
IsTried block before after' None = IsRefused 1 before after'
IsTried block before after' (Some done) = IsDone block before after' done

-- some entries were added, and each leaves the tables and their weight as they were
pub record AddsOthers (before after' : PassView) : Type 0 where
  pub entries : List Entry
  pub adds : Adds before after' entries
  pub keep : (entry : Entry) → Among entry entries → LeavesTables before.shared.size.records entry
