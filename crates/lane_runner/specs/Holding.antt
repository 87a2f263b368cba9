-- What the seat that is alone holds between blocks.
use Rattle.std.specs.Prelude.{◌≡◌, ℕ, ◌+◌, ◌≤◌, Bool, false, List, [], Contains}
use Rattle.plain_data.specs.declared.entry.Entry.{Entry}
use Rattle.plain_data.specs.State.{State}
use Rattle.core_rule.specs.Views.{Among}
use Rattle.histories.specs.History.{Lawful, Leaves}
use Rattle.history_replay.specs.Results.{StandsForSome}
use Rattle.replay_model.specs.declared.command.Command.{Command}
use Rattle.replay_model.specs.declared.outcome.Outcome.{Outcome}
use Rattle.replay_model.specs.declared.outcome.Placed.{Placed}
use Rattle.replay_model.specs.Running.{tables_after}
use Rattle.replay_model.specs.TableMap.{TableMap}
use Rattle.stored_tables.specs.Places.{Places}
use Rattle.stored_tables.specs.Tables.{StandsFor}
use Rattle.stored_tables.specs.Weight.{weight}
use Rattle.txn_engine.specs.Alone.{AloneView}
use Rattle.txn_engine.specs.Leaves.{HoldsAbsent}
use Rattle.txn_engine.specs.Lists.{IsRoomy, IsRoomyOnceCollected}
use Rattle.txn_engine.specs.Pass.{EngineView, PassView, IsIdle}
use Rattle.seat_post.specs.Logs.{IsAbove}
use Rattle.lane_runner.specs.Rows.{stands}
use Rattle.lane_runner.specs.Room.{clock_after}
use Rattle.lane_runner.specs.Weighs.{RunsTo}
use Rattle.lane_runner.specs.Blocks.{Commits}

-- No transaction is in flight and nothing is queued. The log is a lawful history, below what is published. Each record from `fixed` on that
-- the log leaves absent is a spare one, and each record has one version at most outside its inline place.
pub record Holds (p : PassView) : Type 0 where
  pub idle : IsIdle p
  pub none_queued : p.queue ≡ []
  pub lawful : Lawful (StandsForSome stands) p.shared.size.records p.log
  pub above : IsAbove p.log p.published
  pub absent : HoldsAbsent p
  pub roomy : IsRoomy p

-- what it has where a transaction or a snapshot has ended and nothing was collected yet
pub record Awaits (a : AloneView) : Type 0 where
  pub idle : IsIdle a.pass
  pub absent : HoldsAbsent a.pass
  pub roomy : IsRoomyOnceCollected a.pass

-- a log leaves a state that stands for these tables, at such places
pub record LeavesAt (records : ℕ) (log : List Entry) (tables : TableMap) (Such : Places → Type 0) : Type 0 where
  pub state : State
  pub left : Leaves (Contains log) state
  pub places : Places
  pub stands_for : StandsFor records state places tables
  pub are : Such places

-- at places that weigh so much at most
abbrev pub LeavesWithin : (records : ℕ) (log : List Entry) (tables : TableMap) (most : ℕ) → Type 0
LeavesWithin records log tables most = LeavesAt records log tables (λ places. weight places ≤ most)

-- commands lead from the tables that the log left to those that it leaves, and from the places of the first by the step that they make
abbrev pub LeavesAfter : List Command → (before after' : PassView) → Type 0
LeavesAfter commands before after' =
    (tables : TableMap) (first : Places) → LeavesAt before.shared.size.records before.log tables (λ places. places ≡ first)
    → LeavesAt after'.shared.size.records after'.log (tables_after commands tables) (RunsTo commands tables first)

-- one entry was added, that of the commands with this outcome, wherever its block has its place
abbrev pub CommitsAt : List Command → (before after' : PassView) → (stamp : ℕ) (snap : Bool) → Outcome → Type 0
CommitsAt commands before after' stamp snap outcome =
    (placed : Placed) → placed.stamp ≡ stamp → placed.snap ≡ snap → Commits commands before after' placed outcome

-- so they were entered at the seat, which has not collected yet; what the log leaves is told where it is lawful
pub record Enters (commands : List Command) (before after' : AloneView) (stamp : ℕ) (snap : Bool) (outcome : Outcome) : Type 0 where
  pub committed : CommitsAt commands before.pass after'.pass stamp snap outcome
  pub leaves : Lawful (StandsForSome stands) after'.pass.shared.size.records after'.pass.log → LeavesAfter commands before.pass after'.pass
  pub clock : after'.pass.clock ≤ clock_after before.pass.clock 1

-- it has been shared out or not, as before
pub record KeepsShared (before after' : AloneView) : Type 0 where
  pub shared : after'.shared ≡ before.shared

-- ---- room

-- places that a block may want beside one for each record: 64 commands write 128 records each at most, and one place more is kept
abbrev pub block_places : ℕ
block_places = 8193

abbrev pub HasPlaces : EngineView → Type 0
HasPlaces engine = engine.size.records + block_places ≤ engine.size.spare

-- the log leaves tables, and the records from `fixed` on are enough for their weight and what is added
pub record HasRecords (p : PassView) (added : TableMap → ℕ) : Type 0 where
  pub tables : TableMap
  pub most : ℕ
  pub leaves : LeavesWithin p.shared.size.records p.log tables most
  pub room : p.fixed + (most + added tables) ≤ p.shared.size.records

-- no commit entry of the log is stamped above this number
abbrev pub IsBehind : List Entry → ℕ → Type 0
IsBehind log t = (e : Entry) → Among e log → e.snapshot ≡ false → e.stamp ≤ t
