-- What the seat that is alone at the end of a run says of it.
use Rattle.std.specs.Prelude.{◌≡◌, ℕ, ◌+◌, ◌≤◌, List, length, take, All, Contains, Some, slice_get}
use Rattle.plain_data.specs.declared.entry.Entry.{Entry}
use Rattle.replay_model.specs.declared.input.Input.{Input}
use Rattle.replay_model.specs.declared.outcome.Placed.{Placed}
use Rattle.replay_model.specs.Replay.{last_tables}
use Rattle.histories.specs.History.{Lawful, UpTo}
use Rattle.history_replay.specs.Results.{StandsForSome, LeaveTables}
use Rattle.lane_runner.specs.Rows.{stands}
use Rattle.load_gen.specs.Load.{lines, spelled}
use Rattle.txn_engine.specs.Pass.{PassView}
use Rattle.txn_script.specs.Grammar.{IsInput}
use Rattle.program_io.specs.declared.mode.Mode.{Mode}
use Rattle.program_io.specs.declared.mode.Mode.TheVariants.{Run, Generate, Check}
use Rattle.program_io.specs.Received.{most_input}

-- blocks are run, and no report of them is checked
abbrev pub RunsBlocks : Mode → Type 0
RunsBlocks Run = Unit {0}
RunsBlocks (Generate seed) = Unit {0}
RunsBlocks Check = ⊥

-- a report is checked
abbrev pub ChecksReport : Mode → Type 0
ChecksReport Run = ⊥
ChecksReport (Generate seed) = ⊥
ChecksReport Check = Unit {0}

-- the input whose blocks are run, for these bytes of a source
abbrev pub IsInputFor : Mode → List ℕ → Input → Type 0
IsInputFor Run bytes input = (length bytes ≤ most_input) × IsInput bytes input
IsInputFor (Generate seed) bytes input = IsInput (spelled (lines seed)) input
IsInputFor Check bytes input = ⊥

-- the log of all transactions is a lawful history
abbrev pub IsLawfulEnd : PassView → Type 0
IsLawfulEnd end = Lawful (StandsForSome stands) end.shared.size.records end.log

-- The log has an entry of each block of the order, of its stamp and kind; and what its transactions up to there leave stands for the tables
-- behind that block in the replay.
pub record IsHistoryOf (input : Input) (order : List Placed) (end : PassView) : Type 0 where
  pub entry : All (λ placed. (entry : Entry) × Contains end.log entry × (entry.stamp ≡ placed.stamp) × (entry.snapshot ≡ placed.snap)) order
  pub each : (i : ℕ) (placed : Placed) → slice_get order i ≡ Some placed → LeaveTables stands (UpTo end.log placed.stamp) (last_tables input (take (i + 1) order))
