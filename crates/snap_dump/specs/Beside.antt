-- How dumps stand beside the results of the worker that makes them.
use Rattle.std.specs.Prelude.{◌≡◌, ℕ, ◌-◌, ◌<◌, ◌≤◌, List, length}
use Rattle.replay_model.specs.declared.outcome.Outcome.{Outcome}
use Rattle.replay_model.specs.declared.outcome.Placed.{Placed}
use Rattle.txn_engine.specs.Pass.{PassView}
use Rattle.lane_threads.specs.Beside.{StandBeside}
use Rattle.snap_dump.specs.declared.dump.Dump.{Dump}
use Rattle.snap_dump.specs.Dumps.{DumpsMade, seen_in}

-- Dumps that were made behind others, each behind a result and before the next one; there are as many as results while dumps are due.
pub record AreBeside (due : ℕ) (old more : List Dump) (results : List (Placed × Outcome)) : Type 0 where
  pub stand : StandBeside (seen_in more) results
  pub within : length more ≤ due - length old
  pub all : length more < due - length old → length more ≡ length results

abbrev pub MadeBeside : (due : ℕ) (before now : PassView) (old new : List Dump) → List (Placed × Outcome) → Type 0
MadeBeside due before now old new results = (made : DumpsMade before now old new) × AreBeside due old made.more results
