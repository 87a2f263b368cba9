-- What blocks that ran behind a loading leave.
use Rattle.std.specs.Prelude.{◌≡◌, ℕ, ◌+◌, ◌<◌, ◌≤◌, true, false, List, ◌++◌}
use Rattle.plain_data.specs.declared.entry.Entry.{Entry}
use Rattle.core_rule.specs.Views.{Among}
use Rattle.replay_model.specs.declared.input.Block.{Block}
use Rattle.replay_model.specs.declared.outcome.Outcome.{Outcome}
use Rattle.replay_model.specs.declared.outcome.Placed.{Placed}
use Rattle.replay_model.specs.declared.command.Command.{Command}
use Rattle.replay_model.specs.TableMap.{TableMap}
use Rattle.stored_tables.specs.Weight.{all_add}
use Rattle.histories.specs.History.{Lawful}
use Rattle.history_replay.specs.Results.{StandsForSome}
use Rattle.lane_runner.specs.Rows.{stands}
use Rattle.lane_runner.specs.Lanes.{AreEntries}
use Rattle.lane_runner.specs.Weighs.{blocks_add}
use Rattle.lane_runner.specs.Holding.{LeavesWithin}

-- a commit entry stands above the stamp, a snapshot entry not below it
pub record ComesBehind (start : ℕ) (entry : Entry) : Type 0 where
  pub commit : entry.snapshot ≡ false → start < entry.stamp
  pub snapshot : entry.snapshot ≡ true → start ≤ entry.stamp

-- Blocks that ran behind a loading, in whatever order of stamps, leave tables that weigh no more than what was loaded and what they add;
-- and what other commands add is the same there.
pub record WeighsAfter (records : ℕ) (log : List Entry) (tables : TableMap) (most : ℕ) : Type 0 where
  pub after : TableMap
  pub leaves : LeavesWithin records log after most
  pub same : (commands : List Command) → all_add commands after ≡ all_add commands tables

abbrev pub RunsWeigh : Type 0
RunsWeigh =
    (records start : ℕ) (loading entries : List Entry) (blocks : List Block) (results : List (Placed × Outcome)) (tables : TableMap) (most : ℕ)
    → Lawful (StandsForSome stands) records (loading ++ entries)
    → LeavesWithin records loading tables most
    → ((entry : Entry) → Among entry loading → entry.snapshot ≡ false → entry.stamp ≤ start)
    → ((entry : Entry) → Among entry entries → ComesBehind start entry)
    → AreEntries records entries blocks results
    → WeighsAfter records (loading ++ entries) tables (most + blocks_add blocks tables)
