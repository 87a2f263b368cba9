-- What the entries of blocks add to the weight of the tables.
use Rattle.std.specs.Prelude.{◌≡◌, ◌⊎◌, ℕ, ◌+◌, ◌≤◌, false, List, [], Option, sum_by}
use Rattle.plain_data.specs.declared.entry.Entry.{Entry}
use Rattle.plain_data.specs.State.{State, Agrees, overlay}
use Rattle.history_replay.specs.Results.{KeepsTables}
use Rattle.replay_model.specs.declared.command.Command.{Command}
use Rattle.replay_model.specs.declared.input.Block.{Block}
use Rattle.replay_model.specs.Running.{tables_after}
use Rattle.replay_model.specs.TableMap.{TableMap}
use Rattle.stored_tables.specs.Places.{Places}
use Rattle.stored_tables.specs.Plan.{Follows, run_plan}
use Rattle.stored_tables.specs.Tables.{StandsFor}
use Rattle.stored_tables.specs.Weight.{weight, all_add}
use Rattle.lane_runner.specs.Rows.{stands}

-- From each state that agrees with these reads and stands for tables, the writes leave one that stands for the next tables, at places that
-- come of the places before by such a step.
abbrev pub LeadsTo : (records : ℕ) (reads writes : List (ℕ × Option (List ℕ))) (tables tables' : TableMap) (Step : Places → Places → Type 0) → Type 0
LeadsTo records reads writes tables tables' Step =
    (state : State) (places : Places) → Agrees state reads → StandsFor records state places tables
    → (after : Places) × StandsFor records (overlay writes state) after tables' × Step places after

-- the step that commands make: their plan is followed, or they were refused and nothing is changed
abbrev pub RunsTo : List Command → TableMap → Places → Places → Type 0
RunsTo commands tables places after = ((asked : ℕ) × Follows (run_plan commands tables) places asked after) ⊎ (after ≡ places)

-- a step that adds no more to the weight than this
abbrev pub AddsWeight : ℕ → Places → Places → Type 0
AddsWeight more places after = weight after ≤ weight places + more

-- the entry of commands adds no more to the weight than is said of them
abbrev pub WeighsAtMost : ℕ → List Command → Entry → Type 0
WeighsAtMost records commands entry =
    (tables : TableMap) → LeadsTo records entry.reads entry.writes tables (tables_after commands tables) (AddsWeight (all_add commands tables))

-- an entry leaves the tables and their weight as they were
pub record LeavesTables (records : ℕ) (entry : Entry) : Type 0 where
  pub keeps : KeepsTables stands records entry
  pub weighs : entry.snapshot ≡ false → WeighsAtMost records [] entry

-- what blocks add to the weight at most
abbrev pub blocks_add : List Block → TableMap → ℕ
blocks_add blocks tables = sum_by (λ (block : Block). all_add block.commands tables) blocks
