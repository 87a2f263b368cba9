-- Texts of blocks and tables that are lists.
use Rattle.std.specs.Prelude.{ℕ, List}
use Rattle.std.specs.List.{flat_map, zip}
use Rattle.replay_model.specs.declared.input.Input.{Input}
use Rattle.replay_model.specs.declared.outcome.Outcome.{Outcome}
use Rattle.replay_model.specs.declared.outcome.Placed.{Placed}
use Rattle.replay_model.specs.Report.{block_text, table_text}
use Rattle.replay_model.specs.TableMap.{Row}

-- the lines of blocks, each with its outcome
abbrev pub results_text : Input → List (Placed × Outcome) → List ℕ
results_text input results = flat_map (λ (result : Placed × Outcome). block_text input result.0 result.1) results

-- the lines of tables, each with its rows
abbrev pub listed_text : List (List ℕ × ℕ) → List (List (ℕ × Row)) → List ℕ
listed_text declared rows = flat_map (λ (table : (List ℕ × ℕ) × List (ℕ × Row)). table_text table.0.0 table.0.1 table.1) (zip declared rows)
