-- The text of a dump, and what it shows.
use Rattle.std.specs.Prelude.{ℕ, List, ◌++◌, codes, decimal}
use Rattle.std.specs.List.{flat_map}
use Rattle.history_replay.specs.Results.{up_to}
use Rattle.replay_model.specs.declared.input.Input.{Input}
use Rattle.replay_model.specs.declared.outcome.Placed.{Placed}
use Rattle.replay_model.specs.Replay.{last_tables}
use Rattle.replay_model.specs.Report.{line, tables_text}
use Rattle.replay_model.specs.TableMap.{TableMap}

-- the stamp, the declared tables as a report has them, and a last line
abbrev pub dump_text : List (List ℕ × ℕ) → ℕ → TableMap → List ℕ
dump_text declared stamp tables = line (codes "dump " ++ decimal stamp) ++ tables_text 0 declared tables ++ line (codes "done")

-- what was read, one dump behind the other
abbrev pub readings_text : List (List ℕ × ℕ) → List (ℕ × TableMap) → List ℕ
readings_text declared seen = flat_map (λ (reading : ℕ × TableMap). dump_text declared reading.0 reading.1) seen

-- the tables that the transaction blocks of an order leave whose stamps are not above this one, in that order, over the loaded rows;
-- snapshots among them change nothing
abbrev pub tables_at : Input → List Placed → ℕ → TableMap
tables_at input order stamp = last_tables input (up_to stamp order)

-- dumps at these stamps, one behind the other
abbrev pub dumps_text : Input → List Placed → List ℕ → List ℕ
dumps_text input order stamps = flat_map (λ (stamp : ℕ). dump_text input.tables stamp (tables_at input order stamp)) stamps
