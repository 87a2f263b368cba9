-- The rows of one table in a list of the rows of all.
use Rattle.std.specs.Prelude.{ℕ, ◌==◌, List, map, filter}
use Rattle.replay_model.specs.TableMap.{Row}

abbrev pub pairs_in : ℕ → List (ℕ × ℕ × Row) → List (ℕ × Row)
pairs_in table rows = map (λ (row : ℕ × ℕ × Row). (row.1, row.2)) (filter (λ (row : ℕ × ℕ × Row). row.0 == table) rows)
