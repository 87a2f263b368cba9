-- The rows of all tables in one list, by table and then by key.
use Rattle.std.specs.Prelude.{◌≡◌, ℕ, ◌+◌, List, [], ◌∷◌, ◌++◌, map}
use Rattle.std.specs.FinMap.{entries}
use Rattle.replay_model.specs.TableMap.{Row, RowMap, loaded}

-- rows, each with its table and its key
abbrev pub TableRows : Type 0
TableRows = List (ℕ × ℕ × Row)

-- a row of a map
abbrev pub row_of : (ℕ × ℕ) × Row → ℕ × ℕ × Row
row_of entry = (entry.0.0, entry.0.1, entry.1)

-- the rows of a map
abbrev pub all_rows : RowMap → TableRows
all_rows rows = map row_of (entries rows)

-- the map of rows
abbrev pub map_of : TableRows → RowMap
map_of rows = (loaded rows []).rows

-- they stand by table and then by key, each place once
abbrev pub StandInOrder : TableRows → Type 0
StandInOrder rows = rows ≡ all_rows (map_of rows)

-- ---- table behind table

-- a row of this table
abbrev pub tag : ℕ → ℕ × Row → ℕ × ℕ × Row
tag table pair = (table, pair.0, pair.1)

-- those of tables from a number on
abbrev pub tagged : ℕ → List (List (ℕ × Row)) → TableRows
tagged n [] = []
tagged n (pairs ∷ lists) = map (tag n) pairs ++ tagged (n + 1) lists
