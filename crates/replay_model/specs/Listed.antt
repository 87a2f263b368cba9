-- The rows of a table with an index, listed by the column of the index and then by their keys.
use Rattle.std.specs.Prelude.{◌≡◌, ℕ, ◌==◌, if◌then◌else◌, List, map, Option, None, Some, slice_get}
use Rattle.std.specs.FinMap.{get}
use Rattle.replay_model.specs.declared.listed.Listed.{Listed}
use Rattle.replay_model.specs.TableMap.{RowMap, Row, column_in}
use Rattle.replay_model.specs.Input.{IsColumn}

-- the row, where it has this value in the column
abbrev pub where_value : ℕ → Option Row → ℕ → Option Row
where_value c None value = None
where_value c (Some row) value = if value == column_in c row then Some row else None

-- each row of the table stands at its value in the column and its key, and nothing else is there
abbrev pub IsListedBy : ℕ → ℕ → RowMap → RowMap → Type 0
IsListedBy table column rows listed = (value key : ℕ) → get listed (value, key) ≡ where_value column (get rows (table, key)) value

-- the listed rows with this row at a key, or none, and the others as they were
abbrev pub IsRelisted : ℕ → ℕ → Option Row → RowMap → RowMap → Type 0
IsRelisted column key row before now = (value other : ℕ) → get now (value, other) ≡ (if other == key then where_value column row value else get before (value, other))

-- the rows of each table with an index are listed, and no table has two
pub record AreListed (rows : RowMap) (indexes : List Listed) : Type 0 where
  pub columns : (i : ℕ) (l : Listed) → slice_get indexes i ≡ Some l → IsColumn l.column
  pub one_each : (i j : ℕ) (a b : Listed) → slice_get indexes i ≡ Some a → slice_get indexes j ≡ Some b → a.table ≡ b.table → i ≡ j
  pub listed : (i : ℕ) (l : Listed) → slice_get indexes i ≡ Some l → IsListedBy l.table l.column rows l.rows

-- the table and the column of each index
abbrev pub columns_of : List Listed → List (ℕ × ℕ)
columns_of indexes = map (λ l. (l.table, l.column)) indexes
