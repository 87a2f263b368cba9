-- What comes of declaring an index.
use Rattle.std.specs.Prelude.{◌≡◌, ℕ, ◌⊎◌, Bool, true, false, None, Some}
use Rattle.std.specs.FinMap.{insert}
use Rattle.plain_data.specs.State.{State}
use Rattle.record_store.specs.Meaning.{Meaning}
use Rattle.replay_model.specs.TableMap.{TableMap, Row, value_at, index_of}
use Rattle.stored_tables.specs.Answers.{Held, Stands}
use Rattle.stored_tables.specs.Places.{with_head}

-- the table has a row, or none
abbrev pub HasRows : ℕ → TableMap → Type 0
HasRows table tables = (key : ℕ) × (row : Row) × (value_at tables table key ≡ Some row)

abbrev pub IsEmpty : ℕ → TableMap → Type 0
IsEmpty table tables = (key : ℕ) → value_at tables table key ≡ None

abbrev pub TellsRows : ℕ → Bool → State → Held → Type 0
TellsRows table true state held = HasRows table held.1
TellsRows table false state held = IsEmpty table held.1

-- the tables with an index on this column
abbrev pub with_index : TableMap → ℕ → ℕ → TableMap
with_index tables table column = record tables { indexes = insert tables.indexes table column }

-- an index is declared where the table has no row and no index, and nowhere else
abbrev pub Declares : ℕ → ℕ → Meaning → Bool → State → Held → Type 0
Declares table column now true state held = IsEmpty table held.1 × (index_of table held.1 ≡ None) × Stands now state
    (with_head held.0 table column, with_index held.1 table column)
Declares table column now false state held = HasRows table held.1 ⊎ ((other : ℕ) × (index_of table held.1 ≡ Some other))
