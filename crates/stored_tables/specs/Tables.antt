-- When a state of the records stands for tables.
use Rattle.std.specs.Prelude.{◌≡◌, ℕ, ◌^◌, ◌<◌, ◌≤◌, ◌==◌, if◌then◌else◌, List, ◌++◌, length, Option, None, Some, MatchOption, IfSome}
use lib.ListN.{replicate}
use Rattle.plain_data.specs.State.{State, Agrees, overlay}
use Rattle.record_store.specs.Meaning.{Meaning}
use Rattle.hash_index.specs.Chain.{record_of}
use Rattle.ordered_index.specs.declared.key.Key.{Key}
use Rattle.ordered_index.specs.Tree.{record_of_key}
use Rattle.replay_model.specs.TableMap.{TableMap, Row, column_in, value_at, index_of}
use Rattle.replay_model.specs.Input.{IsColumn}
use Rattle.stored_tables.specs.Places.{Places, index_tree, table_limit}
use Rattle.stored_tables.specs.Shape.{IsShape}

-- the columns 1 to 6 of a row stand in words 0 to 5, and zeros after them
abbrev pub row_words : Row → List ℕ
row_words row = row ++ replicate 26 0

-- the record that an index on this column has beside a value, at the key of a row: that of the row, where the row has the value there
abbrev pub indexed_record : Option ℕ → Option Row → Option ℕ → ℕ → Option ℕ
indexed_record None found rid value = None
indexed_record (Some column) None rid value = None
indexed_record (Some column) (Some found) rid value = if column_in column found == value then rid else None

-- at the row's record its columns stand; a key without a record has no row
abbrev pub IsRow : State → Option Row → Option ℕ → Type 0
IsRow state found rid = MatchOption rid (found ≡ None) (λ (at : ℕ). (columns : Row) × (found ≡ Some columns) × (length columns ≡ 6) × (state at ≡ Some (row_words columns)))

-- chains, trees by keys, rows and indexes say what the tables say
pub record IsTied (state : State) (places : Places) (tables : TableMap) : Type 0 where
  pub chain : (table key : ℕ) → table < table_limit → record_of (places.rows table) key ≡ places.row_at table key
  pub tree : (table : ℕ) (key : Key) → table < table_limit → record_of_key (places.leaves table) key ≡ (if key.low == 0 then places.row_at table key.high else None)
  pub index : (table : ℕ) (key : Key) → table < table_limit
      → record_of_key (places.leaves (index_tree table)) key ≡ indexed_record (places.column_at table) (value_at tables table key.low) (places.row_at table key.low) key.high
  pub rows : (table key : ℕ) → table < table_limit → IsRow state (value_at tables table key) (places.row_at table key)
  pub columns : (table : ℕ) → table < table_limit → index_of table tables ≡ places.column_at table
  pub in_range : (table : ℕ) → IfSome (index_of table tables) IsColumn
  pub no_row : (table key : ℕ) → table_limit ≤ table → value_at tables table key ≡ None
  pub no_index : (table : ℕ) → table_limit ≤ table → index_of table tables ≡ None

-- keys are numbers of 64 bits
abbrev pub KeysFit : TableMap → Type 0
KeysFit tables = (table key : ℕ) (row : Row) → value_at tables table key ≡ Some row → key < 2 ^ 64

pub record StandsFor (size : ℕ) (state : State) (places : Places) (tables : TableMap) : Type 0 where
  pub shape : IsShape size state places
  pub tied : IsTied state places tables
  pub fit : KeysFit tables

-- the state stands for the tables, wherever they stand
abbrev pub StandsForSome : ℕ → State → TableMap → Type 0
StandsForSome size state tables = (places : Places) × StandsFor size state places tables

-- what holds of each state that agrees with the reads of a call and stands for tables where the call begins
abbrev pub EachTables : Meaning → Meaning → (State → Places → TableMap → Type 0) → Type 0
EachTables before after P =
    (state : State) (places : Places) (tables : TableMap) → Agrees state after.reads → StandsFor before.size (overlay before.writes state) places tables → P state places tables
