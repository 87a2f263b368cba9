-- What a step of a command leaves of a shape, and when the maps agree again once a row has changed.
use Rattle.std.specs.Prelude.{◌≡◌, ◌≢◌, ℕ, ◌<◌, ◌≤◌, ◌==◌, ◌&&◌, if◌then◌else◌, List, Option, None, Some, IsSome}
use Rattle.plain_data.specs.State.{State, overlay}
use Rattle.record_store.specs.Meaning.{Meaning, after_write}
use Rattle.hash_index.specs.Chain.{record_of}
use Rattle.hash_index.specs.Changes.{IsPut, IsRemoved}
use Rattle.ordered_index.specs.declared.key.Key.{Key}
use Rattle.ordered_index.specs.Keys.{is_same}
use Rattle.ordered_index.specs.Node.{Content}
use Rattle.ordered_index.specs.Tree.{record_of_key}
use Rattle.ordered_index.specs.Changes.{IsInserted, IsTakenOut}
use Rattle.replay_model.specs.TableMap.{TableMap, Row, value_at, index_of}
use Rattle.stored_tables.specs.Places.{Places, base_of, root_of, head_of, index_tree, with_chain, with_tree, with_row, with_head, table_limit, tree_limit, fixed_records}
use Rattle.stored_tables.specs.Shape.{IsShape, head_words}
use Rattle.stored_tables.specs.Tables.{IsTied, IsRow, indexed_record}

-- ---- each step keeps the shape

-- a new row is written to a fresh record
abbrev pub RowAdded : Type 0
RowAdded =
    (table key rid : ℕ) (words : List ℕ) (before : Meaning) (state : State) (places : Places) → table < table_limit → fixed_records ≤ rid → overlay before.writes state rid ≡ None → places.row_at table key ≡ None
    → IsShape before.size (overlay before.writes state) places
    → IsShape before.size (overlay (after_write before rid (Some words)).writes state) (with_row places table key (Some rid))

-- a row's record gets other words
abbrev pub RowRewritten : Type 0
RowRewritten =
    (table key rid : ℕ) (words : List ℕ) (before : Meaning) (state : State) (places : Places) → table < table_limit → places.row_at table key ≡ Some rid
    → IsShape before.size (overlay before.writes state) places
    → IsShape before.size (overlay (after_write before rid (Some words)).writes state) places

-- a row's record is deleted
abbrev pub RowDropped : Type 0
RowDropped =
    (table key rid : ℕ) (before : Meaning) (state : State) (places : Places) → table < table_limit → places.row_at table key ≡ Some rid
    → IsShape before.size (overlay before.writes state) places
    → IsShape before.size (overlay (after_write before rid None).writes state) (with_row places table key None)

-- a pair is put into a chain, or removed from it
abbrev pub ChainPut : Type 0
ChainPut =
    (table key rid : ℕ) (fresh : Option ℕ) (before after : Meaning) (state : State) (places : Places) (rows' : ℕ → List (ℕ × List ℕ)) → table < table_limit → fixed_records ≤ before.fixed
    → IsShape before.size (overlay before.writes state) places
    → IsPut (base_of table) key rid fresh before after state (places.rows table) rows'
    → IsShape before.size (overlay after.writes state) (with_chain places table rows')

abbrev pub ChainRemoved : Type 0
ChainRemoved =
    (table key : ℕ) (before after : Meaning) (state : State) (places : Places) (rows' : ℕ → List (ℕ × List ℕ)) → table < table_limit → fixed_records ≤ before.fixed
    → IsShape before.size (overlay before.writes state) places
    → IsRemoved (base_of table) key before after state (places.rows table) rows'
    → IsShape before.size (overlay after.writes state) (with_chain places table rows')

-- an entry is inserted into a tree, or removed from it; the tree of an index is one that is declared
abbrev pub IsDeclared : Places → ℕ → Type 0
IsDeclared places number = (table : ℕ) → table < table_limit → number ≡ index_tree table → IsSome (places.column_at table)

abbrev pub TreeInserted : Type 0
TreeInserted =
    (number : ℕ) (key : Key) (rid : ℕ) (before after : Meaning) (state : State) (places : Places) (levels' : List (List (ℕ × Content))) (leaves' : List (ℕ × Content)) → number < tree_limit → fixed_records ≤ before.fixed → IsDeclared places number
    → IsShape before.size (overlay before.writes state) places
    → IsInserted (root_of number) key rid before after state (places.levels number) (places.leaves number) levels' leaves'
    → IsShape before.size (overlay after.writes state) (with_tree places number levels' leaves')

abbrev pub TreeTakenOut : Type 0
TreeTakenOut =
    (number : ℕ) (key : Key) (before after : Meaning) (state : State) (places : Places) (leaves' : List (ℕ × Content)) → number < tree_limit → fixed_records ≤ before.fixed → IsDeclared places number
    → IsShape before.size (overlay before.writes state) places
    → IsTakenOut (root_of number) key before after state (places.levels number) (places.leaves number) leaves'
    → IsShape before.size (overlay after.writes state) (with_tree places number (places.levels number) leaves')

-- an index is declared by its head
abbrev pub HeadWritten : Type 0
HeadWritten =
    (table column : ℕ) (before : Meaning) (state : State) (places : Places) → table < table_limit → places.column_at table ≡ None
    → IsShape before.size (overlay before.writes state) places
    → IsShape before.size (overlay (after_write before (head_of table) (Some (head_words column))).writes state) (with_head places table column)

-- ---- the maps agree again

-- what a map over tables and keys has, with another value at one place
abbrev pub set_at : {X : Type 0} → ℕ → ℕ → X → (ℕ → ℕ → X) → ℕ → ℕ → X
set_at table key x f other number = if other == table && number == key then x else f other number

-- The row of a table at a key became this one, or went away, and its record is this one, if any. Chains, trees and indexes say so, and
-- each other row stands where it stood, with the same words.
pub record RowBecomes (table key : ℕ) (row : Option Row) (rid : Option ℕ) (state state' : State) (places places' : Places) : Type 0 where
  pub chain : (other : ℕ) → record_of (places'.rows table) other ≡ (if other == key then rid else record_of (places.rows table) other)
  pub other_chains : (other number : ℕ) → other ≢ table → record_of (places'.rows other) number ≡ record_of (places.rows other) number
  pub tree : (other : Key) → record_of_key (places'.leaves table) other ≡ (if is_same other (record { high = key; low = 0 }) then rid else record_of_key (places.leaves table) other)
  pub index : (other : Key) → record_of_key (places'.leaves (index_tree table)) other ≡ (if other.low == key then indexed_record (places.column_at table) row rid other.high else record_of_key (places.leaves (index_tree table)) other)
  pub other_trees : (number : ℕ) (other : Key) → number ≢ table → number ≢ index_tree table → record_of_key (places'.leaves number) other ≡ record_of_key (places.leaves number) other
  pub row_at : (other number : ℕ) → places'.row_at other number ≡ set_at table key rid places.row_at other number
  pub column_at : (other : ℕ) → places'.column_at other ≡ places.column_at other
  pub here : IsRow state' row rid
  pub frame : (other number at : ℕ) → other < table_limit → ((other ≡ table) × (number ≡ key) → ⊥) → places.row_at other number ≡ Some at → state' at ≡ state at

-- the tables with this row there, or none, and all else as it was
pub record TablesWith (table key : ℕ) (row : Option Row) (tables tables' : TableMap) : Type 0 where
  pub rows : (other number : ℕ) → value_at tables' other number ≡ set_at table key row (value_at tables) other number
  pub indexes : (other : ℕ) → index_of other tables' ≡ index_of other tables

abbrev pub TiedAgain : Type 0
TiedAgain =
    (table key : ℕ) (row : Option Row) (rid : Option ℕ) (state state' : State) (places places' : Places) (tables tables' : TableMap) → table < table_limit
    → IsTied state places tables → RowBecomes table key row rid state state' places places' → TablesWith table key row tables tables' → IsTied state' places' tables'
