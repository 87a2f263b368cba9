-- Where tables have a row and where they have none: its record, and its entries in trees and chains.
use Rattle.std.proofs.Common.{◌≡◌, ℕ, ◌<◌, cond, ◌==◌, length, Option, None, Some, refl, sym, ap, ◌∙◌, arith}
use Rattle.std.proofs.lemmas.Bool.Decides.{nat_tests}
use Rattle.std.proofs.lemmas.Option.{none-some}
use Rattle.plain_data.specs.State.{State}
use Rattle.hash_index.specs.Chain.{record_of}
use Rattle.ordered_index.specs.declared.key.Key.{Key}
use Rattle.ordered_index.specs.Keys.{is_same}
use Rattle.ordered_index.specs.Tree.{record_of_key}
use Rattle.replay_model.specs.TableMap.{TableMap, Row, value_at}
use Rattle.stored_tables.specs.Places.{Places, index_tree, table_limit}
use Rattle.stored_tables.specs.Tables.{IsTied, IsRow, indexed_record, row_words}
use Rattle.stored_tables.specs.Steps.{set_at}
use Rattle.stored_tables.proofs.BecomesIndexed.{indexed_none}

-- ---- where tables have a row, and where they have none

-- a row has a record with its words
pub record HasRecord (state : State) (columns : Row) (at : Option ℕ) : Type 0 where
  pub rid : ℕ
  pub at_record : at ≡ Some rid
  pub six : length columns ≡ 6
  pub words : state rid ≡ Some (row_words columns)

no_record : (state : State) (found : Option Row) (at : Option ℕ) → IsRow state found at → found ≡ None → at ≡ None
no_record state found None is none = refl
no_record state found (Some rid) is none = absurd (none-some is.0 (sym none ∙ is.1))

a_record : (state : State) (found : Option Row) (at : Option ℕ) (columns : Row) → IsRow state found at → found ≡ Some columns
    → HasRecord state columns at
a_record state found None columns is some = absurd (none-some columns (sym is ∙ some))
a_record state found (Some rid) columns is some =
    let same : is.0 ≡ columns = cc in
    record { rid = rid; at_record = refl; six = ap length (sym same) ∙ is.2; words = is.3 ∙ ap (λ row. Some (row_words row)) same }

pub absent_row : (state : State) (places : Places) (tables : TableMap) (table key : ℕ) → table < table_limit → IsTied state places tables
    → value_at tables table key ≡ None → places.row_at table key ≡ None
absent_row state places tables table key low tied none =
    no_record state (value_at tables table key) (places.row_at table key) (tied.rows table key low) none

pub present_row : (state : State) (places : Places) (tables : TableMap) (table key : ℕ) (columns : Row) → table < table_limit
    → IsTied state places tables → value_at tables table key ≡ Some columns → HasRecord state columns (places.row_at table key)
present_row state places tables table key columns low tied some =
    a_record state (value_at tables table key) (places.row_at table key) columns (tied.rows table key low) some

-- each other row stands where it stood
abbrev pub OthersStay : ℕ → ℕ → State → State → Places → Type 0
OthersStay table key state state' places =
    (other number at : ℕ) → other < table_limit → ((other ≡ table) × (number ≡ key) → ⊥) → places.row_at other number ≡ Some at
    → state' at ≡ state at

-- ---- entries in an index

-- a key without a row has no entry in the index
pub no_entry : (state : State) (places : Places) (tables : TableMap) (table key : ℕ) → table < table_limit → IsTied state places tables
    → value_at tables table key ≡ None → (other : Key) → other.low ≡ key → record_of_key (places.leaves (index_tree table)) other ≡ None
no_entry state places tables table key low tied absent other same =
    let value : value_at tables table other.low ≡ None = rw same absent in
    let at : places.row_at table other.low ≡ None = rw same (absent_row state places tables table key low tied absent) in
    tied.index table other low ∙ rw (value, at) (indexed_none (places.column_at table) other.high)

-- the entry of a row in its table's index
pub entry_is : (state : State) (places : Places) (tables : TableMap) (table key column : ℕ) (columns : Row) → table < table_limit
    → IsTied state places tables → value_at tables table key ≡ Some columns → places.column_at table ≡ Some column
    → (other : Key) → other.low ≡ key → record_of_key (places.leaves (index_tree table)) other ≡ indexed_record (Some column)
    (Some columns) (places.row_at table key) other.high
entry_is state places tables table key column columns low tied there indexed other same =
    tied.index table other low
    ∙ ap (λ number. indexed_record (places.column_at table) (value_at tables table number) (places.row_at table number) other.high) same
    ∙ rw (indexed, there) refl

pub no_entry_without : (state : State) (places : Places) (tables : TableMap) (table : ℕ) → table < table_limit → IsTied state places tables
    → places.column_at table ≡ None → (other : Key) → record_of_key (places.leaves (index_tree table)) other ≡ None
no_entry_without state places tables table low tied none other = tied.index table other low ∙ rw none refl

-- ---- what places say of a row's record already

pub chain_stays : (table key rid : ℕ) (state : State) (places : Places) (tables : TableMap) → table < table_limit
    → IsTied state places tables
    → places.row_at table key ≡ Some rid → (other : ℕ)
    → record_of (places.rows table) other ≡ cond (other == key) (Some rid) (record_of (places.rows table) other)
chain_stays table key rid state places tables low tied at other =
    let here : (other ≡ key → record_of (places.rows table) other ≡ Some rid) = λ same. tied.chain table other low ∙ rw same at in
    grind (arith, nat_tests)

pub tree_stays : (table key rid : ℕ) (state : State) (places : Places) (tables : TableMap) → table < table_limit
    → IsTied state places tables
    → places.row_at table key ≡ Some rid
    → (other : Key) → record_of_key (places.leaves table) other ≡ cond (is_same other (record { high = key; low = 0 })) (Some rid)
    (record_of_key (places.leaves table) other)
unfolding is_same
tree_stays table key rid state places tables low tied at other =
    let here : (other.high ≡ key → other.low ≡ 0 → record_of_key (places.leaves table) other ≡ Some rid) =
    λ high zero_low. tied.tree table other low ∙ rw (high, zero_low) at in
    grind (arith, nat_tests)

pub row_stays : (table key rid : ℕ) (places : Places) → places.row_at table key ≡ Some rid
    → (other number : ℕ) → places.row_at other number ≡ set_at table key (Some rid) places.row_at other number
row_stays table key rid places at other number =
    let here : (other ≡ table → number ≡ key → places.row_at other number ≡ Some rid) = λ same also. rw (same, also) at in
    grind (arith, nat_tests)
