-- What an index has at the key of a row that enters, leaves or changes.
use Rattle.std.proofs.Common.{◌≡◌, ℕ, Bool, true, false, cond, ◌==◌, Option, None, Some, refl, ap, ◌∙◌, arith, inl, inr}
use Rattle.std.proofs.lemmas.Bool.Decides.{nat_tests, eqb_tells}
use Rattle.ordered_index.specs.declared.key.Key.{Key}
use Rattle.ordered_index.specs.Keys.{is_same}
use Rattle.replay_model.specs.TableMap.{Row, column_in}
use Rattle.stored_tables.specs.Tables.{indexed_record}
use Rattle.stored_tables.specs.Plan.{index_key}

-- no row, no entry
pub indexed_none : (column : Option ℕ) (value : ℕ) → indexed_record column None None value ≡ None
indexed_none None value = refl
indexed_none (Some column) value = refl

-- a row enters: `before` is what the index had at the entry `other`
pub entry_enters : (column key : ℕ) (columns : Row) (rid before : Option ℕ) (other : Key) → (other.low ≡ key → before ≡ None)
    → cond (is_same other (index_key column key columns)) rid before ≡ cond (other.low == key)
    (indexed_record (Some column) (Some columns) rid other.high) before
unfolding is_same
entry_enters column key columns rid before other none = grind (arith, nat_tests)

-- a row leaves
pub entry_leaves : (column key : ℕ) (columns : Row) (rid before : Option ℕ) (other : Key)
    → (other.low ≡ key → before ≡ indexed_record (Some column) (Some columns) rid other.high)
    → cond (is_same other (index_key column key columns)) None before ≡ cond (other.low == key)
    (indexed_record (Some column) None None other.high) before
unfolding is_same
entry_leaves column key columns rid before other was = grind (arith, nat_tests)

-- a row enters a table without an index, or leaves it
pub entry_nowhere : (key : ℕ) (found : Option Row) (rid before : Option ℕ) (other : Key) → (other.low ≡ key → before ≡ None)
    → before ≡ cond (other.low == key) (indexed_record None found rid other.high) before
entry_nowhere key found rid before other none = grind (arith, nat_tests)

twice : {X : Type 0} (test : Bool) (x y z : X) → cond test x (cond test y z) ≡ cond test x z
twice true x y z = refl
twice false x y z = refl

-- a row changes in the indexed column: its entry is removed, and another one inserted
pub entry_moves : (column key : ℕ) (columns columns' : Row) (rid before : Option ℕ) (other : Key)
    → (other.low ≡ key → before ≡ indexed_record (Some column) (Some columns) rid other.high)
    → cond (is_same other (index_key column key columns')) rid (cond (is_same other (index_key column key columns)) None before) ≡ cond
    (other.low == key) (indexed_record (Some column) (Some columns') rid other.high) before
entry_moves column key columns columns' rid before other was =
    let left = entry_leaves column key columns rid before other was in
    let none : other.low ≡ key → cond (is_same other (index_key column key columns)) None before ≡ None =
    λ same. left ∙ elim (eqb_tells other.low key) as
    (λ _. cond (other.low == key) None before ≡ None) [ inl here ↦ rw here.0 refl | inr differs ↦ absurd (differs.1 same) ] in
    entry_enters column key columns' rid (cond (is_same other (index_key column key columns)) None before) other none
    ∙ ap (cond (other.low == key) (indexed_record (Some column) (Some columns') rid other.high)) left
    ∙ twice (other.low == key) (indexed_record (Some column) (Some columns') rid other.high) None before

-- a row changes in other columns alone
pub entry_stays : (column key : ℕ) (columns columns' : Row) (rid before : Option ℕ) (other : Key)
    → column_in column columns ≡ column_in column columns'
    → (other.low ≡ key → before ≡ indexed_record (Some column) (Some columns) rid other.high)
    → before ≡ cond (other.low == key) (indexed_record (Some column) (Some columns') rid other.high) before
entry_stays column key columns columns' rid before other alike was = grind (arith, nat_tests)
