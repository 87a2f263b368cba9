-- The maps agree again once a row has changed.
use Rattle.std.proofs.Common.{◌≡◌, ◌≢◌, ℕ, ◌<◌, Bool, true, false, cond, ◌==◌, Option, None, Some, refl, sym, ap, ◌∙◌, arith, inl, inr}
use Rattle.std.proofs.lemmas.Bool.Decides.{nat_tests, eqb_tells}
use Rattle.plain_data.specs.State.{State}
use Rattle.hash_index.specs.Chain.{record_of}
use Rattle.ordered_index.specs.declared.key.Key.{Key}
use Rattle.ordered_index.specs.Keys.{is_same}
use Rattle.ordered_index.specs.Tree.{record_of_key}
use Rattle.replay_model.specs.TableMap.{TableMap, Row, value_at}
use Rattle.stored_tables.specs.Places.{Places, index_tree, table_limit}
use Rattle.stored_tables.specs.Tables.{IsTied, IsRow, indexed_record}
use Rattle.stored_tables.specs.Steps.{RowBecomes, TablesWith, TiedAgain, set_at}

-- where a map with another value at one place has that value, and where it has what it had
pub set_here : {X : Type 0} (table key : ℕ) (x : X) (f : ℕ → ℕ → X) (number : ℕ)
    → set_at table key x f table number ≡ cond (number == key) x (f table number)
set_here table key x f number = grind (arith, nat_tests)

pub set_other : {X : Type 0} (table key : ℕ) (x : X) (f : ℕ → ℕ → X) (other number : ℕ) → other ≢ table
    → set_at table key x f other number ≡ f other number
set_other table key x f other number differs = grind (arith, nat_tests)

pub set_away : {X : Type 0} (table key : ℕ) (x : X) (f : ℕ → ℕ → X) (other number : ℕ) → ((other ≡ table) × (number ≡ key) → ⊥)
    → set_at table key x f other number ≡ f other number
set_away table key x f other number differs = grind (arith, nat_tests)

-- the entry of a key in a tree by keys, where the row at one key got another record
tree_here : (key : ℕ) (other : Key) (rid was now : Option ℕ) → now ≡ cond (other.high == key) rid was
    → cond (is_same other (record { high = key; low = 0 })) rid (cond (other.low == 0) was None) ≡ cond (other.low == 0) now None
unfolding is_same
tree_here key other rid was now is = grind (arith, nat_tests)

module _ (table key : ℕ) (row : Option Row) (rid : Option ℕ) (state state' : State) (places places' : Places) (tables tables' : TableMap)
    (low : table < table_limit) (tied : IsTied state places tables) (became : RowBecomes table key row rid state state' places places')
    (now : TablesWith table key row tables tables') where
  -- records and rows at the key's place and at the others
  row_here : (number : ℕ) → places'.row_at table number ≡ cond (number == key) rid (places.row_at table number)
  row_here number = became.row_at table number ∙ set_here table key rid places.row_at number

  row_other : (other number : ℕ) → other ≢ table → places'.row_at other number ≡ places.row_at other number
  row_other other number differs = became.row_at other number ∙ set_other table key rid places.row_at other number differs

  value_here : (number : ℕ) → value_at tables' table number ≡ cond (number == key) row (value_at tables table number)
  value_here number = now.rows table number ∙ set_here table key row (value_at tables) number

  value_other : (other number : ℕ) → other ≢ table → value_at tables' other number ≡ value_at tables other number
  value_other other number differs = now.rows other number ∙ set_other table key row (value_at tables) other number differs

  chain_tied : (other number : ℕ) → other < table_limit → record_of (places'.rows other) number ≡ places'.row_at other number
  chain_tied other number few = elim (eqb_tells other table) as (λ _. record_of (places'.rows other) number ≡ places'.row_at other number) [
    | inl same ↦ rw same.1 (became.chain number ∙ ap (cond (number == key) rid) (tied.chain table number low) ∙ sym (row_here number))
    | inr differs ↦ became.other_chains other number differs.1 ∙ tied.chain other number few ∙ sym (row_other other number differs.1)
  ]

  tree_tied : (other : ℕ) (number : Key) → other < table_limit
      → record_of_key (places'.leaves other) number ≡ cond (number.low == 0) (places'.row_at other number.high) None
  tree_tied other number few = elim (eqb_tells other table) as
      (λ _. record_of_key (places'.leaves other) number ≡ cond (number.low == 0) (places'.row_at other number.high) None) [
        | inl same ↦
            rw same.1
            (became.tree number
            ∙ ap (cond (is_same number (record { high = key; low = 0 })) rid) (tied.tree table number low)
            ∙ tree_here key number rid (places.row_at table number.high) (places'.row_at table number.high) (row_here number.high))
        | inr differs ↦
            became.other_trees other number differs.1 (λ e. omega arith)
            ∙ tied.tree other number few ∙ ap (λ r. cond (number.low == 0) r None) (sym (row_other other number.high differs.1))
      ]

  -- what an index has beside a value, at one key of its table
  indexed_here : (test : Bool) (column : Option ℕ) (value : ℕ) (was : Option Row) (at : Option ℕ)
      → cond test (indexed_record column row rid value) (indexed_record column was at value) ≡ indexed_record column (cond test row was)
      (cond test rid at) value
  indexed_here true column value was at = refl
  indexed_here false column value was at = refl

  index_tied : (other : ℕ) (number : Key) → other < table_limit
      → record_of_key (places'.leaves (index_tree other)) number ≡ indexed_record (places'.column_at other)
      (value_at tables' other number.low) (places'.row_at other number.low) number.high
  index_tied other number few = elim (eqb_tells other table) as
      (λ _. record_of_key (places'.leaves (index_tree other)) number ≡ indexed_record (places'.column_at other)
      (value_at tables' other number.low) (places'.row_at other number.low) number.high) [
        | inl same ↦
            rw same.1
            (became.index number
            ∙ ap (cond (number.low == key) (indexed_record (places.column_at table) row rid number.high)) (tied.index table number low)
            ∙ indexed_here (number.low == key) (places.column_at table) number.high (value_at tables table number.low)
            (places.row_at table number.low)
            ∙ sym (λ i. indexed_record (became.column_at table i) (value_here number.low i) (row_here number.low i) number.high))
        | inr differs ↦
            became.other_trees (index_tree other) number (λ e. omega arith) (λ e. differs.1 (omega arith))
            ∙ tied.index other number few
            ∙ sym (λ i. indexed_record (became.column_at other i) (value_other other number.low differs.1 i)
            (row_other other number.low differs.1 i) number.high)
      ]

  -- a row that did not change stands where it stood
  row_stays : (found : Option Row) (at : Option ℕ) → ((rid : ℕ) → at ≡ Some rid → state' rid ≡ state rid) → IsRow state found at
      → IsRow state' found at
  row_stays found None frame is = is
  row_stays found (Some rid) frame is = (is.0, is.1, is.2, frame rid refl ∙ is.3)

  rows_tied : (other number : ℕ) → other < table_limit → IsRow state' (value_at tables' other number) (places'.row_at other number)
  rows_tied other number few =
      let stays : ((other ≡ table) × (number ≡ key) → ⊥) → IsRow state' (value_at tables' other number) (places'.row_at other number) =
      λ away.
      let found : value_at tables' other number ≡ value_at tables other number = now.rows other number
      ∙ set_away table key row (value_at tables) other number away in
      let at : places'.row_at other number ≡ places.row_at other number = became.row_at other number
      ∙ set_away table key rid places.row_at other number away in
      rw (found, at) (row_stays (value_at tables other number) (places.row_at other number)
      (λ rid here. became.frame other number rid few away here) (tied.rows other number few)) in
      elim (eqb_tells other table) as (λ _. IsRow state' (value_at tables' other number) (places'.row_at other number)) [
        | inr differs ↦ stays (λ both. differs.1 both.0)
        | inl same ↦ elim (eqb_tells number key) as (λ _. IsRow state' (value_at tables' other number) (places'.row_at other number)) [
          | inr differs ↦ stays (λ both. differs.1 both.1)
          | inl also ↦
              let found : value_at tables' table number ≡ row = value_here number
              ∙ ap (λ b. cond b row (value_at tables table number)) also.0 in
              let at : places'.row_at table number ≡ rid = row_here number ∙ ap (λ b. cond b rid (places.row_at table number)) also.0 in
              rw same.1 (rw (found, at) became.here)
        ]
      ]

  tied_now : IsTied state' places' tables'
  tied_now = record {
    chain = chain_tied;
    tree = tree_tied;
    index = index_tied;
    rows = rows_tied;
    columns = λ other few. now.indexes other ∙ tied.columns other few ∙ sym (became.column_at other);
    in_range = λ other. rw (now.indexes other) (tied.in_range other);
    no_row = λ other number high. value_other other number (λ e. omega arith) ∙ tied.no_row other number high;
    no_index = λ other high. now.indexes other ∙ tied.no_index other high;
  }

pub tied_again : TiedAgain
tied_again table key row rid state state' places places' tables tables' low tied became now =
    tied_now table key row rid state state' places places' tables tables' low tied became now
