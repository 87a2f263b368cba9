-- An index declared: the head is written, and the maps agree with the tables that have it.
use Rattle.std.proofs.Common.{◌≡◌, ℕ, ◌^◌, ◌<◌, Bool, true, false, cond, ◌==◌, List, [], ◌∷◌, take, length, Option, None, Some, refl, sym, ap, subst, ◌∙◌, arith, ne_eqb, eqb-true}
use Rattle.std.specs.Prelude.{IfSome, MatchOption}
use Rattle.std.specs.Cmp.{nat_cmp_total}
use Rattle.std.specs.FinMap.{get-insert}
use Rattle.std.specs.Ordering.{nat_cmp, eq_by_cmp}
use Rattle.std.proofs.lemmas.Bool.Decides.{nat_tests}
use Rattle.std.proofs.lemmas.Option.{none-some}
use Rattle.plain_data.specs.State.{State, overlay}
use Rattle.record_store.specs.Meaning.{Meaning}
use Rattle.ordered_index.specs.declared.key.Key.{Key}
use Rattle.ordered_index.specs.Keys.{is_before, entry_at, first_key}
use Rattle.ordered_index.specs.Scan.{between, is_between}
use Rattle.ordered_index.specs.Tree.{row_entries, record_of_key}
use Rattle.ordered_index.proofs.Order.{is_same-same}
use Rattle.replay_model.specs.Input.{IsColumn}
use Rattle.replay_model.specs.TableMap.{TableMap, Row, value_at, index_of}
use Rattle.stored_tables.specs.Answers.{Held, Stands}
use Rattle.stored_tables.specs.Declare.{HasRows, IsEmpty, TellsRows, with_index, Declares}
use Rattle.stored_tables.specs.Places.{Places, with_head, head_of, root_of, index_tree, table_limit}
use Rattle.stored_tables.specs.Places.Spot.{row}
use Rattle.stored_tables.specs.Shape.{head_words}
use Rattle.stored_tables.specs.Tables.{IsTied, IsRow, indexed_record}
use Rattle.stored_tables.proofs.BecomesRows.{present_row}
use Rattle.stored_tables.proofs.Finding.{row_there}
use Rattle.stored_tables.proofs.ListsRising.{entry_at-between}
use Rattle.stored_tables.proofs.RowSteps.{WroteOne, shaped_at, other_at}
use Rattle.stored_tables.proofs.StepsHeads.{head_written}

abbrev pub last_key : Key
last_key = record { high = 18446744073709551615; low = 18446744073709551615 }

-- ---- whether a table has a row, by the first entry of its tree

in_all : (key : ℕ) → key < 2 ^ 64 → is_between first_key last_key (record { high = key; low = 0 }) ≡ true
unfolding is_before
in_all key below = grind (arith, nat_tests)

first_found : (e : Key × ℕ) (es : List (Key × ℕ)) → entry_at (e ∷ es) e.0 ≡ Some e.1
first_found e es = ap (λ b. cond b (Some e.1) (entry_at es e.0)) (is_same-same e.0 e.0 refl)

under : (test : Bool) (x : Option ℕ) (rid : ℕ) → cond test x None ≡ Some rid → x ≡ Some rid
under true x rid is = is
under false x rid is = absurd (none-some rid is)

take_none : (xs : List (Key × ℕ)) → [] ≡ take 1 xs → xs ≡ []
take_none [] is = refl
take_none (x ∷ xs) is = cc

take_some : (e : Key × ℕ) (rest xs : List (Key × ℕ)) → (e ∷ rest) ≡ take 1 xs → (more : List (Key × ℕ)) × (xs ≡ e ∷ more)
take_some e rest [] is = cc
take_some e rest (x ∷ xs) is = let same : e ≡ x = cc in (xs, ap (λ y. y ∷ xs) (sym same))

module _ (table : ℕ) (now : Meaning) (state : State) (held : Held) (low : table < table_limit) (stands : Stands now state held) where
  abbrev es : List (Key × ℕ)
  es = row_entries (held.0.leaves table)

  row_none : (key : ℕ) (found : Option Row) → between first_key last_key es ≡ [] → value_at held.1 table key ≡ found
      → value_at held.1 table key ≡ None
  row_none key None none is = is
  row_none key (Some columns) none is =
      let there = present_row (overlay now.writes state) held.0 held.1 table key columns low stands.tied is in
      let K : Key = record { high = key; low = 0 } in
      let entry : entry_at es K ≡ Some there.rid = stands.tied.tree table K low ∙ there.at_record in
      let seen : entry_at (between first_key last_key es) K ≡ Some there.rid = entry_at-between first_key last_key es K
      ∙ ap (λ b. cond b (entry_at es K) None) (in_all key (stands.fit table key columns is)) ∙ entry in
      absurd (none-some there.rid (ap (λ (xs : List (Key × ℕ)). entry_at xs K) (sym none) ∙ seen))

  no_entries : between first_key last_key es ≡ [] → IsEmpty table held.1
  no_entries none key = row_none key (value_at held.1 table key) none refl

  some_entry : (e : Key × ℕ) (more : List (Key × ℕ)) → between first_key last_key es ≡ e ∷ more → HasRows table held.1
  some_entry e more is =
      let seen : entry_at (between first_key last_key es) e.0 ≡ Some e.1 = ap (λ (xs : List (Key × ℕ)). entry_at xs e.0) is
      ∙ first_found e more in
      let entry : entry_at es e.0 ≡ Some e.1 = under (is_between first_key last_key e.0) (entry_at es e.0) e.1
      (sym (entry_at-between first_key last_key es e.0) ∙ seen) in
      let at : held.0.row_at table e.0.high ≡ Some e.1 = under (e.0.low == 0) (held.0.row_at table e.0.high) e.1
      (sym (stands.tied.tree table e.0 low) ∙ entry) in
      let row = row_there (overlay now.writes state) (value_at held.1 table e.0.high) (held.0.row_at table e.0.high) e.1 at
      (stands.tied.rows table e.0.high low) in
      (e.0.high, row.0, row.1)

pub tells_none : (table : ℕ) (entries : List (Key × ℕ)) (now : Meaning) (state : State) (held : Held) → table < table_limit
    → (length entries == 0) ≡ true → Stands now state held
    → entries ≡ take 1 (between first_key last_key (row_entries (held.0.leaves table))) → TellsRows table false state held
tells_none table [] now state held low none stands is = no_entries table now state held low stands
    (take_none (between first_key last_key (row_entries (held.0.leaves table))) is)
tells_none table (e ∷ es) now state held low none stands is = absurd (omega (arith, eqb-true (length (e ∷ es)) 0 none))

pub tells_some : (table : ℕ) (entries : List (Key × ℕ)) (now : Meaning) (state : State) (held : Held) → table < table_limit
    → (length entries == 0) ≡ false → Stands now state held
    → entries ≡ take 1 (between first_key last_key (row_entries (held.0.leaves table))) → TellsRows table true state held
tells_some table [] now state held low some stands is = cc
tells_some table (e ∷ es) now state held low some stands is =
    let more = take_some e es (between first_key last_key (row_entries (held.0.leaves table))) is in
    some_entry table now state held low stands e more.0 more.1

-- ---- the tables with the index

nat_ties : (x y : ℕ) → eq_by_cmp nat_cmp x y ≡ (x == y)
nat_ties x y = grind (arith, nat_tests)

index_set : (tables : TableMap) (table column other : ℕ) → index_of other (with_index tables table column) ≡ cond (other == table)
    (Some column) (index_of other tables)
index_set tables table column other = get-insert nat_cmp_total tables.indexes table column other
    ∙ ap (λ b. cond b (Some column) (index_of other tables)) (nat_ties other table)

none_at : (state : State) (column : Option ℕ) (head root : ℕ) → column ≡ None
    → MatchOption column ((state head ≡ None) × (state root ≡ None)) (λ c. state head ≡ Some (head_words c)) → state head ≡ None
none_at state None head root is says = says.0
none_at state (Some c) head root is says = cc

head_absent : (before : Meaning) (state : State) (held : Held) (table : ℕ) → table < table_limit → held.0.column_at table ≡ None
    → Stands before state held → overlay before.writes state (head_of table) ≡ None
head_absent before state held table low unindexed stands = none_at (overlay before.writes state) (held.0.column_at table) (head_of table)
    (root_of (index_tree table)) unindexed (stands.shape.heads table low)

module _ (table column : ℕ) (state state' : State) (places : Places) (tables : TableMap) (low : table < table_limit)
    (is_column : IsColumn column) (tied : IsTied state places tables) (empty : IsEmpty table tables)
    (no_index : index_of table tables ≡ None) (frame : (other number at : ℕ) → other < table_limit → places.row_at other number ≡ Some at
    → state' at ≡ state at) where
  index_there : (other : ℕ) (key : Key) → other < table_limit → (test : Bool) → (other == table) ≡ test → (test ≡ true → other ≡ table)
      → record_of_key (places.leaves (index_tree other)) key ≡ indexed_record (cond test (Some column) (places.column_at other))
      (value_at tables other key.low) (places.row_at other key.low) key.high
  index_there other key inside true is same =
      let at : other ≡ table = same refl in
      let none : value_at tables other key.low ≡ None = ap (λ t. value_at tables t key.low) at ∙ empty key.low in
      let unindexed : places.column_at other ≡ None = sym (tied.columns other inside) ∙ ap (λ t. index_of t tables) at ∙ no_index in
      tied.index other key inside ∙ rw (unindexed, none) refl
  index_there other key inside false is same = tied.index other key inside

  row_stays : (other number : ℕ) → other < table_limit → (rid : Option ℕ) → places.row_at other number ≡ rid
      → IsRow state (value_at tables other number) rid → IsRow state' (value_at tables other number) rid
  row_stays other number inside None at is = is
  row_stays other number inside (Some rid) at is = (is.0, is.1, is.2, frame other number rid inside at ∙ is.3)

  range_there : (other : ℕ) (test : Bool) → IfSome (cond test (Some column) (index_of other tables)) IsColumn
  range_there other true = is_column
  range_there other false = tied.in_range other

  pub tied_declared : IsTied state' (with_head places table column) (with_index tables table column)
  tied_declared = record {
    chain = tied.chain;
    tree = tied.tree;
    index = λ other key inside. index_there other key inside (other == table) refl (λ same. eqb-true other table same);
    rows = λ other number inside. row_stays other number inside (places.row_at other number) refl (tied.rows other number inside);
    columns = λ other inside. index_set tables table column other ∙ ap (cond (other == table) (Some column)) (tied.columns other inside);
    in_range = λ other. (let P : Option ℕ → Type 0 = λ o. IfSome o IsColumn in subst P (sym (index_set tables table column other))
        (range_there other (other == table)));
    no_row = tied.no_row;
    no_index = λ other out. index_set tables table column other ∙ ap (λ b. cond b (Some column) (index_of other tables))
        (ne_eqb other table (λ same. omega (arith, out, low, same))) ∙ tied.no_index other out;
  }

-- the head is written
pub declared : (table column head : ℕ) (before now : Meaning) (state : State) (held : Held) → table < table_limit → IsColumn column
    → head ≡ head_of table → WroteOne before now head (Some (head_words column)) → Stands before state held → IsEmpty table held.1
    → index_of table held.1 ≡ None → Declares table column now true state held
declared table column head before now state held low is_column at wrote stands empty no_index =
    let H : ℕ → Type 0 = λ h. WroteOne before now h (Some (head_words column)) in
    let wrote_head : WroteOne before now (head_of table) (Some (head_words column)) = subst H at wrote in
    let unindexed : held.0.column_at table ≡ None = sym (stands.tied.columns table low) ∙ no_index in
    let absent = head_absent before state held table low unindexed stands in (
      empty,
      no_index,
      record {
        shape = shaped_at before now (head_of table) (Some (head_words column)) state (with_head held.0 table column) wrote_head
            (head_written table column before state held.0 low unindexed stands.shape);
        tied = tied_declared table column (overlay before.writes state) (overlay now.writes state) held.0 held.1 low is_column
            stands.tied empty no_index
            (λ other number rid inside is. other_at before now (head_of table) (Some (head_words column)) state rid wrote_head
            (λ same. (let there = stands.shape.laid.present rid (row other number) (inside, is) in none-some there.0
            (sym (ap (overlay before.writes state) same ∙ absent) ∙ there.1))));
        fit = stands.fit;
      },
    )
