-- What a scan of a tree lists stands for rows of the tables.
use Rattle.std.proofs.Common.{◌≡◌, ℕ, ◌<◌, ◌≤◌, Bool, true, false, cond, ◌==◌, ◌&&◌, T, List, [], ◌∷◌, map, filter, take, All, Option, None, Some, refl, sym, ap, ◌∙◌, arith, inl, inr}
use Rattle.std.specs.Prelude.{option_map}
use Rattle.std.specs.Option.{unwrap_or}
use Rattle.std.specs.declared.cmp.Ordering.TheVariants.{Less, Equal}
use Rattle.std.specs.FinMap.{find, is_sorted, entries, entries_sorted, get-entries, get-from_entries, from_entries}
use Rattle.std.specs.FinMap.Entries.{is_sorted-where_key, find-where_key}
use Rattle.std.specs.Ordering.{eq_by_cmp}
use Rattle.std.proofs.lemmas.Bool.{eqb-true, eq-eqb, ne_eqb}
use Rattle.std.proofs.lemmas.Bool.Decides.{nat_tests, eqb_tells}
use Rattle.std.proofs.lemmas.Option.{none-some}
use Rattle.std.proofs.lemmas.List.{take-map}
use Rattle.std.proofs.lemmas.List.Elements.{All-nil, All-cons, All-head, All-tail, All-weaker, All-filter, All-take, filter_passes}
use Rattle.plain_data.specs.State.{State}
use Rattle.ordered_index.specs.declared.key.Key.{Key}
use Rattle.ordered_index.specs.Keys.{is_before, is_same, Before, Rising, entry_at}
use Rattle.ordered_index.specs.Tree.{row_entries}
use Rattle.ordered_index.specs.Scan.{is_between, between}
use Rattle.replay_model.specs.TableMap.{TableMap, Row, pair_cmp, pair_at, pairs_of, column_in, value_at}
use Rattle.replay_model.specs.Effect.{lies_between, scanned, found, by_column}
use Rattle.stored_tables.specs.Places.{Places, index_tree, table_limit, root_of}
use Rattle.stored_tables.specs.Tables.{StandsFor, IsRow, indexed_record}
use Rattle.stored_tables.specs.Lists.{IsListed, Lists, KeysUpTo}
use Rattle.stored_tables.proofs.Maps.{pair_cmp_total, pair_cmp-IsAntisymmetric}
use Rattle.stored_tables.proofs.BecomesRows.{present_row}
use Rattle.stored_tables.proofs.ListsRising.{same_rising, entry_at-between, between_rises, All-entry_at}
use Rattle.stored_tables.proofs.ListsEntries.{as_entry, entry_at-entries, entry_at_none, rising_entries, all_found, find-by_value, by_value, row_between, row_between_some}

-- ---- facts about all elements of a list

everywhere : {X : Type 0} (P : X → Type 0) → ((x : X) → P x) → (xs : List X) → All P xs
everywhere P here [] = All-nil P
everywhere P here (x ∷ xs) = All-cons P x xs (here x) (everywhere P here xs)

all_both : {X : Type 0} (P Q R : X → Type 0) → ((x : X) → P x → Q x → R x) → (xs : List X) → All P xs → All Q xs → All R xs
all_both P Q R both [] first second = All-nil R
all_both P Q R both (x ∷ xs) first second = All-cons R x xs (both x (All-head P x xs first) (All-head Q x xs second))
    (all_both P Q R both xs (All-tail P x xs first) (All-tail Q x xs second))

filter_mapped : {X Y : Type 0} (f : X → Y) (p : Y → Bool) (q : X → Bool) → ((x : X) → p (f x) ≡ q x) → (xs : List X)
    → filter p (map f xs) ≡ map f (filter q xs)
filter_mapped f p q alike [] = refl
filter_mapped f p q alike (x ∷ xs) =
    ap (λ b. cond b (f x ∷ filter p (map f xs)) (filter p (map f xs))) (alike x)
    ∙ ap (λ ys. cond (q x) (f x ∷ ys) ys) (filter_mapped f p q alike xs)
    ∙ elim (q x) as (λ b. cond b (f x ∷ map f (filter q xs)) (map f (filter q xs)) ≡ map f
    (cond b (x ∷ filter q xs) (filter q xs))) [ true ↦ refl | false ↦ refl ]

-- ---- rows and their records, in the order of a list

-- the record beside a place of a table
abbrev pub record_at : Places → ℕ → ℕ × ℕ → ℕ
record_at places table place = unwrap_or (places.row_at table place.1) 0

record_of_row : (state : State) (row : Option Row) (at : Option ℕ) → IsRow state row at → option_map (λ _. unwrap_or at 0) row ≡ at
record_of_row state None None is = refl
record_of_row state (Some row) None is = absurd (none-some row (sym is))
record_of_row state None (Some rid) is = absurd (none-some is.0 is.1)
record_of_row state (Some row) (Some rid) is = refl

mapped_if : (test : Bool) (rid : ℕ) (row : Option Row)
    → option_map (λ _. rid) (cond test row None) ≡ cond test (option_map (λ _. rid) row) None
mapped_if true rid row = refl
mapped_if false rid row = refl

none_either : (test : Bool) (x : Option ℕ) → x ≡ None → cond test x None ≡ None
none_either true x none = none
none_either false x none = refl

value_kept : (within : Bool) (rid : ℕ) (row : Row)
    → cond within (Some rid) None ≡ option_map (λ _. rid) (cond (within && true) (Some row) None)
value_kept true rid row = refl
value_kept false rid row = refl

value_dropped : (test within : Bool) (rid : ℕ) (row : Row)
    → cond test None None ≡ option_map (λ _. rid) (cond (within && false) (Some row) None)
value_dropped true true rid row = refl
value_dropped true false rid row = refl
value_dropped false true rid row = refl
value_dropped false false rid row = refl

-- the record that an index has, where a row by a value has it
record_of_value : (state : State) (c lo hi value : ℕ) (test : Bool) (row : Option Row) (at : Option ℕ) → IsRow state row at
    → ((rid : ℕ) → indexed_record (Some c) row at value ≡ Some rid → test ≡ lies_between lo hi value)
    → cond test (indexed_record (Some c) row at value) None ≡ option_map (λ _. unwrap_or at 0) (row_between c lo hi value row)
record_of_value state c lo hi value test None at is reached = none_either test None refl
record_of_value state c lo hi value test (Some row) None is reached = absurd (none-some row (sym is))
record_of_value state c lo hi value test (Some row) (Some rid) is reached =
    elim (eqb_tells (column_in c row) value) as (λ _. cond test (cond (column_in c row == value) (Some rid) None) None ≡ option_map
    (λ _. rid) (cond (lies_between lo hi (column_in c row) && value == column_in c row) (Some row) None)) [
      | inl same ↦
          let turned : (value == column_in c row) ≡ true = eq-eqb value (column_in c row) (sym same.1) in
          let within : test ≡ lies_between lo hi (column_in c row) = reached rid (ap (λ b. cond b (Some rid) None) same.0)
          ∙ ap (lies_between lo hi) (sym same.1) in
          rw (same.0, turned, within) (value_kept (lies_between lo hi (column_in c row)) rid row)
      | inr differs ↦
          let turned : (value == column_in c row) ≡ false = ne_eqb value (column_in c row) (λ same. differs.1 (sym same)) in
          rw (differs.0, turned) (value_dropped test (lies_between lo hi (column_in c row)) rid row)
    ]

lists_mapped : (state : State) (key_part : Key → ℕ) (key_of : ℕ × ℕ → Key) (rid_of : ℕ × ℕ → ℕ) (es : List ((ℕ × ℕ) × Row))
    → All (λ e. IsListed state key_part (as_entry key_of rid_of e) (pair_at e)) es
    → Lists state key_part (map (as_entry key_of rid_of) es) (map pair_at es)
lists_mapped state key_part key_of rid_of [] all = tt
lists_mapped state key_part key_of rid_of (e ∷ es) all =
    let P = λ (e : (ℕ × ℕ) × Row). IsListed state key_part (as_entry key_of rid_of e) (pair_at e) in
    (All-head P e es all, lists_mapped state key_part key_of rid_of es (All-tail P e es all))

module _ (size : ℕ) (state : State) (places : Places) (tables : TableMap) (table : ℕ) (low : table < table_limit)
    (stands : StandsFor size state places tables) where
  is_listed : (key_part : Key → ℕ) (key_of : ℕ × ℕ → Key) → ((place : ℕ × ℕ) → key_part (key_of place) ≡ place.1) → (e : (ℕ × ℕ) × Row)
      → value_at tables table e.0.1 ≡ Some e.1
      → IsListed state key_part (as_entry key_of (record_at places table) e) (pair_at e)
  is_listed key_part key_of same e here =
      let row = present_row state places tables table e.0.1 e.1 low stands.tied here in
      record { key = same e.0; six = row.six; words = ap (λ at. state (unwrap_or at 0)) row.at_record ∙ row.words }

  -- entries that rise and have the look-up of rows list them, and the first of them the first rows
  lists_first : (key_part : Key → ℕ) (key_of : ℕ × ℕ → Key) → ((place : ℕ × ℕ) → key_part (key_of place) ≡ place.1)
      → (limit : ℕ) (listed : List (Key × ℕ)) (es : List ((ℕ × ℕ) × Row)) → Rising listed
      → Rising (map (as_entry key_of (record_at places table)) es)
      → All (λ e. value_at tables table e.0.1 ≡ Some e.1) es
      → ((key : Key) → entry_at listed key ≡ entry_at (map (as_entry key_of (record_at places table)) es) key)
      → Lists state key_part (take limit listed) (map pair_at (take limit es))
  lists_first key_part key_of same limit listed es first second all look_up =
      let here : listed ≡ map (as_entry key_of (record_at places table)) es =
      same_rising listed (map (as_entry key_of (record_at places table)) es) first second look_up in
      let taken : take limit listed ≡ map (as_entry key_of (record_at places table)) (take limit es) = ap (take limit) here
      ∙ take-map (as_entry key_of (record_at places table)) limit es in
      let P = λ (e : (ℕ × ℕ) × Row). value_at tables table e.0.1 ≡ Some e.1 in
      let Q = λ (e : (ℕ × ℕ) × Row). IsListed state key_part (as_entry key_of (record_at places table) e) (pair_at e) in
      rw taken (lists_mapped state key_part key_of (record_at places table) (take limit es)
      (All-take Q limit es (All-weaker P Q (λ e h. is_listed key_part key_of same e h) es all)))

  -- ---- the rows of the table

  abbrev rows_here : List ((ℕ × ℕ) × Row)
  rows_here = filter (λ e. e.0.0 == table) (entries tables.rows)

  sorted_here : T (is_sorted pair_cmp rows_here)
  sorted_here = is_sorted-where_key pair_cmp (λ place. place.0 == table) (entries tables.rows) (entries_sorted tables.rows)

  in_table : All (λ e. e.0.0 ≡ table) rows_here
  in_table = All-weaker (λ (e : (ℕ × ℕ) × Row). (e.0.0 == table) ≡ true) (λ e. e.0.0 ≡ table)
      (λ e test. eqb-true e.0.0 table test) rows_here (filter_passes (λ e. e.0.0 == table) (entries tables.rows))

  value_found : (key : ℕ) → find pair_cmp (table, key) (entries tables.rows) ≡ value_at tables table key
  value_found key = sym (get-entries tables.rows (table, key))

  values_here : All (λ e. value_at tables table e.0.1 ≡ Some e.1) rows_here
  values_here =
      all_both (λ (e : (ℕ × ℕ) × Row). e.0.0 ≡ table) (λ e. find pair_cmp e.0 (entries tables.rows) ≡ Some e.1)
      (λ e. value_at tables table e.0.1 ≡ Some e.1)
      (λ e same here. sym (value_found e.0.1) ∙ ap (λ t. find pair_cmp (t, e.0.1) (entries tables.rows)) (sym same) ∙ here)
      rows_here in_table
      (All-filter (λ (e : (ℕ × ℕ) × Row). e.0.0 == table) (λ e. find pair_cmp e.0 (entries tables.rows) ≡ Some e.1) (entries tables.rows)
      (all_found (entries tables.rows) (entries_sorted tables.rows)))

  -- a test of places answers alike at those that tie
  alike_test : (p : ℕ × ℕ → Bool) (q x : ℕ × ℕ) → pair_cmp q x ≡ Equal → p x ≡ p q
  alike_test p q x tie = ap p (sym (pair_cmp-IsAntisymmetric q x tie))

  found_here : (key : ℕ) → find pair_cmp (table, key) rows_here ≡ value_at tables table key
  found_here key =
      find-where_key pair_cmp (λ place. place.0 == table) (table, key) (alike_test (λ place. place.0 == table) (table, key))
      (entries tables.rows)
      ∙ ap (λ b. cond b (find pair_cmp (table, key) (entries tables.rows)) None) (eq-eqb table table refl) ∙ value_found key

  -- ---- by their keys

  abbrev rows_between : ℕ → ℕ → List ((ℕ × ℕ) × Row)
  rows_between lo hi = filter (λ e. lies_between lo hi e.0.1) rows_here

  abbrev by_key : ℕ × ℕ → Key
  by_key place = record { high = place.1; low = 0 }

  found_between : (lo hi key : ℕ)
      → find pair_cmp (table, key) (rows_between lo hi) ≡ cond (lies_between lo hi key) (value_at tables table key) None
  found_between lo hi key =
      find-where_key pair_cmp (λ place. lies_between lo hi place.1) (table, key)
      (alike_test (λ place. lies_between lo hi place.1) (table, key)) rows_here
      ∙ ap (λ row. cond (lies_between lo hi key) row None) (found_here key)

  keys_rise : (x y : ℕ × ℕ) → x.0 ≡ table → y.0 ≡ table → pair_cmp x y ≡ Less → Before (by_key x) (by_key y)
  unfolding is_before
  keys_rise x y first second less = grind (arith, nat_tests)

  same_by_key : (key : Key) (place : ℕ × ℕ) → key.low ≡ 0 → place.0 ≡ table
      → is_same key (by_key place) ≡ eq_by_cmp pair_cmp (table, key.high) place
  unfolding is_same
  same_by_key key place zero_low same = grind (arith, nat_tests)

  between_keys : (lo hi top : ℕ) (key : Key) → key.low ≡ 0
      → is_between (record { high = lo; low = 0 }) (record { high = hi; low = top }) key ≡ lies_between lo hi key.high
  unfolding is_before
  between_keys lo hi top key zero_low = grind (arith, nat_tests)

  other_low : (key : Key) → (key.low ≡ 0 → ⊥) → (place : ℕ × ℕ) → is_same key (by_key place) ≡ false
  unfolding is_same
  other_low key not_zero place = grind (arith, nat_tests)

  rid_found : (key : ℕ) → option_map (λ _. record_at places table (table, key)) (value_at tables table key) ≡ places.row_at table key
  rid_found key = record_of_row state (value_at tables table key) (places.row_at table key) (stands.tied.rows table key low)

  look_by_key : (lo hi top : ℕ) (key : Key)
      → entry_at (between (record { high = lo; low = 0 }) (record { high = hi; low = top }) (row_entries (places.leaves table))) key
      ≡ entry_at (map (as_entry by_key (record_at places table)) (rows_between lo hi)) key
  look_by_key lo hi top key =
      let from : Key = record { high = lo; low = 0 } in
      let to : Key = record { high = hi; low = top } in
      let es = rows_between lo hi in
      entry_at-between from to (row_entries (places.leaves table)) key
      ∙ ap (λ at. cond (is_between from to key) at None) (stands.tied.tree table key low)
      ∙ elim (eqb_tells key.low 0) as (λ _. cond (is_between from to key) (cond (key.low == 0) (places.row_at table key.high) None) None
      ≡ entry_at (map (as_entry by_key (record_at places table)) es) key) [
        | inl zero_low ↦
            let alike : All (λ e. is_same key (by_key e.0) ≡ eq_by_cmp pair_cmp (table, key.high) e.0) es =
            All-weaker (λ (e : (ℕ × ℕ) × Row). e.0.0 ≡ table) (λ e. is_same key (by_key e.0) ≡ eq_by_cmp pair_cmp (table, key.high) e.0)
            (λ e same. same_by_key key e.0 zero_low.1 same) es
            (All-filter (λ (e : (ℕ × ℕ) × Row). lies_between lo hi e.0.1) (λ e. e.0.0 ≡ table) rows_here in_table) in
            rw (between_keys lo hi top key zero_low.1, zero_low.0)
            (sym
            (entry_at-entries by_key (record_at places table) key (table, key.high) es alike
            ∙ ap (option_map (λ _. record_at places table (table, key.high))) (found_between lo hi key.high)
            ∙ mapped_if (lies_between lo hi key.high) (record_at places table (table, key.high)) (value_at tables table key.high)
            ∙ ap (λ at. cond (lies_between lo hi key.high) at None) (rid_found key.high)))
        | inr not_zero ↦ rw not_zero.0 (none_either (is_between from to key) None refl
            ∙ sym (entry_at_none by_key (record_at places table) key (other_low key not_zero.1) es))
      ]

  -- a scan of the tree by keys, over any low part of the last key
  pub scan_lists : (lo hi top limit : ℕ)
      → Lists state (λ key. key.high) (take limit (between (record { high = lo; low = 0 }) (record { high = hi; low = top })
      (row_entries (places.leaves table)))) (scanned table lo hi limit tables)
  scan_lists lo hi top limit =
      let from : Key = record { high = lo; low = 0 } in
      let to : Key = record { high = hi; low = top } in
      let es = rows_between lo hi in
      let pairs : scanned table lo hi limit tables ≡ map pair_at (take limit es) =
      ap (take limit) (filter_mapped pair_at (λ pair. lies_between lo hi pair.0) (λ e. lies_between lo hi e.0.1) (λ e. refl) rows_here)
      ∙ take-map pair_at limit es in
      rw pairs
      (lists_first (λ key. key.high) by_key (λ place. refl) limit (between from to (row_entries (places.leaves table))) es
      (between_rises size (root_of table) from to state (places.levels table) (places.leaves table)
      (stands.shape.trees table (omega arith)))
      (rising_entries by_key (record_at places table) (λ place. place.0 ≡ table) keys_rise es
      (All-filter (λ (e : (ℕ × ℕ) × Row). lies_between lo hi e.0.1) (λ e. e.0.0 ≡ table) rows_here in_table)
      (is_sorted-where_key pair_cmp (λ place. lies_between lo hi place.1) rows_here sorted_here))
      (All-filter (λ (e : (ℕ × ℕ) × Row). lies_between lo hi e.0.1) (λ e. value_at tables table e.0.1 ≡ Some e.1) rows_here values_here)
      (look_by_key lo hi top))

  -- ---- by a column

  -- where the entries of an index have no greater low part, no row has a greater key
  pub keys_from_entries : (column top : ℕ) → places.column_at table ≡ Some column
      → All (λ entry. entry.0.low ≤ top) (row_entries (places.leaves (index_tree table))) → KeysUpTo top table tables
  keys_from_entries column top indexed few key row there =
      let at = present_row state places tables table key row low stands.tied there in
      let entry : Key = record { high = column_in column row; low = key } in
      let here : entry_at (row_entries (places.leaves (index_tree table))) entry ≡ Some at.rid =
      stands.tied.index table entry low ∙ rw (indexed, there, at.at_record)
      (ap (λ b. cond b (Some at.rid) None) (eq-eqb (column_in column row) (column_in column row) refl)) in
      All-entry_at (λ k. k.low ≤ top) (row_entries (places.leaves (index_tree table))) entry at.rid few here

  module _ (column lo hi top : ℕ) (indexed : places.column_at table ≡ Some column) (few : KeysUpTo top table tables) where
    abbrev rows_by : List ((ℕ × ℕ) × Row)
    rows_by = entries (by_column column (filter (λ pair. lies_between lo hi (column_in column pair.1)) (pairs_of table tables)))

    abbrev by_value_and_key : ℕ × ℕ → Key
    by_value_and_key place = record { high = place.0; low = place.1 }

    found_by : (value key : ℕ) → find pair_cmp (value, key) rows_by ≡ row_between column lo hi value (value_at tables table key)
    found_by value key =
        sym (get-entries (from_entries {R = pair_cmp} (by_value column lo hi rows_here)) (value, key))
        ∙ get-from_entries pair_cmp_total (by_value column lo hi rows_here) (value, key)
        ∙ find-by_value column lo hi table value key rows_here sorted_here in_table
        ∙ ap (row_between column lo hi value) (found_here key)

    sorted_by : T (is_sorted pair_cmp rows_by)
    sorted_by = entries_sorted (from_entries {R = pair_cmp} (by_value column lo hi rows_here))

    values_by : All (λ e. value_at tables table e.0.1 ≡ Some e.1) rows_by
    values_by =
        All-weaker (λ (e : (ℕ × ℕ) × Row). find pair_cmp e.0 rows_by ≡ Some e.1) (λ e. value_at tables table e.0.1 ≡ Some e.1)
        (λ e here. row_between_some column lo hi e.0.0 (value_at tables table e.0.1) e.1 (sym (found_by e.0.0 e.0.1) ∙ here)) rows_by
        (all_found rows_by sorted_by)

    places_rise : (x y : ℕ × ℕ) → x ≡ x → y ≡ y → pair_cmp x y ≡ Less → Before (by_value_and_key x) (by_value_and_key y)
    unfolding is_before
    places_rise x y first second less = grind (arith, nat_tests)

    same_place_key : (key : Key) (place : ℕ × ℕ) → is_same key (by_value_and_key place) ≡ eq_by_cmp pair_cmp (key.high, key.low) place
    unfolding is_same
    same_place_key key place = grind (arith, nat_tests)

    between_values : (key : Key) → key.low ≤ top
        → is_between (record { high = lo; low = 0 }) (record { high = hi; low = top }) key ≡ lies_between lo hi key.high
    unfolding is_before
    between_values key within = grind (arith, nat_tests)

    -- only a key with a row is found
    found_few : {X : Type 0} (c value rid : ℕ) (at : Option ℕ) (row : Option Row) → indexed_record (Some c) row at value ≡ Some rid
        → ((columns : Row) → row ≡ Some columns → X) → X
    found_few c value rid at None is with_row = absurd (none-some rid is)
    found_few c value rid at (Some columns) is with_row = with_row columns refl

    look_by_value : (key : Key)
        → entry_at (between (record { high = lo; low = 0 }) (record { high = hi; low = top })
        (row_entries (places.leaves (index_tree table)))) key ≡ entry_at
        (map (as_entry by_value_and_key (record_at places table)) rows_by) key
    look_by_value key =
        let from : Key = record { high = lo; low = 0 } in
        let to : Key = record { high = hi; low = top } in
        let es = row_entries (places.leaves (index_tree table)) in
        let here : entry_at es key ≡ indexed_record (Some column) (value_at tables table key.low) (places.row_at table key.low) key.high =
        stands.tied.index table key low ∙ ap (λ c. indexed_record c (value_at tables table key.low)
        (places.row_at table key.low) key.high) indexed in
        entry_at-between from to es key
        ∙ ap (λ at. cond (is_between from to key) at None) here
        ∙ record_of_value state column lo hi key.high (is_between from to key) (value_at tables table key.low)
        (places.row_at table key.low) (stands.tied.rows table key.low low)
        (λ rid is. between_values key (found_few column key.high rid (places.row_at table key.low) (value_at tables table key.low) is
        (λ row there. few key.low row there)))
        ∙ sym
        (entry_at-entries by_value_and_key (record_at places table) key (key.high, key.low) rows_by
        (everywhere (λ (e : (ℕ × ℕ) × Row). is_same key (by_value_and_key e.0) ≡ eq_by_cmp pair_cmp (key.high, key.low) e.0)
        (λ e. same_place_key key e.0) rows_by)
        ∙ ap (option_map (λ _. record_at places table (key.high, key.low))) (found_by key.high key.low))

    -- a search of the index, over a low part of the last entry that no key of the table is above
    pub find_lists : (limit : ℕ)
        → Lists state (λ key. key.low) (take limit (between (record { high = lo; low = 0 }) (record { high = hi; low = top })
        (row_entries (places.leaves (index_tree table))))) (found table column lo hi limit tables)
    find_lists limit =
        let from : Key = record { high = lo; low = 0 } in
        let to : Key = record { high = hi; low = top } in
        lists_first (λ key. key.low) by_value_and_key (λ place. refl) limit
        (between from to (row_entries (places.leaves (index_tree table)))) rows_by
        (between_rises size (root_of (index_tree table)) from to state (places.levels (index_tree table))
        (places.leaves (index_tree table)) (stands.shape.trees (index_tree table) (omega arith)))
        (rising_entries by_value_and_key (record_at places table) (λ place. place ≡ place) places_rise rows_by
        (everywhere (λ (e : (ℕ × ℕ) × Row). e.0 ≡ e.0) (λ e. refl) rows_by) sorted_by)
        values_by look_by_value
