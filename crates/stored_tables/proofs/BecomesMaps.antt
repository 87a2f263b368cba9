-- A row became another one, by the maps that its moves leave; so the maps agree again.
use Rattle.std.proofs.Common.{◌≡◌, ◌≢◌, ℕ, ◌<◌, cond, ◌==◌, ◌&&◌, [], ◌∷◌, ◌++◌, length, Option, None, Some, refl, sym, ap, subst, ◌∙◌, arith, inl, inr}
use Rattle.std.proofs.lemmas.Bool.{eq-eqb, ne_eqb}
use Rattle.std.proofs.lemmas.Bool.Decides.{eqb_tells}
use Rattle.plain_data.specs.State.{State}
use Rattle.hash_index.specs.Chain.{record_of}
use Rattle.ordered_index.specs.declared.key.Key.{Key}
use Rattle.ordered_index.specs.Keys.{is_same}
use Rattle.ordered_index.specs.Tree.{record_of_key}
use Rattle.replay_model.specs.TableMap.{TableMap, Row, column_in, value_at, index_of, with_value, without}
use Rattle.stored_tables.specs.Places.{Places, index_tree, table_limit}
use Rattle.stored_tables.specs.Tables.{IsTied, IsRow, indexed_record, row_words}
use Rattle.stored_tables.specs.Plan.{index_key, enters_index, leaves_index, moves_entry}
use Rattle.stored_tables.specs.Plan.Move.{row_added, row_dropped, pair_put, pair_removed, entry_inserted, entry_removed}
use Rattle.stored_tables.specs.Steps.{RowBecomes, set_at}
use Rattle.stored_tables.specs.Moved.{Maps, HasMaps, maps_of, all_moved, set_key}
use Rattle.stored_tables.proofs.Ties.{tied_again, set_here, set_other}
use Rattle.stored_tables.proofs.Maps.{with_value_rows, without_rows}
use Rattle.stored_tables.proofs.BecomesIndexed.{entry_enters, entry_leaves, entry_nowhere, entry_moves, entry_stays}
use Rattle.stored_tables.proofs.BecomesRows.{OthersStay, no_entry, entry_is, no_entry_without, tree_stays, row_stays}

-- ---- trees with another record at one key of one of them

pub key_here : (number : ℕ) (key : Key) (rid : Option ℕ) (f : ℕ → Key → Option ℕ) (at : Key)
    → set_key number key rid f number at ≡ cond (is_same at key) rid (f number at)
key_here number key rid f at = rw (eq-eqb number number refl) refl

pub key_other : (number : ℕ) (key : Key) (rid : Option ℕ) (f : ℕ → Key → Option ℕ) (other : ℕ) (at : Key) → other ≢ number
    → set_key number key rid f other at ≡ f other at
key_other number key rid f other at differs = rw (ne_eqb other number differs) refl

-- ---- what changes at a key, as maps

-- the maps of a table's chain, of trees, and of the records of rows, with this record at a key of the table; its index aside
pub record MapsBecome (table key : ℕ) (rid : Option ℕ) (places : Places) (maps : Maps) : Type 0 where
  pub chain : (other number : ℕ) → maps.chain other number ≡ set_at table key rid (λ t k. record_of (places.rows t) k) other number
  pub tree : (other : Key) → maps.tree table other ≡ cond (is_same other (record { high = key; low = 0 })) rid
      (record_of_key (places.leaves table) other)
  pub other_trees : (number : ℕ) (other : Key) → number ≢ table → number ≢ index_tree table
      → maps.tree number other ≡ record_of_key (places.leaves number) other
  pub row_at : (other number : ℕ) → maps.row_at other number ≡ set_at table key rid places.row_at other number
  pub column_at : (other : ℕ) → maps.column_at other ≡ places.column_at other

becomes_by : (table key : ℕ) (row : Option Row) (rid : Option ℕ) (state state' : State) (places places' : Places) (maps : Maps)
    → HasMaps maps places' → MapsBecome table key rid places maps
    → ((other : Key) → maps.tree (index_tree table) other ≡ cond (other.low == key)
    (indexed_record (places.column_at table) row rid other.high) (record_of_key (places.leaves (index_tree table)) other))
    → IsRow state' row rid → OthersStay table key state state' places → RowBecomes table key row rid state state' places places'
becomes_by table key row rid state state' places places' maps has become index here frame = record {
  chain = λ other. has.chain table other ∙ become.chain table other ∙ set_here table key rid (λ t k. record_of (places.rows t) k) other;
  other_chains = λ other number differs. has.chain other number ∙ become.chain other number
      ∙ set_other table key rid (λ t k. record_of (places.rows t) k) other number differs;
  tree = λ other. has.tree table other ∙ become.tree other;
  index = λ other. has.tree (index_tree table) other ∙ index other;
  other_trees = λ number other differs also. has.tree number other ∙ become.other_trees number other differs also;
  row_at = λ other number. has.row_at other number ∙ become.row_at other number;
  column_at = λ other. has.column_at other ∙ become.column_at other;
  here = here;
  frame = frame;
}

-- ---- a row enters

enter_maps : (table key rid : ℕ) (index : Option ℕ) (columns : Row) (places : Places)
    → MapsBecome table key (Some rid) places (all_moved rid
    (row_added table key ∷ pair_put table key ∷ entry_inserted table
    (record { high = key; low = 0 }) ∷ enters_index table key index columns) (maps_of places))
enter_maps table key rid None columns places =
    let K : Key = record { high = key; low = 0 } in
    let f : ℕ → Key → Option ℕ = λ n k. record_of_key (places.leaves n) k in
    record {
      chain = λ other number. refl;
      tree = λ other. key_here table K (Some rid) f other;
      other_trees = λ number other differs also. key_other table K (Some rid) f number other differs;
      row_at = λ other number. refl;
      column_at = λ other. refl;
    }
enter_maps table key rid (Some column) columns places =
    let K : Key = record { high = key; low = 0 } in
    let I : Key = index_key column key columns in
    let f : ℕ → Key → Option ℕ = λ n k. record_of_key (places.leaves n) k in
    let g : ℕ → Key → Option ℕ = set_key table K (Some rid) f in
    record {
      chain = λ other number. refl;
      tree = λ other. key_other (index_tree table) I (Some rid) g table other (λ e. omega arith) ∙ key_here table K (Some rid) f other;
      other_trees = λ number other differs also. key_other (index_tree table) I (Some rid) g number other also
          ∙ key_other table K (Some rid) f number other differs;
      row_at = λ other number. refl;
      column_at = λ other. refl;
    }

abbrev entries_of : Places → ℕ → Key → Option ℕ
entries_of places number key = record_of_key (places.leaves number) key

enter_index : (table key rid : ℕ) (index : Option ℕ) (columns : Row) (places : Places) → places.column_at table ≡ index → (other : Key)
    → (other.low ≡ key → entries_of places (index_tree table) other ≡ None)
    → (all_moved rid (row_added table key ∷ pair_put table key ∷ entry_inserted table
    (record { high = key; low = 0 }) ∷ enters_index table key index columns) (maps_of places)).tree (index_tree table) other
    ≡ cond (other.low == key) (indexed_record (places.column_at table) (Some columns) (Some rid) other.high)
    (entries_of places (index_tree table) other)
enter_index table key rid None columns places is other none =
    key_other table (record { high = key; low = 0 }) (Some rid) (entries_of places) (index_tree table) other (λ e. omega arith)
    ∙ rw is (entry_nowhere key (Some columns) (Some rid) (entries_of places (index_tree table) other) other none)
enter_index table key rid (Some column) columns places is other none =
    let K : Key = record { high = key; low = 0 } in
    let I : Key = index_key column key columns in
    key_here (index_tree table) I (Some rid) (set_key table K (Some rid) (entries_of places)) other
    ∙ ap (cond (is_same other I) (Some rid)) (key_other table K (Some rid) (entries_of places) (index_tree table) other (λ e. omega arith))
    ∙ rw is (entry_enters column key columns (Some rid) (entries_of places (index_tree table) other) other none)

module _ (table key rid : ℕ) (columns : Row) (index : Option ℕ) (state state' : State) (places places' : Places) (tables : TableMap)
    (low : table < table_limit) (tied : IsTied state places tables) (is_index : index_of table tables ≡ index)
    (absent : value_at tables table key ≡ None) (six : length columns ≡ 6) (words : state' rid ≡ Some (row_words columns))
    (frame : OthersStay table key state state' places)
    (has : HasMaps (all_moved rid (row_added table key ∷ pair_put table key ∷ entry_inserted table
    (record { high = key; low = 0 }) ∷ enters_index table key index columns) (maps_of places)) places') where
  pub row_entered : RowBecomes table key (Some columns) (Some rid) state state' places places'
  row_entered =
      becomes_by table key (Some columns) (Some rid) state state' places places' _ has (enter_maps table key rid index columns places)
      (λ other. enter_index table key rid index columns places (sym (tied.columns table low) ∙ is_index) other
      (no_entry state places tables table key low tied absent other))
      (columns, refl, six, words) frame

  pub tied_entered : IsTied state' places' (with_value tables table key columns)
  tied_entered = tied_again table key (Some columns) (Some rid) state state' places places' tables
      (with_value tables table key columns) low tied row_entered (with_value_rows tables table key columns)

-- ---- a row leaves

leave_maps : (table key rid : ℕ) (index : Option ℕ) (columns : Row) (places : Places)
    → MapsBecome table key None places (all_moved rid
    (leaves_index table key index columns ++ pair_removed table key ∷ entry_removed table
    (record { high = key; low = 0 }) ∷ row_dropped table key ∷ []) (maps_of places))
leave_maps table key rid None columns places = record {
  chain = λ other number. refl;
  tree = λ other. key_here table (record { high = key; low = 0 }) None (entries_of places) other;
  other_trees = λ number other differs also. key_other table (record { high = key; low = 0 }) None (entries_of places) number other differs;
  row_at = λ other number. refl;
  column_at = λ other. refl;
}
leave_maps table key rid (Some column) columns places =
    let K : Key = record { high = key; low = 0 } in
    let I : Key = index_key column key columns in
    let g : ℕ → Key → Option ℕ = set_key (index_tree table) I None (entries_of places) in
    record {
      chain = λ other number. refl;
      tree = λ other. key_here table K None g other
          ∙ ap (cond (is_same other K) None) (key_other (index_tree table) I None (entries_of places) table other (λ e. omega arith));
      other_trees = λ number other differs also. key_other table K None g number other differs
          ∙ key_other (index_tree table) I None (entries_of places) number other also;
      row_at = λ other number. refl;
      column_at = λ other. refl;
    }

leave_index : (table key rid : ℕ) (index : Option ℕ) (columns : Row) (at : Option ℕ) (places : Places) → places.column_at table ≡ index
    → (other : Key)
    → (other.low ≡ key → entries_of places (index_tree table) other ≡ indexed_record index (Some columns) at other.high)
    → (all_moved rid (leaves_index table key index columns ++ pair_removed table key ∷ entry_removed table
    (record { high = key; low = 0 }) ∷ row_dropped table key ∷ []) (maps_of places)).tree (index_tree table) other
    ≡ cond (other.low == key) (indexed_record (places.column_at table) None None other.high) (entries_of places (index_tree table) other)
leave_index table key rid None columns at places is other was =
    key_other table (record { high = key; low = 0 }) None (entries_of places) (index_tree table) other (λ e. omega arith)
    ∙ rw is (entry_nowhere key None None (entries_of places (index_tree table) other) other was)
leave_index table key rid (Some column) columns at places is other was =
    let K : Key = record { high = key; low = 0 } in
    let I : Key = index_key column key columns in
    key_other table K None (set_key (index_tree table) I None (entries_of places)) (index_tree table) other (λ e. omega arith)
    ∙ key_here (index_tree table) I None (entries_of places) other
    ∙ rw is (entry_leaves column key columns at (entries_of places (index_tree table) other) other was)

-- the entry of a row in its table's index, if there is one
entry_in : (state : State) (places : Places) (tables : TableMap) (table key : ℕ) (index : Option ℕ) (columns : Row) → table < table_limit
    → IsTied state places tables
    → value_at tables table key ≡ Some columns → places.column_at table ≡ index
    → (other : Key) → other.low ≡ key → entries_of places (index_tree table) other ≡ indexed_record index (Some columns)
    (places.row_at table key) other.high
entry_in state places tables table key None columns low tied there is other same =
    no_entry_without state places tables table low tied is other
entry_in state places tables table key (Some column) columns low tied there is other same =
    entry_is state places tables table key column columns low tied there is other same

module _ (table key rid : ℕ) (columns : Row) (index : Option ℕ) (state state' : State) (places places' : Places) (tables : TableMap)
    (low : table < table_limit) (tied : IsTied state places tables) (is_index : index_of table tables ≡ index)
    (there : value_at tables table key ≡ Some columns) (frame : OthersStay table key state state' places)
    (has : HasMaps (all_moved rid (leaves_index table key index columns ++ pair_removed table key ∷ entry_removed table
    (record { high = key; low = 0 }) ∷ row_dropped table key ∷ []) (maps_of places)) places') where
  pub row_departed : RowBecomes table key None None state state' places places'
  row_departed =
      let is = sym (tied.columns table low) ∙ is_index in
      becomes_by table key None None state state' places places' _ has (leave_maps table key rid index columns places)
      (λ other. leave_index table key rid index columns (places.row_at table key) places is other
      (entry_in state places tables table key index columns low tied there is other))
      refl frame

  pub tied_departed : IsTied state' places' (without tables table key)
  tied_departed = tied_again table key None None state state' places places' tables (without tables table key) low tied row_departed
      (without_rows tables table key)

-- ---- a row changes

set_same : {X : Type 0} (table key : ℕ) (x : X) (f : ℕ → ℕ → X) (other number : ℕ) → f table key ≡ x
    → f other number ≡ set_at table key x f other number
set_same table key x f other number is = elim (eqb_tells other table) as
    (λ _. f other number ≡ cond (other == table && number == key) x (f other number)) [
      | inr differs ↦ rw differs.0 refl
      | inl same ↦ elim (eqb_tells number key) as (λ _. f other number ≡ cond (other == table && number == key) x (f other number)) [
        | inr differs ↦ rw (same.0, differs.0) refl
        | inl also ↦ rw (same.0, also.0) ((λ i. f (same.1 i) (also.1 i)) ∙ is)
      ]
    ]

-- of places that keep the row's record, trees aside
stay_maps : (table key rid : ℕ) (state : State) (places : Places) (tables : TableMap) (tree : ℕ → Key → Option ℕ) → table < table_limit
    → IsTied state places tables → places.row_at table key ≡ Some rid
    → ((number : ℕ) (other : Key) → number ≢ index_tree table → tree number other ≡ entries_of places number other)
    → MapsBecome table key (Some rid) places (record (maps_of places) { tree = tree })
stay_maps table key rid state places tables tree low tied at others =
    record {
      chain = λ other number. set_same table key (Some rid) (λ t k. record_of (places.rows t) k) other number
          (tied.chain table key low ∙ at);
      tree = λ other. others table other (λ e. omega arith) ∙ tree_stays table key rid state places tables low tied at other;
      other_trees = λ number other differs also. others number other also;
      row_at = row_stays table key rid places at;
      column_at = λ other. refl;
    }

module _ (table key rid : ℕ) (columns columns' : Row) (state state' : State) (places places' : Places) (tables : TableMap)
    (low : table < table_limit) (tied : IsTied state places tables) (there : value_at tables table key ≡ Some columns)
    (at : places.row_at table key ≡ Some rid) (six : length columns' ≡ 6) (words : state' rid ≡ Some (row_words columns'))
    (frame : OthersStay table key state state' places) where
  entry_there : (index : Option ℕ) → places.column_at table ≡ index → (other : Key) → other.low ≡ key
      → entries_of places (index_tree table) other ≡ indexed_record index (Some columns) (Some rid) other.high
  entry_there index is other same = entry_in state places tables table key index columns low tied there is other same
      ∙ ap (λ r. indexed_record index (Some columns) r other.high) at

  becomes_unmoved : HasMaps (maps_of places) places'
      → ((other : Key) → entries_of places (index_tree table) other ≡ cond (other.low == key)
      (indexed_record (places.column_at table) (Some columns') (Some rid) other.high) (entries_of places (index_tree table) other))
      → RowBecomes table key (Some columns') (Some rid) state state' places places'
  becomes_unmoved has index =
      becomes_by table key (Some columns') (Some rid) state state' places places' (maps_of places) has
      (stay_maps table key rid state places tables (entries_of places) low tied at (λ number other differs. refl)) index
      (columns', refl, six, words) frame

  becomes_moved : (column : ℕ) → places.column_at table ≡ Some column
      → HasMaps (all_moved rid (entry_removed (index_tree table) (index_key column key columns) ∷ entry_inserted (index_tree table)
      (index_key column key columns') ∷ []) (maps_of places)) places'
      → RowBecomes table key (Some columns') (Some rid) state state' places places'
  becomes_moved column is has =
      let was : Key = index_key column key columns in
      let now : Key = index_key column key columns' in
      let between : ℕ → Key → Option ℕ = set_key (index_tree table) was None (entries_of places) in
      becomes_by table key (Some columns') (Some rid) state state' places places' _ has
      (stay_maps table key rid state places tables (set_key (index_tree table) now (Some rid) between) low tied at
      (λ number other differs. key_other (index_tree table) now (Some rid) between number other differs
      ∙ key_other (index_tree table) was None (entries_of places) number other differs))
      (λ other.
      key_here (index_tree table) now (Some rid) between other
      ∙ ap (cond (is_same other now) (Some rid)) (key_here (index_tree table) was None (entries_of places) other)
      ∙ rw is (entry_moves column key columns columns' (Some rid) (entries_of places (index_tree table) other) other
      (entry_there (Some column) is other)))
      (columns', refl, six, words) frame

  changed_in : (index : Option ℕ) → places.column_at table ≡ index
      → HasMaps (all_moved rid (moves_entry table key index columns columns') (maps_of places)) places'
      → RowBecomes table key (Some columns') (Some rid) state state' places places'
  changed_in None is has =
      becomes_unmoved has (λ other. rw is (entry_nowhere key (Some columns') (Some rid) (entries_of places (index_tree table) other) other
      (entry_there None is other)))
  changed_in (Some column) is has = elim (eqb_tells (column_in column columns) (column_in column columns')) as
      (λ _. RowBecomes table key (Some columns') (Some rid) state state' places places') [
        | inl alike ↦
            becomes_unmoved (subst (λ moves. HasMaps (all_moved rid moves (maps_of places)) places')
            (ap (λ b. cond b [] (entry_removed (index_tree table) (index_key column key columns) ∷ entry_inserted (index_tree table)
            (index_key column key columns') ∷ [])) alike.0) has)
            (λ other. rw is (entry_stays column key columns columns' (Some rid) (entries_of places (index_tree table) other) other alike.1
            (entry_there (Some column) is other)))
        | inr differs ↦
            becomes_moved column is
            (subst (λ moves. HasMaps (all_moved rid moves (maps_of places)) places')
            (ap (λ b. cond b [] (entry_removed (index_tree table) (index_key column key columns) ∷ entry_inserted (index_tree table)
            (index_key column key columns') ∷ [])) differs.0) has)
      ]

  pub row_changed : (index : Option ℕ) → index_of table tables ≡ index
      → HasMaps (all_moved rid (moves_entry table key index columns columns') (maps_of places)) places'
      → RowBecomes table key (Some columns') (Some rid) state state' places places'
  row_changed index is has = changed_in index (sym (tied.columns table low) ∙ is) has

  pub tied_changed : (index : Option ℕ) → index_of table tables ≡ index
      → HasMaps (all_moved rid (moves_entry table key index columns columns') (maps_of places)) places'
      → IsTied state' places' (with_value tables table key columns')
  tied_changed index is has =
      tied_again table key (Some columns') (Some rid) state state' places places' tables (with_value tables table key columns') low tied
      (row_changed index is has) (with_value_rows tables table key columns')
