-- What chains and trees have at a row that enters, leaves or changes, and what stands when all moves were made.
use Rattle.std.proofs.Common.{◌≡◌, ◌≢◌, ℕ, ◌^◌, ◌<◌, Bool, true, false, cond, ◌==◌, [], ◌∷◌, ◌++◌, length, Option, None, Some, refl, sym, ap, subst, ◌∙◌, arith, inl, inr, eq-eqb, ne_eqb}
use Rattle.std.specs.Prelude.{IsSome}
use Rattle.std.proofs.lemmas.Bool.Decides.{eqb_tells}
use Rattle.plain_data.specs.State.{State, overlay}
use Rattle.record_store.specs.Meaning.{Meaning}
use Rattle.ordered_index.specs.declared.key.Key.{Key}
use Rattle.ordered_index.specs.Keys.{is_same}
use Rattle.ordered_index.specs.Tree.{record_of_key}
use Rattle.replay_model.specs.TableMap.{TableMap, Row, column_in, value_at, with_value, without}
use Rattle.stored_tables.specs.Answers.{Held, Indexed, Lacks, Has, Becomes, ChainHas, TreeHas, enter_moves, leave_moves}
use Rattle.stored_tables.specs.declared.reading.Found.{Found}
use Rattle.stored_tables.specs.Moved.{Maps, HasMaps, maps_of, moved, all_moved, Shaped, Midway}
use Rattle.stored_tables.specs.Places.{Places, index_tree, table_limit}
use Rattle.stored_tables.specs.Plan.{Move, index_key, leaves_index, moves_entry}
use Rattle.stored_tables.specs.Plan.Move.{row_added, pair_put, pair_removed, entry_inserted, entry_removed}
use Rattle.stored_tables.specs.Steps.{IsDeclared, set_at, TablesWith}
use Rattle.stored_tables.specs.Tables.{KeysFit, row_words, indexed_record}
use Rattle.stored_tables.proofs.BecomesMaps.{key_here, key_other, tied_entered, tied_departed, tied_changed}
use Rattle.stored_tables.proofs.BecomesRows.{no_entry, entry_is}
use Rattle.stored_tables.proofs.Maps.{with_value_rows, without_rows}
use Rattle.stored_tables.proofs.Ties.{set_here, set_away}

-- the key of a row's entry in the tree by keys
abbrev pub row_key : ℕ → Key
row_key key = record { high = key; low = 0 }

some_is : (o : Option ℕ) (x : ℕ) → o ≡ Some x → IsSome o
some_is o x is = rw is refl

-- a tree by keys is declared, and so is that of an index whose column is known
by_keys : (table : ℕ) (places : Places) → table < table_limit → IsDeclared places table
by_keys table places low = λ other inside same. absurd (omega arith)

of_index : (table column : ℕ) (places : Places) → places.column_at table ≡ Some column → IsDeclared places (index_tree table)
of_index table column places is = λ other inside same.
    let one : table ≡ other = omega arith in
    let P : ℕ → Type 0 = λ t. IsSome (places.column_at t) in
    subst P one (some_is (places.column_at table) column is)

column_of : (now : Meaning) (table column : ℕ) (index : Option ℕ) (state : State) (held : Held) → table < table_limit
    → index ≡ Some column → Indexed now table index state held → held.0.column_at table ≡ Some column
column_of now table column index state held low is indexed = sym (indexed.0.tied.columns table low) ∙ indexed.1 ∙ is

-- ---- a row that enters

pub enter_chain : (table key rid : ℕ) (index : Option ℕ) (first now : Meaning) (state : State) (held : Held) (between : Places)
    → table < table_limit → Lacks first table key index state held → Shaped now state between
    → HasMaps (all_moved rid (row_added table key ∷ []) (maps_of held.0)) between → ChainHas now table key None state between
enter_chain table key rid index first now state held between low lacks shape maps = (
  shape,
  maps.chain table key
      ∙ lacks.0.0.tied.chain table key low ∙ lacks.1.0,
)

pub enter_tree : (table key rid : ℕ) (index : Option ℕ) (first now : Meaning) (state : State) (held : Held) (between : Places)
    → table < table_limit → Lacks first table key index state held → Shaped now state between
    → HasMaps (all_moved rid (row_added table key ∷ pair_put table key ∷ []) (maps_of held.0)) between
    → TreeHas now table (row_key key) None state between
enter_tree table key rid index first now state held between low lacks shape maps = (
  by_keys table between low,
  shape,
  maps.tree table
      (row_key key) ∙ lacks.0.0.tied.tree table (row_key key) low ∙ lacks.1.0,
)

pub enter_index : (table key rid column high : ℕ) (index : Option ℕ) (first now : Meaning) (state : State) (held : Held)
    (between : Places) → table < table_limit → index ≡ Some column → Lacks first table key index state held → Shaped now state between
    → HasMaps (all_moved rid (row_added table key ∷ pair_put table key ∷ entry_inserted table (row_key key) ∷ []) (maps_of held.0))
    between → TreeHas now (index_tree table) (record { high = high; low = key }) None state between
enter_index table key rid column high index first now state held between low is lacks shape maps =
    let I : Key = record { high = high; low = key } in
    let f : ℕ → Key → Option ℕ = λ n k. record_of_key (held.0.leaves n) k in (
      of_index table column between (maps.column_at table ∙ column_of first table column index state held low is lacks.0),
      shape,
      maps.tree (index_tree table) I ∙ key_other table (row_key key) (Some rid) f (index_tree table) I (λ e. omega arith)
          ∙ no_entry (overlay first.writes state) held.0 held.1 table key low lacks.0.0.tied lacks.1.1 I refl,
    )

pub enter_plan : (table key column high : ℕ) (index : Option ℕ) (row : Row) → index ≡ Some column → high ≡ column_in column row
    → enter_moves table key index row ≡ (row_added table key ∷ pair_put table key ∷ entry_inserted table
    (row_key key) ∷ []) ++ entry_inserted (index_tree table) (record { high = high; low = key }) ∷ []
enter_plan table key column high index row is same = rw (is, same) refl

pub enter_none : (table key : ℕ) (index : Option ℕ) (row : Row) → index ≡ None → enter_moves table key index row ≡ row_added table key ∷
    pair_put table key ∷ entry_inserted table (row_key key) ∷ []
enter_none table key index row is = rw is refl

-- ---- a row that leaves

pub leave_index_at : (table key column high : ℕ) (index : Option ℕ) (found : Found) (first now : Meaning) (state : State) (held : Held)
    (between : Places) → table < table_limit → index ≡ Some column → high ≡ column_in column found.row
    → Has first table key index found state held → Shaped now state between → HasMaps (maps_of held.0) between
    → TreeHas now (index_tree table) (record { high = high; low = key }) (Some found.rid) state between
leave_index_at table key column high index found first now state held between low is same has shape maps =
    let I : Key = record { high = high; low = key } in
    let indexed = column_of first table column index state held low is has.0 in (
      of_index table column between (maps.column_at table ∙ indexed),
      shape,
      maps.tree (index_tree table) I
          ∙ entry_is (overlay first.writes state) held.0 held.1 table key column found.row low has.0.0.tied has.1.1 indexed I refl
          ∙ ap (λ rid. indexed_record (Some column) (Some found.row) rid high) has.1.0
          ∙ ap (λ b. cond b (Some found.rid) None) (eq-eqb (column_in column found.row) high (sym same)),
    )

leave_chain_maps : (table key rid : ℕ) (index : Option ℕ) (row : Row) (maps : Maps) (t k : ℕ)
    → (all_moved rid (leaves_index table key index row) maps).chain t k ≡ maps.chain t k
leave_chain_maps table key rid None row maps t k = refl
leave_chain_maps table key rid (Some column) row maps t k = refl

leave_rows_maps : (table key rid : ℕ) (index : Option ℕ) (row : Row) (maps : Maps) (t k : ℕ)
    → (all_moved rid (leaves_index table key index row ++ pair_removed table key ∷ entry_removed table (row_key key) ∷ []) maps).row_at t
    k ≡ maps.row_at t k
leave_rows_maps table key rid None row maps t k = refl
leave_rows_maps table key rid (Some column) row maps t k = refl

leave_tree_maps : (table key rid : ℕ) (index : Option ℕ) (row : Row) (maps : Maps) (k : Key)
    → (all_moved rid (leaves_index table key index row ++ pair_removed table key ∷ []) maps).tree table k ≡ maps.tree table k
leave_tree_maps table key rid None row maps k = refl
leave_tree_maps table key rid (Some column) row maps k = key_other (index_tree table) (index_key column key row) None maps.tree table k
    (λ e. omega arith)

pub leave_chain : (table key : ℕ) (index : Option ℕ) (found : Found) (first now : Meaning) (state : State) (held : Held)
    (between : Places) → table < table_limit → Has first table key index found state held → Shaped now state between
    → HasMaps (all_moved found.rid (leaves_index table key index found.row) (maps_of held.0)) between
    → ChainHas now table key (Some found.rid) state between
leave_chain table key index found first now state held between low has shape maps = (
  shape,
  maps.chain table key ∙ leave_chain_maps table key found.rid index found.row (maps_of held.0) table key
      ∙ has.0.0.tied.chain table key low ∙ has.1.0,
)

pub leave_tree : (table key : ℕ) (index : Option ℕ) (found : Found) (first now : Meaning) (state : State) (held : Held)
    (between : Places) → table < table_limit → Has first table key index found state held → Shaped now state between
    → HasMaps (all_moved found.rid (leaves_index table key index found.row ++ pair_removed table key ∷ []) (maps_of held.0)) between
    → TreeHas now table (row_key key) (Some found.rid) state between
leave_tree table key index found first now state held between low has shape maps = (
  by_keys table between low,
  shape,
  maps.tree table (row_key key) ∙ leave_tree_maps table key found.rid index found.row
      (maps_of held.0) (row_key key) ∙ has.0.0.tied.tree table (row_key key) low ∙ has.1.0,
)

pub leave_row_at : (table key : ℕ) (index : Option ℕ) (found : Found) (first : Meaning) (state : State) (held : Held) (between : Places)
    → Has first table key index found state held
    → HasMaps (all_moved found.rid (leaves_index table key index found.row ++ pair_removed table key ∷ entry_removed table
    (row_key key) ∷ []) (maps_of held.0)) between → between.row_at table key ≡ Some found.rid
leave_row_at table key index found first state held between has maps = maps.row_at table key
    ∙ leave_rows_maps table key found.rid index found.row (maps_of held.0) table key ∙ has.1.0

-- ---- a row that changes

either_none : (test : Bool) → (let none : Option ℕ = None in cond test none none ≡ none)
either_none true = refl
either_none false = refl

pub change_plan : (table key column was high : ℕ) (index : Option ℕ) (old row : Row) → index ≡ Some column → was ≡ column_in column old
    → high ≡ column_in column row → was ≢ high → moves_entry table key index old row ≡ entry_removed (index_tree table)
    (record { high = was; low = key }) ∷ entry_inserted (index_tree table) (record { high = high; low = key }) ∷ []
change_plan table key column was high index old row is before after differs =
    let unlike : column_in column old ≢ column_in column row = λ same. differs (before ∙ same ∙ sym after) in
    ap (λ i. moves_entry table key i old row) is
    ∙ ap (λ b. cond b [] (entry_removed (index_tree table) (index_key column key old) ∷ entry_inserted (index_tree table)
    (index_key column key row) ∷ [])) (ne_eqb (column_in column old) (column_in column row) unlike)
    ∙ rw (before, after) refl

pub change_none : (table key : ℕ) (index : Option ℕ) (old row : Row) → index ≡ None → moves_entry table key index old row ≡ []
change_none table key index old row is = rw is refl

pub change_same : (table key column was high : ℕ) (index : Option ℕ) (old row : Row) → index ≡ Some column → was ≡ column_in column old
    → high ≡ column_in column row → was ≡ high → moves_entry table key index old row ≡ []
change_same table key column was high index old row is before after same =
    ap (λ i. moves_entry table key i old row) is
    ∙ ap (λ b. cond b [] (entry_removed (index_tree table) (index_key column key old) ∷ entry_inserted (index_tree table)
    (index_key column key row) ∷ [])) (eq-eqb (column_in column old) (column_in column row) (sym before ∙ same ∙ after))

pub change_inserts : (table key column was high : ℕ) (index : Option ℕ) (found : Found) (first now : Meaning) (state : State)
    (held : Held) (between : Places) → table < table_limit → index ≡ Some column → was ≡ column_in column found.row → was ≢ high
    → Has first table key index found state held → Shaped now state between
    → HasMaps (all_moved found.rid (entry_removed (index_tree table) (record { high = was; low = key }) ∷ []) (maps_of held.0)) between
    → TreeHas now (index_tree table) (record { high = high; low = key }) None state between
change_inserts table key column was high index found first now state held between low is before differs has shape maps =
    let I : Key = record { high = high; low = key } in
    let W : Key = record { high = was; low = key } in
    let f : ℕ → Key → Option ℕ = λ n k. record_of_key (held.0.leaves n) k in
    let indexed = column_of first table column index state held low is has.0 in
    let none : f (index_tree table) I ≡ None =
    entry_is (overlay first.writes state) held.0 held.1 table key column found.row low has.0.0.tied has.1.1 indexed I refl
    ∙ ap (λ b. cond b (held.0.row_at table key) None) (ne_eqb (column_in column found.row) high (λ same. differs (before ∙ same))) in (
      of_index table column between (maps.column_at table ∙ indexed),
      shape,
      maps.tree (index_tree table) I ∙ key_here (index_tree table) W None f I ∙ ap (cond (is_same I W) None) none
          ∙ either_none (is_same I W),
    )

-- ---- keys fit

fit_with : (tables tables' : TableMap) (table key : ℕ) (row : Option Row) → key < 2 ^ 64 → TablesWith table key row tables tables'
    → KeysFit tables → KeysFit tables'
fit_with tables tables' table key row below becomes fit = λ other number found is. elim (eqb_tells number key) as (λ _. number < 2 ^ 64) [
  | inl same ↦ subst (λ k. k < 2 ^ 64) (sym same.1) below
  | inr differs ↦ fit other number found
      (sym (becomes.rows other number ∙ set_away table key row (value_at tables) other number (λ both. differs.1 both.1)) ∙ is)
]

-- ---- all moves were made

set_at_here : (table key : ℕ) (x : Option ℕ) (f : ℕ → ℕ → Option ℕ) → set_at table key x f table key ≡ x
set_at_here table key x f = set_here table key x f key ∙ ap (λ b. cond b x (f table key)) (eq-eqb key key refl)

enter_row_at : (table key rid : ℕ) (index : Option ℕ) (row : Row) (places : Places)
    → (all_moved rid (enter_moves table key index row) (maps_of places)).row_at table key ≡ Some rid
enter_row_at table key rid None row places = set_at_here table key (Some rid) places.row_at
enter_row_at table key rid (Some column) row places = set_at_here table key (Some rid) places.row_at

moved_or_not : (test : Bool) (table key rid : ℕ) (a b : Move) (maps : Maps)
    → ((m : Maps) → (moved rid a m).row_at table key ≡ m.row_at table key)
    → ((m : Maps) → (moved rid b m).row_at table key ≡ m.row_at table key) → (all_moved rid (cond test [] (a ∷ b ∷ [])) maps).row_at
    table key ≡ maps.row_at table key
moved_or_not true table key rid a b maps one two = refl
moved_or_not false table key rid a b maps one two = two (moved rid a maps) ∙ one maps

change_row_at : (table key rid : ℕ) (index : Option ℕ) (old row : Row) (places : Places)
    → (all_moved rid (moves_entry table key index old row) (maps_of places)).row_at table key ≡ places.row_at table key
change_row_at table key rid None old row places = refl
change_row_at table key rid (Some column) old row places =
    moved_or_not (column_in column old == column_in column row) table key rid
    (entry_removed (index_tree table) (index_key column key old)) (entry_inserted (index_tree table) (index_key column key row))
    (maps_of places) (λ m. refl) (λ m. refl)

pub becomes_entered : (table key rid : ℕ) (index : Option ℕ) (row : Row) (first now : Meaning) (asked : ℕ) (state : State) (held : Held)
    → table < table_limit → key < 2 ^ 64 → length row ≡ 6 → Lacks first table key index state held → Midway table key rid (row_words row)
    (enter_moves table key index row) first now asked state held.0 → Becomes (enter_moves table key index row)
    (with_value held.1 table key row) now asked state held
becomes_entered table key rid index row first now asked state held low below six lacks m =
    let words = m.here (m.maps.row_at table key ∙ enter_row_at table key rid index row held.0) in (
      m.between,
      record {
        shape = m.shape;
        tied = tied_entered table key rid row index (overlay first.writes state) (overlay now.writes state) held.0 m.between held.1 low
            lacks.0.0.tied lacks.0.1 lacks.1.1 six words m.others m.maps;
        fit = fit_with held.1 (with_value held.1 table key row) table key (Some row) below (with_value_rows held.1 table key row)
            lacks.0.0.fit;
      },
      m.follows,
    )

pub becomes_departed : (table key : ℕ) (index : Option ℕ) (found : Found) (first now : Meaning) (asked : ℕ) (state : State) (held : Held)
    → table < table_limit → key < 2 ^ 64 → Has first table key index found state held → Midway table key found.rid (row_words found.row)
    (leave_moves table key index found.row) first now asked state held.0 → Becomes (leave_moves table key index found.row)
    (without held.1 table key) now asked state held
becomes_departed table key index found first now asked state held low below has m = (
  m.between,
  record {
    shape = m.shape;
    tied = tied_departed table key found.rid found.row index (overlay first.writes state) (overlay now.writes state) held.0 m.between
        held.1 low has.0.0.tied has.0.1 has.1.1 m.others m.maps;
    fit = fit_with held.1 (without held.1 table key) table key None below (without_rows held.1 table key) has.0.0.fit;
  },
  m.follows,
)

pub becomes_changed : (table key : ℕ) (index : Option ℕ) (found : Found) (row : Row) (first now : Meaning) (asked : ℕ) (state : State)
    (held : Held) → table < table_limit → key < 2 ^ 64 → length row ≡ 6 → Has first table key index found state held
    → Midway table key found.rid (row_words row) (moves_entry table key index found.row row) first now asked state held.0
    → Becomes (moves_entry table key index found.row row) (with_value held.1 table key row) now asked state held
becomes_changed table key index found row first now asked state held low below six has m =
    let words = m.here (m.maps.row_at table key ∙ change_row_at table key found.rid index found.row row held.0 ∙ has.1.0) in (
      m.between,
      record {
        shape = m.shape;
        tied = tied_changed table key found.rid found.row row (overlay first.writes state) (overlay now.writes state) held.0 m.between
            held.1 low has.0.0.tied has.1.1 has.1.0 six words m.others index has.0.1 m.maps;
        fit = fit_with held.1 (with_value held.1 table key row) table key (Some row) below (with_value_rows held.1 table key row)
            has.0.0.fit;
      },
      m.follows,
    )
