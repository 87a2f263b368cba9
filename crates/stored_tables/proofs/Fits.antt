-- A state of so many records stands for tables at that size too: each record that is named is present, and no row is too long.
use Rattle.std.proofs.Common.{◌≡◌, ◌≢◌, ℕ, ◌+◌, ◌-◌, ◌<◌, ◌≤◌, zero, suc, Bool, true, false, cond, ◌==◌, List, [], ◌∷◌, ◌++◌, length, get_or, Option, None, Some, All, refl, sym, ap, ◌∙◌, arith, subst, inl, inr, eq-eqb, ne_eqb}
use Rattle.std.specs.Prelude.{IfSome, MatchOption, AllPairs}
use Rattle.std.proofs.lemmas.Bool.{cases_lt}
use Rattle.std.proofs.lemmas.Option.{none-some}
use Rattle.std.proofs.lemmas.List.Elements.{All-head, All-tail, All-cons, All-nil, All-from_get_or, All-get_or}
use Rattle.plain_data.specs.State.{State}
use Rattle.hash_index.specs.Node.{IsNode, next_node, pairs_of}
use Rattle.hash_index.specs.Chain.{Leads, IsChain, start_of, record_at, record_of, row_pairs, bucket_of}
use Rattle.ordered_index.specs.declared.key.Key.{Key}
use Rattle.ordered_index.specs.declared.node.Kind.{Kind}
use Rattle.ordered_index.specs.declared.node.Kind.TheVariants.{Leaf, Inner}
use Rattle.ordered_index.specs.Keys.{first_key, Rising}
use Rattle.ordered_index.specs.Node.{Content, next_leaf}
use Rattle.ordered_index.specs.Tree.{IsTree, IsAt, Stand, Descends, Follow, named, row_names, row_entries, first_record, record_of_key}
use Rattle.ordered_index.proofs.Entries.{entry_at-place}
use Rattle.ordered_index.proofs.Leaves.{leaves_rising}
use Rattle.replay_model.specs.TableMap.{TableMap, Row, column_in, value_at}
use Rattle.stored_tables.specs.Places.{Places, base_of, root_of, index_tree, table_limit, tree_limit}
use Rattle.stored_tables.specs.Shape.{IsShape}
use Rattle.stored_tables.specs.Tables.{StandsFor, IsRow, indexed_record, row_words}
use Rattle.stored_tables.specs.Laws.{FitsRecords}
use Rattle.stored_tables.proofs.Short.{AllBelow, short_row}

all_front : {X : Type 0} (P : X → Type 0) (xs ys : List X) → All P (xs ++ ys) → All P xs
all_front P [] ys all = All-nil P
all_front P (x ∷ xs) ys all = All-cons P x xs (All-head P x (xs ++ ys) all) (all_front P xs ys (All-tail P x (xs ++ ys) all))

all_back : {X : Type 0} (P : X → Type 0) (xs ys : List X) → All P (xs ++ ys) → All P ys
all_back P [] ys all = all
all_back P (x ∷ xs) ys all = all_back P xs ys (All-tail P x (xs ++ ys) all)

-- ---- chains

module _ (size records : ℕ) (state : State) (below : AllBelow records state) where
  from_below : (position : ℕ) (from : Option ℕ) (row : List (ℕ × List ℕ)) → Leads size state position from row None → IfSome from (λ rid. rid < records)
  from_below position from [] leads = rw leads tt
  from_below position from (node ∷ row) leads = rw leads.0 (below node.0 node.1 leads.1)

  leads_fit : (position : ℕ) (from : Option ℕ) (row : List (ℕ × List ℕ)) → position + length row ≤ records → All (λ (pair : ℕ × ℕ). pair.1 < records) (row_pairs row) → Leads size state position from row None → Leads records state position from row None
  leads_fit position from [] short all leads = leads
  leads_fit position from (node ∷ row) short all leads =
      let P : ℕ × ℕ → Type 0 = λ pair. pair.1 < records in
      let is = leads.2 in
      let now : IsNode records position node.1 = record {
        few = is.few;
        placed = is.placed;
        in_store = omega (arith, short);
        next = from_below (position + 1) (next_node node.1) row leads.3;
        records = all_front P (pairs_of node.1) (row_pairs row) all;
      } in
      let later = all_back P (pairs_of node.1) (row_pairs row) all in
      (leads.0, leads.1, now, leads_fit (position + 1) (next_node node.1) row (omega (arith, short)) later leads.3)

  chain_fits : (base : ℕ) (rows : ℕ → List (ℕ × List ℕ)) → ((number : ℕ) → number < 511 → All (λ (pair : ℕ × ℕ). pair.1 < records) (row_pairs (rows number))) → IsChain size base state rows → IsChain records base state rows
  chain_fits base rows all chain = record {
    walks = λ number low.
        let leads = chain.walks number low in
        let short = short_row size records state 0 (start_of state (base + number)) None (rows number) below leads in
        leads_fit 0 (start_of state (base + number)) (rows number) (omega (arith, short)) (all number low) leads;
    own = chain.own;
    once = chain.once;
    apart = chain.apart;
  }

-- a pair of distinct ones is found by its key
pair_there : (x : ℕ × ℕ) (pairs : List (ℕ × ℕ)) (key : ℕ) → key ≢ x.0 → record_at (x ∷ pairs) key ≡ record_at pairs key
pair_there x pairs key differs = rw (ne_eqb key x.0 differs) refl

pair_found : (pairs : List (ℕ × ℕ)) (i : ℕ) (d : ℕ × ℕ) → AllPairs (λ a b. a.0 ≢ b.0) pairs → i < length pairs → record_at pairs (get_or pairs i d).0 ≡ Some (get_or pairs i d).1
pair_found [] i d once low = absurd (omega arith)
pair_found (x ∷ pairs) zero d once low = rw (eq-eqb x.0 x.0 refl) refl
pair_found (x ∷ pairs) (suc i) d once low =
    pair_there x pairs (get_or pairs i d).0 (λ same. once 0 (suc i) d (omega arith) (omega arith) (sym same))
    ∙ pair_found pairs i d (λ a b e less end. once (suc a) (suc b) e (omega arith) (omega arith)) (omega arith)

-- ---- trees

no_link : (records word : ℕ) (kind : Kind) (next : Option ℕ) → kind ≡ Inner → next_leaf kind word ≡ next → IfSome next (λ rid. rid < records)
no_link records word kind next is same =
    let none : None ≡ next = rw is at same in
    let P : Option ℕ → Type 0 = λ o. IfSome o (λ rid. rid < records) in
    let there : P None = tt in
    subst P none there

module _ (size records : ℕ) (state : State) (below : AllBelow records state) where
  abbrev IsBelow : Key × ℕ → Type 0
  IsBelow entry = entry.1 < records

  names_below : (kind : Kind) (row : List (ℕ × Content)) → Stand size state kind row → All IsBelow (row_names row)
  names_below kind [] stand = All-nil IsBelow
  names_below kind (x ∷ row) stand =
      All-cons IsBelow (named x) (row_names row) (below x.0 stand.0.words stand.0.here) (names_below kind row stand.2)

  -- a part of a tree is named by records below
  above_below : (above : List (Key × ℕ)) (levels : List (List (ℕ × Content))) (leaves : List (ℕ × Content)) → Descends size state above levels leaves → All IsBelow above
  above_below above [] leaves descends =
      let P : List (Key × ℕ) → Type 0 = All IsBelow in
      subst P descends.0 (names_below Leaf leaves descends.1)
  above_below above (level ∷ levels) leaves descends =
      let P : List (Key × ℕ) → Type 0 = All IsBelow in
      subst P descends.0 (names_below Inner level descends.1)

  node_fits : (node : ℕ × Content) → IsAt size state node → All IsBelow node.1.entries → IfSome node.1.next (λ rid. rid < records) → IsAt records state node
  node_fits node at all next =
      let sound = at.sound in
      record {
        words = at.words;
        here = at.here;
        holds = at.holds;
        sound = record { few = sound.few; enough = sound.enough; rising = sound.rising; records = all; first = sound.first; next = next };
      }

  inner_fits : (row : List (ℕ × Content)) → Stand size state Inner row → All IsBelow (row_entries row) → Stand records state Inner row
  inner_fits [] stand all = tt
  inner_fits (x ∷ row) stand all =
      let holds = stand.0.holds in
      let next = no_link records _ x.1.kind x.1.next stand.1 holds.next in
      let here = all_front IsBelow x.1.entries (row_entries row) all in
      let later = all_back IsBelow x.1.entries (row_entries row) all in
      (node_fits x stand.0 here next, stand.1, inner_fits row stand.2 later)

  first_below : (leaves : List (ℕ × Content)) → Stand size state Leaf leaves → IfSome (first_record leaves) (λ rid. rid < records)
  first_below [] stand = tt
  first_below (x ∷ leaves) stand = below x.0 stand.0.words stand.0.here

  leaves_fit : (leaves : List (ℕ × Content)) → Stand size state Leaf leaves → Follow leaves → All IsBelow (row_entries leaves) → Stand records state Leaf leaves
  leaves_fit [] stand follow all = tt
  leaves_fit (x ∷ leaves) stand follow all =
      let P : Option ℕ → Type 0 = λ o. IfSome o (λ rid. rid < records) in
      let next : P x.1.next = subst P (sym follow.0) (first_below leaves stand.2) in
      let here = all_front IsBelow x.1.entries (row_entries leaves) all in
      let later = all_back IsBelow x.1.entries (row_entries leaves) all in
      (node_fits x stand.0 here next, stand.1, leaves_fit leaves stand.2 follow.3 later)

  descends_fit : (above : List (Key × ℕ)) (levels : List (List (ℕ × Content))) (leaves : List (ℕ × Content)) → Descends size state above levels leaves → Follow leaves → All IsBelow (row_entries leaves) → Descends records state above levels leaves
  descends_fit above [] leaves descends follow all = (descends.0, leaves_fit leaves descends.1 follow all)
  descends_fit above (level ∷ levels) leaves descends follow all =
      let named = above_below (row_entries level) levels leaves descends.2 in
      (descends.0, inner_fits level descends.1 named, descends_fit (row_entries level) levels leaves descends.2 follow all)

  bottom : (above : List (Key × ℕ)) (levels : List (List (ℕ × Content))) (leaves : List (ℕ × Content)) → Descends size state above levels leaves → Stand size state Leaf leaves
  bottom above [] leaves descends = descends.1
  bottom above (level ∷ levels) leaves descends = bottom (row_entries level) levels leaves descends.2

  -- each entry of the leaves is found by its key
  entries_below : (leaves : List (ℕ × Content)) → Rising (row_entries leaves) → ((key : Key) (rid : ℕ) → record_of_key leaves key ≡ Some rid → rid < records) → All IsBelow (row_entries leaves)
  entries_below leaves rising each = All-from_get_or IsBelow (row_entries leaves) (first_key, 0) (λ i low.
      let entry = get_or (row_entries leaves) i (first_key, 0) in
      each entry.0 entry.1 (entry_at-place (row_entries leaves) i (first_key, 0) entry.0 rising low refl))

  root_fits : (value : Option (List ℕ)) (root : ℕ) (levels : List (List (ℕ × Content))) (leaves : List (ℕ × Content)) → Rising (row_names leaves) → Follow leaves → ((key : Key) (rid : ℕ) → record_of_key leaves key ≡ Some rid → rid < records)
      → MatchOption value ((levels ≡ []) × (leaves ≡ [])) (λ _. Descends size state ((first_key, root) ∷ []) levels leaves)
      → MatchOption value ((levels ≡ []) × (leaves ≡ [])) (λ _. Descends records state ((first_key, root) ∷ []) levels leaves)
  root_fits None root levels leaves rising follow each none = none
  root_fits (Some words) root levels leaves rising follow each descends =
      let entries = leaves_rising size state leaves (bottom ((first_key, root) ∷ []) levels leaves descends) rising follow in
      descends_fit ((first_key, root) ∷ []) levels leaves descends follow (entries_below leaves entries each)

  tree_fits : (root : ℕ) (levels : List (List (ℕ × Content))) (leaves : List (ℕ × Content)) → ((key : Key) (rid : ℕ) → record_of_key leaves key ≡ Some rid → rid < records) → IsTree size root state levels leaves → IsTree records root state levels leaves
  tree_fits root levels leaves each tree = record {
    descends = root_fits (state root) root levels leaves tree.rising tree.follow each tree.descends;
    rising = tree.rising;
    follow = tree.follow;
    once = tree.once;
    deep = tree.deep;
  }

-- ---- the records that chains and trees name are those of rows

taken_from : (test : Bool) (at : Option ℕ) (rid : ℕ) → cond test at None ≡ Some rid → at ≡ Some rid
taken_from true at rid is = is
taken_from false at rid is = absurd (none-some rid is)

indexed_from : (column : Option ℕ) (found : Option Row) (at : Option ℕ) (value rid : ℕ) → indexed_record column found at value ≡ Some rid → at ≡ Some rid
indexed_from None found at value rid is = absurd (none-some rid is)
indexed_from (Some column) None at value rid is = absurd (none-some rid is)
indexed_from (Some column) (Some row) at value rid is = taken_from (column_in column row == value) at rid is

module _ (size records : ℕ) (state : State) (places : Places) (tables : TableMap) (below : AllBelow records state) (stands : StandsFor size state places tables) where
  row_below : (table key rid : ℕ) → table < table_limit → places.row_at table key ≡ Some rid → rid < records
  row_below table key rid within is =
      let tied = stands.tied in
      let P : Option ℕ → Type 0 = λ o. IsRow state (value_at tables table key) o in
      let row : P (Some rid) = subst P is (tied.rows table key within) in
      below rid (row_words row.0) row.3

  pairs_below : (table : ℕ) → table < table_limit → (number : ℕ) → number < 511 → All (λ (pair : ℕ × ℕ). pair.1 < records) (row_pairs (places.rows table number))
  pairs_below table within number low =
      let tied = stands.tied in
      let shape = stands.shape in
      let chain = shape.chains table within in
      let pairs = row_pairs (places.rows table number) in
      All-from_get_or (λ (pair : ℕ × ℕ). pair.1 < records) pairs (0, 0) (λ i inside.
      let pair = get_or pairs i (0, 0) in
      let own = All-get_or (λ (pair : ℕ × ℕ). bucket_of pair.0 ≡ number) pairs i (0, 0) inside (chain.own number low) in
      let found : record_of (places.rows table) pair.0 ≡ Some pair.1 =
      ap (λ b. record_at (row_pairs (places.rows table b)) pair.0) own ∙ pair_found pairs i (0, 0) (chain.once number low) inside in
      row_below table pair.0 pair.1 within (sym (tied.chain table pair.0 within) ∙ found))

  table_entry : (table : ℕ) → table < table_limit → (key : Key) (rid : ℕ) → record_of_key (places.leaves table) key ≡ Some rid → rid < records
  table_entry table within key rid found =
      let tied = stands.tied in
      row_below table key.high rid within
      (taken_from (key.low == 0) (places.row_at table key.high) rid (sym (tied.tree table key within) ∙ found))

  index_entry : (table : ℕ) → table < table_limit → (key : Key) (rid : ℕ) → record_of_key (places.leaves (index_tree table)) key ≡ Some rid → rid < records
  index_entry table within key rid found =
      let tied = stands.tied in
      row_below table key.low rid within
      (indexed_from (places.column_at table) (value_at tables table key.low) (places.row_at table key.low) key.high rid
      (sym (tied.index table key within) ∙ found))

  entry_below : (number : ℕ) → number < tree_limit → (key : Key) (rid : ℕ) → record_of_key (places.leaves number) key ≡ Some rid → rid < records
  entry_below number within key rid found = elim (cases_lt number 8) as (λ _. rid < records) [
    | inl low ↦ table_entry number low key rid found
    | inr high ↦
        let is : number ≡ index_tree (number - 8) = omega (arith, high) in
        index_entry (number - 8) (omega (arith, within, high)) key rid (ap (λ n. record_of_key (places.leaves n) key) (sym is) ∙ found)
  ]

  pub shape_fits : IsShape records state places
  shape_fits =
      let shape = stands.shape in
      record {
        chains = λ table within. chain_fits size records state below (base_of table) (places.rows table) (pairs_below table within)
            (shape.chains table within);
        trees = λ number within. tree_fits size records state below (root_of number) (places.levels number) (places.leaves number)
            (entry_below number within) (shape.trees number within);
        heads = shape.heads;
        laid = shape.laid;
      }

present_below : (value : Option (List ℕ)) (records rid : ℕ) (words : List ℕ) → (records ≤ rid → value ≡ None) → value ≡ Some words → rid < records
present_below value records rid words absent is = elim (cases_lt rid records) as (λ _. rid < records) [
  | inl low ↦ low
  | inr high ↦ absurd (none-some words (sym (absent high) ∙ is))
]

pub fits_records : FitsRecords
fits_records size records state places tables is stands =
    let below : AllBelow records state = λ rid words here. present_below (state rid) records rid words (is.absent rid) here in
    record { shape = shape_fits size records state places tables below stands; tied = stands.tied; fit = stands.fit }
