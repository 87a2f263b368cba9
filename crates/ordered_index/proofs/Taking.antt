-- A node of the first row of a part takes an entry in.
use Rattle.std.proofs.Common.{◌≡◌, ◌≢◌, ℕ, ◌<◌, ◌≤◌, List, [], ◌∷◌, ◌++◌, get_or, take, drop, Option, None, Some, refl, sym, ap, ◌∙◌, arith, subst, inl, inr}
use Rattle.std.specs.Prelude.{option_to_list}
use Rattle.std.proofs.lemmas.List.{append-nil, take-append-drop}
use Rattle.std.proofs.lemmas.Option.{none-some}
use Rattle.plain_data.specs.State.{State, Agrees, overlay}
use Rattle.record_store.specs.Meaning.{Meaning, with_value, after_write, after_fresh}
use Rattle.record_store.specs.Store.{IsFresh}
use Rattle.record_store.proofs.Agreement.{overlay-unwritten, agrees-value_at}
use Rattle.record_store.proofs.Steps.{known_from_reads}
use Rattle.ordered_index.specs.declared.key.Key.{Key}
use Rattle.ordered_index.specs.declared.node.Kind.{Kind}
use Rattle.ordered_index.specs.declared.node.Kind.TheVariants.{Inner}
use Rattle.ordered_index.specs.Keys.{Before, Above, Rising}
use Rattle.ordered_index.specs.Node.{Content, IsSound, Begins, next_leaf, tree_node_words}
use Rattle.ordered_index.specs.Tree.{IsAt, Stand, Descends, In, Apart, named, row_names, row_entries, tree_records}
use Rattle.record_store.specs.Links.{records_of}
use Rattle.ordered_index.specs.Enter.{Part, Grown, PartWith, PutsEntry, with_entry, left_of, right_of, next_left}
use Rattle.ordered_index.specs.Splits.{NodeBecomes}
use Rattle.ordered_index.proofs.Entries.{above_right, rising_left, rising_right}
use Rattle.ordered_index.proofs.Rows.{stand_right}
use Rattle.ordered_index.proofs.Grown.{stand_present, stays_out, apart_both, records_of-append, in_right}
use Rattle.ordered_index.proofs.Growing.{Writes}
use Rattle.ordered_index.proofs.Written.{written_here, written_others, at_written}
use Rattle.ordered_index.proofs.Parting.{Fills, whole_sound, left_sound, right_sound, store_with, length-with, begins_with}
use Rattle.ordered_index.proofs.Entered.{inner_enters}

-- a row around the node that an entry names
pub record SplitAt (row : List (ℕ × Content)) (front : List (Key × ℕ)) (entry : Key × ℕ) (back : List (Key × ℕ)) : Type 0 where
  pub before : List (ℕ × Content)
  pub node : ℕ × Content
  pub after : List (ℕ × Content)
  pub joined : row ≡ before ++ node ∷ after
  pub names_before : row_names before ≡ front
  pub names : named node ≡ entry
  pub names_after : row_names after ≡ back

pub names_split : (row : List (ℕ × Content)) (front : List (Key × ℕ)) (entry : Key × ℕ) (back : List (Key × ℕ)) → row_names row ≡ front ++ entry ∷ back → SplitAt row front entry back
names_split [] [] entry back names = cc
names_split [] (e ∷ front) entry back names = cc
names_split (x ∷ row) [] entry back names =
    let first : named x ≡ entry = cc in
    let rest : row_names row ≡ back = cc in
    record { before = []; node = x; after = row; joined = refl; names_before = refl; names = first; names_after = rest }
names_split (x ∷ row) (e ∷ front) entry back names =
    let first : named x ≡ e = cc in
    let rest : row_names row ≡ front ++ entry ∷ back = cc in
    let more = names_split row front entry back rest in
    record {
      before = x ∷ more.before;
      node = more.node;
      after = more.after;
      joined = ap (λ ns. x ∷ ns) more.joined;
      names_before = ap (λ n. n ∷ row_names more.before) first ∙ ap (λ ns. e ∷ ns) more.names_before;
      names = more.names;
      names_after = more.names_after;
    }

-- the entries of each level rise, since the fences of the leaves do
inner_part : (low : Key) (es rest : List (Key × ℕ)) → Begins Inner low es → Rising (es ++ rest) → Above low rest
inner_part low [] rest begins rising = absurd begins
inner_part low (e ∷ es) rest begins rising = let P : Key → Type 0 = λ k. Above k rest in subst P begins (above_right e.0 es rest rising.0)

inner_first : (key low : Key) (es rest : List (Key × ℕ)) → Begins Inner low es → Above key (es ++ rest) → Before key low
inner_first key low [] rest begins above = absurd begins
inner_first key low (e ∷ es) rest begins above = let P : Key → Type 0 = λ k. Before key k in subst P begins above.0

pub inner_begins : (size : ℕ) (state : State) (node : ℕ × Content) → IsAt size state node → node.1.kind ≡ Inner → Begins Inner node.1.low node.1.entries
inner_begins size state node at kind = let P : Kind → Type 0 = λ k. Begins k node.1.low node.1.entries in subst P kind at.sound.first

pub above_names : (size : ℕ) (state : State) (key : Key) (row : List (ℕ × Content)) → Stand size state Inner row → Above key (row_entries row) → Above key (row_names row)
above_names size state key [] stand above = tt
above_names size state key (x ∷ row) stand above =
    (inner_first key x.1.low x.1.entries (row_entries row) (inner_begins size state x stand.0 stand.1) above, above_names size state key row stand.2 (above_right key x.1.entries (row_entries row) above))

rising_level : (size : ℕ) (state : State) (row : List (ℕ × Content)) → Stand size state Inner row → Rising (row_entries row) → Rising (row_names row)
rising_level size state [] stand rising = tt
rising_level size state (x ∷ row) stand rising =
    (above_names size state x.1.low row stand.2 (inner_part x.1.low x.1.entries (row_entries row) (inner_begins size state x stand.0 stand.1) rising), rising_level size state row stand.2 (rising_right x.1.entries (row_entries row) rising))

pub descends_rising : (size : ℕ) (state : State) (above : List (Key × ℕ)) (levels : List (List (ℕ × Content))) (leaves : List (ℕ × Content)) → Descends size state above levels leaves → Rising (row_names leaves) → Rising above
descends_rising size state above [] leaves descends rising = let P : List (Key × ℕ) → Type 0 = Rising in subst P descends.0 rising
descends_rising size state above (level ∷ levels) leaves descends rising =
    let P : List (Key × ℕ) → Type 0 = Rising in
    subst P descends.0 (rising_level size state level descends.1 (descends_rising size state (row_entries level) levels leaves descends.2 rising))

-- what is written for a node that takes an entry in
pub inner_next : (size : ℕ) (state : State) (node : ℕ × Content) → IsAt size state node → node.1.kind ≡ Inner → node.1.next ≡ None
inner_next size state node at kind = sym at.holds.next ∙ ap (λ k. next_leaf k (get_or at.words 31 0)) kind

pub whole_writes : (size fixed : ℕ) (before after : Meaning) (state : State) (kind : Kind) (at : ℕ) (node : Content) → after ≡ after_write before at (Some (tree_node_words node)) → IsSound size node → node.kind ≡ kind → (node.kind ≡ Inner → node.next ≡ None) → Writes size fixed (overlay before.writes state) (overlay after.writes state) kind at ((at, node) ∷ []) []
whole_writes size fixed before after state kind at node wrote sound is inner =
    let writes : after.writes ≡ with_value before.writes at (Some (tree_node_words node)) = ap (λ (m : Meaning). m.writes) wrote in
    record {
      records = refl;
      apart = tt;
      absent = λ new there. absurd there;
      stand = (at_written size (overlay after.writes state) at node (ap (λ w. overlay w state at) writes ∙ written_here before.writes state at (Some (tree_node_words node))) sound inner, is, tt);
      others = λ other differs out. ap (λ w. overlay w state other) writes ∙ written_others before.writes state at (Some (tree_node_words node)) other differs;
    }

-- a new record is absent in each state that agrees once it was given
pub absent_now : (between : Meaning) (fresh : ℕ) (state : State) → IsFresh between fresh → Agrees state (after_fresh between fresh).reads → overlay between.writes state fresh ≡ None
absent_now between fresh state is agrees =
    overlay-unwritten between.writes state fresh is.not_written
    ∙ agrees-value_at (after_fresh between fresh).reads state fresh None agrees (rw is.not_written (known_from_reads between.reads fresh is.absent))

pub parted_writes : (size : ℕ) (before after : Meaning) (state : State) (kind : Kind) (at fresh : ℕ) (left right : Content) (words : List ℕ) → Agrees state after.reads → IsFresh before fresh → overlay before.writes state at ≡ Some words → after ≡ after_write (after_write (after_fresh before fresh) fresh (Some (tree_node_words right))) at (Some (tree_node_words left)) → IsSound size left → IsSound size right → left.kind ≡ kind → right.kind ≡ kind → (left.kind ≡ Inner → left.next ≡ None) → (right.kind ≡ Inner → right.next ≡ None) → Writes size before.fixed (overlay before.writes state) (overlay after.writes state) kind at ((at, left) ∷ (fresh, right) ∷ []) (fresh ∷ [])
parted_writes size before after state kind at fresh left right words agrees is present wrote left_ok right_ok left_kind right_kind left_inner right_inner =
    let reads : after.reads ≡ (after_fresh before fresh).reads = ap (λ (m : Meaning). m.reads) wrote in
    let inner : List (ℕ × Option (List ℕ)) = with_value before.writes fresh (Some (tree_node_words right)) in
    let writes : after.writes ≡ with_value inner at (Some (tree_node_words left)) = ap (λ (m : Meaning). m.writes) wrote in
    let absent = absent_now before fresh state is (rw reads at agrees) in
    let differs : fresh ≢ at = λ same. none-some words (sym absent ∙ ap (overlay before.writes state) same ∙ present) in
    record {
      records = refl;
      apart = (λ there. there, tt);
      absent = λ new there. elim there as (λ _. (overlay before.writes state new ≡ None) × (before.fixed ≤ new)) [
        | inl same ↦ (ap (overlay before.writes state) (sym same) ∙ absent, rw (← same) is.new)
        | inr none ↦ absurd none
      ];
      stand = (
        at_written size (overlay after.writes state) at left (ap (λ w. overlay w state at) writes ∙ written_here inner state at (Some (tree_node_words left))) left_ok left_inner,
        left_kind,
        (at_written size (overlay after.writes state) fresh right (ap (λ w. overlay w state fresh) writes ∙ written_others inner state at (Some (tree_node_words left)) fresh differs ∙ written_here before.writes state fresh (Some (tree_node_words right))) right_ok right_inner, right_kind, tt),
      );
      others = λ other not_at out.
          ap (λ w. overlay w state other) writes
          ∙ written_others inner state at (Some (tree_node_words left)) other not_at
          ∙ written_others before.writes state fresh (Some (tree_node_words right)) other (λ same. out (inl (sym same)));
    }

-- a node of a level is as it was while the part below changed
pub row_same : (size fixed : ℕ) (state between : State) (kind : Kind) (before : List (ℕ × Content)) (node : ℕ × Content) (after : List (ℕ × Content)) (was now : List ℕ) → Stand size state kind (before ++ node ∷ after) → Apart (records_of (before ++ node ∷ after) ++ was) → Grown fixed state between was now → between node.0 ≡ state node.0
row_same size fixed state between kind before node after was now stand apart grown =
    let here : In node.0 (records_of (before ++ node ∷ after)) = rw (records_of-append before (node ∷ after)) (in_right node.0 (records_of before) (node.0 ∷ records_of after) (inl refl)) in
    let present = stand_present size state kind (before ++ node ∷ after) node.0 stand here in
    grown.outside node.0 (stays_out fixed state between was now node.0 present.0 grown (apart_both node.0 (records_of (before ++ node ∷ after)) was apart here) present.1)

-- what is left of a row of names once a node took an entry in
abbrev pub names_with : List (ℕ × Content) → ℕ × Content → Option (Key × ℕ) → List (ℕ × Content) → List (Key × ℕ)
names_with before node new after = row_names before ++ (named node ∷ (option_to_list new ++ row_names after))

-- the entries of an inner node with one more
pub inner_fills : (size rank : ℕ) (entry : Key × ℕ) (state between : State) (lefts : List (ℕ × Content)) (at : ℕ) (node : Content) (rights : List (ℕ × Content)) (levels' : List (List (ℕ × Content))) (leaves' : List (ℕ × Content)) → entry.1 < size → 0 < rank → IsAt size state (at, node) → node.kind ≡ Inner → Part size between (row_entries lefts ++ (with_entry node.entries rank entry ++ row_entries rights)) levels' leaves' → Fills size node.kind node.low (with_entry node.entries rank entry)
inner_fills size rank entry state between lefts at node rights levels' leaves' low some here kind part =
    let es = with_entry node.entries rank entry in
    let all = descends_rising size between (row_entries lefts ++ (es ++ row_entries rights)) levels' leaves' part.descends part.rising in
    let P : Kind → Type 0 = λ k. Begins k node.low es in
    record {
      rising = rising_left es (row_entries rights) (rising_right (row_entries lefts) (es ++ row_entries rights) all);
      records = store_with size node.entries rank entry low here.sound.records;
      first = subst P (sym kind) (begins_with node.low node.entries rank entry some (inner_begins size state (at, node) here kind));
    }

-- an inner node
pub inner_takes : (new : Option (Key × ℕ)) (size rid at rank : ℕ) (key : Key) (entry : Key × ℕ) (state between : State) (before after : Meaning) (agreed : State) (above : List (Key × ℕ)) (lefts : List (ℕ × Content)) (node : Content) (rights : List (ℕ × Content)) (levels : List (List (ℕ × Content))) (leaves : List (ℕ × Content)) (levels' : List (List (ℕ × Content))) (leaves' : List (ℕ × Content)) → between ≡ overlay before.writes agreed → before.size ≡ size → Agrees agreed after.reads → 0 < rank → entry.1 < size → node.kind ≡ Inner → Part size state above ((lefts ++ (at, node) ∷ rights) ∷ levels) leaves → PartWith size before.fixed key rid state between (row_entries lefts ++ (with_entry node.entries rank entry ++ row_entries rights)) levels leaves levels' leaves' → PutsEntry before after at node (with_entry node.entries rank entry) new → (mid : List (ℕ × Content)) × PartWith size before.fixed key rid state (overlay after.writes agreed) (names_with lefts (at, node) new rights) ((lefts ++ (at, node) ∷ rights) ∷ levels) leaves ((lefts ++ (mid ++ rights)) ∷ levels') leaves' × NodeBecomes (at, node) (with_entry node.entries rank entry) new mid
inner_takes None size rid at rank key entry state between before after agreed above lefts node rights levels leaves levels' leaves' is same agrees some low kind part below puts =
    let es = with_entry node.entries rank entry in
    let node' : Content = record node { entries = es } in
    let right = stand_right size state Inner lefts ((at, node) ∷ rights) part.descends.1 in
    let fills = inner_fills size rank entry state between lefts at node rights levels' leaves' low some right.0 right.1 below.part in
    let sound = whole_sound size node es right.0.sound fills (omega (arith, length-with node.entries rank entry)) puts.0 in
    let writes = whole_writes size before.fixed before after agreed Inner at node' puts.1 sound kind (inner_next size state (at, node) right.0) in
    let P : List (Key × ℕ) → Type 0 = λ names. PartWith size before.fixed key rid state between names levels leaves levels' leaves' in
    let W : State → Type 0 = λ s. Writes size before.fixed s (overlay after.writes agreed) Inner at ((at, node') ∷ []) [] in
    let shape : row_entries lefts ++ (es ++ row_entries rights) ≡ row_entries lefts ++ ((es ++ []) ++ row_entries rights) = ap (λ xs. row_entries lefts ++ (xs ++ row_entries rights)) (sym (append-nil es)) in
    ((at, node') ∷ [], inner_enters size before.fixed key rid state between (overlay after.writes agreed) above lefts at node ((at, node') ∷ []) rights [] levels leaves levels' leaves' part (subst P shape below) (subst W (sym is) writes), (puts.0, refl))
inner_takes (Some new) size rid at rank key entry state between before after agreed above lefts node rights levels leaves levels' leaves' is same agrees some low kind part below puts =
    let es = with_entry node.entries rank entry in
    let right = stand_right size state Inner lefts ((at, node) ∷ rights) part.descends.1 in
    let fills = inner_fills size rank entry state between lefts at node rights levels' leaves' low some right.0 right.1 below.part in
    let within : new.1 < size = rw same at puts.1.within in
    let left' : Content = left_of node es new.1 in
    let right' : Content = right_of node es in
    let present : overlay before.writes agreed at ≡ Some right.0.words = ap (λ (s : State). s at) (sym is) ∙ row_same size before.fixed state between Inner lefts (at, node) rights (tree_records levels leaves) (tree_records levels' leaves') part.descends.1 part.once below.grown ∙ right.0.here in
    let none = inner_next size state (at, node) right.0 in
    let writes = parted_writes size before after agreed Inner at new.1 left' right' right.0.words agrees puts.1 present puts.3 (left_sound size node es new.1 fills puts.0 within) (right_sound size node es right.0.sound fills puts.0) kind kind (λ inner. ap (λ k. next_left k new.1) inner) none in
    let P : List (Key × ℕ) → Type 0 = λ names. PartWith size before.fixed key rid state between names levels leaves levels' leaves' in
    let W : State → Type 0 = λ s. Writes size before.fixed s (overlay after.writes agreed) Inner at ((at, left') ∷ (new.1, right') ∷ []) (new.1 ∷ []) in
    let parts : take 5 es ++ (drop 5 es ++ []) ≡ es = ap (λ xs. take 5 es ++ xs) (append-nil (drop 5 es)) ∙ take-append-drop 5 es in
    let shape : row_entries lefts ++ (es ++ row_entries rights) ≡ row_entries lefts ++ ((take 5 es ++ (drop 5 es ++ [])) ++ row_entries rights) = ap (λ xs. row_entries lefts ++ (xs ++ row_entries rights)) (sym parts) in
    let Q : Key → Type 0 = λ k. PartWith size before.fixed key rid state (overlay after.writes agreed) (row_names lefts ++ ((node.low, at) ∷ (k, new.1) ∷ row_names rights)) ((lefts ++ (at, node) ∷ rights) ∷ levels) leaves ((lefts ++ (((at, left') ∷ (new.1, right') ∷ []) ++ rights)) ∷ levels') leaves' in
    ((at, left') ∷ (new.1, right') ∷ [], subst Q (sym puts.2) (inner_enters size before.fixed key rid state between (overlay after.writes agreed) above lefts at node ((at, left') ∷ (new.1, right') ∷ []) rights (new.1 ∷ []) levels leaves levels' leaves' part (subst P shape below) (subst W (sym is) writes)), (puts.0, puts.2, refl))
