-- What comes of a part below the entries of a node, by what came of the child that the walk went on to.
use Rattle.std.proofs.Common.{◌≡◌, ℕ, ◌-◌, ◌<◌, suc, List, [], ◌∷◌, ◌++◌, get_or, take, drop, Option, None, Some, refl, sym, ap, ◌∙◌, subst}
use Rattle.std.specs.Prelude.{option_to_list, IsSome, is_some}
use Rattle.std.proofs.lemmas.List.{append_assoc}
use Rattle.plain_data.specs.State.{State, Agrees, overlay}
use Rattle.record_store.specs.Meaning.{Meaning}
use Rattle.record_store.specs.Walks.{Extends, OnlyReads, ReadsGrow}
use Rattle.record_store.proofs.Agreement.{agrees-extends, size_same, fixed_same, writes_same}
use Rattle.ordered_index.specs.declared.key.Key.{Key}
use Rattle.ordered_index.specs.declared.node.Kind.{Kind}
use Rattle.ordered_index.specs.declared.node.Kind.TheVariants.{Leaf, Inner}
use Rattle.ordered_index.specs.declared.enter.Entering.{Entering}
use Rattle.ordered_index.specs.declared.enter.Entering.TheVariants.{There, Done, Takes}
use Rattle.ordered_index.specs.Keys.{NotAfter, Above, entry_at, first_key}
use Rattle.ordered_index.specs.Node.{Content}
use Rattle.ordered_index.specs.Tree.{IsAt, Stand, Descends, named, row_names, row_entries, tree_records, record_of_key}
use Rattle.record_store.specs.Links.{records_of}
use Rattle.record_store.specs.States.{EachState}
use Rattle.ordered_index.specs.Enter.{Part, PartWith, PutsEntry, with_entry, IsRank, IsEntered, EachEntered}
use Rattle.ordered_index.specs.Splits.{PartTakes}
use Rattle.ordered_index.specs.Splits.PartTakes.{leaf as leaf_part, stays, takes}
use Rattle.ordered_index.proofs.Entries.{above_append, last_at-low}
use Rattle.ordered_index.proofs.Rows.{Home, above_row, inner_from, node_same, stand_right}
use Rattle.ordered_index.proofs.Trees.{home_record}
use Rattle.ordered_index.proofs.Leaves.{row_around}
use Rattle.ordered_index.proofs.Grown.{level_keeps, apart_right}
use Rattle.ordered_index.proofs.Parting.{Around, around}
use Rattle.ordered_index.proofs.Taking.{SplitAt, names_split, names_with, inner_takes}
use Rattle.ordered_index.proofs.LeafTaking.{leaf_takes}

-- where the child stands
pub data Stands (size : ℕ) (state : State) (front : List (Key × ℕ)) (child : Key × ℕ) (back : List (Key × ℕ)) (node : ℕ × Content) : List (List (ℕ × Content)) → List (ℕ × Content) → Type 0 where
  on_leaves : (lefts rights : List (ℕ × Content)) → row_names lefts ≡ front → row_names rights ≡ back → node.1.kind ≡ Leaf → Part size state (front ++ child ∷ back) [] (lefts ++ node ∷ rights) → Stands size state front child back node [] (lefts ++ node ∷ rights)
  on_level : (lefts rights : List (ℕ × Content)) (levels : List (List (ℕ × Content))) (leaves : List (ℕ × Content)) → row_names lefts ≡ front → row_names rights ≡ back → node.1.kind ≡ Inner → Part size state (front ++ child ∷ back) ((lefts ++ node ∷ rights) ∷ levels) leaves → Stands size state front child back node ((lefts ++ node ∷ rights) ∷ levels) leaves

split_node : (size : ℕ) (state : State) (kind : Kind) (row : List (ℕ × Content)) (front : List (Key × ℕ)) (child : Key × ℕ) (back : List (Key × ℕ)) (node : ℕ × Content) (s : SplitAt row front child back) → Stand size state kind row → named node ≡ child → IsAt size state node → (row ≡ s.before ++ node ∷ s.after) × (node.1.kind ≡ kind)
split_node size state kind row front child back node s stand names at =
    let S : List (ℕ × Content) → Type 0 = Stand size state kind in
    let right = stand_right size state kind s.before (s.node ∷ s.after) (subst S s.joined stand) in
    let same : s.node ≡ node = node_same size state s.node node (ap (λ (e : Key × ℕ). e.1) (s.names ∙ sym names)) right.0 at in
    (s.joined ∙ ap (λ n. s.before ++ n ∷ s.after) same, ap (λ (n : ℕ × Content). n.1.kind) (sym same) ∙ right.1)

pub stands : (size : ℕ) (state : State) (front : List (Key × ℕ)) (child : Key × ℕ) (back : List (Key × ℕ)) (node : ℕ × Content) (levels : List (List (ℕ × Content))) (leaves : List (ℕ × Content)) → Part size state (front ++ child ∷ back) levels leaves → named node ≡ child → IsAt size state node → Stands size state front child back node levels leaves
stands size state front child back node [] leaves part names at =
    let s = names_split leaves front child back part.descends.0 in
    let is = split_node size state Leaf leaves front child back node s part.descends.1 names at in
    let P : List (ℕ × Content) → Type 0 = λ ls. Part size state (front ++ child ∷ back) [] ls in
    let Q : List (ℕ × Content) → Type 0 = λ ls. Stands size state front child back node [] ls in
    subst Q (sym is.0) (on_leaves s.before s.after s.names_before s.names_after is.1 (subst P is.0 part))
stands size state front child back node (level ∷ levels) leaves part names at =
    let s = names_split level front child back part.descends.0 in
    let is = split_node size state Inner level front child back node s part.descends.1 names at in
    let P : List (ℕ × Content) → Type 0 = λ l. Part size state (front ++ child ∷ back) (l ∷ levels) leaves in
    let Q : List (ℕ × Content) → Type 0 = λ l. Stands size state front child back node (l ∷ levels) leaves in
    subst Q (sym is.0) (on_level s.before s.after levels leaves s.names_before s.names_after is.1 (subst P is.0 part))

-- the part below a level
pub part_below : (size : ℕ) (state : State) (above : List (Key × ℕ)) (lefts : List (ℕ × Content)) (node : ℕ × Content) (rights : List (ℕ × Content)) (levels : List (List (ℕ × Content))) (leaves : List (ℕ × Content)) → Part size state above ((lefts ++ node ∷ rights) ∷ levels) leaves → Part size state (row_entries lefts ++ (node.1.entries ++ row_entries rights)) levels leaves
part_below size state above lefts node rights levels leaves part =
    let D : List (Key × ℕ) → Type 0 = λ es. Descends size state es levels leaves in
    record {
      descends = subst D (row_around lefts node rights) part.descends.2;
      rising = part.rising;
      follow = part.follow;
      once = apart_right (records_of (lefts ++ node ∷ rights)) (tree_records levels leaves) part.once;
    }

pub rights_above : (size : ℕ) (state : State) (key : Key) (above : List (Key × ℕ)) (lefts : List (ℕ × Content)) (node : ℕ × Content) (rights : List (ℕ × Content)) (levels : List (List (ℕ × Content))) (leaves : List (ℕ × Content)) → Part size state above ((lefts ++ node ∷ rights) ∷ levels) leaves → Above key (row_names rights) → Above key (row_entries rights)
rights_above size state key above lefts node rights levels leaves part later = above_row key rights (inner_from size state rights (stand_right size state Inner lefts (node ∷ rights) part.descends.1).2) later

-- what was and what comes of the entries
abbrev pub outcome_of : Option (Key × ℕ) → Entering
outcome_of None = Done
outcome_of (Some new) = Takes new

pub shape_none : (xs front : List (Key × ℕ)) (child : Key × ℕ) (back ys entries : List (Key × ℕ)) → entries ≡ front ++ child ∷ back → (xs ++ front) ++ (child ∷ (back ++ ys)) ≡ xs ++ (entries ++ ys)
shape_none xs front child back ys entries whole =
    append_assoc xs front (child ∷ (back ++ ys))
    ∙ ap (λ es. xs ++ es) (sym (append_assoc front (child ∷ back) ys) ∙ ap (λ es. es ++ ys) (sym whole))

shape_some : (xs front : List (Key × ℕ)) (child new : Key × ℕ) (back ys taken : List (Key × ℕ)) → taken ≡ front ++ child ∷ [] → (xs ++ front) ++ (child ∷ new ∷ (back ++ ys)) ≡ xs ++ ((taken ++ new ∷ back) ++ ys)
shape_some xs front child new back ys taken is =
    append_assoc xs front (child ∷ new ∷ (back ++ ys))
    ∙ ap (λ es. xs ++ es) (sym (append_assoc front (child ∷ new ∷ back) ys) ∙ ap (λ es. es ++ ys) (sym (append_assoc front (child ∷ []) (new ∷ back)) ∙ ap (λ es. es ++ new ∷ back) (sym is)))

names_are : (new : Option (Key × ℕ)) (lefts : List (ℕ × Content)) (node : ℕ × Content) (rights : List (ℕ × Content)) (front : List (Key × ℕ)) (child : Key × ℕ) (back : List (Key × ℕ)) → row_names lefts ≡ front → named node ≡ child → row_names rights ≡ back → names_with lefts node new rights ≡ front ++ (child ∷ (option_to_list new ++ back))
names_are new lefts node rights front child back first names last =
    ap (λ ns. ns ++ (named node ∷ (option_to_list new ++ row_names rights))) first
    ∙ ap (λ e. front ++ (e ∷ (option_to_list new ++ row_names rights))) names
    ∙ ap (λ ns. front ++ (child ∷ (option_to_list new ++ ns))) last

pub finish : (new : Option (Key × ℕ)) (size fixed : ℕ) (key : Key) (rid : ℕ) (state state' : State) (xs ys entries : List (Key × ℕ)) (rank : ℕ) (child : Key × ℕ) (a : Around entries rank child) (lefts : List (ℕ × Content)) (node : ℕ × Content) (rights : List (ℕ × Content)) (levels : List (List (ℕ × Content))) (leaves : List (ℕ × Content)) (levels' : List (List (ℕ × Content))) (leaves' : List (ℕ × Content)) → row_names lefts ≡ xs ++ a.front → named node ≡ child → row_names rights ≡ drop rank entries ++ ys → PartWith size fixed key rid state state' (names_with lefts node new rights) levels leaves levels' leaves' → PartTakes key rid levels leaves levels' leaves' new → IsEntered size fixed key rid state state' xs entries rank ys levels leaves (outcome_of new)
finish None size fixed key rid state state' xs ys entries rank child a lefts node rights levels leaves levels' leaves' first names last part how =
    let P : List (Key × ℕ) → Type 0 = λ es. PartWith size fixed key rid state state' es levels leaves levels' leaves' in
    (levels', leaves', subst P (names_are None lefts node rights (xs ++ a.front) child (drop rank entries ++ ys) first names last ∙ shape_none xs a.front child (drop rank entries) ys entries a.whole) part, how)
finish (Some new) size fixed key rid state state' xs ys entries rank child a lefts node rights levels leaves levels' leaves' first names last part how =
    let P : List (Key × ℕ) → Type 0 = λ es. PartWith size fixed key rid state state' es levels leaves levels' leaves' in
    (levels', leaves', subst P (names_are (Some new) lefts node rights (xs ++ a.front) child (drop rank entries ++ ys) first names last ∙ shape_some xs a.front child new (drop rank entries) ys (take rank entries) a.taken) part, how)

-- the child for the key, read from the store
pub record IsChild (size : ℕ) (key : Key) (entries : List (Key × ℕ)) (rank : ℕ) (child : Key × ℕ) (node : Content) : Type 0 where
  pub is : IsRank key entries rank
  pub some : 0 < rank
  pub at : child ≡ get_or entries (rank - 1) (first_key, 0)
  pub fence : node.low ≡ child.0

pub child_around : (size : ℕ) (key : Key) (entries : List (Key × ℕ)) (rank : ℕ) (child : Key × ℕ) (node : Content) → IsChild size key entries rank child node → Around entries rank child
child_around size key entries rank child node c = let P : Key × ℕ → Type 0 = Around entries rank in subst P (sym c.at) (around entries rank c.some c.is.within)

pub child_low : (size : ℕ) (key : Key) (entries : List (Key × ℕ)) (rank : ℕ) (child : Key × ℕ) (node : Content) → IsChild size key entries rank child node → NotAfter node.low key
child_low size key entries rank child node c =
    let low = last_at-low entries key (get_or entries (rank - 1) (first_key, 0)) (c.is.last (first_key, 0) c.some) in
    let P : Key → Type 0 = λ k. NotAfter k key in
    subst P (ap (λ (e : Key × ℕ). e.0) (sym c.at) ∙ sym c.fence) low

pub child_stands : (size : ℕ) (state : State) (key : Key) (entries : List (Key × ℕ)) (rank : ℕ) (child : Key × ℕ) (node : Content) (xs ys : List (Key × ℕ)) (levels : List (List (ℕ × Content))) (leaves : List (ℕ × Content)) (c : IsChild size key entries rank child node) → IsAt size state (child.1, node) → Part size state (xs ++ (entries ++ ys)) levels leaves → Stands size state (xs ++ (child_around size key entries rank child node c).front) child (drop rank entries ++ ys) (child.1, node) levels leaves
child_stands size state key entries rank child node xs ys levels leaves c at part =
    let a = child_around size key entries rank child node c in
    let P : List (Key × ℕ) → Type 0 = λ es. Part size state es levels leaves in
    stands size state (xs ++ a.front) child (drop rank entries ++ ys) (child.1, node) levels leaves (subst P (sym (shape_none xs a.front child (drop rank entries) ys entries a.whole)) part) (ap (λ k. (k, child.1)) c.fence) at

-- the key was there
there_in : (size fixed : ℕ) (key : Key) (rid : ℕ) (state state' : State) (front : List (Key × ℕ)) (child : Key × ℕ) (back : List (Key × ℕ)) (node : ℕ × Content) (rank : ℕ) (levels : List (List (ℕ × Content))) (leaves : List (ℕ × Content)) → Stands size state front child back node levels leaves → NotAfter node.1.low key → Above key back → (node.1.kind ≡ Leaf → IsSome (entry_at node.1.entries key)) → (node.1.kind ≡ Inner → (xs ys : List (Key × ℕ)) (levels : List (List (ℕ × Content))) (leaves : List (ℕ × Content)) → Part size state (xs ++ (node.1.entries ++ ys)) levels leaves → Above key ys → IsSome (record_of_key leaves key)) → IsSome (record_of_key leaves key)
there_in size fixed key rid state state' front child back node rank _ _ (on_leaves lefts rights first last kind part) low above leaf inner =
    let A : List (Key × ℕ) → Type 0 = Above key in
    let home : Home (lefts ++ node ∷ rights) key (named node) = record { before = lefts; node = node; after = rights; joined = refl; names = refl; low = low; above = subst A (sym last) above } in
    ap is_some (home_record (lefts ++ node ∷ rights) key (named node) home part.rising part.follow) ∙ leaf kind
there_in size fixed key rid state state' front child back node rank _ _ (on_level lefts rights levels leaves first last kind part) low above leaf inner =
    let A : List (Key × ℕ) → Type 0 = Above key in
    inner kind (row_entries lefts) (row_entries rights) levels leaves (part_below size state (front ++ child ∷ back) lefts node rights levels leaves part) (rights_above size state key (front ++ child ∷ back) lefts node rights levels leaves part (subst A (sym last) above))

abbrev pub reads_of : Meaning → Meaning → Meaning
reads_of before after = record before { reads = after.reads }

pub enter_there : (m0 m1 m2 : Meaning) (key : Key) (rid : ℕ) (entries : List (Key × ℕ)) (rank : ℕ) (child : Key × ℕ) (node : Content) (child_rank : ℕ) → Extends m1.reads m2.reads → IsChild m0.size key entries rank child node → EachState m0 m1 (λ state. IsAt m0.size state (child.1, node)) → (node.kind ≡ Leaf → IsSome (entry_at node.entries key)) → (node.kind ≡ Inner → EachEntered (reads_of m0 m1) m2 key rid node.entries child_rank There) → EachEntered m0 m2 key rid entries rank There
enter_there m0 m1 m2 key rid entries rank child node child_rank extends c at leaf inner = λ state xs ys levels leaves agrees part later.
    let here = at state (agrees-extends m1.reads m2.reads state extends agrees) in
    there_in m0.size m0.fixed key rid (overlay m0.writes state) (overlay m2.writes state) _ child (drop rank entries ++ ys) (child.1, node) rank levels leaves (child_stands m0.size (overlay m0.writes state) key entries rank child node xs ys levels leaves c here part) (child_low m0.size key entries rank child node c) (above_append key (drop rank entries) ys c.is.above later) leaf
    (λ kind xs' ys' levels' leaves' part' above'. inner kind state xs' ys' levels' leaves' agrees part' above')

-- the part below took the entry in, and the child stays as it was
done_in : (size fixed : ℕ) (key : Key) (rid : ℕ) (state state' : State) (front : List (Key × ℕ)) (child : Key × ℕ) (back : List (Key × ℕ)) (node : ℕ × Content) (levels : List (List (ℕ × Content))) (leaves : List (ℕ × Content)) → Stands size state front child back node levels leaves → Above key back → (node.1.kind ≡ Leaf → ⊥) → (node.1.kind ≡ Inner → (xs ys : List (Key × ℕ)) (levels : List (List (ℕ × Content))) (leaves : List (ℕ × Content)) → Part size state (xs ++ (node.1.entries ++ ys)) levels leaves → Above key ys → (levels' : List (List (ℕ × Content))) × (leaves' : List (ℕ × Content)) × PartWith size fixed key rid state state' (xs ++ (node.1.entries ++ ys)) levels leaves levels' leaves' × PartTakes key rid levels leaves levels' leaves' None) → (levels' : List (List (ℕ × Content))) × (leaves' : List (ℕ × Content)) × PartWith size fixed key rid state state' (front ++ child ∷ back) levels leaves levels' leaves' × PartTakes key rid levels leaves levels' leaves' None
done_in size fixed key rid state state' front child back node _ _ (on_leaves lefts rights first last kind part) above leaf inner = absurd (leaf kind)
done_in size fixed key rid state state' front child back node _ _ (on_level lefts rights levels leaves first last kind part) above leaf inner =
    let A : List (Key × ℕ) → Type 0 = Above key in
    let below = inner kind (row_entries lefts) (row_entries rights) levels leaves (part_below size state (front ++ child ∷ back) lefts node rights levels leaves part) (rights_above size state key (front ++ child ∷ back) lefts node rights levels leaves part (subst A (sym last) above)) in
    let D : List (Key × ℕ) → Type 0 = λ es. Descends size state' es below.0 below.1 in
    let level = lefts ++ node ∷ rights in
    let kept = level_keeps size fixed state state' (front ++ child ∷ back) level levels leaves below.0 below.1 part.descends.0 part.descends.1 part.once (record { descends = subst D (sym (row_around lefts node rights)) below.2.part.descends; once = below.2.part.once; grown = below.2.grown }) in (
      level ∷ below.0,
      below.1,
      record {
        part = record { descends = kept.descends; rising = below.2.part.rising; follow = below.2.part.follow; once = kept.once };
        grown = kept.grown;
        at_key = below.2.at_key;
        absent = below.2.absent;
        leaves_grow = below.2.leaves_grow;
        same_depth = ap suc below.2.same_depth;
      },
      stays level levels below.0 leaves below.1 below.3,
    )

pub enter_done : (m0 m1 m2 : Meaning) (key : Key) (rid : ℕ) (entries : List (Key × ℕ)) (rank : ℕ) (child : Key × ℕ) (node : Content) (child_rank : ℕ) → Extends m1.reads m2.reads → IsChild m0.size key entries rank child node → EachState m0 m1 (λ state. IsAt m0.size state (child.1, node)) → (node.kind ≡ Leaf → ⊥) → (node.kind ≡ Inner → EachEntered (reads_of m0 m1) m2 key rid node.entries child_rank Done) → EachEntered m0 m2 key rid entries rank Done
enter_done m0 m1 m2 key rid entries rank child node child_rank extends c at leaf inner = λ state xs ys levels leaves agrees part later.
    let here = at state (agrees-extends m1.reads m2.reads state extends agrees) in
    let a = child_around m0.size key entries rank child node c in
    let done = done_in m0.size m0.fixed key rid (overlay m0.writes state) (overlay m2.writes state) (xs ++ a.front) child (drop rank entries ++ ys) (child.1, node) levels leaves (child_stands m0.size (overlay m0.writes state) key entries rank child node xs ys levels leaves c here part) (above_append key (drop rank entries) ys c.is.above later) leaf
    (λ kind xs' ys' levels' leaves' part' above'. inner kind state xs' ys' levels' leaves' agrees part' above') in
    let P : List (Key × ℕ) → Type 0 = λ es. PartWith m0.size m0.fixed key rid (overlay m0.writes state) (overlay m2.writes state) es levels leaves done.0 done.1 in
    (done.0, done.1, subst P (shape_none xs a.front child (drop rank entries) ys entries a.whole) done.2, done.3)

-- the child takes an entry in
takes_in : (new : Option (Key × ℕ)) (size rid : ℕ) (key : Key) (m2 m3 : Meaning) (state agreed : State) (xs ys entries : List (Key × ℕ)) (rank : ℕ) (child : Key × ℕ) (a : Around entries rank child) (node : ℕ × Content) (child_rank : ℕ) (entry : Key × ℕ) (levels : List (List (ℕ × Content))) (leaves : List (ℕ × Content)) → Stands size state (xs ++ a.front) child (drop rank entries ++ ys) node levels leaves → named node ≡ child → NotAfter node.1.low key → Above key (drop rank entries ++ ys) → m2.size ≡ size → Agrees agreed m3.reads → rid < size → entry.1 < size → IsRank key node.1.entries child_rank → (node.1.kind ≡ Inner → 0 < child_rank) → (node.1.kind ≡ Leaf → (entry ≡ (key, rid)) × (entry_at node.1.entries key ≡ None) × (state ≡ overlay m2.writes agreed)) → (node.1.kind ≡ Inner → (xs ys : List (Key × ℕ)) (levels : List (List (ℕ × Content))) (leaves : List (ℕ × Content)) → Part size state (xs ++ (node.1.entries ++ ys)) levels leaves → Above key ys → (levels' : List (List (ℕ × Content))) × (leaves' : List (ℕ × Content)) × PartWith size m2.fixed key rid state (overlay m2.writes agreed) (xs ++ (with_entry node.1.entries child_rank entry ++ ys)) levels leaves levels' leaves' × PartTakes key rid levels leaves levels' leaves' (Some entry)) → PutsEntry m2 m3 node.0 node.1 (with_entry node.1.entries child_rank entry) new → IsEntered size m2.fixed key rid state (overlay m3.writes agreed) xs entries rank ys levels leaves (outcome_of new)
takes_in new size rid key m2 m3 state agreed xs ys entries rank child a node child_rank entry _ _ (on_leaves lefts rights first last kind part) names low above same agrees stored within is some leaf inner puts =
    let l = leaf kind in
    let st : State = overlay m2.writes agreed in
    let A : List (Key × ℕ) → Type 0 = Above key in
    let P : State → Type 0 = λ s. Part size s ((xs ++ a.front) ++ child ∷ (drop rank entries ++ ys)) [] (lefts ++ node ∷ rights) in
    let W : Key × ℕ → Type 0 = λ e. PutsEntry m2 m3 node.0 node.1 (with_entry node.1.entries child_rank e) new in
    let taken = leaf_takes new size rid node.0 child_rank key m2 m3 agreed ((xs ++ a.front) ++ child ∷ (drop rank entries ++ ys)) lefts node.1 rights same agrees stored kind is l.1 low (subst A (sym last) above) (subst P l.2 part) (subst W l.0 puts) in
    let E : State → Type 0 = λ s. IsEntered size m2.fixed key rid s (overlay m3.writes agreed) xs entries rank ys [] (lefts ++ node ∷ rights) (outcome_of new) in
    subst E (sym l.2) (finish new size m2.fixed key rid st (overlay m3.writes agreed) xs ys entries rank child a lefts node rights [] (lefts ++ node ∷ rights) [] (lefts ++ (taken.0 ++ rights)) first names last taken.1
    (leaf_part (lefts ++ node ∷ rights) (lefts ++ (taken.0 ++ rights)) new (record { before = lefts; node = node; after = rights; nodes = taken.0; rank = child_rank; was = refl; now = refl; low = low; above = subst A (sym last) above; place = is; becomes = taken.2 })))
takes_in new size rid key m2 m3 state agreed xs ys entries rank child a node child_rank entry _ _ (on_level lefts rights levels leaves first last kind part) names low above same agrees stored within is some leaf inner puts =
    let A : List (Key × ℕ) → Type 0 = Above key in
    let above_all = (xs ++ a.front) ++ child ∷ (drop rank entries ++ ys) in
    let below = inner kind (row_entries lefts) (row_entries rights) levels leaves (part_below size state above_all lefts node rights levels leaves part) (rights_above size state key above_all lefts node rights levels leaves part (subst A (sym last) above)) in
    let taken = inner_takes new size rid node.0 child_rank key entry state (overlay m2.writes agreed) m2 m3 agreed above_all lefts node.1 rights levels leaves below.0 below.1 refl same agrees (some kind) within kind part below.2 puts in
    finish new size m2.fixed key rid state (overlay m3.writes agreed) xs ys entries rank child a lefts node rights ((lefts ++ node ∷ rights) ∷ levels) leaves ((lefts ++ (taken.0 ++ rights)) ∷ below.0) below.1 first names last taken.1
    (takes (lefts ++ node ∷ rights) (lefts ++ (taken.0 ++ rights)) levels below.0 leaves below.1 entry new below.3 (record { before = lefts; node = node; after = rights; nodes = taken.0; rank = child_rank; was = refl; now = refl; low = low; above = subst A (sym last) above; place = is; becomes = taken.2 }))

pub enter_takes : (new : Option (Key × ℕ)) (m0 m1 m2 m3 : Meaning) (key : Key) (rid : ℕ) (entries : List (Key × ℕ)) (rank : ℕ) (child : Key × ℕ) (node : Content) (child_rank : ℕ) (entry : Key × ℕ) → OnlyReads m0 m1 → ReadsGrow m1 m2 → ReadsGrow m2 m3 → rid < m0.size → entry.1 < m0.size → IsChild m0.size key entries rank child node → IsRank key node.entries child_rank → (node.kind ≡ Inner → 0 < child_rank) → EachState m0 m1 (λ state. IsAt m0.size state (child.1, node)) → (node.kind ≡ Leaf → (entry ≡ (key, rid)) × (entry_at node.entries key ≡ None) × (m2 ≡ m1)) → (node.kind ≡ Inner → EachEntered (reads_of m0 m1) m2 key rid node.entries child_rank (Takes entry)) → PutsEntry m2 m3 child.1 node (with_entry node.entries child_rank entry) new → EachEntered m0 m3 key rid entries rank (outcome_of new)
enter_takes new m0 m1 m2 m3 key rid entries rank child node child_rank entry only grow more stored within c is some at leaf inner puts = λ state xs ys levels leaves agrees part later.
    let agrees2 = agrees-extends m2.reads m3.reads state more.reads agrees in
    let agrees1 = agrees-extends m1.reads m2.reads state grow.reads agrees2 in
    let here = at state agrees1 in
    let a = child_around m0.size key entries rank child node c in
    let size : m2.size ≡ m0.size = grow.size ∙ size_same m0 m1 only in
    let fixed : m2.fixed ≡ m0.fixed = grow.fixed ∙ fixed_same m0 m1 only in
    let F : ℕ → Type 0 = λ f. IsEntered m0.size f key rid (overlay m0.writes state) (overlay m3.writes state) xs entries rank ys levels leaves (outcome_of new) in
    let same : (m2 ≡ m1) → overlay m0.writes state ≡ overlay m2.writes state = λ e. ap (λ w. overlay w state) (sym (ap (λ (m : Meaning). m.writes) e ∙ writes_same m0 m1 only)) in
    subst F fixed (takes_in new m0.size rid key m2 m3 (overlay m0.writes state) state xs ys entries rank child a (child.1, node) child_rank entry levels leaves (child_stands m0.size (overlay m0.writes state) key entries rank child node xs ys levels leaves c here part) (ap (λ k. (k, child.1)) c.fence) (child_low m0.size key entries rank child node c) (above_append key (drop rank entries) ys c.is.above later) size agrees stored within is some
    (λ kind. let l = leaf kind in (l.0, l.1, same l.2))
    (λ kind xs' ys' levels' leaves' part' above'. let r = inner kind state xs' ys' levels' leaves' agrees2 part' above' in let G : ℕ → Type 0 = λ f. PartWith m0.size f key rid (overlay m0.writes state) (overlay m2.writes state) (xs' ++ (with_entry node.entries child_rank entry ++ ys')) levels' leaves' r.0 r.1 in (r.0, r.1, subst G (sym fixed) r.2, r.3)) puts)
