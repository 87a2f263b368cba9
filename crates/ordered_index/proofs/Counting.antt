-- How many nodes are full in an unbroken row from the leaf upwards.
use Rattle.std.proofs.Common.{◌≡◌, ◌≢◌, ℕ, ◌+◌, ◌≤◌, Bool, true, false, cond, eqb, List, [], ◌∷◌, ◌++◌, length, drop, Option, None, Some, refl, sym, ap, ◌∙◌, arith, subst, inl, inr, eq-eqb, ne_eqb}
use Rattle.std.specs.Prelude.{◌&&◌}
use Rattle.std.proofs.lemmas.Bool.{cases_eq}
use Rattle.plain_data.specs.State.{State, overlay}
use Rattle.record_store.specs.Meaning.{Meaning}
use Rattle.record_store.specs.States.{EachState}
use Rattle.record_store.specs.Walks.{Extends, OnlyReads}
use Rattle.record_store.proofs.Agreement.{agrees-extends}
use Rattle.ordered_index.specs.declared.key.Key.{Key}
use Rattle.ordered_index.specs.declared.node.Kind.TheVariants.{Leaf, Inner}
use Rattle.ordered_index.specs.declared.enter.Entering.TheVariants.{Takes}
use Rattle.ordered_index.specs.Keys.{NotAfter, Above, entry_at, first_key}
use Rattle.ordered_index.specs.Node.{Content}
use Rattle.ordered_index.specs.Tree.{IsAt, EachTree, named, row_names, row_entries, record_of_key}
use Rattle.ordered_index.specs.Enter.{Part, EachEntered}
use Rattle.ordered_index.specs.Asks.{home, has_nine, full_nodes, records_due, EachPart, PartIsDue, SomeFull, AllFull, asks_at}
use Rattle.ordered_index.proofs.Entries.{above_append}
use Rattle.ordered_index.proofs.Rows.{Home}
use Rattle.ordered_index.proofs.Trees.{home_record}
use Rattle.ordered_index.proofs.Entering.{Stands, IsChild, child_low, child_stands, part_below, rights_above, reads_of}
use Rattle.ordered_index.proofs.Entering.Stands.{on_leaves, on_level}
use Rattle.ordered_index.proofs.Inserted.{tree_part}

-- the node of a row to which a key belongs
home-above : (row : List (ℕ × Content)) (key : Key) → Above key (row_names row) → home row key ≡ None
home-above [] key above = refl
home-above (x ∷ row) key above = rw (home-above row key above.1, above.0) refl

pub home-here : (lefts : List (ℕ × Content)) (node : ℕ × Content) (rights : List (ℕ × Content)) (key : Key) → NotAfter node.1.low key → Above key (row_names rights) → home (lefts ++ node ∷ rights) key ≡ Some node
home-here [] node rights key low above = rw (home-above rights key above, low) refl
home-here (x ∷ lefts) node rights key low above = rw (home-here lefts node rights key low above) refl

nine : (found : Option (ℕ × Content)) (node : ℕ × Content) → found ≡ Some node → length node.1.entries ≡ 9 → has_nine found ≡ true
nine found node is full = ap has_nine is ∙ eq-eqb (length node.1.entries) 9 full

not_nine : (found : Option (ℕ × Content)) (node : ℕ × Content) → found ≡ Some node → length node.1.entries ≢ 9 → has_nine found ≡ false
not_nine found node is not_full = ap has_nine is ∙ ne_eqb (length node.1.entries) 9 not_full

-- the steps of the count
count_up : (f n : ℕ) (test : Bool) → f ≡ n + 1 → test ≡ true → cond (eqb f (n + 1) && test) (n + 2) f ≡ n + 2
count_up f n test all full = rw (eq-eqb f (n + 1) all, full) refl

count_stops : (f n : ℕ) (test : Bool) → test ≡ false → cond (eqb f (n + 1) && test) (n + 2) f ≡ f
count_stops f n test not_full = rw not_full (elim (eqb f (n + 1)) as (λ b. cond (b && false) (n + 2) f ≡ f) [ true ↦ refl | false ↦ refl ])

count_less : (f n : ℕ) (test : Bool) → f ≤ n → cond (eqb f (n + 1) && test) (n + 2) f ≡ f
count_less f n test less = rw (ne_eqb f (n + 1) (λ same. omega arith)) refl

count_grows : (f n : ℕ) (test : Bool) → f ≤ n + 1 → f ≤ cond (eqb f (n + 1) && test) (n + 2) f
count_grows f n test most = elim (eqb f (n + 1)) as (λ b. f ≤ cond (b && test) (n + 2) f) [
  | true ↦ elim test as (λ b. f ≤ cond b (n + 2) f) [ true ↦ omega arith | false ↦ omega arith ]
  | false ↦ omega arith
]

count_most : (f n : ℕ) (test : Bool) → f ≤ n + 1 → cond (eqb f (n + 1) && test) (n + 2) f ≤ n + 2
count_most f n test most = elim (eqb f (n + 1) && test) as (λ b. cond b (n + 2) f ≤ n + 2) [ true ↦ omega arith | false ↦ omega arith ]

one_most : (test : Bool) → cond test 1 0 ≤ 1
one_most true = omega arith
one_most false = omega arith

pub full_most : (key : Key) (levels : List (List (ℕ × Content))) (leaves : List (ℕ × Content)) → full_nodes key levels leaves ≤ length levels + 1
full_most key [] leaves = one_most (has_nine (home leaves key))
full_most key (level ∷ levels) leaves =
    let most : full_nodes key (level ∷ levels) leaves ≤ length levels + 2 = count_most (full_nodes key levels leaves) (length levels) (has_nine (home level key)) (full_most key levels leaves) in
    omega (arith, most)

-- from a part below the entries of a child to the part below those of the node that names it
pub reads_part : (m0 m1 m2 : Meaning) (key : Key) (entries : List (Key × ℕ)) (P : List (List (ℕ × Content)) → List (ℕ × Content) → Type 0) → OnlyReads m0 m1 → EachPart m1 m2 key entries P → EachPart (reads_of m0 m1) m2 key entries P
reads_part m0 m1 m2 key entries P only each = let Q : Meaning → Type 0 = λ m. EachPart m m2 key entries P in subst Q only.rest each

level_in : (size : ℕ) (state : State) (key : Key) (front : List (Key × ℕ)) (child : Key × ℕ) (back : List (Key × ℕ)) (node : ℕ × Content) (P Q : List (List (ℕ × Content)) → List (ℕ × Content) → Type 0) (levels : List (List (ℕ × Content))) (leaves : List (ℕ × Content)) → Stands size state front child back node levels leaves → NotAfter node.1.low key → Above key back
    → (node.1.kind ≡ Leaf → (row : List (ℕ × Content)) → home row key ≡ Some node → record_of_key row key ≡ entry_at node.1.entries key → Q [] row)
    → (node.1.kind ≡ Inner → (level : List (ℕ × Content)) (levels : List (List (ℕ × Content))) (leaves : List (ℕ × Content)) → home level key ≡ Some node → P levels leaves → Q (level ∷ levels) leaves)
    → (node.1.kind ≡ Inner → (xs ys : List (Key × ℕ)) (levels : List (List (ℕ × Content))) (leaves : List (ℕ × Content)) → Part size state (xs ++ (node.1.entries ++ ys)) levels leaves → Above key ys → P levels leaves) → Q levels leaves
level_in size state key front child back node P Q _ _ (on_leaves lefts rights first last kind part) low above leaf inner each =
    let A : List (Key × ℕ) → Type 0 = Above key in
    let at_home : Home (lefts ++ node ∷ rights) key (named node) = record { before = lefts; node = node; after = rights; joined = refl; names = refl; low = low; above = subst A (sym last) above } in
    leaf kind (lefts ++ node ∷ rights) (home-here lefts node rights key low (subst A (sym last) above)) (home_record (lefts ++ node ∷ rights) key (named node) at_home part.rising part.follow)
level_in size state key front child back node P Q _ _ (on_level lefts rights levels leaves first last kind part) low above leaf inner each =
    let A : List (Key × ℕ) → Type 0 = Above key in
    let above_all = front ++ child ∷ back in
    inner kind (lefts ++ node ∷ rights) levels leaves (home-here lefts node rights key low (subst A (sym last) above))
    (each kind (row_entries lefts) (row_entries rights) levels leaves (part_below size state above_all lefts node rights levels leaves part) (rights_above size state key above_all lefts node rights levels leaves part (subst A (sym last) above)))

pub each_level : (m0 m1 m2 m3 : Meaning) (key : Key) (entries : List (Key × ℕ)) (rank : ℕ) (child : Key × ℕ) (node : Content) (P Q : List (List (ℕ × Content)) → List (ℕ × Content) → Type 0) → Extends m1.reads m2.reads → Extends m2.reads m3.reads → IsChild m0.size key entries rank child node → EachState m0 m1 (λ state. IsAt m0.size state (child.1, node))
    → (node.kind ≡ Leaf → (row : List (ℕ × Content)) → home row key ≡ Some (child.1, node) → record_of_key row key ≡ entry_at node.entries key → Q [] row)
    → (node.kind ≡ Inner → (level : List (ℕ × Content)) (levels : List (List (ℕ × Content))) (leaves : List (ℕ × Content)) → home level key ≡ Some (child.1, node) → P levels leaves → Q (level ∷ levels) leaves)
    → (node.kind ≡ Inner → EachPart (reads_of m0 m1) m2 key node.entries P) → EachPart m0 m3 key entries Q
each_level m0 m1 m2 m3 key entries rank child node P Q early late c at leaf inner each = λ state xs ys levels leaves agrees part later.
    let agrees2 = agrees-extends m2.reads m3.reads state late agrees in
    let here = at state (agrees-extends m1.reads m2.reads state early agrees2) in
    level_in m0.size (overlay m0.writes state) key _ child (drop rank entries ++ ys) (child.1, node) P Q levels leaves (child_stands m0.size (overlay m0.writes state) key entries rank child node xs ys levels leaves c here part) (child_low m0.size key entries rank child node c) (above_append key (drop rank entries) ys c.is.above later) leaf inner
    (λ kind xs' ys' levels' leaves' part' above'. each kind state xs' ys' levels' leaves' agrees2 part' above')

-- what comes of the count where the child does not ask
pub still_due : (key : Key) (asks : ℕ) (level : List (ℕ × Content)) (levels : List (List (ℕ × Content))) (leaves : List (ℕ × Content)) → PartIsDue key asks levels leaves → PartIsDue key asks (level ∷ levels) leaves
still_due key asks level levels leaves due = (due.0, omega (arith, due.1, count_grows (full_nodes key levels leaves) (length levels) (has_nine (home level key)) (full_most key levels leaves)))

pub still_some : (key : Key) (asked : ℕ) (level : List (ℕ × Content)) (levels : List (List (ℕ × Content))) (leaves : List (ℕ × Content)) → SomeFull key asked levels leaves → SomeFull key asked (level ∷ levels) leaves
still_some key asked level levels leaves some = (some.0 ∙ sym (count_less (full_nodes key levels leaves) (length levels) (has_nine (home level key)) (omega (arith, some.0, some.1))), omega (arith, some.1))

-- the part below the child is full throughout, and the key is not there
abbrev pub AllDue : Key → ℕ → List (List (ℕ × Content)) → List (ℕ × Content) → Type 0
AllDue key asked levels leaves = (record_of_key leaves key ≡ None) × AllFull key asked levels leaves

pub all_due : (before after : Meaning) (key : Key) (rid : ℕ) (entries : List (Key × ℕ)) (rank : ℕ) (entry : Key × ℕ) (asked : ℕ) → EachEntered before after key rid entries rank (Takes entry) → EachPart before after key entries (AllFull key asked) → EachPart before after key entries (AllDue key asked)
all_due before after key rid entries rank entry asked entered full = λ state xs ys levels leaves agrees part later. ((entered state xs ys levels leaves agrees part later).2.absent, full state xs ys levels leaves agrees part later)

pub asks_nine : (entries : List (Key × ℕ)) → length entries ≡ 9 → asks_at entries ≡ 1
asks_nine entries full = rw (eq-eqb (length entries) 9 full) refl

pub asks_less : (entries : List (Key × ℕ)) → length entries ≢ 9 → asks_at entries ≡ 0
asks_less entries not_full = rw (ne_eqb (length entries) 9 not_full) refl

row_up : (key : Key) (level : List (ℕ × Content)) (levels : List (List (ℕ × Content))) (leaves : List (ℕ × Content)) (node : ℕ × Content) (asked : ℕ) → home level key ≡ Some node → length node.1.entries ≡ 9 → AllFull key asked levels leaves → AllFull key (asked + 1) (level ∷ levels) leaves
row_up key level levels leaves node asked is full all =
    let up = count_up (full_nodes key levels leaves) (length levels) (has_nine (home level key)) (sym all.0 ∙ all.1) (nine (home level key) node is full) in
    (omega (arith, up, all.1), omega (arith, all.1))

row_stops : (key : Key) (level : List (ℕ × Content)) (levels : List (List (ℕ × Content))) (leaves : List (ℕ × Content)) (node : ℕ × Content) (asked : ℕ) → home level key ≡ Some node → length node.1.entries ≢ 9 → AllFull key asked levels leaves → SomeFull key asked (level ∷ levels) leaves
row_stops key level levels leaves node asked is not_full all =
    (all.0 ∙ sym (count_stops (full_nodes key levels leaves) (length levels) (has_nine (home level key)) (not_nine (home level key) node is not_full)), omega (arith, all.1))

leaf_up : (key : Key) (row : List (ℕ × Content)) (node : ℕ × Content) → home row key ≡ Some node → length node.1.entries ≡ 9 → AllFull key 1 [] row
leaf_up key row node is full = (sym (ap (λ b. cond b 1 0) (nine (home row key) node is full)), refl)

leaf_stops : (key : Key) (row : List (ℕ × Content)) (node : ℕ × Content) → home row key ≡ Some node → length node.1.entries ≢ 9 → SomeFull key 0 [] row
leaf_stops key row node is not_full = (sym (ap (λ b. cond b 1 0) (not_nine (home row key) node is not_full)), omega arith)

row_due : (key : Key) (level : List (ℕ × Content)) (levels : List (List (ℕ × Content))) (leaves : List (ℕ × Content)) (node : ℕ × Content) (asked asks : ℕ) → home level key ≡ Some node → asks ≤ asks_at node.1.entries → AllDue key asked levels leaves → PartIsDue key (asked + asks) (level ∷ levels) leaves
row_due key level levels leaves node asked asks is few all = (
  all.0,
  elim (cases_eq (length node.1.entries) 9) as (λ _. asked + asks ≤ full_nodes key (level ∷ levels) leaves) [
    | inl full ↦ (let up = row_up key level levels leaves node asked is full all.1 in omega (arith, up.0, few, asks_nine node.1.entries full))
    | inr not_full ↦ (let stops = row_stops key level levels leaves node asked is not_full all.1 in omega (arith, stops.0, few, asks_less node.1.entries not_full))
  ],
)

leaf_due : (key : Key) (row : List (ℕ × Content)) (node : ℕ × Content) (asks : ℕ) → home row key ≡ Some node → asks ≤ asks_at node.1.entries → asks ≤ full_nodes key [] row
leaf_due key row node asks is few = elim (cases_eq (length node.1.entries) 9) as (λ _. asks ≤ full_nodes key [] row) [
  | inl full ↦ (let up = leaf_up key row node is full in omega (arith, up.0, few, asks_nine node.1.entries full))
  | inr not_full ↦ (let stops = leaf_stops key row node is not_full in omega (arith, stops.0, few, asks_less node.1.entries not_full))
]

-- over each state: the child takes an entry in
module _ (m0 m1 m2 m3 : Meaning) (key : Key) (entries : List (Key × ℕ)) (rank : ℕ) (child : Key × ℕ) (node : Content) (asked : ℕ) (early : Extends m1.reads m2.reads) (late : Extends m2.reads m3.reads) (c : IsChild m0.size key entries rank child node) (at : EachState m0 m1 (λ state. IsAt m0.size state (child.1, node))) where
  pub takes_due : (asks : ℕ) → asks ≤ asks_at node.entries → (node.kind ≡ Leaf → (asked ≡ 0) × (entry_at node.entries key ≡ None)) → (node.kind ≡ Inner → EachPart (reads_of m0 m1) m2 key node.entries (AllDue key asked)) → EachPart m0 m3 key entries (PartIsDue key (asked + asks))
  takes_due asks few leaf inner =
      each_level m0 m1 m2 m3 key entries rank child node (AllDue key asked) (PartIsDue key (asked + asks)) early late c at
      (λ kind row is found. (found ∙ (leaf kind).1, omega (arith, (leaf kind).0, leaf_due key row (child.1, node) asks is few)))
      (λ kind level levels leaves is all. row_due key level levels leaves (child.1, node) asked asks is few all) inner

  pub takes_some : length node.entries ≢ 9 → (node.kind ≡ Leaf → asked ≡ 0) → (node.kind ≡ Inner → EachPart (reads_of m0 m1) m2 key node.entries (AllFull key asked)) → EachPart m0 m3 key entries (SomeFull key asked)
  takes_some not_full leaf inner =
      each_level m0 m1 m2 m3 key entries rank child node (AllFull key asked) (SomeFull key asked) early late c at
      (λ kind row is found. (let P : ℕ → Type 0 = λ n. SomeFull key n [] row in subst P (sym (leaf kind)) (leaf_stops key row (child.1, node) is not_full)))
      (λ kind level levels leaves is all. row_stops key level levels leaves (child.1, node) asked is not_full all) inner

  pub takes_all : length node.entries ≡ 9 → (node.kind ≡ Leaf → asked ≡ 0) → (node.kind ≡ Inner → EachPart (reads_of m0 m1) m2 key node.entries (AllFull key asked)) → EachPart m0 m3 key entries (AllFull key (asked + 1))
  takes_all full leaf inner =
      each_level m0 m1 m2 m3 key entries rank child node (AllFull key asked) (AllFull key (asked + 1)) early late c at
      (λ kind row is found. (let P : ℕ → Type 0 = λ n. AllFull key (n + 1) [] row in subst P (sym (leaf kind)) (leaf_up key row (child.1, node) is full)))
      (λ kind level levels leaves is all. row_up key level levels leaves (child.1, node) asked is full all) inner

  -- and where it does not
  pub child_due : (node.kind ≡ Leaf → ⊥) → (node.kind ≡ Inner → EachPart (reads_of m0 m1) m2 key node.entries (PartIsDue key asked)) → EachPart m0 m3 key entries (PartIsDue key asked)
  child_due leaf inner = each_level m0 m1 m2 m3 key entries rank child node (PartIsDue key asked) (PartIsDue key asked) early late c at (λ kind. absurd (leaf kind)) (λ kind level levels leaves is due. still_due key asked level levels leaves due) inner

  pub child_some : (node.kind ≡ Leaf → ⊥) → (node.kind ≡ Inner → EachPart (reads_of m0 m1) m2 key node.entries (SomeFull key asked)) → EachPart m0 m3 key entries (SomeFull key asked)
  child_some leaf inner = each_level m0 m1 m2 m3 key entries rank child node (SomeFull key asked) (SomeFull key asked) early late c at (λ kind. absurd (leaf kind)) (λ kind level levels leaves is some. still_some key asked level levels leaves some) inner

-- the records that are due in a tree
due_step : (f n : ℕ) → f ≤ n + 1 → f ≤ cond (eqb f (n + 1)) (n + 2) f
due_step f n most = elim (eqb f (n + 1)) as (λ b. f ≤ cond b (n + 2) f) [ true ↦ omega arith | false ↦ omega arith ]

pub due_most : (key : Key) (asks : ℕ) (levels : List (List (ℕ × Content))) (leaves : List (ℕ × Content)) → PartIsDue key asks levels leaves → (record_of_key leaves key ≡ None) × (asks ≤ records_due key levels leaves)
due_most key asks levels leaves due = (due.0, omega (arith, due.1, due_step (full_nodes key levels leaves) (length levels) (full_most key levels leaves)))

pub due_some : (key : Key) (asked : ℕ) (levels : List (List (ℕ × Content))) (leaves : List (ℕ × Content)) → SomeFull key asked levels leaves → asked ≡ records_due key levels leaves
due_some key asked levels leaves some = some.0 ∙ sym (rw (ne_eqb (full_nodes key levels leaves) (length levels + 1) (λ same. omega (arith, some.0, some.1))) refl)

pub due_all : (key : Key) (asked : ℕ) (levels : List (List (ℕ × Content))) (leaves : List (ℕ × Content)) → AllFull key asked levels leaves → asked + 1 ≡ records_due key levels leaves
due_all key asked levels leaves all =
    let due : records_due key levels leaves ≡ length levels + 2 = rw (eq-eqb (full_nodes key levels leaves) (length levels + 1) (sym all.0 ∙ all.1)) refl in
    omega (arith, all.1, due)

pub tree_parts : (root : ℕ) (key : Key) (before after : Meaning) (P : List (List (ℕ × Content)) → List (ℕ × Content) → Type 0) → EachState before after (λ state. (words : List ℕ) × (state root ≡ Some words)) → EachPart before after key ((first_key, root) ∷ []) P → EachTree root before after (λ _ levels leaves. P levels leaves)
tree_parts root key before after P present each = λ state levels leaves agrees tree.
    let there = present state agrees in
    each state [] [] levels leaves agrees (tree_part before.size root (overlay before.writes state) levels leaves there.0 tree there.1) tt
