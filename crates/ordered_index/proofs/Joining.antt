-- A tree in which two leaves side by side become one.
use Rattle.std.proofs.Common.{◌≡◌, ◌≢◌, ◌⊎◌, ℕ, ◌+◌, ◌<◌, ◌≤◌, List, [], ◌∷◌, ◌++◌, length, None, Some, refl, sym, ap, ◌∙◌, arith, subst, inl, inr}
use Rattle.std.proofs.lemmas.List.{append_assoc, length-append}
use Rattle.std.proofs.lemmas.List.Elements.{All-append}
use Rattle.plain_data.specs.State.{State}
use Rattle.record_store.specs.Links.{records_of}
use Rattle.record_store.specs.Spots.{IsMoved}
use Rattle.ordered_index.specs.declared.key.Key.{Key}
use Rattle.ordered_index.specs.declared.node.Kind.{Kind}
use Rattle.ordered_index.specs.declared.node.Kind.TheVariants.{Leaf, Inner}
use Rattle.ordered_index.specs.Keys.{NotAfter, Above, Below, From, Rising, InStore, last_at, first_key}
use Rattle.ordered_index.specs.Node.{Content, IsSound, Begins, least}
use Rattle.ordered_index.specs.Tree.{IsAt, Stand, Descends, IsTree, In, Apart, UpTo, Follow, named, row_names, row_entries, tree_records}
use Rattle.ordered_index.specs.Walk.{Path}
use Rattle.ordered_index.specs.Reclaim.{joined_of}
use Rattle.ordered_index.proofs.Order.{before_not_after}
use Rattle.ordered_index.proofs.Entries.{below_append, below_weaker, rising_right}
use Rattle.ordered_index.proofs.Edits.{rising_less, store_less, rising_from}
use Rattle.ordered_index.proofs.Rows.{home_of, home_entry, node_same, stand_left, stand_right, stand_append, leaf_inner, row_names-append, from_weaker}
use Rattle.ordered_index.proofs.Trees.{home_is}
use Rattle.ordered_index.proofs.Leaves.{from_append, follow_front, follow_right, row_around}
use Rattle.ordered_index.proofs.Taking.{SplitAt, names_split}
use Rattle.ordered_index.proofs.Grown.{in_left, in_right, in_or_not, apart_left, apart_right, apart_both, records_of-append, stand_frame, descends_present}
use Rattle.ordered_index.proofs.Removed.{tree_of, root_in}

-- ---- lists of records with one less

pub in_less : (r rid : ℕ) (xs ys : List ℕ) → In rid (xs ++ r ∷ ys) → (r ≡ rid) ⊎ In rid (xs ++ ys)
in_less r rid [] ys there = there
in_less r rid (x ∷ xs) ys there = elim there as (λ _. (r ≡ rid) ⊎ In rid (x ∷ (xs ++ ys))) [
  | inl same ↦ inr (inl same)
  | inr more ↦ elim (in_less r rid xs ys more) as (λ _. (r ≡ rid) ⊎ In rid (x ∷ (xs ++ ys))) [ inl same ↦ inl same | inr later ↦ inr (inr later) ]
]

pub in_more : (r rid : ℕ) (xs ys : List ℕ) → In rid (xs ++ ys) → In rid (xs ++ r ∷ ys)
in_more r rid [] ys there = inr there
in_more r rid (x ∷ xs) ys there = elim there as (λ _. In rid (x ∷ (xs ++ r ∷ ys))) [ inl same ↦ inl same | inr more ↦ inr (in_more r rid xs ys more) ]

pub in_here : (r : ℕ) (xs ys : List ℕ) → In r (xs ++ r ∷ ys)
in_here r xs ys = in_right r xs (r ∷ ys) (inl refl)

pub apart_less : (r : ℕ) (xs ys : List ℕ) → Apart (xs ++ r ∷ ys) → Apart (xs ++ ys)
apart_less r [] ys apart = apart.1
apart_less r (x ∷ xs) ys apart = (λ there. apart.0 (in_more r x xs ys there), apart_less r xs ys apart.1)

pub not_left_in : (r : ℕ) (xs ys : List ℕ) → Apart (xs ++ r ∷ ys) → In r (xs ++ ys) → ⊥
not_left_in r [] ys apart there = apart.0 there
not_left_in r (x ∷ xs) ys apart there = elim there as (λ _. ⊥) [
  | inl same ↦ apart.0 (let P : ℕ → Type 0 = λ k. In k (xs ++ r ∷ ys) in subst P (sym same) (in_here r xs ys))
  | inr more ↦ not_left_in r xs ys apart.1 more
]

-- ---- the node above a leaf, and the row of leaves below its row

pub record Beneath (size : ℕ) (state : State) (key : Key) (parent : ℕ × Content) (above : List (Key × ℕ)) (levels : List (List (ℕ × Content))) (leaves : List (ℕ × Content)) : Type 0 where
  pub upper : List (List (ℕ × Content))
  pub lefts : List (ℕ × Content)
  pub rights : List (ℕ × Content)
  pub joined : levels ≡ upper ++ (lefts ++ parent ∷ rights) ∷ []
  pub names : row_names leaves ≡ row_entries (lefts ++ parent ∷ rights)
  pub low : NotAfter parent.1.low key
  pub behind : Above key (row_names rights)

pub last_level : (size : ℕ) (state : State) (key : Key) (leaf : ℕ × Content) (above : List (Key × ℕ)) (levels : List (List (ℕ × Content))) (leaves : List (ℕ × Content)) → Descends size state above levels leaves → last_at above key ≡ Some (named leaf) → IsAt size state leaf → leaf.1.kind ≡ Leaf → (levels ≡ []) × (row_names leaves ≡ above)
last_level size state key leaf above [] leaves descends last at kind = (refl, descends.0)
last_level size state key leaf above (level ∷ levels) leaves descends last at kind =
    let home = home_of level key (named leaf) (rw descends.0 last) in
    let is = home_is size state Inner level key leaf home descends.1 at in
    absurd (leaf_inner leaf.1.kind kind is.1)

pub beneath : (size : ℕ) (state : State) (key : Key) (parent leaf : ℕ × Content) (from : Key × ℕ) (nodes : List (ℕ × Content)) (above : List (Key × ℕ)) (levels : List (List (ℕ × Content))) (leaves : List (ℕ × Content)) → Descends size state above levels leaves → last_at above key ≡ Some from → Path size state key from nodes (named parent) → IsAt size state parent → parent.1.kind ≡ Inner → last_at parent.1.entries key ≡ Some (named leaf) → IsAt size state leaf → leaf.1.kind ≡ Leaf → Beneath size state key parent above levels leaves
beneath size state key parent leaf from [] above [] leaves descends last path at kind child leaf_at leaf_kind =
    let found : last_at (row_names leaves) key ≡ Some (named parent) = rw descends.0 (last ∙ ap (λ e. Some e) path) in
    let is = home_is size state Leaf leaves key parent (home_of leaves key (named parent) found) descends.1 at in
    absurd (leaf_inner parent.1.kind is.1 kind)
beneath size state key parent leaf from [] above (level ∷ levels) leaves descends last path at kind child leaf_at leaf_kind =
    let found : last_at (row_names level) key ≡ Some (named parent) = rw descends.0 (last ∙ ap (λ e. Some e) path) in
    let home = home_of level key (named parent) found in
    let is = home_is size state Inner level key parent home descends.1 at in
    let here : last_at home.node.1.entries key ≡ Some (named leaf) = ap (λ (n : ℕ × Content). last_at n.1.entries key) is.0 ∙ child in
    let more = last_level size state key leaf (row_entries level) levels leaves descends.2 (home_entry size state level key (named parent) (named leaf) home descends.1 here) leaf_at leaf_kind in
    let joined : level ≡ home.before ++ parent ∷ home.after = home.joined ∙ ap (λ n. home.before ++ n ∷ home.after) is.0 in
    let L : ℕ × Content → Type 0 = λ n. NotAfter n.1.low key in
    record {
      upper = [];
      lefts = home.before;
      rights = home.after;
      joined = ap (λ ls. level ∷ ls) more.0 ∙ ap (λ l. l ∷ []) joined;
      names = more.1 ∙ ap row_entries joined;
      low = subst L is.0 home.low;
      behind = home.above;
    }
beneath size state key parent leaf from (node ∷ nodes) above [] leaves descends last path at kind child leaf_at leaf_kind =
    let found : last_at (row_names leaves) key ≡ Some (named node) = rw descends.0 (last ∙ ap (λ e. Some e) path.1) in
    let is = home_is size state Leaf leaves key node (home_of leaves key (named node) found) descends.1 path.2 in
    absurd (leaf_inner node.1.kind is.1 path.3)
beneath size state key parent leaf from (node ∷ nodes) above (level ∷ levels) leaves descends last path at kind child leaf_at leaf_kind =
    let found : last_at (row_names level) key ≡ Some (named node) = rw descends.0 (last ∙ ap (λ e. Some e) path.1) in
    let home = home_of level key (named node) found in
    let is = home_is size state Inner level key node home descends.1 path.2 in
    let next : last_at home.node.1.entries key ≡ Some path.0 = ap (λ (n : ℕ × Content). last_at n.1.entries key) is.0 ∙ path.4 in
    let more = beneath size state key parent leaf path.0 nodes (row_entries level) levels leaves descends.2 (home_entry size state level key (named node) path.0 home descends.1 next) path.5 at kind child leaf_at leaf_kind in
    record {
      upper = level ∷ more.upper;
      lefts = more.lefts;
      rights = more.rights;
      joined = ap (λ ls. level ∷ ls) more.joined;
      names = more.names;
      low = more.low;
      behind = more.behind;
    }

-- ---- a leaf that the node names

around : (lefts : List (ℕ × Content)) (parent : ℕ × Content) (rights : List (ℕ × Content)) (front back : List (Key × ℕ)) (entry : Key × ℕ) → parent.1.entries ≡ front ++ entry ∷ back → row_entries (lefts ++ parent ∷ rights) ≡ (row_entries lefts ++ front) ++ entry ∷ (back ++ row_entries rights)
around lefts parent rights front back entry is =
    row_around lefts parent rights
    ∙ ap (λ es. row_entries lefts ++ (es ++ row_entries rights)) is
    ∙ ap (λ es. row_entries lefts ++ es) (append_assoc front (entry ∷ back) (row_entries rights))
    ∙ sym (append_assoc (row_entries lefts) front (entry ∷ (back ++ row_entries rights)))

pub leaf_named : (lefts : List (ℕ × Content)) (parent : ℕ × Content) (rights leaves : List (ℕ × Content)) (front back : List (Key × ℕ)) (entry : Key × ℕ) → row_names leaves ≡ row_entries (lefts ++ parent ∷ rights) → parent.1.entries ≡ front ++ entry ∷ back → SplitAt leaves (row_entries lefts ++ front) entry (back ++ row_entries rights)
leaf_named lefts parent rights leaves front back entry names is = names_split leaves (row_entries lefts ++ front) entry (back ++ row_entries rights) (names ∙ around lefts parent rights front back entry is)

pub split_is : (size : ℕ) (state : State) (leaves : List (ℕ × Content)) (front back : List (Key × ℕ)) (node : ℕ × Content) (split : SplitAt leaves front (named node) back) → Stand size state Leaf leaves → IsAt size state node → split.node ≡ node
split_is size state leaves front back node split stand at =
    let all : Stand size state Leaf (split.before ++ split.node ∷ split.after) = rw (← split.joined) stand in
    node_same size state split.node node (ap (λ (e : Key × ℕ). e.1) split.names) (stand_right size state Leaf split.before (split.node ∷ split.after) all).0 at

-- ---- two leaves side by side

pub record Side (parent left right : ℕ × Content) (lefts rights leaves : List (ℕ × Content)) (front back : List (Key × ℕ)) : Type 0 where
  pub before : List (ℕ × Content)
  pub after : List (ℕ × Content)
  pub joined : leaves ≡ before ++ left ∷ right ∷ after
  pub names_before : row_names before ≡ row_entries lefts ++ front
  pub names_after : row_names after ≡ back ++ row_entries rights

no_names : (row : List (ℕ × Content)) → row_names row ≡ [] → row ≡ []
no_names [] names = refl
no_names (x ∷ row) names = cc

pub side_by_side : (size : ℕ) (state : State) (parent left right : ℕ × Content) (lefts rights leaves : List (ℕ × Content)) (front back : List (Key × ℕ)) → row_names leaves ≡ row_entries (lefts ++ parent ∷ rights) → parent.1.entries ≡ front ++ named left ∷ named right ∷ back → Stand size state Leaf leaves → IsAt size state left → IsAt size state right → Side parent left right lefts rights leaves front back
side_by_side size state parent left right lefts rights leaves front back names is stand left_at right_at =
    let first = leaf_named lefts parent rights leaves front (named right ∷ back) (named left) names is in
    let one = split_is size state leaves (row_entries lefts ++ front) (named right ∷ (back ++ row_entries rights)) left first stand left_at in
    let all : Stand size state Leaf (first.before ++ first.node ∷ first.after) = rw (← first.joined) stand in
    let rest = (stand_right size state Leaf first.before (first.node ∷ first.after) all).2 in
    let second = names_split first.after [] (named right) (back ++ row_entries rights) first.names_after in
    let two = split_is size state first.after [] (back ++ row_entries rights) right second rest right_at in
    let none : second.before ≡ [] = no_names second.before second.names_before in
    let tail : first.after ≡ right ∷ second.after = second.joined ∙ ap (λ ns. ns ++ second.node ∷ second.after) none ∙ ap (λ n. n ∷ second.after) two in
    record {
      before = first.before;
      after = second.after;
      joined = first.joined ∙ ap (λ n. first.before ++ n ∷ first.after) one ∙ ap (λ ns. first.before ++ left ∷ ns) tail;
      names_before = first.names_before;
      names_after = second.names_after;
    }

-- ---- the two nodes that are written

pub joined_sound : (size : ℕ) (left right : Content) → left.kind ≡ Leaf → IsSound size left → IsSound size right → (left.entries ≡ []) ⊎ (right.entries ≡ []) → Below right.low left.entries → From right.low right.entries → IsSound size (joined_of left right)
joined_sound size left right kind a b one below from =
    let both = left.entries ++ right.entries in
    let few : length both ≤ 9 = elim one as (λ _. length both ≤ 9) [
      | inl none ↦ omega (arith, length-append left.entries right.entries, ap length none, b.few)
      | inr none ↦ omega (arith, length-append left.entries right.entries, ap length none, a.few)
    ] in
    let enough : 0 ≤ length both = omega arith in
    let P : Kind → Type 0 = λ k. (least k ≤ length both) × Begins k left.low both in
    let shape : P left.kind = subst P (sym kind) (enough, tt) in
    record {
      few = few;
      enough = shape.0;
      rising = rising_from right.low left.entries right.entries a.rising below b.rising from;
      records = All-append (λ (e : Key × ℕ). e.1 < size) left.entries right.entries a.records b.records;
      first = shape.1;
      next = b.next;
    }

begins_front : (low : Key) (front : List (Key × ℕ)) (e : Key × ℕ) (xs ys : List (Key × ℕ)) → Begins Inner low (front ++ e ∷ xs) → Begins Inner low (front ++ e ∷ ys)
begins_front low [] e xs ys begins = begins
begins_front low (x ∷ front) e xs ys begins = begins

pub fewer_sound : (size : ℕ) (node : Content) (front back : List (Key × ℕ)) (a b : Key × ℕ) → node.entries ≡ front ++ a ∷ b ∷ back → node.kind ≡ Inner → 3 ≤ length node.entries → IsSound size node → IsSound size (record node { entries = front ++ a ∷ back })
fewer_sound size node front back a b is kind three sound =
    let es = front ++ a ∷ back in
    let two : es ≡ (front ++ a ∷ []) ++ back = sym (append_assoc front (a ∷ []) back) in
    let apart : node.entries ≡ (front ++ a ∷ []) ++ b ∷ back = is ∙ sym (append_assoc front (a ∷ []) (b ∷ back)) in
    let rising : Rising ((front ++ a ∷ []) ++ b ∷ back) = rw apart at sound.rising in
    let records : InStore size ((front ++ a ∷ []) ++ b ∷ back) = rw apart at sound.records in
    let P : Kind → Type 0 = λ k. (least k ≤ length es) × Begins k node.low es in
    let B : Kind → Type 0 = λ k. Begins k node.low node.entries in
    let begins : Begins Inner node.low (front ++ a ∷ b ∷ back) = rw is at (subst B kind sound.first) in
    let enough : 2 ≤ length es = omega (arith, three, ap length is, length-append front (a ∷ b ∷ back), length-append front (a ∷ back)) in
    let shape : P node.kind = subst P (sym kind) (enough, begins_front node.low front a (b ∷ back) back begins) in
    record {
      few = omega (arith, sound.few, ap length is, length-append front (a ∷ b ∷ back), length-append front (a ∷ back));
      enough = shape.0;
      rising = rw two (rising_less (front ++ a ∷ []) b back rising);
      records = rw two (store_less size (front ++ a ∷ []) b back records);
      first = shape.1;
      next = sound.next;
    }

-- ---- the row of leaves

up_less : (after : List (ℕ × Content)) (low : Key) (xs ys : List (Key × ℕ)) → Below low xs → Above low (row_names after) → UpTo after ys → UpTo after (xs ++ ys)
up_less [] low xs ys below above up = tt
up_less (n ∷ after) low xs ys below above up = below_append n.1.low xs ys (below_weaker low n.1.low xs (before_not_after low n.1.low above.0) below) up

pub follow_joined : (before : List (ℕ × Content)) (l r : ℕ) (left right : Content) (after : List (ℕ × Content)) → Rising (row_names (before ++ (l, left) ∷ (r, right) ∷ after)) → Follow (before ++ (l, left) ∷ (r, right) ∷ after) → Follow (before ++ (l, joined_of left right) ∷ after)
follow_joined before l r left right after rising follow =
    let names : Rising (row_names before ++ (left.low, l) ∷ (right.low, r) ∷ row_names after) = rw (row_names-append before ((l, left) ∷ (r, right) ∷ after)) at rising in
    let tail = rising_right (row_names before) ((left.low, l) ∷ (right.low, r) ∷ row_names after) names in
    let here = follow_right before (l, left) ((r, right) ∷ after) follow in
    let next = here.3 in
    follow_front before (l, left) (l, joined_of left right) ((r, right) ∷ after) after refl refl follow (
      next.0,
      from_append left.low left.entries right.entries here.1 (from_weaker left.low right.low right.entries (before_not_after left.low right.low tail.0.0) next.1),
      up_less after right.low left.entries right.entries here.2 tail.1.0 next.2,
      next.3,
    )

pub entries_joined : (before : List (ℕ × Content)) (l r : ℕ) (left right : Content) (after : List (ℕ × Content)) → row_entries (before ++ (l, joined_of left right) ∷ after) ≡ row_entries (before ++ (l, left) ∷ (r, right) ∷ after)
entries_joined before l r left right after =
    row_around before (l, joined_of left right) after
    ∙ ap (λ es. row_entries before ++ es) (append_assoc left.entries right.entries (row_entries after))
    ∙ sym (row_around before (l, left) ((r, right) ∷ after))

pub rising_joined : (before : List (ℕ × Content)) (l r : ℕ) (left right : Content) (after : List (ℕ × Content)) → Rising (row_names (before ++ (l, left) ∷ (r, right) ∷ after)) → Rising (row_names (before ++ (l, joined_of left right) ∷ after))
rising_joined before l r left right after rising =
    let front = row_names before ++ (left.low, l) ∷ [] in
    let names : row_names (before ++ (l, left) ∷ (r, right) ∷ after) ≡ front ++ (right.low, r) ∷ row_names after = row_names-append before ((l, left) ∷ (r, right) ∷ after) ∙ sym (append_assoc (row_names before) ((left.low, l) ∷ []) ((right.low, r) ∷ row_names after)) in
    let names' : row_names (before ++ (l, joined_of left right) ∷ after) ≡ front ++ row_names after = row_names-append before ((l, joined_of left right) ∷ after) ∙ sym (append_assoc (row_names before) ((left.low, l) ∷ []) (row_names after)) in
    let all : Rising (front ++ (right.low, r) ∷ row_names after) = rw names at rising in
    rw names' (rising_less front (right.low, r) (row_names after) all)

-- ---- the levels

-- three records are not among these
pub record Out (at l r : ℕ) (rids : List ℕ) : Type 0 where
  pub no_at : In at rids → ⊥
  pub no_left : In l rids → ⊥
  pub no_right : In r rids → ⊥

-- all other records are as they were
abbrev pub Others : ℕ → ℕ → ℕ → State → State → Type 0
Others at l r state state' = (other : ℕ) → other ≢ at → other ≢ l → other ≢ r → state' other ≡ state other

stand_out : (size : ℕ) (state state' : State) (kind : Kind) (row : List (ℕ × Content)) (at l r : ℕ) → Others at l r state state' → Out at l r (records_of row) → Stand size state kind row → Stand size state' kind row
stand_out size state state' kind row at l r others out stand =
    let P : ℕ → Type 0 = λ k. In k (records_of row) in
    stand_frame size state state' kind row (λ rid there. others rid (λ same. out.no_at (subst P same there)) (λ same. out.no_left (subst P same there)) (λ same. out.no_right (subst P same there))) stand

pub in_level : (upper : List (List (ℕ × Content))) (level leaves : List (ℕ × Content)) (rid : ℕ) → In rid (records_of level ++ records_of leaves) → In rid (tree_records (upper ++ level ∷ []) leaves)
in_level [] level leaves rid there = there
in_level (x ∷ upper) level leaves rid there = in_right rid (records_of x) (tree_records (upper ++ level ∷ []) leaves) (in_level upper level leaves rid there)

tree_parts : (upper : List (List (ℕ × Content))) (level leaves : List (ℕ × Content)) → tree_records (upper ++ level ∷ []) leaves ≡ tree_records upper [] ++ (records_of level ++ records_of leaves)
tree_parts [] level leaves = refl
tree_parts (x ∷ upper) level leaves = ap (λ rs. records_of x ++ rs) (tree_parts upper level leaves) ∙ sym (append_assoc (records_of x) (tree_records upper []) (records_of level ++ records_of leaves))

regroup : (xs ys bs : List ℕ) (l : ℕ) (tail : List ℕ) → xs ++ (ys ++ (bs ++ l ∷ tail)) ≡ (xs ++ (ys ++ (bs ++ l ∷ []))) ++ tail
regroup xs ys bs l tail = simp append_assoc

-- what is left of the records in front of that of the right leaf
abbrev pub records_front : List (List (ℕ × Content)) → List (ℕ × Content) → List (ℕ × Content) → ℕ → List ℕ
records_front upper level before l = tree_records upper [] ++ (records_of level ++ (records_of before ++ l ∷ []))

pub records_were : (upper : List (List (ℕ × Content))) (level before : List (ℕ × Content)) (l r : ℕ) (left right : Content) (after : List (ℕ × Content)) → tree_records (upper ++ level ∷ []) (before ++ (l, left) ∷ (r, right) ∷ after) ≡ records_front upper level before l ++ r ∷ records_of after
records_were upper level before l r left right after =
    tree_parts upper level (before ++ (l, left) ∷ (r, right) ∷ after)
    ∙ ap (λ rs. tree_records upper [] ++ (records_of level ++ rs)) (records_of-append before ((l, left) ∷ (r, right) ∷ after))
    ∙ regroup (tree_records upper []) (records_of level) (records_of before) l (r ∷ records_of after)

pub records_are : (upper : List (List (ℕ × Content))) (level before : List (ℕ × Content)) (l : ℕ) (leaf : Content) (after : List (ℕ × Content)) → tree_records (upper ++ level ∷ []) (before ++ (l, leaf) ∷ after) ≡ records_front upper level before l ++ records_of after
records_are upper level before l leaf after =
    tree_parts upper level (before ++ (l, leaf) ∷ after)
    ∙ ap (λ rs. tree_records upper [] ++ (records_of level ++ rs)) (records_of-append before ((l, leaf) ∷ after))
    ∙ regroup (tree_records upper []) (records_of level) (records_of before) l (records_of after)

pub level_same : (lefts : List (ℕ × Content)) (at : ℕ) (node node' : Content) (rights : List (ℕ × Content)) → records_of (lefts ++ (at, node') ∷ rights) ≡ records_of (lefts ++ (at, node) ∷ rights)
level_same lefts at node node' rights = records_of-append lefts ((at, node') ∷ rights) ∙ sym (records_of-append lefts ((at, node) ∷ rights))

-- where the three nodes stand in a tree
pub record Placed (size : ℕ) (state state' : State) (at l r : ℕ) (parent parent' left right leaf : Content) (lefts rights before after : List (ℕ × Content)) (front back : List (Key × ℕ)) : Type 0 where
  pub others : Others at l r state state'
  pub names : parent.entries ≡ front ++ (left.low, l) ∷ (right.low, r) ∷ back
  pub names_now : parent'.entries ≡ front ++ (left.low, l) ∷ back
  pub names_before : row_names before ≡ row_entries lefts ++ front
  pub names_after : row_names after ≡ back ++ row_entries rights
  pub parent_at : IsAt size state' (at, parent')
  pub parent_kind : parent'.kind ≡ Inner
  pub parent_low : parent'.low ≡ parent.low
  pub leaf_at : IsAt size state' (l, leaf)
  pub leaf_kind : leaf.kind ≡ Leaf
  pub leaf_low : leaf.low ≡ left.low

module _ (size : ℕ) (state state' : State) (at l r : ℕ) (parent parent' left right leaf : Content) (lefts rights before after : List (ℕ × Content)) (front back : List (Key × ℕ)) (placed : Placed size state state' at l r parent parent' left right leaf lefts rights before after front back) where
  in_parent : In at (records_of (lefts ++ (at, parent) ∷ rights))
  in_parent = rw (records_of-append lefts ((at, parent) ∷ rights)) (in_here at (records_of lefts) (records_of rights))

  in_left_leaf : In l (records_of (before ++ (l, left) ∷ (r, right) ∷ after))
  in_left_leaf = rw (records_of-append before ((l, left) ∷ (r, right) ∷ after)) (in_here l (records_of before) (r ∷ records_of after))

  in_right_leaf : In r (records_of (before ++ (l, left) ∷ (r, right) ∷ after))
  in_right_leaf = rw (records_of-append before ((l, left) ∷ (r, right) ∷ after)) (in_right r (records_of before) (l ∷ r ∷ records_of after) (inr (inl refl)))

  out_upper : (upper : List (List (ℕ × Content))) (row : List (ℕ × Content)) → Apart (records_of row ++ tree_records (upper ++ (lefts ++ (at, parent) ∷ rights) ∷ []) (before ++ (l, left) ∷ (r, right) ∷ after)) → Out at l r (records_of row)
  out_upper upper row apart =
      let level = lefts ++ (at, parent) ∷ rights in
      let leaves = before ++ (l, left) ∷ (r, right) ∷ after in
      let below = tree_records (upper ++ level ∷ []) leaves in
      record {
        no_at = λ there. apart_both at (records_of row) below apart there (in_level upper level leaves at (in_left at (records_of level) (records_of leaves) in_parent));
        no_left = λ there. apart_both l (records_of row) below apart there (in_level upper level leaves l (in_right l (records_of level) (records_of leaves) in_left_leaf));
        no_right = λ there. apart_both r (records_of row) below apart there (in_level upper level leaves r (in_right r (records_of level) (records_of leaves) in_right_leaf));
      }

  out_level : (row : List (ℕ × Content)) → Apart (records_of (lefts ++ (at, parent) ∷ rights) ++ records_of (before ++ (l, left) ∷ (r, right) ∷ after)) → (In at (records_of row) → ⊥) → ((rid : ℕ) → In rid (records_of row) → In rid (records_of (lefts ++ (at, parent) ∷ rights))) → Out at l r (records_of row)
  out_level row apart none within =
      let level = records_of (lefts ++ (at, parent) ∷ rights) in
      let leaves = records_of (before ++ (l, left) ∷ (r, right) ∷ after) in
      record {
        no_at = none;
        no_left = λ there. apart_both l level leaves apart (within l there) in_left_leaf;
        no_right = λ there. apart_both r level leaves apart (within r there) in_right_leaf;
      }

  out_leaves : (row : List (ℕ × Content)) → Apart (records_of (lefts ++ (at, parent) ∷ rights) ++ records_of (before ++ (l, left) ∷ (r, right) ∷ after)) → (In l (records_of row) → ⊥) → (In r (records_of row) → ⊥) → ((rid : ℕ) → In rid (records_of row) → In rid (records_of (before ++ (l, left) ∷ (r, right) ∷ after))) → Out at l r (records_of row)
  out_leaves row apart none_left none_right within =
      let level = records_of (lefts ++ (at, parent) ∷ rights) in
      let leaves = records_of (before ++ (l, left) ∷ (r, right) ∷ after) in
      record {
        no_at = λ there. apart_both at level leaves apart in_parent (within at there);
        no_left = none_left;
        no_right = none_right;
      }

  pub joined_descends : (upper : List (List (ℕ × Content))) (above : List (Key × ℕ)) → Descends size state above (upper ++ (lefts ++ (at, parent) ∷ rights) ∷ []) (before ++ (l, left) ∷ (r, right) ∷ after) → Apart (tree_records (upper ++ (lefts ++ (at, parent) ∷ rights) ∷ []) (before ++ (l, left) ∷ (r, right) ∷ after)) → Descends size state' above (upper ++ (lefts ++ (at, parent') ∷ rights) ∷ []) (before ++ (l, leaf) ∷ after)
  joined_descends [] above descends apart =
      let level = lefts ++ (at, parent) ∷ rights in
      let leaves = before ++ (l, left) ∷ (r, right) ∷ after in
      let level_rids : records_of level ≡ records_of lefts ++ at ∷ records_of rights = records_of-append lefts ((at, parent) ∷ rights) in
      let leaf_rids : records_of leaves ≡ records_of before ++ l ∷ r ∷ records_of after = records_of-append before ((l, left) ∷ (r, right) ∷ after) in
      let A : List ℕ → Type 0 = Apart in
      let own : Apart (records_of lefts ++ at ∷ records_of rights) = subst A level_rids (apart_left (records_of level) (records_of leaves) apart) in
      let own_leaves : Apart (records_of before ++ l ∷ r ∷ records_of after) = subst A leaf_rids (apart_right (records_of level) (records_of leaves) apart) in
      let tail = apart_right (records_of before) (l ∷ r ∷ records_of after) own_leaves in
      let stand = descends.1 in
      let leaf_stand = descends.2.1 in
      let out_lefts = out_level lefts apart (λ there. apart_both at (records_of lefts) (at ∷ records_of rights) own there (inl refl)) (λ rid there. rw level_rids (in_left rid (records_of lefts) (at ∷ records_of rights) there)) in
      let out_rights = out_level rights apart (apart_right (records_of lefts) (at ∷ records_of rights) own).0 (λ rid there. rw level_rids (in_right rid (records_of lefts) (at ∷ records_of rights) (inr there))) in
      let out_before = out_leaves before apart (λ there. apart_both l (records_of before) (l ∷ r ∷ records_of after) own_leaves there (inl refl)) (λ there. apart_both r (records_of before) (l ∷ r ∷ records_of after) own_leaves there (inr (inl refl))) (λ rid there. rw leaf_rids (in_left rid (records_of before) (l ∷ r ∷ records_of after) there)) in
      let out_after = out_leaves after apart (λ there. tail.0 (inr there)) tail.1.0 (λ rid there. rw leaf_rids (in_right rid (records_of before) (l ∷ r ∷ records_of after) (inr (inr there)))) in
      let right_stand = stand_right size state Inner lefts ((at, parent) ∷ rights) stand in
      let right_leaves = stand_right size state Leaf before ((l, left) ∷ (r, right) ∷ after) leaf_stand in
      let names : row_names (lefts ++ (at, parent') ∷ rights) ≡ row_names level = row_names-append lefts ((at, parent') ∷ rights) ∙ ap (λ (k : Key). row_names lefts ++ (k, at) ∷ row_names rights) placed.parent_low ∙ sym (row_names-append lefts ((at, parent) ∷ rights)) in
      let leaf_names : row_names (before ++ (l, leaf) ∷ after) ≡ row_entries (lefts ++ (at, parent') ∷ rights) =
      row_names-append before ((l, leaf) ∷ after)
      ∙ ap (λ (k : Key). row_names before ++ (k, l) ∷ row_names after) placed.leaf_low
      ∙ ap (λ ns. ns ++ (left.low, l) ∷ row_names after) placed.names_before
      ∙ ap (λ ns. (row_entries lefts ++ front) ++ (left.low, l) ∷ ns) placed.names_after
      ∙ sym (around lefts (at, parent') rights front back (left.low, l) placed.names_now) in (
        names ∙ descends.0,
        stand_append size state' Inner lefts ((at, parent') ∷ rights) (stand_out size state state' Inner lefts at l r placed.others out_lefts (stand_left size state Inner lefts ((at, parent) ∷ rights) stand))
            (placed.parent_at, placed.parent_kind, stand_out size state state' Inner rights at l r placed.others out_rights right_stand.2),
        (
          leaf_names,
          stand_append size state' Leaf before ((l, leaf) ∷ after) (stand_out size state state' Leaf before at l r placed.others out_before (stand_left size state Leaf before ((l, left) ∷ (r, right) ∷ after) leaf_stand))
              (placed.leaf_at, placed.leaf_kind, stand_out size state state' Leaf after at l r placed.others out_after right_leaves.2.2),
        ),
      )
  joined_descends (x ∷ upper) above descends apart = (
    descends.0,
    stand_out size state state' Inner x at l r placed.others (out_upper upper x apart) descends.1,
    joined_descends upper (row_entries x) descends.2 (apart_right (records_of x) (tree_records (upper ++ (lefts ++ (at, parent) ∷ rights) ∷ []) (before ++ (l, left) ∷ (r, right) ∷ after)) apart),
  )

-- ---- the whole tree

-- the tree with a leaf less
pub record Shrunk (size fixed root r : ℕ) (state state' : State) (levels : List (List (ℕ × Content))) (leaves : List (ℕ × Content)) (levels' : List (List (ℕ × Content))) (leaves' : List (ℕ × Content)) : Type 0 where
  pub lawful : IsTree size root state' levels' leaves'
  pub entries_stay : row_entries leaves' ≡ row_entries leaves
  pub moved : IsMoved fixed root (λ rid. In rid (tree_records levels leaves)) (λ rid. In rid (tree_records levels' leaves')) state state'
  pub lost : In r (tree_records levels leaves) × (state' r ≡ None)
  pub kept : (rid : ℕ) → In rid (tree_records levels leaves) → (r ≡ rid) ⊎ In rid (tree_records levels' leaves')
  pub none_new : (rid : ℕ) → In rid (tree_records levels' leaves') → In rid (tree_records levels leaves)
  pub leaves_less : length leaves' + 1 ≡ length leaves
  pub levels_stay : length levels' ≡ length levels

length_level : (upper : List (List (ℕ × Content))) (a b : List (ℕ × Content)) → length (upper ++ a ∷ []) ≡ length (upper ++ b ∷ [])
length_level upper a b = length-append upper (a ∷ []) ∙ sym (length-append upper (b ∷ []))

module _ (size fixed root : ℕ) (state state' : State) (at l r : ℕ) (parent parent' left right : Content) (upper : List (List (ℕ × Content))) (lefts rights before after : List (ℕ × Content)) (front back : List (Key × ℕ)) (placed : Placed size state state' at l r parent parent' left right (joined_of left right) lefts rights before after front back) where
  pub shrunk : (words : List ℕ) → state root ≡ Some words → state' r ≡ None → IsTree size root state (upper ++ (lefts ++ (at, parent) ∷ rights) ∷ []) (before ++ (l, left) ∷ (r, right) ∷ after) → Descends size state ((first_key, root) ∷ []) (upper ++ (lefts ++ (at, parent) ∷ rights) ∷ []) (before ++ (l, left) ∷ (r, right) ∷ after) → Shrunk size fixed root r state state' (upper ++ (lefts ++ (at, parent) ∷ rights) ∷ []) (before ++ (l, left) ∷ (r, right) ∷ after) (upper ++ (lefts ++ (at, parent') ∷ rights) ∷ []) (before ++ (l, joined_of left right) ∷ after)
  shrunk words present gone tree descends =
      let level = lefts ++ (at, parent) ∷ rights in
      let level' = lefts ++ (at, parent') ∷ rights in
      let leaves = before ++ (l, left) ∷ (r, right) ∷ after in
      let leaf = joined_of left right in
      let leaves' = before ++ (l, leaf) ∷ after in
      let levels = upper ++ level ∷ [] in
      let levels' = upper ++ level' ∷ [] in
      let xs = records_front upper level before l in
      let ys = records_of after in
      let were : tree_records levels leaves ≡ xs ++ r ∷ ys = records_were upper level before l r left right after in
      let are : tree_records levels' leaves' ≡ xs ++ ys = records_are upper level' before l leaf after ∙ ap (λ rs. (tree_records upper [] ++ (rs ++ (records_of before ++ l ∷ []))) ++ ys) (level_same lefts at parent parent' rights) in
      let A : List ℕ → Type 0 = Apart in
      let apart : Apart (xs ++ r ∷ ys) = subst A were tree.once in
      let now = joined_descends size state state' at l r parent parent' left right leaf lefts rights before after front back placed upper ((first_key, root) ∷ []) descends tree.once in
      let root' = descends_present size state' ((first_key, root) ∷ []) levels' leaves' root now (root_in size root state' levels' leaves' now) in
      let to_were : (rid : ℕ) → In rid (xs ++ r ∷ ys) → In rid (tree_records levels leaves) = λ rid there. subst (λ (rs : List ℕ). In rid rs) (sym were) there in
      let to_are : (rid : ℕ) → In rid (xs ++ ys) → In rid (tree_records levels' leaves') = λ rid there. subst (λ (rs : List ℕ). In rid rs) (sym are) there in
      let none_new : (rid : ℕ) → In rid (tree_records levels' leaves') → In rid (tree_records levels leaves) = λ rid there. to_were rid (in_more r rid xs ys (subst (λ (rs : List ℕ). In rid rs) are there)) in
      let kept : (rid : ℕ) → In rid (tree_records levels leaves) → (r ≡ rid) ⊎ In rid (tree_records levels' leaves') = λ rid there. elim (in_less r rid xs ys (subst (λ (rs : List ℕ). In rid rs) were there)) as (λ _. (r ≡ rid) ⊎ In rid (tree_records levels' leaves')) [ inl same ↦ inl same | inr more ↦ inr (to_are rid more) ] in
      let in_at : In at (tree_records levels leaves) = in_level upper level leaves at (in_left at (records_of level) (records_of leaves) (in_parent size state state' at l r parent parent' left right leaf lefts rights before after front back placed)) in
      let in_l : In l (tree_records levels leaves) = in_level upper level leaves l (in_right l (records_of level) (records_of leaves) (in_left_leaf size state state' at l r parent parent' left right leaf lefts rights before after front back placed)) in
      let in_r : In r (tree_records levels leaves) = to_were r (in_here r xs ys) in
      record {
        lawful = record {
          descends = tree_of size root state' levels' leaves' root'.0 root'.1 now;
          rising = rising_joined before l r left right after tree.rising;
          follow = follow_joined before l r left right after tree.rising tree.follow;
          once = rw are (apart_less r xs ys apart);
          deep = omega (arith, tree.deep, length_level upper level level');
        };
        entries_stay = entries_joined before l r left right after;
        moved = record {
          kept = λ rid there. elim (kept rid there) as (λ _. In rid (tree_records levels' leaves') ⊎ (state' rid ≡ None)) [ inl same ↦ inr (ap state' (sym same) ∙ gone) | inr more ↦ inl more ];
          anew = λ rid there. inl (none_new rid there);
          present = λ rid there. descends_present size state' ((first_key, root) ∷ []) levels' leaves' rid now there;
          outside = λ rid out never. placed.others rid (λ same. never (subst (λ (k : ℕ). In k (tree_records levels leaves)) (sym same) in_at)) (λ same. never (subst (λ (k : ℕ). In k (tree_records levels leaves)) (sym same) in_l)) (λ same. never (subst (λ (k : ℕ). In k (tree_records levels leaves)) (sym same) in_r));
          known = λ rid. in_or_not rid (tree_records levels' leaves');
          known_before = λ rid. in_or_not rid (tree_records levels leaves);
        };
        lost = (in_r, gone);
        kept = kept;
        none_new = none_new;
        leaves_less = omega (arith, length-append before ((l, leaf) ∷ after), length-append before ((l, left) ∷ (r, right) ∷ after));
        levels_stay = length_level upper level' level;
      }
