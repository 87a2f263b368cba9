-- What a call that gives a leaf back says of each state.
use Rattle.std.proofs.Common.{◌≡◌, ◌≢◌, ◌⊎◌, ℕ, ◌<◌, ◌≤◌, Bool, true, false, eqb, List, [], ◌∷◌, ◌++◌, length, Option, None, Some, refl, sym, ap, ◌∙◌, arith, subst, inl, inr, eq-eqb, ne_eqb}
use Rattle.std.specs.Prelude.{not, ◌&&◌}
use Rattle.std.proofs.lemmas.Bool.{cases_eq}
use Rattle.plain_data.specs.State.{State, Agrees, overlay}
use Rattle.record_store.specs.Links.{records_of}
use Rattle.record_store.specs.Meaning.{Meaning, with_value}
use Rattle.record_store.specs.States.{EachState}
use Rattle.record_store.specs.Walks.{OnlyReads, Extends}
use Rattle.record_store.specs.Writes.{WritesOnly, EachWritesKnown}
use Rattle.record_store.proofs.Agreement.{OnlyReads-trans, agrees-extends, given_same, writes_same}
use Rattle.record_store.proofs.Known.{known-behind}
use Rattle.ordered_index.specs.declared.key.Key.{Key}
use Rattle.ordered_index.specs.declared.node.Kind.{Kind}
use Rattle.ordered_index.specs.declared.node.Kind.TheVariants.{Leaf, Inner}
use Rattle.ordered_index.specs.declared.under.Under.{Under}
use Rattle.ordered_index.specs.Asks.{home}
use Rattle.ordered_index.specs.Keys.{last_at, first_key}
use Rattle.ordered_index.specs.Node.{Content, IsSound, least, tree_node_words}
use Rattle.ordered_index.specs.Tree.{IsAt, Stand, Descends, IsTree, EachTree, In, Apart, named, row_names, row_entries, tree_records}
use Rattle.ordered_index.specs.Walk.{DescentEndsWell, DescentTears}
use Rattle.ordered_index.specs.Reclaim.{joined_of, NamesBoth, LeavesJoin, IsEmptyHome, has_none, has_three, can_give, frees, Reclaims, ReachesBy, IsLow, UnderIs, IsNoLeafOf, TearsBeside, IsTornReclaim, IsPair, Joins, IsFound, IsNoneBeside}
use Rattle.ordered_index.proofs.Counting.{home-here}
use Rattle.ordered_index.proofs.Freeing.{known_by}
use Rattle.ordered_index.proofs.Grown.{apart_both, apart_right, in_right, records_of-append}
use Rattle.ordered_index.proofs.Joining.{Beneath, beneath, last_level, leaf_named, side_by_side, Placed, Shrunk, shrunk, joined_sound, fewer_sound, in_here}
use Rattle.ordered_index.proofs.Leaves.{follow_right}
use Rattle.ordered_index.proofs.Parents.{by_reaches, under_ends}
use Rattle.ordered_index.proofs.Paths.{path_present}
use Rattle.ordered_index.proofs.Rows.{leaf_inner, stand_right}
use Rattle.ordered_index.proofs.Taking.{inner_next}
use Rattle.ordered_index.proofs.Trees.{home_is, leaf_home, leaves_stand, root_last, torn_no_tree, tree_descends, tree_empty}
use Rattle.ordered_index.proofs.Written.{at_written, written_here, written_others}

-- ---- what the tree is where the walk came by a node to a leaf

pub record Found (size root : ℕ) (key : Key) (state : State) (parent leaf : ℕ × Content) (levels : List (List (ℕ × Content))) (leaves : List (ℕ × Content)) : Type 0 where
  pub words : List ℕ
  pub present : state root ≡ Some words
  pub descends : Descends size state ((first_key, root) ∷ []) levels leaves
  pub stand : Stand size state Leaf leaves
  pub beneath : Beneath size state key parent ((first_key, root) ∷ []) levels leaves
  pub home : home leaves key ≡ Some leaf

pub found : (size root : ℕ) (key : Key) (state : State) (parent leaf : ℕ × Content) (levels : List (List (ℕ × Content))) (leaves : List (ℕ × Content)) → ReachesBy size root key state parent leaf → IsTree size root state levels leaves → Found size root key state parent leaf levels leaves
found size root key state parent leaf levels leaves by tree =
    let reaches = by_reaches size root key state parent leaf by in
    let present = path_present size state key (first_key, root) by.nodes parent by.path by.at in
    let descends = tree_descends size root state levels leaves present.0 tree present.1 in
    let stand = leaves_stand size state ((first_key, root) ∷ []) levels leaves descends in
    let at_home = leaf_home size root key state levels leaves leaf tree descends reaches in
    let is = home_is size state Leaf leaves key leaf at_home stand by.leaf_at in
    let H : List (ℕ × Content) → ℕ × Content → Type 0 = λ ls n. home ls key ≡ Some n in
    let here : H (at_home.before ++ at_home.node ∷ at_home.after) at_home.node = home-here at_home.before at_home.node at_home.after key at_home.low at_home.above in
    record {
      words = present.0;
      present = present.1;
      descends = descends;
      stand = stand;
      beneath = beneath size state key parent leaf (first_key, root) by.nodes ((first_key, root) ∷ []) levels leaves descends (root_last root key) by.path by.at by.kind by.last by.leaf_at by.leaf_kind;
      home = ap (λ ls. home ls key) at_home.joined ∙ here ∙ ap (λ (n : ℕ × Content). Some n) is.0;
    }

-- ---- whether a leaf can be given back

can_give-end : (key : Key) (upper : List (List (ℕ × Content))) (level leaves : List (ℕ × Content)) → can_give key (upper ++ level ∷ []) leaves ≡ (has_none (home leaves key) && has_three (home level key))
can_give-end key [] level leaves = refl
can_give-end key (x ∷ []) level leaves = refl
can_give-end key (x ∷ y ∷ upper) level leaves = can_give-end key (y ∷ upper) level leaves

and_false : (b : Bool) → (b && false) ≡ false
and_false true = refl
and_false false = refl

can_give-found : (size root : ℕ) (key : Key) (state : State) (parent leaf : ℕ × Content) (levels : List (List (ℕ × Content))) (leaves : List (ℕ × Content)) → Found size root key state parent leaf levels leaves → can_give key levels leaves ≡ (eqb (length leaf.1.entries) 0 && not (eqb (length parent.1.entries) 2))
can_give-found size root key state parent leaf levels leaves is =
    let b = is.beneath in
    ap (λ ls. can_give key ls leaves) b.joined
    ∙ can_give-end key b.upper (b.lefts ++ parent ∷ b.rights) leaves
    ∙ ap (λ h. has_none h && has_three (home (b.lefts ++ parent ∷ b.rights) key)) is.home
    ∙ ap (λ h. has_none (Some leaf) && has_three h) (home-here b.lefts parent b.rights key b.low b.behind)

-- ---- nothing is given back

pub reclaims_nothing : (root : ℕ) (key : Key) (freed : List ℕ) (before after : Meaning) → freed ≡ [] → OnlyReads before after → EachTree root before after (λ _ levels leaves. can_give key levels leaves ≡ false) → Reclaims root key freed before after
reclaims_nothing root key freed before after none only cannot =
    let no : frees freed ≡ false = ap frees none in
    record {
      answer = λ state levels leaves agrees tree. no ∙ sym (cannot state levels leaves agrees tree);
      unchanged = λ _. only;
      given = given_same before after only;
      reclaimed = λ yes. (let e : true ≡ false = sym yes ∙ no in cc);
    }

low_cannot : (size root : ℕ) (key : Key) (state : State) (levels : List (List (ℕ × Content))) (leaves : List (ℕ × Content)) → IsLow size root state → IsTree size root state levels leaves → levels ≡ []
low_cannot size root key state levels leaves low tree = elim low as (λ _. levels ≡ []) [
  | inl absent ↦ (tree_empty size root state levels leaves tree absent).0
  | inr leaf ↦ (
      let descends = tree_descends size root state levels leaves leaf.2.words tree leaf.2.here in
      let last : last_at ((first_key, root) ∷ []) key ≡ Some (named (root, leaf.0)) = root_last root key ∙ ap (λ (k : Key). Some (k, root)) (sym leaf.1) in
      (last_level size state key (root, leaf.0) ((first_key, root) ∷ []) levels leaves descends last leaf.2 leaf.3).0)
]

pub reclaims_low : (root size : ℕ) (key : Key) (freed : List ℕ) (before after : Meaning) (under : Option Under) → size ≡ before.size → freed ≡ [] → OnlyReads before after → under ≡ None → EachState before after (λ state. UnderIs size root key state under) → Reclaims root key freed before after
reclaims_low root size key freed before after under same none only absent each =
    reclaims_nothing root key freed before after none only (λ state levels leaves agrees tree.
    let low : IsLow before.size root (overlay before.writes state) = rw same at (rw absent at (each state agrees)) in
    ap (λ ls. can_give key ls leaves) (low_cannot before.size root key (overlay before.writes state) levels leaves low tree))

pub reclaims_full : (root size : ℕ) (key : Key) (freed : List ℕ) (before after : Meaning) (parent leaf : ℕ × Content) → size ≡ before.size → freed ≡ [] → OnlyReads before after → EachState before after (λ state. ReachesBy size root key state parent leaf) → (eqb (length leaf.1.entries) 0 && not (eqb (length parent.1.entries) 2)) ≡ false → Reclaims root key freed before after
reclaims_full root size key freed before after parent leaf same none only each cannot =
    reclaims_nothing root key freed before after none only (λ state levels leaves agrees tree.
    let by : ReachesBy before.size root key (overlay before.writes state) parent leaf = rw same at (each state agrees) in
    can_give-found before.size root key (overlay before.writes state) parent leaf levels leaves (found before.size root key (overlay before.writes state) parent leaf levels leaves by tree) ∙ cannot)

can_give-both : (n m : ℕ) → n ≡ 0 → (m ≡ 2 → ⊥) → (eqb n 0 && not (eqb m 2)) ≡ true
can_give-both n m none differs = rw (eq-eqb n 0 none, ne_eqb m 2 differs) refl

pub has_entries : (n m : ℕ) → 0 < n → (eqb n 0 && not (eqb m 2)) ≡ false
has_entries n m some = rw (ne_eqb n 0 (λ none. omega arith)) refl

pub has_two : (n m : ℕ) → m ≡ 2 → (eqb n 0 && not (eqb m 2)) ≡ false
has_two n m two = rw (eq-eqb m 2 two) (and_false (eqb n 0))

pub no_entries : (entries : List (Key × ℕ)) → length entries ≤ 0 → entries ≡ []
no_entries [] few = refl
no_entries (e ∷ entries) few = absurd (omega arith)

-- an inner node that does not name two names three or more
pub names_three : (size : ℕ) (node : Content) → IsSound size node → node.kind ≡ Inner → (length node.entries ≡ 2 → ⊥) → 3 ≤ length node.entries
names_three size node sound kind differs =
    let P : Kind → Type 0 = λ k. least k ≤ length node.entries in
    let two : 2 ≤ length node.entries = subst P kind sound.enough in
    elim (cases_eq (length node.entries) 2) as (λ _. 3 ≤ length node.entries) [ inl same ↦ absurd (differs same) | inr more ↦ omega arith ]

-- ---- a leaf is given back

pair_both : (P : ℕ × Content → Type 0) (leaf beside left right : ℕ × Content) (back : List (Key × ℕ)) → IsPair leaf beside left right back → P leaf → P beside → P left × P right
pair_both P leaf beside left right back pair first second = elim pair as (λ _. P left × P right) [
  | inl is ↦ (subst P (sym is.0) first, subst P (sym is.1) second)
  | inr is ↦ (subst P (sym is.0) second, subst P (sym is.1) first)
]

pair_one : (P : ℕ × Content → Type 0) (leaf beside left right : ℕ × Content) (back : List (Key × ℕ)) → IsPair leaf beside left right back → P leaf → P left ⊎ (P right × (back ≡ []))
pair_one P leaf beside left right back pair here = elim pair as (λ _. P left ⊎ (P right × (back ≡ []))) [
  | inl is ↦ inl (subst P (sym is.0) here)
  | inr is ↦ inr (subst P (sym is.1) here, is.2)
]

-- the writes of a join, over any list of writes
abbrev join_writes : List (ℕ × Option (List ℕ)) → ℕ → Content → ℕ → ℕ → Content → List (ℕ × Option (List ℕ))
join_writes writes l leaf r at parent = with_value (with_value (with_value writes l (Some (tree_node_words leaf))) r None) at (Some (tree_node_words parent))

module _ (writes : List (ℕ × Option (List ℕ))) (state : State) (l r at : ℕ) (leaf parent : Content) where
  at_parent : overlay (join_writes writes l leaf r at parent) state at ≡ Some (tree_node_words parent)
  at_parent = written_here (with_value (with_value writes l (Some (tree_node_words leaf))) r None) state at (Some (tree_node_words parent))

  at_right : r ≢ at → overlay (join_writes writes l leaf r at parent) state r ≡ None
  at_right differs = written_others (with_value (with_value writes l (Some (tree_node_words leaf))) r None) state at (Some (tree_node_words parent)) r differs ∙ written_here (with_value writes l (Some (tree_node_words leaf))) state r None

  at_left : l ≢ at → l ≢ r → overlay (join_writes writes l leaf r at parent) state l ≡ Some (tree_node_words leaf)
  at_left not_at not_right =
      written_others (with_value (with_value writes l (Some (tree_node_words leaf))) r None) state at (Some (tree_node_words parent)) l not_at
      ∙ written_others (with_value writes l (Some (tree_node_words leaf))) state r None l not_right
      ∙ written_here writes state l (Some (tree_node_words leaf))

  at_others : (other : ℕ) → other ≢ at → other ≢ l → other ≢ r → overlay (join_writes writes l leaf r at parent) state other ≡ overlay writes state other
  at_others other not_at not_left not_right =
      written_others (with_value (with_value writes l (Some (tree_node_words leaf))) r None) state at (Some (tree_node_words parent)) other not_at
      ∙ written_others (with_value writes l (Some (tree_node_words leaf))) state r None other not_right
      ∙ written_others writes state l (Some (tree_node_words leaf)) other not_left

-- the records of the three nodes differ
record Differ (at l r : ℕ) : Type 0 where
  right_parent : r ≢ at
  left_parent : l ≢ at
  left_right : l ≢ r

differ : (at l r : ℕ) (upper : List (List (ℕ × Content))) (parent left right : Content) (lefts rights before after : List (ℕ × Content)) → Apart (tree_records (upper ++ (lefts ++ (at, parent) ∷ rights) ∷ []) (before ++ (l, left) ∷ (r, right) ∷ after)) → Differ at l r
differ at l r [] parent left right lefts rights before after apart =
    let level = records_of (lefts ++ (at, parent) ∷ rights) in
    let leaves = records_of (before ++ (l, left) ∷ (r, right) ∷ after) in
    let in_at : In at level = rw (records_of-append lefts ((at, parent) ∷ rights)) (in_here at (records_of lefts) (records_of rights)) in
    let is : leaves ≡ records_of before ++ l ∷ r ∷ records_of after = records_of-append before ((l, left) ∷ (r, right) ∷ after) in
    let in_l : In l leaves = rw is (in_here l (records_of before) (r ∷ records_of after)) in
    let in_r : In r leaves = rw is (in_right r (records_of before) (l ∷ r ∷ records_of after) (inr (inl refl))) in
    let A : List ℕ → Type 0 = Apart in
    let own = apart_right (records_of before) (l ∷ r ∷ records_of after) (subst A is (apart_right level leaves apart)) in
    let L : ℕ → Type 0 = λ k. In k leaves in
    record {
      right_parent = λ same. apart_both at level leaves apart in_at (subst L same in_r);
      left_parent = λ same. apart_both at level leaves apart in_at (subst L same in_l);
      left_right = λ same. own.0 (inl (sym same));
    }
differ at l r (x ∷ upper) parent left right lefts rights before after apart = differ at l r upper parent left right lefts rights before after (apart_right (records_of x) (tree_records (upper ++ (lefts ++ (at, parent) ∷ rights) ∷ []) (before ++ (l, left) ∷ (r, right) ∷ after)) apart)

-- the tree of a state once the writes were made
abbrev Joined : ℕ → ℕ → ℕ → List (ℕ × Option (List ℕ)) → State → (parent left right : ℕ × Content) → NamesBoth parent.1.entries left right → List (List (ℕ × Content)) → List (ℕ × Content) → Type 0
Joined size fixed root writes state parent left right names levels leaves =
    (levels' : List (List (ℕ × Content))) × (leaves' : List (ℕ × Content)) × LeavesJoin parent left right names levels leaves levels' leaves' × Shrunk size fixed root right.0 (overlay writes state) (overlay (join_writes writes left.0 (joined_of left.1 right.1) right.0 parent.0 (record parent.1 { entries = names.front ++ named left ∷ names.back })) state) levels leaves levels' leaves'

-- the nodes that are joined, as the state has them
record Nodes (size : ℕ) (state : State) (parent left right : ℕ × Content) : Type 0 where
  at : IsAt size state parent
  kind : parent.1.kind ≡ Inner
  three : 3 ≤ length parent.1.entries
  left_at : IsAt size state left
  right_at : IsAt size state right
  left_kind : left.1.kind ≡ Leaf
  one : (left.1.entries ≡ []) ⊎ (right.1.entries ≡ [])

joined_here : (size fixed root : ℕ) (writes : List (ℕ × Option (List ℕ))) (state : State) (parent left right : ℕ × Content) (names : NamesBoth parent.1.entries left right) (upper : List (List (ℕ × Content))) (lefts rights before after : List (ℕ × Content)) (words : List ℕ) → overlay writes state root ≡ Some words → IsTree size root (overlay writes state) (upper ++ (lefts ++ parent ∷ rights) ∷ []) (before ++ left ∷ right ∷ after) → Descends size (overlay writes state) ((first_key, root) ∷ []) (upper ++ (lefts ++ parent ∷ rights) ∷ []) (before ++ left ∷ right ∷ after) → row_names before ≡ row_entries lefts ++ names.front → row_names after ≡ names.back ++ row_entries rights → Nodes size (overlay writes state) parent left right → Joined size fixed root writes state parent left right names (upper ++ (lefts ++ parent ∷ rights) ∷ []) (before ++ left ∷ right ∷ after)
joined_here size fixed root writes state parent left right names upper lefts rights before after words present tree descends names_before names_after nodes =
    let s0 = overlay writes state in
    let leaf : Content = joined_of left.1 right.1 in
    let parent' : Content = record parent.1 { entries = names.front ++ named left ∷ names.back } in
    let s1 = overlay (join_writes writes left.0 leaf right.0 parent.0 parent') state in
    let apart = differ parent.0 left.0 right.0 upper parent.1 left.1 right.1 lefts rights before after tree.once in
    let follow = follow_right before left (right ∷ after) tree.follow in
    let gone = at_right writes state left.0 right.0 parent.0 leaf parent' apart.right_parent in
    let placed : Placed size s0 s1 parent.0 left.0 right.0 parent.1 parent' left.1 right.1 leaf lefts rights before after names.front names.back = record {
      others = at_others writes state left.0 right.0 parent.0 leaf parent';
      names = names.joined;
      names_now = refl;
      names_before = names_before;
      names_after = names_after;
      parent_at = at_written size s1 parent.0 parent' (at_parent writes state left.0 right.0 parent.0 leaf parent') (fewer_sound size parent.1 names.front names.back (named left) (named right) names.joined nodes.kind nodes.three nodes.at.sound) (λ inner. inner_next size s0 parent nodes.at inner);
      parent_kind = nodes.kind;
      parent_low = refl;
      leaf_at = at_written size s1 left.0 leaf (at_left writes state left.0 right.0 parent.0 leaf parent' apart.left_parent apart.left_right) (joined_sound size left.1 right.1 nodes.left_kind nodes.left_at.sound nodes.right_at.sound nodes.one follow.2 follow.3.1) (λ inner. absurd (leaf_inner leaf.kind nodes.left_kind inner));
      leaf_kind = nodes.left_kind;
      leaf_low = refl;
    } in (
      upper ++ (lefts ++ (parent.0, parent') ∷ rights) ∷ [],
      before ++ (left.0, leaf) ∷ after,
      record {
        upper = upper;
        lefts = lefts;
        rights = rights;
        before = before;
        after = after;
        levels_were = refl;
        levels_are = refl;
        leaves_were = refl;
        leaves_are = refl;
      },
      shrunk size fixed root s0 s1 parent.0 left.0 right.0 parent.1 parent' left.1 right.1 upper lefts rights before after names.front names.back placed words present gone tree descends,
    )

tree_joined : (size fixed root : ℕ) (key : Key) (writes : List (ℕ × Option (List ℕ))) (state : State) (parent leaf left right : ℕ × Content) (names : NamesBoth parent.1.entries left right) (levels : List (List (ℕ × Content))) (leaves : List (ℕ × Content)) → IsTree size root (overlay writes state) levels leaves → Found size root key (overlay writes state) parent leaf levels leaves → Nodes size (overlay writes state) parent left right → Joined size fixed root writes state parent left right names levels leaves
tree_joined size fixed root key writes state parent leaf left right names levels leaves tree is nodes =
    let s0 = overlay writes state in
    let b = is.beneath in
    let side = side_by_side size s0 parent left right b.lefts b.rights leaves names.front names.back b.names names.joined is.stand nodes.left_at nodes.right_at in
    let L : List (List (ℕ × Content)) = b.upper ++ (b.lefts ++ parent ∷ b.rights) ∷ [] in
    let M : List (ℕ × Content) = side.before ++ left ∷ right ∷ side.after in
    let T : List (List (ℕ × Content)) → List (ℕ × Content) → Type 0 = λ ls ks. IsTree size root s0 ls ks in
    let D : List (List (ℕ × Content)) → List (ℕ × Content) → Type 0 = λ ls ks. Descends size s0 ((first_key, root) ∷ []) ls ks in
    let R : List (List (ℕ × Content)) → List (ℕ × Content) → Type 0 = λ ls ks. Joined size fixed root writes state parent left right names ls ks in
    let tree' : T L M = subst (T L) side.joined (subst (λ ls. T ls leaves) b.joined tree) in
    let descends' : D L M = subst (D L) side.joined (subst (λ ls. D ls leaves) b.joined is.descends) in
    let here : R L M = joined_here size fixed root writes state parent left right names b.upper b.lefts b.rights side.before side.after is.words is.present tree' descends' side.names_before side.names_after nodes in
    subst (λ ls. R ls leaves) (sym b.joined) (subst (R L) (sym side.joined) here)

-- ---- the contract

lost_one : (r rid : ℕ) (freed : List ℕ) → freed ≡ r ∷ [] → In rid freed → r ≡ rid
lost_one r rid freed is there = elim (subst (λ (rs : List ℕ). In rid rs) is there) as (λ _. r ≡ rid) [ inl same ↦ same | inr none ↦ absurd none ]

pub reclaims_leaf : (root size : ℕ) (key : Key) (freed : List ℕ) (before middle after : Meaning) (parent leaf : ℕ × Content) → size ≡ before.size → OnlyReads before middle → EachState before middle (λ state. ReachesBy size root key state parent leaf) → leaf.1.entries ≡ [] → 3 ≤ length parent.1.entries → Joins size parent leaf middle after freed → Reclaims root key freed before after
reclaims_leaf root size key freed before middle after parent leaf same only each none three joins =
    let between = joins.between in
    let left = joins.left in
    let right = joins.right in
    let names = joins.names in
    let parent' : Content = record parent.1 { entries = names.front ++ named left ∷ names.back } in
    let so_far = OnlyReads-trans before middle between only joins.only in
    let reads : after.reads ≡ between.reads = ap (λ (m : Meaning). m.reads) joins.wrote in
    let writes : after.writes ≡ join_writes before.writes left.0 (joined_of left.1 right.1) right.0 parent.0 parent' = ap (λ (m : Meaning). m.writes) joins.wrote ∙ ap (λ w. join_writes w left.0 (joined_of left.1 right.1) right.0 parent.0 parent') (writes_same before between so_far) in
    let yes : frees freed ≡ true = ap frees joins.frees_right in
    let agreed : (state : State) → Agrees state after.reads → Agrees state between.reads = λ state agrees. rw reads at agrees in
    let by : (state : State) → Agrees state after.reads → ReachesBy before.size root key (overlay before.writes state) parent leaf = λ state agrees. rw same at (each state (agrees-extends middle.reads between.reads state joins.only.reads (agreed state agrees))) in
    let beside_at : (state : State) → Agrees state after.reads → IsAt before.size (overlay before.writes state) joins.beside = λ state agrees.
    let P : List (ℕ × Option (List ℕ)) → ℕ → Type 0 = λ w n. IsAt n (overlay w state) joins.beside in
    subst (P before.writes) same (subst (λ w. P w size) (writes_same before middle only) (joins.at state (agreed state agrees))) in
    record {
      answer = λ state levels leaves agrees tree.
          yes
          ∙ sym (can_give-found before.size root key (overlay before.writes state) parent leaf levels leaves (found before.size root key (overlay before.writes state) parent leaf levels leaves (by state agrees) tree)
          ∙ can_give-both (length leaf.1.entries) (length parent.1.entries) (ap length none) (λ two. omega (arith, two, three)));
      unchanged = λ no. (let e : true ≡ false = sym yes ∙ no in cc);
      given = ap (λ (m : Meaning). m.given) joins.wrote ∙ given_same before between so_far;
      reclaimed = λ _ state levels leaves agrees tree.
          let s0 = overlay before.writes state in
          let here = by state agrees in
          let is = found before.size root key s0 parent leaf levels leaves here tree in
          let ats = pair_both (IsAt before.size s0) leaf joins.beside left right names.back joins.pair here.leaf_at (beside_at state agrees) in
          let kinds = pair_both (λ n. n.1.kind ≡ Leaf) leaf joins.beside left right names.back joins.pair here.leaf_kind joins.kind in
          let ones = pair_one (λ n. n.1.entries ≡ []) leaf joins.beside left right names.back joins.pair none in
          let one : (left.1.entries ≡ []) ⊎ (right.1.entries ≡ []) = elim ones as (λ _. (left.1.entries ≡ []) ⊎ (right.1.entries ≡ [])) [ inl l ↦ inl l | inr r ↦ inr r.0 ] in
          let nodes : Nodes before.size s0 parent left right = record { at = here.at; kind = here.kind; three = three; left_at = ats.0; right_at = ats.1; left_kind = kinds.0; one = one } in
          let out = tree_joined before.size before.fixed root key before.writes state parent leaf left right names levels leaves tree is nodes in
          let S : List (ℕ × Option (List ℕ)) → Type 0 = λ w. Shrunk before.size before.fixed root right.0 s0 (overlay w state) levels leaves out.0 out.1 in
          let shrunk_now : S after.writes = subst S (sym writes) out.3 in (
            out.0,
            out.1,
            record {
              lawful = shrunk_now.lawful;
              entries_stay = shrunk_now.entries_stay;
              shape = record {
                parent = parent;
                left = left;
                right = right;
                names = names;
                join = out.2;
                empty = pair_one (IsEmptyHome key leaves) leaf joins.beside left right names.back joins.pair (is.home, none);
                frees_right = joins.frees_right;
              };
              moved = shrunk_now.moved;
              lost = λ rid there. let at = lost_one right.0 rid freed joins.frees_right there in (
                subst (λ (k : ℕ). In k (tree_records levels leaves)) at shrunk_now.lost.0,
                ap (overlay after.writes state) (sym at) ∙ shrunk_now.lost.1,
              );
              kept = λ rid there. elim (shrunk_now.kept rid there) as (λ _. In rid freed ⊎ In rid (tree_records out.0 out.1)) [
                | inl at ↦ inl (subst (λ (rs : List ℕ). In rid rs) (sym joins.frees_right) (inl at))
                | inr more ↦ inr more
              ];
              none_new = shrunk_now.none_new;
              leaves_less = shrunk_now.leaves_less;
              levels_stay = shrunk_now.levels_stay;
            },
          );
    }

-- ---- a walk that is torn

pub torn_early : (root size rid : ℕ) (key : Key) (before after : Meaning) → size ≡ before.size → EachState before after (λ state. DescentTears size root key state rid) → IsTornReclaim root key before after rid
torn_early root size rid key before after same tears = record {
  tears = λ state agrees. inl (rw same at (tears state agrees));
  none = λ state tree agrees is. torn_no_tree before.size root rid key (overlay before.writes state) tree.0 tree.1 (rw same at (tears state agrees)) is;
}

beside_no_tree : (size root rid : ℕ) (key : Key) (state : State) (levels : List (List (ℕ × Content))) (leaves : List (ℕ × Content)) → TearsBeside size root key state rid → IsTree size root state levels leaves → ⊥
beside_no_tree size root rid key state levels leaves tears tree =
    let is = found size root key state tears.parent tears.leaf levels leaves tears.reaches tree in
    let b = is.beneath in
    let split = leaf_named b.lefts tears.parent b.rights leaves tears.names.front tears.names.back (tears.low, rid) b.names tears.names.joined in
    let all : Stand size state Leaf (split.before ++ split.node ∷ split.after) = rw (← split.joined) is.stand in
    let here = stand_right size state Leaf split.before (split.node ∷ split.after) all in
    let P : ℕ → Type 0 = λ r. IsAt size state (r, split.node.1) in
    tears.unfit split.node.1 here.1 (ap (λ (e : Key × ℕ). e.0) split.names) (subst P (ap (λ (e : Key × ℕ). e.1) split.names) here.0)

pub torn_beside : (root size rid : ℕ) (key : Key) (before middle after : Meaning) (parent leaf : ℕ × Content) → size ≡ before.size → OnlyReads before middle → Extends middle.reads after.reads → EachState before middle (λ state. ReachesBy size root key state parent leaf) → IsNoneBeside size parent.1.entries middle after rid → IsTornReclaim root key before after rid
torn_beside root size rid key before middle after parent leaf same only more each none =
    let tears : (state : State) → Agrees state after.reads → TearsBeside before.size root key (overlay before.writes state) rid = λ state agrees.
    let P : List (ℕ × Option (List ℕ)) → ℕ → Type 0 = λ w n. IsNoLeafOf n (none.low, rid) (overlay w state) in
    record {
      parent = parent;
      leaf = leaf;
      reaches = rw same at (each state (agrees-extends middle.reads after.reads state more agrees));
      low = none.low;
      names = none.names;
      unfit = subst (P before.writes) same (subst (λ w. P w size) (writes_same before middle only) (none.none state agrees));
    } in
    record {
      tears = λ state agrees. inr (tears state agrees);
      none = λ state tree agrees is. beside_no_tree before.size root rid key (overlay before.writes state) tree.0 tree.1 (tears state agrees) is;
    }

-- ---- the walk ended well, and what was written

pub each_ends : (root size : ℕ) (key : Key) (before middle after : Meaning) (under : Option Under) → size ≡ before.size → Extends middle.reads after.reads → EachState before middle (λ state. UnderIs size root key state under) → EachState before after (DescentEndsWell before.size root key)
each_ends root size key before middle after under same more each = λ state agrees. rw same at (under_ends size root key (overlay before.writes state) under (each state (agrees-extends middle.reads after.reads state more agrees)))

pub writes_found : (root size : ℕ) (key : Key) (before middle after : Meaning) (parent leaf : ℕ × Content) → OnlyReads before middle → Extends middle.reads after.reads → EachState before middle (λ state. ReachesBy size root key state parent leaf) → WritesOnly (IsFound middle after parent.0 leaf.0) middle after → EachWritesKnown before after
writes_found root size key before middle after parent leaf only more each writes =
    known-behind before middle after only (known_by (IsFound middle after parent.0 leaf.0) middle after writes (λ rid is state agrees.
    let P : List (ℕ × Option (List ℕ)) → ℕ → Type 0 = λ w r. (words : List ℕ) × (overlay w state r ≡ Some words) in
    let by = each state (agrees-extends middle.reads after.reads state more agrees) in
    let back : before.writes ≡ middle.writes = sym (writes_same before middle only) in
    elim is as (λ _. P middle.writes rid) [
      | inl same ↦ subst (P middle.writes) (sym same) (subst (λ w. P w parent.0) back (by.at.words, by.at.here))
      | inr other ↦ elim other as (λ _. P middle.writes rid) [
        | inl same ↦ subst (P middle.writes) (sym same) (subst (λ w. P w leaf.0) back (by.leaf_at.words, by.leaf_at.here))
        | inr there ↦ there state agrees
      ]
    ]))
