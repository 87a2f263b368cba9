-- What a walk tells of a lawful tree.
use Rattle.std.proofs.Common.{◌≡◌, ℕ, ◌+◌, List, [], ◌∷◌, ◌++◌, length, Option, None, Some, sym, ap, ◌∙◌, arith, subst, inl, inr}
use Rattle.std.specs.Prelude.{MatchOption}
use Rattle.std.proofs.lemmas.List.{append_assoc}
use Rattle.plain_data.specs.State.{State, overlay}
use Rattle.record_store.specs.Meaning.{Meaning}
use Rattle.ordered_index.specs.declared.key.Key.{Key}
use Rattle.ordered_index.specs.declared.node.Kind.{Kind}
use Rattle.ordered_index.specs.declared.node.Kind.TheVariants.{Leaf, Inner}
use Rattle.ordered_index.specs.Keys.{Before, Above, Below, Rising, last_at, entry_at, first_key}
use Rattle.ordered_index.specs.Node.{Content}
use Rattle.ordered_index.specs.Tree.{IsAt, Stand, Descends, IsTree, named, row_names, row_entries, record_of_key, Follow}
use Rattle.record_store.specs.States.{EachState}
use Rattle.ordered_index.specs.Walk.{Path, DescentReaches, DescentTears, IsTornTree}
use Rattle.ordered_index.proofs.Order.{first_not_after, before_not_after}
use Rattle.ordered_index.proofs.Paths.{path_present}
use Rattle.ordered_index.proofs.Entries.{below_append, below_weaker, above_right, entry_at-below, entry_at-front, last_at-here}
use Rattle.ordered_index.proofs.Rows.{Home, home_of, home_entry, node_same, stand_right, leaf_inner, row_entries-append, row_names-append, leaves_from, each_from_right, above_row}

pub leaves_stand : (size : ℕ) (state : State) (above : List (Key × ℕ)) (levels : List (List (ℕ × Content))) (leaves : List (ℕ × Content)) → Descends size state above levels leaves → Stand size state Leaf leaves
leaves_stand size state above [] leaves descends = descends.1
leaves_stand size state above (level ∷ levels) leaves descends = leaves_stand size state (row_entries level) levels leaves descends.2

-- a walk over a tree: the entry where it is stands for the key in a level
pub record Reached (size : ℕ) (state : State) (key : Key) (to : Key × ℕ) (passed : ℕ) (levels : List (List (ℕ × Content))) (leaves : List (ℕ × Content)) : Type 0 where
  pub above : List (Key × ℕ)
  pub rest : List (List (ℕ × Content))
  pub descends : Descends size state above rest leaves
  pub last : last_at above key ≡ Some to
  pub long : length levels ≡ passed + length rest

-- the home node of a row that stands is the node that the state has there
pub home_is : (size : ℕ) (state : State) (kind : Kind) (row : List (ℕ × Content)) (key : Key) (node : ℕ × Content) (home : Home row key (named node)) → Stand size state kind row → IsAt size state node → (home.node ≡ node) × (node.1.kind ≡ kind)
home_is size state kind row key node home stand at =
    let all : Stand size state kind (home.before ++ home.node ∷ home.after) = rw (← home.joined) stand in
    let right = stand_right size state kind home.before (home.node ∷ home.after) all in
    let same : home.node ≡ node = node_same size state home.node node (ap (λ (e : Key × ℕ). e.1) (sym home.names)) right.0 at in
    (same, ap (λ (n : ℕ × Content). n.1.kind) (sym same) ∙ right.1)

pub path_reaches : (size : ℕ) (state : State) (key : Key) (from to : Key × ℕ) (nodes : List (ℕ × Content)) (above : List (Key × ℕ)) (levels : List (List (ℕ × Content))) (leaves : List (ℕ × Content)) → Descends size state above levels leaves → last_at above key ≡ Some from → Path size state key from nodes to → Reached size state key to (length nodes) levels leaves
path_reaches size state key from to [] above levels leaves descends last path = record {
  above = above;
  rest = levels;
  descends = descends;
  last = last ∙ ap (λ e. Some e) path;
  long = omega arith;
}
path_reaches size state key from to (node ∷ nodes) above [] leaves descends last path =
    let found : last_at (row_names leaves) key ≡ Some (named node) = rw descends.0 (last ∙ ap (λ e. Some e) path.1) in
    let is = home_is size state Leaf leaves key node (home_of leaves key (named node) found) descends.1 path.2 in
    absurd (leaf_inner node.1.kind is.1 path.3)
path_reaches size state key from to (node ∷ nodes) above (level ∷ levels) leaves descends last path =
    let found : last_at (row_names level) key ≡ Some (named node) = rw descends.0 (last ∙ ap (λ e. Some e) path.1) in
    let home = home_of level key (named node) found in
    let is = home_is size state Inner level key node home descends.1 path.2 in
    let child : last_at home.node.1.entries key ≡ Some path.0 = ap (λ (n : ℕ × Content). last_at n.1.entries key) is.0 ∙ path.4 in
    let more = path_reaches size state key path.0 to nodes (row_entries level) levels leaves descends.2 (home_entry size state level key (named node) path.0 home descends.1 child) path.5 in
    record {
      above = more.above;
      rest = more.rest;
      descends = more.descends;
      last = more.last;
      long = omega (arith, more.long);
    }

-- the levels of a tree whose root is present
match_some : {X : Type 0} (o : Option X) (x : X) (P : Type 0) (Q : X → Type 0) → o ≡ Some x → MatchOption o P Q → Q x
match_some o x P Q is holds = rw is at holds

match_none : {X : Type 0} (o : Option X) (P : Type 0) (Q : X → Type 0) → o ≡ None → MatchOption o P Q → P
match_none o P Q is holds = rw is at holds

pub tree_descends : (size root : ℕ) (state : State) (levels : List (List (ℕ × Content))) (leaves : List (ℕ × Content)) (words : List ℕ) → IsTree size root state levels leaves → state root ≡ Some words → Descends size state ((first_key, root) ∷ []) levels leaves
tree_descends size root state levels leaves words tree present =
    match_some (state root) words ((levels ≡ []) × (leaves ≡ [])) (λ _. Descends size state ((first_key, root) ∷ []) levels leaves) present tree.descends

pub tree_empty : (size root : ℕ) (state : State) (levels : List (List (ℕ × Content))) (leaves : List (ℕ × Content)) → IsTree size root state levels leaves → state root ≡ None → (levels ≡ []) × (leaves ≡ [])
tree_empty size root state levels leaves tree absent =
    match_none (state root) ((levels ≡ []) × (leaves ≡ [])) (λ _. Descends size state ((first_key, root) ∷ []) levels leaves) absent tree.descends

pub root_last : (root : ℕ) (key : Key) → last_at ((first_key, root) ∷ []) key ≡ Some (first_key, root)
root_last root key = last_at-here [] (first_key, root) [] key (first_not_after key) tt

-- no tree is lawful where a walk is torn
at_named : (size : ℕ) (state : State) (to : Key × ℕ) (node : ℕ × Content) → to ≡ named node → IsAt size state node → ((other : Content) → other.low ≡ to.0 → IsAt size state (to.1, other) → ⊥) → ⊥
at_named size state to node names at none =
    let P : ℕ → Type 0 = λ r. IsAt size state (r, node.1) in
    none node.1 (ap (λ (e : Key × ℕ). e.0) (sym names)) (subst P (ap (λ (e : Key × ℕ). e.1) (sym names)) at)

node_in : (size : ℕ) (state : State) (key : Key) (to : Key × ℕ) (above : List (Key × ℕ)) (rest : List (List (ℕ × Content))) (leaves : List (ℕ × Content)) → Descends size state above rest leaves → last_at above key ≡ Some to → ((node : Content) → node.low ≡ to.0 → IsAt size state (to.1, node) → ⊥) → ⊥
node_in size state key to above [] leaves descends last none =
    let home = home_of leaves key to (rw descends.0 last) in
    let all : Stand size state Leaf (home.before ++ home.node ∷ home.after) = rw (← home.joined) descends.1 in
    at_named size state to home.node home.names (stand_right size state Leaf home.before (home.node ∷ home.after) all).0 none
node_in size state key to above (level ∷ rest) leaves descends last none =
    let home = home_of level key to (rw descends.0 last) in
    let all : Stand size state Inner (home.before ++ home.node ∷ home.after) = rw (← home.joined) descends.1 in
    at_named size state to home.node home.names (stand_right size state Inner home.before (home.node ∷ home.after) all).0 none

no_node_there : (size : ℕ) (state : State) (key : Key) (to : Key × ℕ) (passed : ℕ) (levels : List (List (ℕ × Content))) (leaves : List (ℕ × Content)) → Reached size state key to passed levels leaves → ((node : Content) → node.low ≡ to.0 → IsAt size state (to.1, node) → ⊥) → ⊥
no_node_there size state key to passed levels leaves reached none = node_in size state key to reached.above reached.rest leaves reached.descends reached.last none

pub torn_no_tree : (size root rid : ℕ) (key : Key) (state : State) (levels : List (List (ℕ × Content))) (leaves : List (ℕ × Content)) → DescentTears size root key state rid → IsTree size root state levels leaves → ⊥
torn_no_tree size root rid key state levels leaves tears tree =
    let descends = tree_descends size root state levels leaves tears.words tree tears.present in
    let reached = path_reaches size state key (first_key, root) (tears.low, rid) tears.nodes ((first_key, root) ∷ []) levels leaves descends (root_last root key) tears.path in
    elim tears.unfit as (λ _. ⊥) [
      | inl none ↦ no_node_there size state key (tears.low, rid) (length tears.nodes) levels leaves reached none
      | inr deep ↦ omega (arith, deep, tree.deep, reached.long)
    ]

pub is_torn : (root size rid : ℕ) (key : Key) (before after : Meaning) → size ≡ before.size → EachState before after (λ state. DescentTears size root key state rid) → IsTornTree root key before after rid
is_torn root size rid key before after same tears = record {
  tears = rw (← same) tears;
  none = λ state tree agrees is. torn_no_tree before.size root rid key (overlay before.writes state) tree.0 tree.1 (rw (← same) (tears state agrees)) is;
}

-- the leaf for a key in the row of leaves
leaf_in : (size : ℕ) (state : State) (key : Key) (leaf : ℕ × Content) (above : List (Key × ℕ)) (rest : List (List (ℕ × Content))) (leaves : List (ℕ × Content)) → Descends size state above rest leaves → last_at above key ≡ Some (named leaf) → IsAt size state leaf → leaf.1.kind ≡ Leaf → Home leaves key (named leaf)
leaf_in size state key leaf above [] leaves descends last at kind = home_of leaves key (named leaf) (rw descends.0 last)
leaf_in size state key leaf above (level ∷ rest) leaves descends last at kind =
    let home = home_of level key (named leaf) (rw descends.0 last) in
    let is = home_is size state Inner level key leaf home descends.1 at in
    absurd (leaf_inner leaf.1.kind kind is.1)

pub leaf_home : (size root : ℕ) (key : Key) (state : State) (levels : List (List (ℕ × Content))) (leaves : List (ℕ × Content)) (leaf : ℕ × Content) → IsTree size root state levels leaves → Descends size state ((first_key, root) ∷ []) levels leaves → DescentReaches size root key state leaf → Home leaves key (named leaf)
leaf_home size root key state levels leaves leaf tree descends reaches =
    let reached = path_reaches size state key (first_key, root) (named leaf) reaches.nodes ((first_key, root) ∷ []) levels leaves descends (root_last root key) reaches.path in
    leaf_in size state key leaf reached.above reached.rest leaves reached.descends reached.last reaches.at reaches.kind

-- what stands in front of a leaf is below its fence
pub row_below : (xs : List (ℕ × Content)) (leaf : ℕ × Content) (ys : List (ℕ × Content)) → Rising (row_names (xs ++ leaf ∷ ys)) → Follow (xs ++ leaf ∷ ys) → Below leaf.1.low (row_entries xs)
row_below [] leaf ys rising follow = tt
row_below (x ∷ []) leaf ys rising follow = below_append leaf.1.low x.1.entries [] follow.2 tt
row_below (x ∷ y ∷ xs) leaf ys rising follow =
    let names : Above y.1.low (row_names (xs ++ leaf ∷ ys)) = rising.1.0 in
    let later : Above y.1.low (row_names xs ++ row_names (leaf ∷ ys)) = rw (← row_names-append xs (leaf ∷ ys)) names in
    let less : Before y.1.low leaf.1.low = (above_right y.1.low (row_names xs) (row_names (leaf ∷ ys)) later).0 in
    below_append leaf.1.low x.1.entries (row_entries (y ∷ xs)) (below_weaker y.1.low leaf.1.low x.1.entries (before_not_after y.1.low leaf.1.low less) follow.2) (row_below (y ∷ xs) leaf ys rising.1 follow.3)

-- a key stands in its home leaf alone
pub home_record : (leaves : List (ℕ × Content)) (key : Key) (at : Key × ℕ) (home : Home leaves key at) → Rising (row_names leaves) → Follow leaves → record_of_key leaves key ≡ entry_at home.node.1.entries key
home_record leaves key at home rising' follow' =
    let rising : Rising (row_names (home.before ++ home.node ∷ home.after)) = rw (← home.joined) rising' in
    let follow : Follow (home.before ++ home.node ∷ home.after) = rw (← home.joined) follow' in
    let below = below_weaker home.node.1.low key (row_entries home.before) home.low (row_below home.before home.node home.after rising follow) in
    let from = each_from_right (home.before ++ home.node ∷ []) home.after (rw (append_assoc home.before (home.node ∷ []) home.after) (leaves_from (home.before ++ home.node ∷ home.after) follow)) in
    let above = above_row key home.after from home.above in
    rw (home.joined, row_entries-append home.before (home.node ∷ home.after))
    (entry_at-below key (row_entries home.before) (home.node.1.entries ++ row_entries home.after) below ∙ entry_at-front key home.node.1.entries (row_entries home.after) above)

pub found_in : (size root : ℕ) (key : Key) (state : State) (levels : List (List (ℕ × Content))) (leaves : List (ℕ × Content)) (leaf : ℕ × Content) → IsTree size root state levels leaves → DescentReaches size root key state leaf → record_of_key leaves key ≡ entry_at leaf.1.entries key
found_in size root key state levels leaves leaf tree reaches =
    let present = path_present size state key (first_key, root) reaches.nodes leaf reaches.path reaches.at in
    let descends = tree_descends size root state levels leaves present.0 tree present.1 in
    let home = leaf_home size root key state levels leaves leaf tree descends reaches in
    let is = home_is size state Leaf leaves key leaf home (leaves_stand size state ((first_key, root) ∷ []) levels leaves descends) reaches.at in
    home_record leaves key (named leaf) home tree.rising tree.follow ∙ ap (λ (n : ℕ × Content). entry_at n.1.entries key) is.0

pub not_in_empty : (size root : ℕ) (key : Key) (state : State) (levels : List (List (ℕ × Content))) (leaves : List (ℕ × Content)) → IsTree size root state levels leaves → state root ≡ None → record_of_key leaves key ≡ None
not_in_empty size root key state levels leaves tree absent = ap (λ ls. record_of_key ls key) (tree_empty size root state levels leaves tree absent).1
