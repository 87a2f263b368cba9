-- The root's ten entries go to two new nodes below it.
use Rattle.std.proofs.Common.{◌≡◌, ◌≢◌, ℕ, ◌+◌, ◌<◌, ◌≤◌, List, [], ◌∷◌, ◌++◌, map, length, take, drop, cond, Option, None, Some, refl, sym, ap, ◌∙◌, arith, subst}
use Rattle.std.proofs.lemmas.List.{append-nil, take-append-drop}
use Rattle.std.proofs.lemmas.List.Elements.{All-cons, All-nil, Contains-push}
use Rattle.std.specs.Prelude.{Contains}
use Rattle.plain_data.specs.State.{State, Agrees, overlay}
use Rattle.record_store.specs.Meaning.{Meaning, with_value, after_write, after_fresh}
use Rattle.record_store.specs.Store.{IsFresh}
use Rattle.record_store.proofs.Agreement.{agrees-extends, extends-after_read}
use Rattle.ordered_index.specs.declared.key.Key.{Key}
use Rattle.ordered_index.specs.declared.node.Kind.{Kind}
use Rattle.ordered_index.specs.declared.node.Kind.TheVariants.{Leaf, Inner}
use Rattle.ordered_index.specs.Changes.{second_row}
use Rattle.ordered_index.specs.Keys.{is_same, Before, NotAfter, From, entry_at, first_key}
use Rattle.ordered_index.specs.Node.{Content, IsSound, Begins, tree_node_words}
use Rattle.ordered_index.specs.Tree.{Descends, row_names, tree_records, record_of_key}
use Rattle.ordered_index.specs.Enter.{Part, Grown, PartWith, with_entry, key_at, left_of, right_of, next_left, over_of, IsRank}
use Rattle.ordered_index.specs.Splits.{PartTakes, TreeTakes}
use Rattle.ordered_index.specs.Splits.TreeTakes.{leaf_parted, inner_parted}
use Rattle.ordered_index.proofs.Edits.{entry_at-put, entry_at-absent}
use Rattle.ordered_index.proofs.Rows.{from_inner}
use Rattle.ordered_index.proofs.Grown.{descends_frame, descends_present}
use Rattle.ordered_index.proofs.Entered.{grown_nothing}
use Rattle.ordered_index.proofs.Entering.{Stands, part_below}
use Rattle.ordered_index.proofs.Entering.Stands.{on_leaves, on_level}
use Rattle.ordered_index.proofs.Written.{written_here, written_others, at_written}
use Rattle.ordered_index.proofs.Parting.{left_sound, right_sound}
use Rattle.ordered_index.proofs.Taking.{absent_now, inner_fills, inner_next}
use Rattle.ordered_index.proofs.LeafTaking.{low_before, halves, filled, from_left, no_next}
use Rattle.ordered_index.proofs.Roots.{root_grows}

-- what the state has once the two nodes and the root are written
pub record Rooted (fixed root a b : ℕ) (between state' : State) (left right over : Content) : Type 0 where
  pub no_a : between a ≡ None
  pub no_b : between b ≡ None
  pub new_a : fixed ≤ a
  pub new_b : fixed ≤ b
  pub differ : b ≢ a
  pub at_a : state' a ≡ Some (tree_node_words left)
  pub at_b : state' b ≡ Some (tree_node_words right)
  pub at_root : state' root ≡ Some (tree_node_words over)
  pub others : (other : ℕ) → other ≢ root → other ≢ a → other ≢ b → state' other ≡ between other

pub rooted : (before after : Meaning) (state : State) (root a b : ℕ) (left right over : Content) → Agrees state after.reads → root < before.fixed → IsFresh before a → IsFresh (after_fresh before a) b → after ≡ after_write (after_write (after_write (after_fresh (after_fresh before a) b) a (Some (tree_node_words left))) b (Some (tree_node_words right))) root (Some (tree_node_words over)) → Rooted before.fixed root a b (overlay before.writes state) (overlay after.writes state) left right over
rooted before after state root a b left right over agrees low first second wrote =
    let reads : after.reads ≡ (after_fresh (after_fresh before a) b).reads = ap (λ (m : Meaning). m.reads) wrote in
    let agrees_b = rw reads at agrees in
    let agrees_a = agrees-extends (after_fresh before a).reads (after_fresh (after_fresh before a) b).reads state (extends-after_read (after_fresh before a) b None) agrees_b in
    let one : List (ℕ × Option (List ℕ)) = with_value before.writes a (Some (tree_node_words left)) in
    let two : List (ℕ × Option (List ℕ)) = with_value one b (Some (tree_node_words right)) in
    let writes : after.writes ≡ with_value two root (Some (tree_node_words over)) = ap (λ (m : Meaning). m.writes) wrote in
    let no_a = absent_now before a state first agrees_a in
    let no_b : overlay before.writes state b ≡ None = absent_now (after_fresh before a) b state second agrees_b in
    let differ : b ≢ a = λ same. second.not_given (let P : ℕ → Type 0 = λ r. Contains (before.given ++ a ∷ []) r in subst P (sym same) (Contains-push before.given a)) in
    let a_root : a ≢ root = λ same. omega (arith, first.new) in
    let b_root : b ≢ root = λ same. omega (arith, second.new) in
    record {
      no_a = no_a;
      no_b = no_b;
      new_a = first.new;
      new_b = second.new;
      differ = differ;
      at_a = ap (λ w. overlay w state a) writes ∙ written_others two state root (Some (tree_node_words over)) a a_root ∙ written_others one state b (Some (tree_node_words right)) a (λ same. differ (sym same)) ∙ written_here before.writes state a (Some (tree_node_words left));
      at_b = ap (λ w. overlay w state b) writes ∙ written_others two state root (Some (tree_node_words over)) b b_root ∙ written_here one state b (Some (tree_node_words right));
      at_root = ap (λ w. overlay w state root) writes ∙ written_here two state root (Some (tree_node_words over));
      others = λ other not_root not_a not_b. ap (λ w. overlay w state other) writes ∙ written_others two state root (Some (tree_node_words over)) other not_root ∙ written_others one state b (Some (tree_node_words right)) other not_b ∙ written_others before.writes state a (Some (tree_node_words left)) other not_a;
    }

-- the tree with the entry and one level more
pub record RootWith (size fixed root left right : ℕ) (key : Key) (rid : ℕ) (state state' : State) (levels : List (List (ℕ × Content))) (leaves : List (ℕ × Content)) : Type 0 where
  pub levels' : List (List (ℕ × Content))
  pub leaves' : List (ℕ × Content)
  pub part : Part size state' ((first_key, root) ∷ []) levels' leaves'
  pub grown : Grown fixed state state' (tree_records levels leaves) (tree_records levels' leaves')
  pub at_key : (other : Key) → record_of_key leaves' other ≡ cond (is_same other key) (Some rid) (record_of_key leaves other)
  pub absent : record_of_key leaves key ≡ None
  pub leaves_grow : length leaves' ≤ length leaves + 1
  pub shape : TreeTakes root key rid levels leaves levels' leaves'
  pub below : map (λ node. node.0) (second_row levels' leaves') ≡ left ∷ right ∷ []

over_sound : (size : ℕ) (low : Key) (a : ℕ) (key : Key) (b : ℕ) → Before low key → a < size → b < size → IsSound size (over_of low a key b)
over_sound size low a key b less in_a in_b =
    let P : Key × ℕ → Type 0 = λ e. e.1 < size in
    record {
      few = omega arith;
      enough = omega arith;
      rising = ((less, tt), (tt, tt));
      records = All-cons P (low, a) ((key, b) ∷ []) in_a (All-cons P (key, b) [] in_b (All-nil P));
      first = refl;
      next = tt;
    }

inner_root : (size fixed root a b rid rank : ℕ) (key : Key) (entry : Key × ℕ) (node : Content) (state between state' : State) (levels : List (List (ℕ × Content))) (leaves : List (ℕ × Content)) (levels' : List (List (ℕ × Content))) (leaves' : List (ℕ × Content)) → a < size → b < size → node.low ≡ first_key → node.kind ≡ Inner → 0 < rank → entry.1 < size → length (with_entry node.entries rank entry) ≡ 10 → Part size state ((first_key, root) ∷ []) (((root, node) ∷ []) ∷ levels) leaves → PartWith size fixed key rid state between (with_entry node.entries rank entry ++ []) levels leaves levels' leaves' → PartTakes key rid levels leaves levels' leaves' (Some entry) → IsRank key node.entries rank → Rooted fixed root a b between state' (left_of node (with_entry node.entries rank entry) b) (right_of node (with_entry node.entries rank entry)) (over_of node.low a (key_at (with_entry node.entries rank entry) 5) b) → RootWith size fixed root a b key rid state state' (((root, node) ∷ []) ∷ levels) leaves
inner_root size fixed root a b rid rank key entry node state between state' levels leaves levels' leaves' in_a in_b low kind some within ten part below how is r =
    let es = with_entry node.entries rank entry in
    let here = part.descends.1.0 in
    let fills = inner_fills size rank entry state between [] root node [] levels' leaves' within some here kind below.part in
    let B : Kind → Type 0 = λ k. Begins k node.low es in
    let less = low_before node.low es 5 (first_key, 0) (from_inner node.low es (subst B kind fills.first) fills.rising) fills.rising (omega arith) (omega (arith, ten)) in
    let grows = root_grows fixed root a b state between state' (tree_records levels leaves) (tree_records levels' leaves') here.words here.here part.once below.grown below.part.once (λ other there. descends_present size between (es ++ []) levels' leaves' other below.part.descends there) r.no_a r.no_b r.new_a r.new_b r.differ r.others in
    let none = inner_next size state (root, node) here in
    let at_a = at_written size state' a (left_of node es b) r.at_a (left_sound size node es b fills ten in_b) (λ inner. ap (λ k. next_left k b) inner) in
    let at_b = at_written size state' b (right_of node es) r.at_b (right_sound size node es here.sound fills ten) none in
    let at_root = at_written size state' root (over_of node.low a (key_at es 5) b) r.at_root (over_sound size node.low a (key_at es 5) b less in_a in_b) (λ inner. refl) in
    let shape : es ++ [] ≡ take 5 es ++ (drop 5 es ++ []) = append-nil es ∙ sym (ap (λ xs. take 5 es ++ xs) (append-nil (drop 5 es)) ∙ take-append-drop 5 es) in
    let D : List (Key × ℕ) → Type 0 = λ xs. Descends size state' xs levels' leaves' in
    record {
      levels' = ((root, over_of node.low a (key_at es 5) b) ∷ []) ∷ ((a, left_of node es b) ∷ (b, right_of node es) ∷ []) ∷ levels';
      leaves' = leaves';
      part = record {
        descends = (ap (λ k. (k, root) ∷ []) low, (at_root, refl, tt), (refl, (at_a, kind, (at_b, kind, tt)), subst D shape (descends_frame size between state' (es ++ []) levels' leaves' grows.keeps below.part.descends)));
        rising = below.part.rising;
        follow = below.part.follow;
        once = grows.once;
      };
      grown = grows.grown;
      at_key = below.at_key;
      absent = below.absent;
      leaves_grow = below.leaves_grow;
      shape = inner_parted node entry rank a b levels levels' leaves leaves' how (record { place = is; ten = ten });
      below = refl;
    }

leaf_root : (size fixed root a b rid rank : ℕ) (key : Key) (node : Content) (state state' : State) → a < size → b < size → rid < size → node.low ≡ first_key → node.kind ≡ Leaf → IsRank key node.entries rank → entry_at node.entries key ≡ None → NotAfter node.low key → length (with_entry node.entries rank (key, rid)) ≡ 10 → Part size state ((first_key, root) ∷ []) [] ((root, node) ∷ []) → Rooted fixed root a b state state' (left_of node (with_entry node.entries rank (key, rid)) b) (right_of node (with_entry node.entries rank (key, rid))) (over_of node.low a (key_at (with_entry node.entries rank (key, rid)) 5) b) → RootWith size fixed root a b key rid state state' [] ((root, node) ∷ [])
leaf_root size fixed root a b rid rank key node state state' in_a in_b stored low kind is absent not_after ten part r =
    let es = with_entry node.entries rank (key, rid) in
    let xs = take rank node.entries in
    let ys = drop rank node.entries in
    let here = part.descends.1.0 in
    let f = filled size key rid rank node root state [] stored here kind is absent not_after tt part.follow in
    let half = halves es f.fills.rising (omega (arith, ten)) in
    let less = low_before node.low es 5 (first_key, 0) f.from f.fills.rising (omega arith) (omega (arith, ten)) in
    let grows = root_grows fixed root a b state state state' [] [] here.words here.here part.once (grown_nothing fixed state) tt (λ other there. absurd there) r.no_a r.no_b r.new_a r.new_b r.differ r.others in
    let at_a = at_written size state' a (left_of node es b) r.at_a (left_sound size node es b f.fills ten in_b) (λ inner. ap (λ k. next_left k b) inner) in
    let at_b = at_written size state' b (right_of node es) r.at_b (right_sound size node es here.sound f.fills ten) (no_next node.kind node.next kind) in
    let at_root = at_written size state' root (over_of node.low a (key_at es 5) b) r.at_root (over_sound size node.low a (key_at es 5) b less in_a in_b) (λ inner. refl) in
    let F : List (Key × ℕ) → Type 0 = From node.low in
    let es_parts : es ≡ take 5 es ++ drop 5 es = sym (take-append-drop 5 es) in
    let now : take 5 es ++ (drop 5 es ++ []) ≡ es = ap (λ zs. take 5 es ++ zs) (append-nil (drop 5 es)) ∙ take-append-drop 5 es in
    let was : node.entries ++ [] ≡ xs ++ ys = append-nil node.entries ∙ f.was in
    record {
      levels' = ((root, over_of node.low a (key_at es 5) b) ∷ []) ∷ [];
      leaves' = (a, left_of node es b) ∷ (b, right_of node es) ∷ [];
      part = record {
        descends = (ap (λ k. (k, root) ∷ []) low, (at_root, refl, tt), (refl, (at_a, kind, (at_b, kind, tt))));
        rising = ((less, tt), (tt, tt));
        follow = (ap (λ k. next_left k b) kind, from_left node.low (take 5 es) (drop 5 es) (subst F es_parts f.from), half.below, (part.follow.0, half.from, tt, tt));
        once = grows.once;
      };
      grown = grows.grown;
      at_key = λ other. ap (λ zs. entry_at zs other) now ∙ entry_at-put xs (key, rid) ys other f.below ∙ ap (λ zs. cond (is_same other key) (Some rid) (entry_at zs other)) (sym was);
      absent = ap (λ zs. entry_at zs key) was ∙ entry_at-absent xs ys key f.below is.above;
      leaves_grow = omega arith;
      shape = leaf_parted node rank a b (record { place = is; ten = ten });
      below = refl;
    }

names_nil : (row : List (ℕ × Content)) → row_names row ≡ [] → row ≡ []
names_nil [] none = refl
names_nil (x ∷ row) none = cc

pub root_with : (size fixed root a b rid rank : ℕ) (key : Key) (entry : Key × ℕ) (node : Content) (state between state' : State) (levels : List (List (ℕ × Content))) (leaves : List (ℕ × Content)) → a < size → b < size → rid < size → entry.1 < size → node.low ≡ first_key → NotAfter node.low key → IsRank key node.entries rank → (node.kind ≡ Inner → 0 < rank) → length (with_entry node.entries rank entry) ≡ 10 → Stands size state [] (first_key, root) [] (root, node) levels leaves → (node.kind ≡ Leaf → (entry ≡ (key, rid)) × (entry_at node.entries key ≡ None) × (between ≡ state)) → (node.kind ≡ Inner → (levels : List (List (ℕ × Content))) (leaves : List (ℕ × Content)) → Part size state (node.entries ++ []) levels leaves → (levels' : List (List (ℕ × Content))) × (leaves' : List (ℕ × Content)) × PartWith size fixed key rid state between (with_entry node.entries rank entry ++ []) levels leaves levels' leaves' × PartTakes key rid levels leaves levels' leaves' (Some entry)) → Rooted fixed root a b between state' (left_of node (with_entry node.entries rank entry) b) (right_of node (with_entry node.entries rank entry)) (over_of node.low a (key_at (with_entry node.entries rank entry) 5) b) → RootWith size fixed root a b key rid state state' levels leaves
root_with size fixed root a b rid rank key entry node state between state' _ _ in_a in_b stored within low not_after is some ten (on_leaves lefts rights first last kind part) leaf inner r =
    let l = leaf kind in
    let P : List (ℕ × Content) → List (ℕ × Content) → Type 0 = λ ls rs. Part size state ((first_key, root) ∷ []) [] (ls ++ (root, node) ∷ rs) in
    let R : List (ℕ × Content) → List (ℕ × Content) → Type 0 = λ ls rs. RootWith size fixed root a b key rid state state' [] (ls ++ (root, node) ∷ rs) in
    let no_lefts = names_nil lefts first in
    let no_rights = names_nil rights last in
    let part' = subst (λ rs. P [] rs) no_rights (subst (λ ls. P ls rights) no_lefts part) in
    let W : Key × ℕ → State → Type 0 = λ e s. Rooted fixed root a b s state' (left_of node (with_entry node.entries rank e) b) (right_of node (with_entry node.entries rank e)) (over_of node.low a (key_at (with_entry node.entries rank e) 5) b) in
    let T : Key × ℕ → Type 0 = λ e. length (with_entry node.entries rank e) ≡ 10 in
    let done = leaf_root size fixed root a b rid rank key node state state' in_a in_b stored low kind is l.1 not_after (subst T l.0 ten) part' (subst (λ s. W (key, rid) s) l.2 (subst (λ e. W e between) l.0 r)) in
    subst (λ ls. R ls rights) (sym no_lefts) (subst (λ rs. R [] rs) (sym no_rights) done)
root_with size fixed root a b rid rank key entry node state between state' _ _ in_a in_b stored within low not_after is some ten (on_level lefts rights levels leaves first last kind part) leaf inner r =
    let P : List (ℕ × Content) → List (ℕ × Content) → Type 0 = λ ls rs. Part size state ((first_key, root) ∷ []) ((ls ++ (root, node) ∷ rs) ∷ levels) leaves in
    let R : List (ℕ × Content) → List (ℕ × Content) → Type 0 = λ ls rs. RootWith size fixed root a b key rid state state' ((ls ++ (root, node) ∷ rs) ∷ levels) leaves in
    let no_lefts = names_nil lefts first in
    let no_rights = names_nil rights last in
    let part' = subst (λ rs. P [] rs) no_rights (subst (λ ls. P ls rights) no_lefts part) in
    let below = inner kind levels leaves (part_below size state ((first_key, root) ∷ []) [] (root, node) [] levels leaves part') in
    let done = inner_root size fixed root a b rid rank key entry node state between state' levels leaves below.0 below.1 in_a in_b low kind (some kind) within ten part' below.2 below.3 is r in
    subst (λ ls. R ls rights) (sym no_lefts) (subst (λ rs. R [] rs) (sym no_rights) done)
