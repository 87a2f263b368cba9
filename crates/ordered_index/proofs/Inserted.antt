-- The tree once an entry was inserted.
use Rattle.std.proofs.Common.{◌≡◌, ◌⊎◌, ℕ, ◌<◌, ◌≤◌, List, [], ◌∷◌, ◌++◌, append_assoc, length, None, Some, refl, sym, ap, ◌∙◌, arith, subst, inl, inr, true, false}
use Rattle.std.specs.Prelude.{IsSome}
use Rattle.std.proofs.lemmas.List.Elements.{All-cons, All-nil}
use Rattle.plain_data.specs.State.{State, overlay}
use Rattle.record_store.specs.Meaning.{Meaning, with_value, after_write, after_fresh}
use Rattle.record_store.specs.Walks.{Extends, OnlyReads, ReadsGrow}
use Rattle.record_store.proofs.Agreement.{agrees-extends, extends-trans, written_after, size_same, fixed_same, writes_same}
use Rattle.ordered_index.specs.Splits.{PartTakes}
use Rattle.ordered_index.specs.Splits.TreeTakes.{begun as begun_leaf, grown}
use Rattle.ordered_index.proofs.Depth.{shallow}
use Rattle.ordered_index.proofs.Parted.{Rooted, rooted, root_with}
use Rattle.ordered_index.specs.declared.key.Key.{Key}
use Rattle.ordered_index.specs.declared.node.Kind.TheVariants.{Leaf, Inner}
use Rattle.ordered_index.specs.declared.enter.Entering.TheVariants.{There, Done, Takes}
use Rattle.ordered_index.specs.Keys.{NotAfter, entry_at, first_key}
use Rattle.ordered_index.specs.Node.{Content, IsSound, tree_node_words}
use Rattle.ordered_index.specs.Tree.{IsAt, Descends, IsTree, EachTree, record_of_key}
use Rattle.record_store.specs.States.{EachState}
use Rattle.ordered_index.specs.Changes.{IsInserted, InsertsEntry}
use Rattle.ordered_index.specs.Enter.{Part, PartWith, IsRank, EachEntered, PutsRoot, with_entry, key_at, left_of, right_of, over_of, leaf_of}
use Rattle.ordered_index.specs.Enter.PutsRoot.{whole, parted}
use Rattle.record_store.specs.Store.{IsFresh}
use Rattle.ordered_index.proofs.Order.{first_not_after}
use Rattle.ordered_index.proofs.Trees.{tree_descends, tree_empty, root_last}
use Rattle.ordered_index.proofs.Grown.{descends_present, in_or_not}
use Rattle.ordered_index.proofs.Removed.{moved_by, tree_of, root_in}
use Rattle.ordered_index.proofs.Entering.{IsChild, stands, reads_of, enter_takes}
use Rattle.ordered_index.proofs.Written.{written_here, written_others, at_written}

pub tree_part : (size root : ℕ) (state : State) (levels : List (List (ℕ × Content))) (leaves : List (ℕ × Content)) (words : List ℕ) → IsTree size root state levels leaves → state root ≡ Some words → Part size state ((first_key, root) ∷ []) levels leaves
tree_part size root state levels leaves words tree present = record {
  descends = tree_descends size root state levels leaves words tree present;
  rising = tree.rising;
  follow = tree.follow;
  once = tree.once;
}

-- the root as the child of an entry above it
pub root_rank : (root : ℕ) (key : Key) → IsRank key ((first_key, root) ∷ []) 1
root_rank root key = record { within = omega arith; above = tt; last = λ d some. root_last root key }

pub root_child : (size root : ℕ) (key : Key) (node : Content) → node.low ≡ first_key → IsChild size key ((first_key, root) ∷ []) 1 (first_key, root) node
root_child size root key node low = record { is = root_rank root key; some = omega arith; at = refl; fence = low }

pub tree_with : (size fixed root : ℕ) (key : Key) (rid : ℕ) (before after : Meaning) (state : State) (levels : List (List (ℕ × Content))) (leaves : List (ℕ × Content)) (levels' : List (List (ℕ × Content))) (leaves' : List (ℕ × Content)) → size ≡ before.size → fixed ≡ before.fixed → length levels < 24 → PartWith size fixed key rid (overlay before.writes state) (overlay after.writes state) ((first_key, root) ∷ []) levels leaves levels' leaves' → PartTakes key rid levels leaves levels' leaves' None → IsInserted root key rid before after state levels leaves levels' leaves'
tree_with size fixed root key rid before after state levels leaves levels' leaves' same_size same_fixed deep with' how =
    let st' : State = overlay after.writes state in
    let P : ℕ → ℕ → Type 0 = λ s f. PartWith s f key rid (overlay before.writes state) st' ((first_key, root) ∷ []) levels leaves levels' leaves' in
    let part = subst (λ f. P before.size f) same_fixed (subst (λ s. P s fixed) same_size with') in
    let present = descends_present before.size st' ((first_key, root) ∷ []) levels' leaves' root part.part.descends (root_in before.size root st' levels' leaves' part.part.descends) in
    record {
      lawful = record {
        descends = tree_of before.size root st' levels' leaves' present.0 present.1 part.part.descends;
        rising = part.part.rising;
        follow = part.part.follow;
        once = part.part.once;
        deep = rw part.same_depth deep;
      };
      at_key = part.at_key;
      was_absent = part.absent;
      shape = grown levels levels' leaves leaves' how;
      moved = moved_by before.size before.fixed root (overlay before.writes state) st' ((first_key, root) ∷ []) ((first_key, root) ∷ []) levels leaves levels' leaves' (record { descends = part.part.descends; once = part.part.once; grown = part.grown });
      leaves_grow = part.leaves_grow;
      left_first = λ longer. absurd (omega (arith, longer, part.same_depth));
    }

-- the entry is in, with no new level
pub each_inserted : (root : ℕ) (key : Key) (rid : ℕ) (before after : Meaning) → EachState before after (λ state. (words : List ℕ) × (state root ≡ Some words)) → EachEntered before after key rid ((first_key, root) ∷ []) 1 Done → EachTree root before after (λ state levels leaves. (levels' : List (List (ℕ × Content))) × (leaves' : List (ℕ × Content)) × IsInserted root key rid before after state levels leaves levels' leaves')
each_inserted root key rid before after present each = λ state levels leaves agrees tree.
    let there = present state agrees in
    let done = each state [] [] levels leaves agrees (tree_part before.size root (overlay before.writes state) levels leaves there.0 tree there.1) tt in
    (done.0, done.1, tree_with before.size before.fixed root key rid before after state levels leaves done.0 done.1 refl refl tree.deep done.2 done.3)

pub each_there : (root : ℕ) (key : Key) (rid : ℕ) (before after : Meaning) → EachState before after (λ state. (words : List ℕ) × (state root ≡ Some words)) → EachEntered before after key rid ((first_key, root) ∷ []) 1 There → EachTree root before after (λ _ _ leaves. IsSome (record_of_key leaves key))
each_there root key rid before after present each = λ state levels leaves agrees tree.
    let there = present state agrees in
    each state [] [] levels leaves agrees (tree_part before.size root (overlay before.writes state) levels leaves there.0 tree there.1) tt

pub inserts_done : (root : ℕ) (key : Key) (rid : ℕ) (before after : Meaning) → EachState before after (λ state. (words : List ℕ) × (state root ≡ Some words)) → EachEntered before after key rid ((first_key, root) ∷ []) 1 Done → InsertsEntry root key rid true before after
inserts_done root key rid before after present each = record {
  there = λ no. cc;
  unchanged = λ no. cc;
  inserted = λ yes. each_inserted root key rid before after present each;
}

pub inserts_nothing : (root : ℕ) (key : Key) (rid : ℕ) (before after : Meaning) → EachState before after (λ state. (words : List ℕ) × (state root ≡ Some words)) → OnlyReads before after → EachEntered before after key rid ((first_key, root) ∷ []) 1 There → InsertsEntry root key rid false before after
inserts_nothing root key rid before after present only each = record {
  there = λ no. each_there root key rid before after present each;
  unchanged = λ no. only;
  inserted = λ yes. cc;
}

-- an absent root becomes a leaf with the entry
leaf_sound : (size : ℕ) (key : Key) (rid : ℕ) → rid < size → IsSound size (leaf_of key rid)
leaf_sound size key rid stored = record {
  few = omega arith;
  enough = omega arith;
  rising = (tt, tt);
  records = All-cons (λ (e : Key × ℕ). e.1 < size) (key, rid) [] stored (All-nil (λ (e : Key × ℕ). e.1 < size));
  first = tt;
  next = tt;
}

begun : (root : ℕ) (key : Key) (rid : ℕ) (before after : Meaning) (state : State) → rid < before.size → overlay before.writes state root ≡ None → after.writes ≡ with_value before.writes root (Some (tree_node_words (leaf_of key rid))) → IsInserted root key rid before after state [] [] [] ((root, leaf_of key rid) ∷ [])
begun root key rid before after state stored absent writes =
    let st' : State = overlay after.writes state in
    let here : st' root ≡ Some (tree_node_words (leaf_of key rid)) = ap (λ w. overlay w state root) writes ∙ written_here before.writes state root (Some (tree_node_words (leaf_of key rid))) in
    let descends : Descends before.size st' ((first_key, root) ∷ []) [] ((root, leaf_of key rid) ∷ []) = (refl, (at_written before.size st' root (leaf_of key rid) here (leaf_sound before.size key rid stored) (λ inner. cc), refl, tt)) in
    record {
      lawful = record {
        descends = tree_of before.size root st' [] ((root, leaf_of key rid) ∷ []) (tree_node_words (leaf_of key rid)) here descends;
        rising = (tt, tt);
        follow = (refl, (first_not_after key, tt), tt, tt);
        once = (λ there. there, tt);
        deep = omega arith;
      };
      at_key = λ other. refl;
      was_absent = refl;
      shape = begun_leaf;
      moved = record {
        kept = λ other there. absurd there;
        anew = λ other there. elim there as (λ _. ⊥ ⊎ ((overlay before.writes state other ≡ None) × ((other ≡ root) ⊎ (before.fixed ≤ other)))) [ inl same ↦ inr (ap (overlay before.writes state) (sym same) ∙ absent, inl (sym same)) | inr none ↦ absurd none ];
        present = λ other there. elim there as (λ _. (words : List ℕ) × (st' other ≡ Some words)) [ inl same ↦ (tree_node_words (leaf_of key rid), ap st' (sym same) ∙ here) | inr none ↦ absurd none ];
        outside = λ other out never. ap (λ w. overlay w state other) writes ∙ written_others before.writes state root (Some (tree_node_words (leaf_of key rid))) other (λ same. out (inl (sym same)));
        known = λ other. in_or_not other (root ∷ []);
        known_before = λ other. in_or_not other [];
      };
      leaves_grow = omega arith;
      left_first = λ longer. absurd (omega (arith, longer));
    }

pub inserts_first : (size root : ℕ) (key : Key) (rid : ℕ) (before between after : Meaning) → size ≡ before.size → rid < before.size → OnlyReads before between → EachState before between (λ state. state root ≡ None) → after ≡ after_write between root (Some (tree_node_words (leaf_of key rid))) → InsertsEntry root key rid true before after
inserts_first size root key rid before between after same stored only absent wrote =
    let one = written_after before between after root _ only wrote in
    record {
      there = λ no. cc;
      unchanged = λ no. cc;
      inserted = λ yes state levels leaves agrees tree.
          let none = absent state (rw one.reads at agrees) in
          let empty = tree_empty before.size root (overlay before.writes state) levels leaves tree none in
          let P : List (List (ℕ × Content)) → List (ℕ × Content) → Type 0 = λ l ls. IsInserted root key rid before after state l ls [] ((root, leaf_of key rid) ∷ []) in
          ([], (root, leaf_of key rid) ∷ [], subst (λ l. P l leaves) (sym empty.0) (subst (λ ls. P [] ls) (sym empty.1) (begun root key rid before after state stored none one.writes)));
    }

pub present_by : (size root : ℕ) (node : Content) (m0 m1 m2 : Meaning) → Extends m1.reads m2.reads → EachState m0 m1 (λ state. IsAt size state (root, node)) → EachState m0 m2 (λ state. (words : List ℕ) × (state root ≡ Some words))
present_by size root node m0 m1 m2 extends at = λ state agrees. (let here = at state (agrees-extends m1.reads m2.reads state extends agrees) in (here.words, here.here))

-- the root's ten entries went to two new nodes below it
root_parted : (m0 m1 m2 m3 : Meaning) (root : ℕ) (key : Key) (rid : ℕ) (node : Content) (rank : ℕ) (entry : Key × ℕ) (left right : ℕ) → m0.size ≤ 200000 → m0.fixed ≤ m0.size → root < m0.fixed → (node.kind ≡ Inner → 0 < rank) → OnlyReads m0 m1 → ReadsGrow m1 m2 → ReadsGrow m2 m3 → rid < m0.size → entry.1 < m0.size → node.low ≡ first_key → IsSound m0.size node → IsRank key node.entries rank → EachState m0 m1 (λ state. IsAt m0.size state (root, node)) → (node.kind ≡ Leaf → (entry ≡ (key, rid)) × (entry_at node.entries key ≡ None) × (m2 ≡ m1)) → (node.kind ≡ Inner → EachEntered (reads_of m0 m1) m2 key rid node.entries rank (Takes entry)) → length (with_entry node.entries rank entry) ≡ 10 → IsFresh m2 left → IsFresh (after_fresh m2 left) right → m3 ≡ after_write (after_write (after_write (after_fresh (after_fresh m2 left) right) left (Some (tree_node_words (left_of node (with_entry node.entries rank entry) right)))) right (Some (tree_node_words (right_of node (with_entry node.entries rank entry))))) root (Some (tree_node_words (over_of node.low left (key_at (with_entry node.entries rank entry) 5) right))) → EachTree root m0 m3 (λ state levels leaves. (levels' : List (List (ℕ × Content))) × (leaves' : List (ℕ × Content)) × IsInserted root key rid m0 m3 state levels leaves levels' leaves')
root_parted m0 m1 m2 m3 root key rid node rank entry left right most room under some only grow more stored within low sound is at leaf inner ten first second wrote = λ state levels leaves agrees tree.
    let agrees2 = agrees-extends m2.reads m3.reads state more.reads agrees in
    let here = at state (agrees-extends m1.reads m2.reads state grow.reads agrees2) in
    let s0 : State = overlay m0.writes state in
    let s3 : State = overlay m3.writes state in
    let es = with_entry node.entries rank entry in
    let size : m2.size ≡ m0.size = grow.size ∙ size_same m0 m1 only in
    let fixed : m2.fixed ≡ m0.fixed = grow.fixed ∙ fixed_same m0 m1 only in
    let part = tree_part m0.size root s0 levels leaves here.words tree here.here in
    let st = stands m0.size s0 [] (first_key, root) [] (root, node) levels leaves part (ap (λ k. (k, root)) low) here in
    let L : ℕ → Type 0 = λ f. root < f in
    let r2 = rooted m2 m3 state root left right (left_of node es right) (right_of node es) (over_of node.low left (key_at es 5) right) agrees (subst L (sym fixed) under) first second wrote in
    let R : ℕ → Type 0 = λ f. Rooted f root left right (overlay m2.writes state) s3 (left_of node es right) (right_of node es) (over_of node.low left (key_at es 5) right) in
    let in_left : left < m0.size = omega (arith, first.within, size) in
    let in_right : right < m0.size = omega (arith, second.within, size) in
    let K : Key → Type 0 = λ k. NotAfter k key in
    let w = root_with m0.size m0.fixed root left right rid rank key entry node s0 (overlay m2.writes state) s3 levels leaves in_left in_right stored within low (subst K (sym low) (first_not_after key)) is some ten st
    (λ kind. let l = leaf kind in (l.0, l.1, ap (λ w. overlay w state) (ap (λ (m : Meaning). m.writes) l.2 ∙ writes_same m0 m1 only)))
    (λ kind levels' leaves' part'. inner kind state [] [] levels' leaves' agrees2 part' tt) (subst R fixed r2) in
    let present = descends_present m0.size s3 ((first_key, root) ∷ []) w.levels' w.leaves' root w.part.descends (root_in m0.size root s3 w.levels' w.leaves' w.part.descends) in (
      w.levels',
      w.leaves',
      record {
        lawful = record {
          descends = tree_of m0.size root s3 w.levels' w.leaves' present.0 present.1 w.part.descends;
          rising = w.part.rising;
          follow = w.part.follow;
          once = w.part.once;
          deep = shallow m0.size root first_key s3 w.levels' w.leaves' most (omega arith) w.part.descends w.part.once;
        };
        at_key = w.at_key;
        was_absent = w.absent;
        shape = w.shape;
        moved = moved_by m0.size m0.fixed root s0 s3 ((first_key, root) ∷ []) ((first_key, root) ∷ []) levels leaves w.levels' w.leaves' (record { descends = w.part.descends; once = w.part.once; grown = w.grown });
        leaves_grow = w.leaves_grow;
        left_first = λ longer. (m2.given, ap (λ (m : Meaning). m.given) wrote ∙ append_assoc m2.given (left ∷ []) (right ∷ []) ∙ ap (λ rids. m2.given ++ rids) (sym w.below));
      },
    )

pub inserts_takes : (m0 m1 m2 m3 : Meaning) (root : ℕ) (key : Key) (rid : ℕ) (node : Content) (rank : ℕ) (entry : Key × ℕ) → m0.size ≤ 200000 → m0.fixed ≤ m0.size → root < m0.fixed → OnlyReads m0 m1 → ReadsGrow m1 m2 → ReadsGrow m2 m3 → rid < m0.size → entry.1 < m0.size → node.low ≡ first_key → IsSound m0.size node → IsRank key node.entries rank → (node.kind ≡ Inner → 0 < rank) → EachState m0 m1 (λ state. IsAt m0.size state (root, node)) → (node.kind ≡ Leaf → (entry ≡ (key, rid)) × (entry_at node.entries key ≡ None) × (m2 ≡ m1)) → (node.kind ≡ Inner → EachEntered (reads_of m0 m1) m2 key rid node.entries rank (Takes entry)) → PutsRoot m2 m3 root node (with_entry node.entries rank entry) → InsertsEntry root key rid true m0 m3
inserts_takes m0 m1 m2 m3 root key rid node rank entry most room under only grow more stored within low sound is some at leaf inner (whole few wrote) =
    inserts_done root key rid m0 m3 (present_by m0.size root node m0 m1 m3 (extends-trans m1.reads m2.reads m3.reads grow.reads more.reads) at)
    (enter_takes None m0 m1 m2 m3 key rid ((first_key, root) ∷ []) 1 (first_key, root) node rank entry only grow more stored within (root_child m0.size root key node low) is some at leaf inner (few, wrote))
inserts_takes m0 m1 m2 m3 root key rid node rank entry most room under only grow more stored within low sound is some at leaf inner (parted left right ten first second wrote) = record {
  there = λ no. cc;
  unchanged = λ no. cc;
  inserted = λ yes. root_parted m0 m1 m2 m3 root key rid node rank entry left right most room under some only grow more stored within low sound is at leaf inner ten first second wrote;
}
