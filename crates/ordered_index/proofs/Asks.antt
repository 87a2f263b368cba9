-- What an insertion asks for and writes, by what was done below the root and at it.
use Rattle.std.proofs.Common.{◌≡◌, ◌≢◌, ℕ, ◌+◌, ◌*◌, ◌<◌, ◌≤◌, Bool, true, false, List, [], ◌∷◌, length, None, Some, Result, Ok, refl, ap, arith, subst, inl, inr}
use Rattle.std.specs.Prelude.{IfOk}
use Rattle.std.specs.Result.{IsErr}
use Rattle.std.proofs.lemmas.Bool.{cases_eq}
use Rattle.plain_data.specs.State.{overlay}
use Rattle.record_store.specs.declared.walk.Walk.{Walk}
use Rattle.record_store.specs.Meaning.{Meaning, after_write}
use Rattle.record_store.specs.States.{EachState}
use Rattle.ordered_index.specs.Written.{WritesNodes}
use Rattle.record_store.specs.Walks.{Extends, OnlyReads}
use Rattle.record_store.proofs.Agreement.{writes_same, extends-trans}
use Rattle.ordered_index.proofs.Wrote.{nodes-none, nodes-trans, nodes-weaken, wrote_none, wrote_one}
use Rattle.ordered_index.specs.declared.key.Key.{Key}
use Rattle.ordered_index.specs.declared.node.Kind.TheVariants.{Leaf, Inner}
use Rattle.ordered_index.specs.declared.enter.Entering.{Entering}
use Rattle.ordered_index.specs.declared.enter.Entering.TheVariants.{There, Done, Takes}
use Rattle.ordered_index.specs.Keys.{entry_at, first_key}
use Rattle.ordered_index.specs.Node.{Content, tree_node_words}
use Rattle.ordered_index.specs.Tree.{IsAt, EachTree}
use Rattle.ordered_index.specs.Enter.{EachEntered}
use Rattle.ordered_index.specs.Asks.{EachPart, PartIsDue, SomeFull, AllFull, HasAsked, InsertMayAsk, InsertAsks, AsksBelow, AsksRoot, asks_at, records_due}
use Rattle.ordered_index.proofs.Trees.{tree_empty}
use Rattle.ordered_index.proofs.Entering.{reads_of}
use Rattle.ordered_index.proofs.Inserted.{root_child, present_by}
use Rattle.ordered_index.proofs.Counting.{asks_nine, asks_less, takes_some, takes_all, due_most, due_some, due_all, tree_parts}
use Rattle.ordered_index.proofs.Asking.{err_ok, below_err, below_there, below_done, put_due, full_below, writes_takes, due_behind}

abbrev top_entries : ℕ → List (Key × ℕ)
top_entries root = (first_key, root) ∷ []

-- before the root was passed
pub asks_first_err : {F : Type 0} (root : ℕ) (key : Key) (m0 m1 m2 : Meaning) (answer : Result Bool (Walk F)) → IsErr answer → OnlyReads m0 m1 → m2 ≡ m1 → InsertAsks root key m0 m2 answer 0
asks_first_err root key m0 m1 m2 answer err only same = record {
  may = λ some. absurd (omega arith);
  exact = err_ok answer _ err;
  few = omega arith;
  writes = nodes-weaken 0 (2 * 0 + 1) m0 m2 (omega arith) (wrote_none 0 m0 m1 m2 (nodes-none m0 m1 (writes_same m0 m1 only)) same);
}

none_due : (key : Key) (levels : List (List (ℕ × Content))) (leaves : List (ℕ × Content)) → levels ≡ [] → leaves ≡ [] → 0 ≡ records_due key levels leaves
none_due key [] [] no_levels no_leaves = refl
none_due key (level ∷ levels) leaves no_levels no_leaves = cc
none_due key [] (leaf ∷ leaves) no_levels no_leaves = cc

-- the root was absent
pub asks_first : {F : Type 0} (size root : ℕ) (key : Key) (m0 m1 m2 : Meaning) (rid : ℕ) (first : Content) → size ≡ m0.size → OnlyReads m0 m1 → EachState m0 m1 (λ state. state root ≡ None) → m2 ≡ after_write m1 rid (Some (tree_node_words first)) → InsertAsks {F = F} root key m0 m2 (Ok true) 0
asks_first size root key m0 m1 m2 rid first same only absent wrote = record {
  may = λ some. absurd (omega arith);
  exact = λ state levels leaves agrees tree.
      let none = absent state (rw (ap (λ (m : Meaning). m.reads) wrote) at agrees) in
      let empty = tree_empty m0.size root (overlay m0.writes state) levels leaves tree none in
      none_due key levels leaves empty.0 empty.1;
  few = omega arith;
  writes = wrote_one 0 m0 m1 m2 rid first (nodes-none m0 m1 (writes_same m0 m1 only)) wrote;
}

module _ {F : Type 0} (root : ℕ) (key : Key) (node : Content) (m0 m1 m2 m3 : Meaning) (asked : ℕ) (only : OnlyReads m0 m1) (early : Extends m1.reads m2.reads) (late : Extends m2.reads m3.reads) (low : node.low ≡ first_key) (at : EachState m0 m1 (λ state. IsAt m0.size state (root, node))) (below : Result Entering (Walk F)) (a : AsksBelow key node.kind node.entries 1 m1 m2 below asked) where
  present : EachState m0 m3 (λ state. (words : List ℕ) × (state root ≡ Some words))
  present = present_by m0.size root node m0 m1 m3 (extends-trans m1.reads m2.reads m3.reads early late) at

  of_top : (answer : Result Entering (Walk F)) (other : Result Bool (Walk F)) (n : ℕ) → AsksBelow key Inner (top_entries root) 0 m0 m3 answer n → IfOk other (HasAsked root key m0 m3 n) → InsertAsks root key m0 m3 other n
  of_top answer other n b exact = record {
    may = λ some. (let due = tree_parts root key m0 m3 (PartIsDue key n) present (b.may some) in λ state levels leaves agrees tree. due_most key n levels leaves (due state levels leaves agrees tree));
    exact = exact;
    few = omega (arith, b.deep);
    writes = b.writes;
  }

  pub top_err : (answer : Result Bool (Walk F)) (refused : Result Entering (Walk F)) → IsErr answer → IsErr refused → m3 ≡ m2 → InsertAsks root key m0 m3 answer asked
  top_err answer refused err err' same =
      of_top refused answer asked (below_err m0 m1 m2 m3 key (top_entries root) 1 (first_key, root) node asked 0 Inner refl only early late (root_child m0.size root key node low) at below a refused err' same) (err_ok answer _ err)

  pub top_there : below ≡ Ok There → m3 ≡ m2 → InsertAsks {F = F} root key m0 m3 (Ok false) asked
  top_there is same =
      let b = below_there m0 m1 m2 m3 key (top_entries root) 1 (first_key, root) node asked 0 Inner refl only early late (root_child m0.size root key node low) at below a is same in
      of_top (Ok There) (Ok false) asked b (b.exact refl)

  pub top_done : below ≡ Ok Done → (node.kind ≡ Leaf → ⊥) → m3 ≡ m2 → InsertAsks {F = F} root key m0 m3 (Ok true) asked
  top_done is no_leaf same =
      let b = below_done m0 m1 m2 m3 key (top_entries root) 1 (first_key, root) node asked 0 Inner refl only early late (root_child m0.size root key node low) at below a is no_leaf same in
      of_top (Ok Done) (Ok true) asked b (let some = tree_parts root key m0 m3 (SomeFull key asked) present (b.exact refl) in λ state levels leaves agrees tree. due_some key asked levels leaves (some state levels leaves agrees tree))

  module _ (rid child_rank : ℕ) (entry : Key × ℕ) (is : below ≡ Ok (Takes entry)) (leaf : node.kind ≡ Leaf → entry_at node.entries key ≡ None) (entered : node.kind ≡ Inner → EachEntered (reads_of m0 m1) m2 key rid node.entries child_rank (Takes entry)) where
    top_due : (asks : ℕ) → asks ≤ asks_at node.entries → EachPart m0 m3 key (top_entries root) (PartIsDue key (asked + asks))
    top_due asks few = put_due m0 m1 m2 m3 key (top_entries root) 1 (first_key, root) node asked 0 Inner refl only early late (root_child m0.size root key node low) at below a rid child_rank entry is leaf entered asks few

    top_full : node.kind ≡ Inner → EachPart (reads_of m0 m1) m2 key node.entries (AllFull key asked)
    top_full = full_below m0 m1 m2 m3 key (top_entries root) 1 (first_key, root) node asked 0 Inner refl only early late (root_child m0.size root key node low) at below a rid child_rank entry is leaf entered

    split_due : length node.entries ≡ 9 → EachTree root m0 m3 (λ _ levels leaves. asked + 2 ≡ records_due key levels leaves)
    split_due nine =
        let all = tree_parts root key m0 m3 (AllFull key (asked + 1)) present (takes_all m0 m1 m2 m3 key (top_entries root) 1 (first_key, root) node asked early late (root_child m0.size root key node low) at nine (λ k. a.leaf k) top_full) in
        λ state levels leaves agrees tree. omega (arith, due_all key (asked + 1) levels leaves (all state levels leaves agrees tree))

    whole_due : length node.entries ≢ 9 → EachTree root m0 m3 (λ _ levels leaves. asked ≡ records_due key levels leaves)
    whole_due room =
        let some = tree_parts root key m0 m3 (SomeFull key asked) present (takes_some m0 m1 m2 m3 key (top_entries root) 1 (first_key, root) node asked early late (root_child m0.size root key node low) at room (λ k. a.leaf k) top_full) in
        λ state levels leaves agrees tree. due_some key asked levels leaves (some state levels leaves agrees tree)

    pub top_may : (asks : ℕ) → (asks ≤ 2) × (length node.entries ≡ 9) → InsertMayAsk root key m0 m3 (asked + asks)
    top_may asks few =
        let one = tree_parts root key m0 m3 (PartIsDue key (asked + 1)) present (top_due 1 (omega (arith, asks_nine node.entries few.1))) in
        λ state levels leaves agrees tree. ((one state levels leaves agrees tree).0, omega (arith, few.0, split_due few.1 state levels leaves agrees tree))

    root_may : {G : Type 0} (answer : Result (Unit {0}) (Walk G)) (more : ℕ) → AsksRoot node.entries m2 m3 answer more → 0 < asked + more → InsertMayAsk root key m0 m3 (asked + more)
    root_may answer more r some = elim (cases_eq (length node.entries) 9) as (λ _. InsertMayAsk root key m0 m3 (asked + more)) [
      | inl nine ↦ top_may more (r.few, nine)
      | inr room ↦ (
          let none : more ≡ 0 = elim (cases_eq more 0) as (λ _. more ≡ 0) [ inl zero ↦ zero | inr other ↦ absurd (room (r.may (omega arith))) ] in
          let due = tree_parts root key m0 m3 (PartIsDue key (asked + 0)) present (top_due 0 (omega arith)) in
          λ state levels leaves agrees tree. let d = due_most key (asked + 0) levels leaves (due state levels leaves agrees tree) in (d.0, omega (arith, d.1, none)))
    ]

    root_writes : {G : Type 0} (answer : Result (Unit {0}) (Walk G)) (more : ℕ) → AsksRoot node.entries m2 m3 answer more → WritesNodes (2 * (asked + more) + 1) m0 m3
    root_writes answer more r =
        let P : ℕ → Type 0 = λ k. WritesNodes k m0 m3 in
        subst P (omega arith) (nodes-trans (2 * asked) (2 * more + 1) m0 m2 m3 (writes_takes m0 m1 m2 m3 key (top_entries root) 1 (first_key, root) node asked 0 Inner refl only early late (root_child m0.size root key node low) at below a rid child_rank entry is leaf entered) r.writes)

    pub root_err : (answer : Result (Unit {0}) (Walk F)) (other : Result Bool (Walk F)) (more : ℕ) → IsErr other → AsksRoot node.entries m2 m3 answer more → InsertAsks root key m0 m3 other (asked + more)
    root_err answer other more err r = record {
      may = root_may answer more r;
      exact = err_ok other _ err;
      few = omega (arith, a.deep, r.few);
      writes = root_writes answer more r;
    }

    pub root_ok : (answer : Result (Unit {0}) (Walk F)) (more : ℕ) → more ≡ 2 * asks_at node.entries → AsksRoot node.entries m2 m3 answer more → InsertAsks {F = F} root key m0 m3 (Ok true) (asked + more)
    root_ok answer more two r = record {
      may = root_may answer more r;
      exact = elim (cases_eq (length node.entries) 9) as (λ _. HasAsked root key m0 m3 (asked + more) true) [
        | inl nine ↦ (λ state levels leaves agrees tree. omega (arith, two, asks_nine node.entries nine, split_due nine state levels leaves agrees tree))
        | inr room ↦ (λ state levels leaves agrees tree. omega (arith, two, asks_less node.entries room, whole_due room state levels leaves agrees tree))
      ];
      few = omega (arith, a.deep, r.few);
      writes = root_writes answer more r;
    }

-- a fault below the root
pub top_behind : (root : ℕ) (key : Key) (node : Content) (m0 m1 m2 : Meaning) (asks : ℕ) → OnlyReads m0 m1 → Extends m1.reads m2.reads → node.low ≡ first_key → EachState m0 m1 (λ state. IsAt m0.size state (root, node)) → (node.kind ≡ Inner) × EachPart m1 m2 key node.entries (PartIsDue key asks) → InsertMayAsk root key m0 m2 asks
top_behind root key node m0 m1 m2 asks only early low at later =
    let due = tree_parts root key m0 m2 (PartIsDue key asks) (present_by m0.size root node m0 m1 m2 early at) (due_behind m0 m1 m2 key (top_entries root) 1 (first_key, root) node asks only early (root_child m0.size root key node low) at later) in
    λ state levels leaves agrees tree. due_most key asks levels leaves (due state levels leaves agrees tree)

-- at most so many records are written in all
pub few_of : {F : Type 0} (root : ℕ) (key : Key) (before after : Meaning) (answer : Result Bool (Walk F)) (asked : ℕ) → InsertAsks root key before after answer asked → WritesNodes 51 before after
few_of root key before after answer asked a = nodes-weaken (2 * asked + 1) 51 before after (omega (arith, a.few)) a.writes
