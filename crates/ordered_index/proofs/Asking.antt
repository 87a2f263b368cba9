-- What an insertion asks for and writes below a node, by what its child did.
use Rattle.std.proofs.Common.{◌≡◌, ◌≢◌, ◌⊎◌, ℕ, ◌+◌, ◌*◌, ◌<◌, ◌≤◌, Bool, true, false, cond, eqb, List, length, None, Some, Result, Ok, Err, refl, ap, arith, subst, inl, inr}
use Rattle.std.specs.Prelude.{IfOk, OnOk}
use Rattle.std.specs.Result.{IsErr}
use Rattle.record_store.specs.declared.walk.Walk.{Walk}
use Rattle.record_store.specs.Meaning.{Meaning, after_write}
use Rattle.record_store.specs.States.{EachState}
use Rattle.record_store.specs.Walks.{Extends, OnlyReads}
use Rattle.record_store.proofs.Agreement.{extends-refl, writes_same}
use Rattle.ordered_index.specs.declared.key.Key.{Key}
use Rattle.ordered_index.specs.declared.node.Kind.{Kind}
use Rattle.ordered_index.specs.declared.node.Kind.TheVariants.{Leaf, Inner}
use Rattle.ordered_index.specs.declared.enter.Entering.{Entering}
use Rattle.ordered_index.specs.declared.enter.Entering.TheVariants.{There, Done, Takes}
use Rattle.ordered_index.specs.Keys.{entry_at}
use Rattle.ordered_index.specs.Node.{Content, tree_node_words}
use Rattle.ordered_index.specs.Tree.{IsAt}
use Rattle.ordered_index.specs.Enter.{EachEntered, IfTakes, with_entry}
use Rattle.ordered_index.specs.Asks.{EachPart, PartIsDue, SomeFull, AllFull, AsksBelow, AsksRoot, asks_at}
use Rattle.ordered_index.specs.Written.{WritesNodes}
use Rattle.ordered_index.proofs.Wrote.{nodes-none, nodes-trans, nodes-weaken, wrote_none, wrote_one, wrote_reads}
use Rattle.ordered_index.proofs.Rows.{leaf_inner}
use Rattle.ordered_index.proofs.Entering.{IsChild, reads_of}
use Rattle.ordered_index.proofs.Parting.{not_full, is_full, length-with}
use Rattle.ordered_index.proofs.Counting.{reads_part, all_due, asks_nine, asks_less, takes_due, takes_some, takes_all, child_due, child_some, AllDue}

-- a node that is full or not once it took an entry in
pub asks_few : (entries : List (Key × ℕ)) (rank : ℕ) (entry : Key × ℕ) (now : List (Key × ℕ)) (full : Bool) → now ≡ with_entry entries rank entry → full ≡ eqb (length now) 10 → full ≡ false → length now ≤ 10 → asks_at entries ≡ 0
asks_few entries rank entry now full is value test fits = asks_less entries (λ nine. omega (arith, nine, not_full (length now) full value test fits, ap length is, length-with entries rank entry))

pub had_nine : (entries : List (Key × ℕ)) (rank : ℕ) (entry : Key × ℕ) (now : List (Key × ℕ)) (full : Bool) → now ≡ with_entry entries rank entry → full ≡ eqb (length now) 10 → full ≡ true → length entries ≡ 9
had_nine entries rank entry now full is value test = omega (arith, is_full (length now) full value test, ap length is, length-with entries rank entry)

-- answers
kind_cases : (kind : Kind) → (kind ≡ Leaf) ⊎ (kind ≡ Inner)
kind_cases Leaf = inl refl
kind_cases Inner = inr refl

pub err_ok : {T F : Type 0} (answer : Result T F) (P : T → Type 0) → IsErr answer → IfOk answer P
err_ok (Ok value) P is = cc
err_ok (Err fault) P is = tt

all_takes : {F : Type 0} (answer : Result Entering F) (P : Type 0) → P → IfOk answer (λ entering. IfTakes entering (λ _. P))
all_takes (Ok There) P holds = tt
all_takes (Ok Done) P holds = tt
all_takes (Ok (Takes entry)) P holds = holds
all_takes (Err fault) P holds = tt

module _ {F : Type 0} (key : Key) (kind : Kind) (entries : List (Key × ℕ)) (depth : ℕ) where
  -- a leaf, and an inner node before its child was asked
  pub asks_leaf : (m : Meaning) (answer : Result Entering (Walk F)) → kind ≡ Leaf → depth ≤ 24 → AsksBelow {F = F} key kind entries depth m m answer 0
  asks_leaf m answer leaf deep = record {
    leaf = λ is. refl;
    may = λ some. absurd (omega arith);
    exact = λ inner. absurd (leaf_inner kind leaf inner);
    deep = omega arith;
    writes = nodes-weaken 0 (2 * 0 + 1) m m (omega arith) (nodes-none m m refl);
    takes = all_takes answer (WritesNodes (2 * 0) m m) (nodes-none m m refl);
  }

  pub asks_reads : (m0 m1 : Meaning) (answer : Result Entering (Walk F)) → IsErr answer → depth ≤ 24 → OnlyReads m0 m1 → AsksBelow {F = F} key kind entries depth m0 m1 answer 0
  asks_reads m0 m1 answer err deep only = record {
    leaf = λ is. refl;
    may = λ some. absurd (omega arith);
    exact = λ inner. err_ok answer _ err;
    deep = omega arith;
    writes = nodes-weaken 0 (2 * 0 + 1) m0 m1 (omega arith) (nodes-none m0 m1 (writes_same m0 m1 only));
    takes = err_ok answer _ err;
  }

module _ {F : Type 0} (m0 m1 m2 m3 : Meaning) (key : Key) (entries : List (Key × ℕ)) (rank : ℕ) (child : Key × ℕ) (node : Content) (asked depth : ℕ) (kind : Kind) (inner : kind ≡ Inner) (only : OnlyReads m0 m1) (early : Extends m1.reads m2.reads) (late : Extends m2.reads m3.reads) (c : IsChild m0.size key entries rank child node) (at : EachState m0 m1 (λ state. IsAt m0.size state (child.1, node))) (below : Result Entering (Walk F)) (a : AsksBelow {F = F} key node.kind node.entries (depth + 1) m1 m2 below asked) where
  not_leaf : 0 < asked → node.kind ≡ Leaf → ⊥
  not_leaf some leaf = omega (arith, some, a.leaf leaf)

  may_below : m3 ≡ m2 → 0 < asked → EachPart m0 m3 key entries (PartIsDue key asked)
  may_below same some = child_due m0 m1 m2 m3 key entries rank child node asked early late c at (not_leaf some) (λ k. reads_part m0 m1 m2 key node.entries (PartIsDue key asked) only (a.may some))

  writes_below : WritesNodes (2 * asked + 1) m0 m2
  writes_below = wrote_reads (2 * asked + 1) m0 m1 m2 only a.writes

  -- the child refused
  pub below_err : (answer : Result Entering (Walk F)) → IsErr answer → m3 ≡ m2 → AsksBelow {F = F} key kind entries depth m0 m3 answer asked
  below_err answer err same = record {
    leaf = λ leaf. absurd (leaf_inner kind leaf inner);
    may = may_below same;
    exact = λ is. err_ok answer _ err;
    deep = omega (arith, a.deep);
    writes = wrote_none (2 * asked + 1) m0 m2 m3 writes_below same;
    takes = err_ok answer _ err;
  }

  pub below_there : below ≡ Ok There → m3 ≡ m2 → AsksBelow {F = F} key kind entries depth m0 m3 (Ok There) asked
  below_there is same = record {
    leaf = λ leaf. absurd (leaf_inner kind leaf inner);
    may = may_below same;
    exact = λ k. elim (kind_cases node.kind) as (λ _. asked ≡ 0) [ inl leaf ↦ a.leaf leaf | inr deeper ↦ rw is at (a.exact deeper) ];
    deep = omega (arith, a.deep);
    writes = wrote_none (2 * asked + 1) m0 m2 m3 writes_below same;
    takes = tt;
  }

  pub below_done : below ≡ Ok Done → (node.kind ≡ Leaf → ⊥) → m3 ≡ m2 → AsksBelow {F = F} key kind entries depth m0 m3 (Ok Done) asked
  below_done is no_leaf same = record {
    leaf = λ leaf. absurd (leaf_inner kind leaf inner);
    may = may_below same;
    exact = λ k. child_some m0 m1 m2 m3 key entries rank child node asked early late c at no_leaf (λ deeper. reads_part m0 m1 m2 key node.entries (SomeFull key asked) only (rw is at (a.exact deeper)));
    deep = omega (arith, a.deep);
    writes = wrote_none (2 * asked + 1) m0 m2 m3 writes_below same;
    takes = tt;
  }

  -- the child takes an entry in
  module _ (rid child_rank : ℕ) (entry : Key × ℕ) (is : below ≡ Ok (Takes entry)) (leaf : node.kind ≡ Leaf → entry_at node.entries key ≡ None) (entered : node.kind ≡ Inner → EachEntered (reads_of m0 m1) m2 key rid node.entries child_rank (Takes entry)) where
    pub full_below : node.kind ≡ Inner → EachPart (reads_of m0 m1) m2 key node.entries (AllFull key asked)
    full_below deeper = reads_part m0 m1 m2 key node.entries (AllFull key asked) only (rw is at (a.exact deeper))

    due_below : node.kind ≡ Inner → EachPart (reads_of m0 m1) m2 key node.entries (AllDue key asked)
    due_below deeper = all_due (reads_of m0 m1) m2 key rid node.entries child_rank entry asked (entered deeper) (full_below deeper)

    pub put_due : (asks : ℕ) → asks ≤ asks_at node.entries → EachPart m0 m3 key entries (PartIsDue key (asked + asks))
    put_due asks few = takes_due m0 m1 m2 m3 key entries rank child node asked early late c at asks few (λ k. (a.leaf k, leaf k)) due_below

    pub writes_takes : WritesNodes (2 * asked) m0 m2
    writes_takes = wrote_reads (2 * asked) m0 m1 m2 only (rw is at a.takes)

    pub put_writes : WritesNodes (2 * asks_at node.entries + 1) m2 m3 → WritesNodes (2 * (asked + asks_at node.entries) + 1) m0 m3
    put_writes more = let P : ℕ → Type 0 = λ k. WritesNodes k m0 m3 in subst P (omega arith) (nodes-trans (2 * asked) (2 * asks_at node.entries + 1) m0 m2 m3 writes_takes more)

    at_most_one : asks_at node.entries ≤ 1
    at_most_one = elim (eqb (length node.entries) 9) as (λ b. cond b 1 0 ≤ 1) [ true ↦ omega arith | false ↦ omega arith ]

    pub takes_err : (answer : Result Entering (Walk F)) → IsErr answer → WritesNodes (2 * asks_at node.entries + 1) m2 m3 → AsksBelow {F = F} key kind entries depth m0 m3 answer (asked + asks_at node.entries)
    takes_err answer err more = record {
      leaf = λ k. absurd (leaf_inner kind k inner);
      may = λ some. put_due (asks_at node.entries) (omega arith);
      exact = λ k. err_ok answer _ err;
      deep = omega (arith, a.deep, at_most_one);
      writes = put_writes more;
      takes = err_ok answer _ err;
    }

    pub takes_none : length node.entries ≢ 9 → WritesNodes (2 * asks_at node.entries + 1) m2 m3 → AsksBelow {F = F} key kind entries depth m0 m3 (Ok Done) (asked + asks_at node.entries)
    takes_none room more =
        let none = asks_less node.entries room in
        let S : ℕ → Type 0 = λ n. EachPart m0 m3 key entries (SomeFull key n) in
        record {
          leaf = λ k. absurd (leaf_inner kind k inner);
          may = λ some. put_due (asks_at node.entries) (omega arith);
          exact = λ k. subst S (omega (arith, none)) (takes_some m0 m1 m2 m3 key entries rank child node asked early late c at room (λ l. a.leaf l) full_below);
          deep = omega (arith, a.deep, at_most_one);
          writes = put_writes more;
          takes = tt;
        }

    pub takes_more : (new : Key × ℕ) → length node.entries ≡ 9 → WritesNodes (2 * asks_at node.entries + 1) m2 m3 → WritesNodes (2 * asks_at node.entries) m2 m3 → AsksBelow {F = F} key kind entries depth m0 m3 (Ok (Takes new)) (asked + asks_at node.entries)
    takes_more new full more two =
        let one = asks_nine node.entries full in
        let S : ℕ → Type 0 = λ n. EachPart m0 m3 key entries (AllFull key n) in
        let P : ℕ → Type 0 = λ k. WritesNodes k m0 m3 in
        record {
          leaf = λ k. absurd (leaf_inner kind k inner);
          may = λ some. put_due (asks_at node.entries) (omega arith);
          exact = λ k. subst S (omega (arith, one)) (takes_all m0 m1 m2 m3 key entries rank child node asked early late c at full (λ l. a.leaf l) full_below);
          deep = omega (arith, a.deep, at_most_one);
          writes = put_writes more;
          takes = subst P (omega arith) (nodes-trans (2 * asked) (2 * asks_at node.entries) m0 m2 m3 writes_takes two);
        }

-- a fault of the child's calls
pub due_behind : (m0 m1 m2 : Meaning) (key : Key) (entries : List (Key × ℕ)) (rank : ℕ) (child : Key × ℕ) (node : Content) (asks : ℕ) → OnlyReads m0 m1 → Extends m1.reads m2.reads → IsChild m0.size key entries rank child node → EachState m0 m1 (λ state. IsAt m0.size state (child.1, node)) → (node.kind ≡ Inner) × EachPart m1 m2 key node.entries (PartIsDue key asks) → EachPart m0 m2 key entries (PartIsDue key asks)
due_behind m0 m1 m2 key entries rank child node asks only early c at later =
    child_due m0 m1 m2 m2 key entries rank child node asks early (extends-refl m2.reads) c at (λ leaf. leaf_inner node.kind leaf later.0) (λ k. reads_part m0 m1 m2 key node.entries (PartIsDue key asks) only later.1)

pub one_at : (entries : List (Key × ℕ)) (asks : ℕ) → (asks ≡ 1) × (length entries ≡ 9) → asks ≤ asks_at entries
one_at entries asks one = omega (arith, one.0, asks_nine entries one.1)

-- what the root asks for
pub root_refused : {F : Type 0} (entries : List (Key × ℕ)) (before after : Meaning) (answer : Result (Unit {0}) (Walk F)) → IsErr answer → after ≡ before → AsksRoot entries before after answer 0
root_refused entries before after answer err same = record {
  may = λ some. absurd (omega arith);
  exact = err_ok answer _ err;
  few = omega arith;
  writes = nodes-weaken 0 (2 * 0 + 1) before after (omega arith) (nodes-none before after (ap (λ (m : Meaning). m.writes) same));
}

pub root_whole : {F : Type 0} (entries : List (Key × ℕ)) (before after : Meaning) (rid : ℕ) (node : Content) → asks_at entries ≡ 0 → after ≡ after_write before rid (Some (tree_node_words node)) → AsksRoot {F = F} entries before after (Ok tt) 0
root_whole entries before after rid node none wrote = record {
  may = λ some. absurd (omega arith);
  exact = omega (arith, none);
  few = omega arith;
  writes = wrote_one 0 before before after rid node (nodes-none before before refl) wrote;
}

pub on_err : {T F : Type 0} (answer : Result T F) (P : Type 0) → IsErr answer → OnOk answer P
on_err (Ok value) P is = cc
on_err (Err fault) P is = tt

all_ok : {F : Type 0} (answer : Result (Unit {0}) F) (P Q : Type 0) → (P → Q) → OnOk answer P → IfOk answer (λ _. Q)
all_ok (Ok value) P Q more holds = more holds
all_ok (Err fault) P Q more holds = tt

pub root_split : {F : Type 0} (entries : List (Key × ℕ)) (before after : Meaning) (answer : Result (Unit {0}) (Walk F)) (asked : ℕ) → length entries ≡ 9 → asked ≤ 2 → OnOk answer (asked ≡ 2) → 0 < asked → WritesNodes 3 before after → AsksRoot entries before after answer asked
root_split entries before after answer asked nine most two some few = record {
  may = λ _. nine;
  exact = all_ok answer (asked ≡ 2) (asked ≡ 2 * asks_at entries) (λ is. omega (arith, is, asks_nine entries nine)) two;
  few = most;
  writes = nodes-weaken 3 (2 * asked + 1) before after (omega arith) few;
}
