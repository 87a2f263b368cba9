-- A walk below a node comes to a leaf.
use Rattle.std.proofs.Common.{◌≡◌, ◌⊎◌, ℕ, ◌+◌, ◌<◌, List, [], ◌∷◌, Option, None, Some, refl, sym, ap, ◌∙◌, arith, subst, inl, inr}
use Rattle.plain_data.specs.State.{State, overlay}
use Rattle.record_store.specs.Meaning.{Meaning, after_write}
use Rattle.record_store.specs.States.{EachState}
use Rattle.record_store.specs.Walks.{Extends, OnlyReads}
use Rattle.record_store.proofs.Agreement.{agrees-extends, writes_same}
use Rattle.ordered_index.specs.declared.key.Key.{Key}
use Rattle.ordered_index.specs.declared.node.Kind.{Kind}
use Rattle.ordered_index.specs.declared.node.Kind.TheVariants.{Leaf, Inner}
use Rattle.ordered_index.specs.Keys.{first_key}
use Rattle.ordered_index.specs.Node.{Content}
use Rattle.ordered_index.specs.Tree.{IsAt}
use Rattle.ordered_index.specs.declared.walk.Stored.{Stored}
use Rattle.ordered_index.specs.Walk.{DescentEndsWell, LeafIs, node_of}
use Rattle.ordered_index.specs.Enter.{ReachesBelow}
use Rattle.ordered_index.proofs.Entering.{IsChild}

kind_cases : (kind : Kind) → (kind ≡ Leaf) ⊎ (kind ≡ Inner)
kind_cases Leaf = inl refl
kind_cases Inner = inr refl

reaches_more : (size depth : ℕ) (key : Key) (entries : List (Key × ℕ)) (rank : ℕ) (child : Key × ℕ) (node : Content) (state : State) → IsChild size key entries rank child node → IsAt size state (child.1, node) → depth < 24 → (node.kind ≡ Inner → ReachesBelow size (depth + 1) key node.entries state) → ReachesBelow size depth key entries state
reaches_more size depth key entries rank child node state c at deep below =
    let last = c.is.last (first_key, 0) c.some ∙ ap (λ e. Some e) (sym c.at) in
    elim (kind_cases node.kind) as (λ _. ReachesBelow size depth key entries state) [
      | inl leaf ↦ record { child = child; last = last; nodes = []; leaf = (child.1, node); path = ap (λ k. (k, child.1)) (sym c.fence); few = omega arith; at = at; kind = leaf }
      | inr inner ↦ let r = below inner in record {
        child = child;
        last = last;
        nodes = (child.1, node) ∷ r.nodes;
        leaf = r.leaf;
        path = (r.child, ap (λ k. (k, child.1)) (sym c.fence), at, inner, r.last, r.path);
        few = omega (arith, r.few);
        at = r.at;
        kind = r.kind;
      }
    ]

pub each_reaches : (size depth : ℕ) (key : Key) (entries : List (Key × ℕ)) (rank : ℕ) (child : Key × ℕ) (node : Content) (m0 m1 m2 m3 : Meaning) → OnlyReads m0 m1 → Extends m1.reads m2.reads → Extends m2.reads m3.reads → IsChild size key entries rank child node → EachState m0 m1 (λ state. IsAt size state (child.1, node)) → depth < 24 → (node.kind ≡ Inner → EachState m1 m2 (ReachesBelow size (depth + 1) key node.entries)) → EachState m0 m3 (ReachesBelow size depth key entries)
each_reaches size depth key entries rank child node m0 m1 m2 m3 only early late c at deep below = λ state agrees.
    let agrees2 = agrees-extends m2.reads m3.reads state late agrees in
    let P : State → Type 0 = ReachesBelow size (depth + 1) key node.entries in
    reaches_more size depth key entries rank child node (overlay m0.writes state) c (at state (agrees-extends m1.reads m2.reads state early agrees2)) deep (λ inner. subst P (ap (λ w. overlay w state) (writes_same m0 m1 only)) (below inner state agrees2))

-- a walk from the root
pub top_ends : (size root : ℕ) (key : Key) (node : Content) (state : State) → node.low ≡ first_key → IsAt size state (root, node) → (node.kind ≡ Inner → ReachesBelow size 1 key node.entries state) → DescentEndsWell size root key state
top_ends size root key node state low at below = elim (kind_cases node.kind) as (λ _. DescentEndsWell size root key state) [
  | inl leaf ↦ inr ((root, node), record { nodes = []; path = ap (λ (k : Key). (k, root)) (sym low); few = omega arith; at = at; kind = leaf })
  | inr inner ↦ let r = below inner in inr (
    r.leaf,
    record {
      nodes = (root, node) ∷ r.nodes;
      path = (r.child, ap (λ (k : Key). (k, root)) (sym low), at, inner, r.last, r.path);
      few = omega (arith, r.few);
      at = r.at;
      kind = r.kind;
    },
  )
]

pub each_ends_well : (size root : ℕ) (key : Key) (node : Content) (m0 m1 m2 m3 : Meaning) → OnlyReads m0 m1 → Extends m1.reads m2.reads → Extends m2.reads m3.reads → node.low ≡ first_key → EachState m0 m1 (λ state. IsAt size state (root, node)) → (node.kind ≡ Inner → EachState m1 m2 (ReachesBelow size 1 key node.entries)) → EachState m0 m3 (DescentEndsWell size root key)
each_ends_well size root key node m0 m1 m2 m3 only early late low at below = λ state agrees.
    let agrees2 = agrees-extends m2.reads m3.reads state late agrees in
    let P : State → Type 0 = ReachesBelow size 1 key node.entries in
    top_ends size root key node (overlay m0.writes state) low (at state (agrees-extends m1.reads m2.reads state early agrees2)) (λ inner. subst P (ap (λ w. overlay w state) (writes_same m0 m1 only)) (below inner state agrees2))

pub empty_ends : (size root : ℕ) (key : Key) (m0 m1 m2 : Meaning) (rid : ℕ) (value : Option (List ℕ)) → EachState m0 m1 (λ state. state root ≡ None) → m2 ≡ after_write m1 rid value → EachState m0 m2 (DescentEndsWell size root key)
empty_ends size root key m0 m1 m2 rid value absent wrote = λ state agrees. inl (absent state (rw (ap (λ (m : Meaning). m.reads) wrote) at agrees))

-- the walk that came to this leaf, or found no root
pub leaf_ends : (size root : ℕ) (key : Key) (n : ℕ) (m0 m1 m2 : Meaning) (leaf : Option Stored) → n ≡ size → Extends m1.reads m2.reads → EachState m0 m1 (λ state. LeafIs n root key state leaf) → EachState m0 m2 (DescentEndsWell size root key)
leaf_ends size root key n m0 m1 m2 None same extends is = λ state agrees. inl (is state (agrees-extends m1.reads m2.reads state extends agrees))
leaf_ends size root key n m0 m1 m2 (Some link) same extends is =
    let R : ℕ → Type 0 = λ k. EachState m0 m1 (λ state. LeafIs k root key state (Some link)) in
    λ state agrees. inr (node_of link, subst R same is state (agrees-extends m1.reads m2.reads state extends agrees))
