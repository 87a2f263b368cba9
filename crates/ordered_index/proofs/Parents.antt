-- The walk to a leaf and the node above it.
use Rattle.std.proofs.Common.{◌≡◌, ℕ, ◌+◌, ◌<◌, ◌≤◌, List, [], ◌∷◌, ◌++◌, length, Option, None, Some, sym, ap, ◌∙◌, arith, inl, inr}
use Rattle.std.proofs.lemmas.Bool.{cases_eq}
use Rattle.std.proofs.lemmas.List.{length_push}
use Rattle.plain_data.specs.State.{State}
use Rattle.record_store.specs.Meaning.{Meaning}
use Rattle.record_store.specs.States.{EachState}
use Rattle.record_store.specs.Walks.{OnlyReads}
use Rattle.record_store.proofs.States.{each_grown}
use Rattle.ordered_index.specs.declared.key.Key.{Key}
use Rattle.ordered_index.specs.declared.node.Kind.TheVariants.{Leaf, Inner}
use Rattle.ordered_index.specs.declared.under.Under.{Under}
use Rattle.ordered_index.specs.declared.walk.Stored.{Stored}
use Rattle.ordered_index.specs.Keys.{last_at, first_key}
use Rattle.ordered_index.specs.Node.{Content}
use Rattle.ordered_index.specs.Standing.{IsNode, content_at}
use Rattle.ordered_index.specs.Tree.{IsAt, named}
use Rattle.ordered_index.specs.Walk.{Path, node_of, DescentReaches, DescentEndsWell}
use Rattle.ordered_index.specs.Reclaim.{ReachesBy, UnderIs}
use Rattle.ordered_index.specs.Under.{IsUnder}
use Rattle.ordered_index.proofs.Paths.{Walked, path_push}

-- an inner node by whose entry for the key the walk went on, whatever the state
pub record Above (size : ℕ) (key : Key) (parent here : Stored) : Type 0 where
  pub at : parent.at < size
  pub node : IsNode size parent.words
  pub kind : (content_at parent.words).kind ≡ Inner
  pub last : last_at (content_at parent.words).entries key ≡ Some (named (node_of here))

-- and how the walk came to it
pub record Came (size root depth : ℕ) (key : Key) (state : State) (parent : Stored) : Type 0 where
  pub nodes : List (ℕ × Content)
  pub path : Path size state key (first_key, root) nodes (named (node_of parent))
  pub long : length nodes + 2 ≡ depth
  pub at : IsAt size state (node_of parent)

pub more_than_one : (n : ℕ) → 1 ≤ n → (n ≡ 1 → ⊥) → 1 < n
more_than_one n some differs = elim (cases_eq n 1) as (λ _. 1 < n) [ inl one ↦ absurd (differs one) | inr more ↦ omega arith ]

pub came_here : (size root depth : ℕ) (key : Key) (state : State) (here : Stored) → Walked size root depth key state here → Came size root (depth + 1) key state here
came_here size root depth key state here walked = record { nodes = walked.nodes; path = walked.path; long = omega (arith, walked.long); at = walked.at }

pub each_came : (first before after : Meaning) (size root depth : ℕ) (key : Key) (here : Stored) → OnlyReads before after → EachState first before (λ state. Walked size root depth key state here) → EachState first after (λ state. Came size root (depth + 1) key state here)
each_came first before after size root depth key here only walked = λ state agrees. came_here size root depth key _ here (each_grown first before after (λ s. Walked size root depth key s here) only walked state agrees)

pub above_step : (size : ℕ) (key : Key) (parent here : Stored) (child : Key × ℕ) → parent.at < size → IsNode size parent.words → (content_at parent.words).kind ≡ Inner → last_at (content_at parent.words).entries key ≡ Some child → here.at ≡ child.1 → (content_at here.words).low ≡ child.0 → Above size key parent here
above_step size key parent here child within node kind last at low = record {
  at = within;
  node = node;
  kind = kind;
  last = last ∙ ap (λ (k : Key). Some (k, child.1)) (sym low) ∙ ap (λ (r : ℕ). Some ((content_at here.words).low, r)) (sym at);
}

pub is_under : (size : ℕ) (key : Key) (parent here : Stored) → Above size key parent here → here.at < size → IsNode size here.words → (content_at here.words).kind ≡ Leaf → IsUnder size key (record { parent = parent; leaf = here })
is_under size key parent here above at node kind = record {
  parent_at = above.at;
  parent_node = above.node;
  parent_kind = above.kind;
  last = above.last;
  leaf_at = at;
  leaf_node = node;
  leaf_kind = kind;
}

pub reaches_by : (size root depth : ℕ) (key : Key) (state : State) (parent here : Stored) → Above size key parent here → Came size root depth key state parent → Walked size root depth key state here → depth ≤ 24 → (content_at here.words).kind ≡ Leaf → ReachesBy size root key state (node_of parent) (node_of here)
reaches_by size root depth key state parent here above came walked deep leaf = record {
  nodes = came.nodes;
  path = came.path;
  few = omega (arith, came.long);
  at = came.at;
  kind = above.kind;
  last = above.last;
  leaf_at = walked.at;
  leaf_kind = leaf;
}

-- the leaf is the one that the walk for the key comes to
pub by_reaches : (size root : ℕ) (key : Key) (state : State) (parent leaf : ℕ × Content) → ReachesBy size root key state parent leaf → DescentReaches size root key state leaf
by_reaches size root key state parent leaf by = record {
  nodes = by.nodes ++ parent ∷ [];
  path = path_push size state key (first_key, root) (named leaf) by.nodes parent by.path by.at by.kind by.last;
  few = omega (arith, by.few, length_push by.nodes parent);
  at = by.leaf_at;
  kind = by.leaf_kind;
}

pub under_ends : (size root : ℕ) (key : Key) (state : State) (under : Option Under) → UnderIs size root key state under → DescentEndsWell size root key state
under_ends size root key state None low = elim low as (λ _. DescentEndsWell size root key state) [
  | inl absent ↦ inl absent
  | inr leaf ↦ inr (
    (root, leaf.0),
    record { nodes = []; path = ap (λ (k : Key). (k, root)) (sym leaf.1); few = omega arith; at = leaf.2; kind = leaf.3 },
  )
]
under_ends size root key state (Some under) by = inr (node_of under.leaf, by_reaches size root key state (node_of under.parent) (node_of under.leaf) by)
