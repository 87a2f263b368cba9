-- A walk that is torn does not end well: the two sides exclude each other.
use Rattle.std.proofs.Common.{◌≡◌, ℕ, ◌≤◌, List, [], ◌∷◌, length, sym, ap, ◌∙◌, arith, subst, inl, inr}
use Rattle.std.proofs.lemmas.Option.{same_Some, none-some}
use Rattle.plain_data.specs.State.{State}
use Rattle.ordered_index.specs.declared.key.Key.{Key}
use Rattle.ordered_index.specs.declared.node.Kind.TheVariants.{Leaf}
use Rattle.ordered_index.specs.Keys.{last_at, first_key}
use Rattle.ordered_index.specs.Node.{Content}
use Rattle.ordered_index.specs.Tree.{IsAt, named}
use Rattle.ordered_index.specs.Walk.{Path, DescentTears, DescentEndsWell}
use Rattle.ordered_index.proofs.Rows.{node_same, leaf_inner}

-- a node stands where an entry leads on, or where a leaf was reached
record NodeAt (size : ℕ) (state : State) (to : Key × ℕ) : Type 0 where
  node : ℕ × Content
  at : IsAt size state node
  names : to ≡ named node

first_node : (size : ℕ) (state : State) (key : Key) (from : Key × ℕ) (nodes : List (ℕ × Content)) (leaf : ℕ × Content) → Path size state key from nodes (named leaf) → IsAt size state leaf → NodeAt size state from
first_node size state key from [] leaf path at = record { node = leaf; at = at; names = path }
first_node size state key from (x ∷ nodes) leaf path at = record { node = x; at = path.2; names = path.1 }

same_named : (size : ℕ) (state : State) (from : Key × ℕ) (a b : ℕ × Content) → from ≡ named a → from ≡ named b → IsAt size state a → IsAt size state b → a ≡ b
same_named size state from a b first second here there = node_same size state a b (ap (λ (e : Key × ℕ). e.1) (sym first ∙ second)) here there

-- a walk passes no more nodes than one that comes to a leaf, and stands where that one stood
met : (size : ℕ) (state : State) (key : Key) (from to : Key × ℕ) (nodes others : List (ℕ × Content)) (leaf : ℕ × Content) → Path size state key from nodes (named leaf) → IsAt size state leaf → leaf.1.kind ≡ Leaf → Path size state key from others to → (length others ≤ length nodes) × NodeAt size state to
met size state key from to nodes [] leaf path at kind other =
    let N : Key × ℕ → Type 0 = NodeAt size state in
    (omega arith, subst N other (first_node size state key from nodes leaf path at))
met size state key from to [] (y ∷ others) leaf path at kind other =
    let same = same_named size state from leaf y path other.1 at other.2 in
    absurd (leaf_inner y.1.kind (ap (λ (n : ℕ × Content). n.1.kind) (sym same) ∙ kind) other.3)
met size state key from to (x ∷ nodes) (y ∷ others) leaf path at kind other =
    let same = same_named size state from x y path.1 other.1 path.2 other.2 in
    let child : path.0 ≡ other.0 = same_Some path.0 other.0 (sym path.4 ∙ ap (λ (n : ℕ × Content). last_at n.1.entries key) same ∙ other.4) in
    let P : Key × ℕ → Type 0 = λ e. Path size state key e nodes (named leaf) in
    let more = met size state key other.0 to nodes others leaf (subst P child path.5) at kind other.5 in
    (omega (arith, more.0), more.1)

pub ends_not_torn : (size root rid : ℕ) (key : Key) (state : State) → DescentEndsWell size root key state → DescentTears size root key state rid → ⊥
ends_not_torn size root rid key state well tears = elim well as (λ _. ⊥) [
  | inl absent ↦ none-some tears.words (sym absent ∙ tears.present)
  | inr reached ↦ (
      let m = met size state key (first_key, root) (tears.low, rid) reached.1.nodes tears.nodes reached.0 reached.1.path reached.1.at reached.1.kind tears.path in
      let here = m.1 in
      let P : ℕ → Type 0 = λ r. IsAt size state (r, here.node.1) in
      elim tears.unfit as (λ _. ⊥) [
        | inl none ↦ none here.node.1 (ap (λ (e : Key × ℕ). e.0) (sym here.names)) (subst P (ap (λ (e : Key × ℕ). e.1) (sym here.names)) here.at)
        | inr deep ↦ omega (arith, deep, m.0, reached.1.few)
      ])
]
