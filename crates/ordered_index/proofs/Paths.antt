-- Walks from the root.
use Rattle.std.proofs.Common.{◌≡◌, ◌⊎◌, ℕ, ◌+◌, ◌≤◌, List, [], ◌∷◌, ◌++◌, length, None, Some, refl, sym, ap, ◌∙◌, arith, subst, inl, inr}
use Rattle.std.proofs.lemmas.List.{length_push}
use Rattle.std.proofs.lemmas.Option.{same_Some, none-some}
use Rattle.plain_data.specs.State.{State}
use Rattle.ordered_index.specs.declared.key.Key.{Key}
use Rattle.ordered_index.specs.declared.node.Kind.TheVariants.{Leaf, Inner}
use Rattle.ordered_index.specs.declared.walk.Stored.{Stored}
use Rattle.ordered_index.specs.Keys.{last_at, first_key}
use Rattle.ordered_index.specs.Node.{Content, Holds}
use Rattle.ordered_index.specs.Standing.{content_at}
use Rattle.ordered_index.specs.Tree.{IsAt, named}
use Rattle.ordered_index.specs.Walk.{Path, DescentTears, DescentReaches, IsNoNode}

pub path_to : (size : ℕ) (state : State) (key : Key) (from to to' : Key × ℕ) (nodes : List (ℕ × Content)) → to ≡ to' → Path size state key from nodes to → Path size state key from nodes to'
path_to size state key from to to' nodes same path = let P : Key × ℕ → Type 0 = Path size state key from nodes in subst P same path

pub path_push : (size : ℕ) (state : State) (key : Key) (from child : Key × ℕ) (nodes : List (ℕ × Content)) (node : ℕ × Content) → Path size state key from nodes (named node) → IsAt size state node → node.1.kind ≡ Inner → last_at node.1.entries key ≡ Some child → Path size state key from (nodes ++ node ∷ []) child
path_push size state key from child [] node path at kind last = (child, path, at, kind, last, refl)
path_push size state key from child (x ∷ nodes) node path at kind last = (path.0, path.1, path.2, path.3, path.4, path_push size state key path.0 child nodes node path.5 at kind last)

pub path_present : (size : ℕ) (state : State) (key : Key) (from : Key × ℕ) (nodes : List (ℕ × Content)) (node : ℕ × Content) → Path size state key from nodes (named node) → IsAt size state node → (words : List ℕ) × (state from.1 ≡ Some words)
path_present size state key from [] node path at = (at.words, ap (λ (e : Key × ℕ). state e.1) path ∙ at.here)
path_present size state key from (x ∷ nodes) node path at = (path.2.words, ap (λ (e : Key × ℕ). state e.1) path.1 ∙ path.2.here)

-- how far a walk has come
pub record Walked (size root depth : ℕ) (key : Key) (state : State) (here : Stored) : Type 0 where
  pub nodes : List (ℕ × Content)
  pub path : Path size state key (first_key, root) nodes ((content_at here.words).low, here.at)
  pub long : length nodes + 1 ≡ depth
  pub at : IsAt size state (here.at, content_at here.words)

pub walk_begins : (size root : ℕ) (key : Key) (state : State) (here : Stored) → here.at ≡ root → (content_at here.words).low ≡ first_key → IsAt size state (here.at, content_at here.words) → Walked size root 1 key state here
walk_begins size root key state here at low is = record {
  nodes = [];
  path = ap (λ (k : Key). (k, root)) (sym low) ∙ ap (λ r. ((content_at here.words).low, r)) (sym at);
  long = omega arith;
  at = is;
}

pub walk_steps : (size root depth : ℕ) (key : Key) (state : State) (here link : Stored) (child : Key × ℕ) → Walked size root depth key state here → (content_at here.words).kind ≡ Inner → last_at (content_at here.words).entries key ≡ Some child → link.at ≡ child.1 → (content_at link.words).low ≡ child.0 → IsAt size state (link.at, content_at link.words) → Walked size root (depth + 1) key state link
walk_steps size root depth key state here link child walked inner last at low is = record {
  nodes = walked.nodes ++ (here.at, content_at here.words) ∷ [];
  path =
      path_to size state key (first_key, root) child ((content_at link.words).low, link.at) _ (ap (λ (k : Key). (k, child.1)) (sym low) ∙ ap (λ r. ((content_at link.words).low, r)) (sym at))
      (path_push size state key (first_key, root) child walked.nodes (here.at, content_at here.words) walked.path walked.at inner last);
  long = omega (arith, walked.long, length_push walked.nodes (here.at, content_at here.words));
  at = is;
}

-- the walk goes on to a record that is no node with its fence, or too deep
pub walk_tears : (size root depth : ℕ) (key : Key) (state : State) (here : Stored) (child : Key × ℕ) → Walked size root depth key state here → (content_at here.words).kind ≡ Inner → last_at (content_at here.words).entries key ≡ Some child → ((node : Content) → node.low ≡ child.0 → IsAt size state (child.1, node) → ⊥) ⊎ (24 ≤ depth) → DescentTears size root key state child.1
walk_tears size root depth key state here child walked inner last unfit =
    let present = path_present size state key (first_key, root) walked.nodes (here.at, content_at here.words) walked.path walked.at in
    let nodes : List (ℕ × Content) = walked.nodes ++ (here.at, content_at here.words) ∷ [] in
    record {
      words = present.0;
      present = present.1;
      nodes = nodes;
      low = child.0;
      path = path_push size state key (first_key, root) child walked.nodes (here.at, content_at here.words) walked.path walked.at inner last;
      unfit = elim unfit as (λ _. ((node : Content) → node.low ≡ child.0 → IsAt size state (child.1, node) → ⊥) ⊎ (24 ≤ length nodes)) [ inl none ↦ inl none | inr deep ↦ inr (omega (arith, deep, walked.long, length_push walked.nodes (here.at, content_at here.words))) ];
    }

pub not_at : (size rid : ℕ) (low : Key) (state : State) → IsNoNode size low state rid → (node : Content) → node.low ≡ low → IsAt size state (rid, node) → ⊥
not_at size rid low state unfit node fence at =
    let same : at.words ≡ unfit.0 = same_Some at.words unfit.0 (sym at.here ∙ unfit.1) in
    let P : List ℕ → Type 0 = λ words. Holds words node in
    unfit.2 node fence (subst P same at.holds) at.sound

pub not_there : (size rid : ℕ) (low : Key) (state : State) → state rid ≡ None → (node : Content) → node.low ≡ low → IsAt size state (rid, node) → ⊥
not_there size rid low state absent node fence at = none-some at.words (sym absent ∙ at.here)

pub root_tears : (size root : ℕ) (key : Key) (state : State) → IsNoNode size first_key state root → DescentTears size root key state root
root_tears size root key state unfit = record {
  words = unfit.0;
  present = unfit.1;
  nodes = [];
  low = first_key;
  path = refl;
  unfit = inl (not_at size root first_key state unfit);
}

pub walk_ends : (size root depth : ℕ) (key : Key) (state : State) (here : Stored) → Walked size root depth key state here → depth ≤ 24 → (content_at here.words).kind ≡ Leaf → DescentReaches size root key state (here.at, content_at here.words)
walk_ends size root depth key state here walked few leaf = record {
  nodes = walked.nodes;
  path = walked.path;
  few = omega (arith, walked.long);
  at = walked.at;
  kind = leaf;
}
