-- A state with one record written over, and a node written to it.
use Rattle.std.proofs.Common.{◌≡◌, ◌≢◌, ℕ, List, None, Option, Some, refl, ◌∙◌, eq-eqb, ne_eqb}
use Rattle.plain_data.specs.State.{State, overlay}
use Rattle.record_store.specs.Meaning.{with_value}
use Rattle.record_store.proofs.Agreement.{overlay-with_value}
use Rattle.ordered_index.specs.declared.node.Kind.TheVariants.{Inner}
use Rattle.ordered_index.specs.Node.{Content, IsSound, tree_node_words}
use Rattle.ordered_index.specs.Tree.{IsAt}
use Rattle.ordered_index.proofs.Words.{holds_words}

pub written_here : (writes : List (ℕ × Option (List ℕ))) (state : State) (rid : ℕ) (value : Option (List ℕ)) → overlay (with_value writes rid value) state rid ≡ value
written_here writes state rid value = overlay-with_value writes state rid value rid ∙ rw (eq-eqb rid rid refl) refl

pub written_others : (writes : List (ℕ × Option (List ℕ))) (state : State) (rid : ℕ) (value : Option (List ℕ)) (other : ℕ) → other ≢ rid → overlay (with_value writes rid value) state other ≡ overlay writes state other
written_others writes state rid value other differs = overlay-with_value writes state rid value other ∙ rw (ne_eqb other rid differs) refl

pub at_written : (size : ℕ) (state : State) (rid : ℕ) (node : Content) → state rid ≡ Some (tree_node_words node) → IsSound size node → (node.kind ≡ Inner → node.next ≡ None) → IsAt size state (rid, node)
at_written size state rid node here sound inner = record { words = tree_node_words node; here = here; holds = holds_words node sound.few inner; sound = sound }
