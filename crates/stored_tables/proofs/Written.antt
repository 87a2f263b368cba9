-- A state with one record written over.
use Rattle.std.proofs.Common.{◌≡◌, ◌≢◌, ℕ, List, Option, refl, ◌∙◌, eq-eqb, ne_eqb}
use Rattle.plain_data.specs.State.{State, overlay}
use Rattle.record_store.specs.Meaning.{with_value}
use Rattle.record_store.proofs.Agreement.{overlay-with_value}

pub written_here : (writes : List (ℕ × Option (List ℕ))) (state : State) (rid : ℕ) (value : Option (List ℕ)) → overlay (with_value writes rid value) state rid ≡ value
written_here writes state rid value = overlay-with_value writes state rid value rid ∙ rw (eq-eqb rid rid refl) refl

pub written_others : (writes : List (ℕ × Option (List ℕ))) (state : State) (rid : ℕ) (value : Option (List ℕ)) (other : ℕ) → other ≢ rid → overlay (with_value writes rid value) state other ≡ overlay writes state other
written_others writes state rid value other differs = overlay-with_value writes state rid value other ∙ rw (ne_eqb other rid differs) refl
