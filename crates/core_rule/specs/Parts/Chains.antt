-- Chains: the places that a seat has cut off and not yet freed are spelled by the link to go on from, and out of reach.
use Rattle.std.specs.Prelude.{◌≡◌, ℕ, ◌<◌, List, [], ◌∷◌, Some, None}
use Rattle.word_layout.specs.Size.{Size, places}
use Rattle.core_rule.specs.World.{Owner, cut_by}
use Rattle.core_rule.specs.View.{View, Logged, Stage, cut_off, freeing, Item, no_item, collects}
use Rattle.core_rule.specs.Views.{Each, Has, SomeView}
use Rattle.core_rule.specs.Collecting.{HasChain, Frees}
use Rattle.core_rule.specs.Visible.{OutOfReach}
use Rattle.core_rule.specs.Parts.Lists.{Spells, Falls}

-- the first place is p, and the rest is spelled from this link on
abbrev pub SpellsBehind : (ℕ → ℕ) → (to p : ℕ) → List ℕ → Type 0
SpellsBehind links to p [] = ⊥
SpellsBehind links to p (x ∷ xs) = (x ≡ p) × Spells links to xs

abbrev pub Reaches : (ℕ → ℕ) → Stage → List ℕ → Type 0
Reaches links (cut_off to) xs = Spells links to xs
Reaches links (freeing to None) xs = Spells links to xs
Reaches links (freeing to (Some p)) xs = SpellsBehind links to p xs
Reaches links stage xs = Unit {0}

pub record ChainOk (z : Size) (owner : ℕ → Owner) (links stamps : ℕ → ℕ) (vs : List View) (number : ℕ) (log : List Logged) (r c : ℕ) (stage : Stage) (xs : List ℕ) : Type 0 where
  pub reaches : Reaches links stage xs
  pub falls : Falls stamps xs
  pub owned : (p : ℕ) → Has p xs → (p < places z) × (owner p ≡ cut_by number)
  pub gone : (p : ℕ) → Has p xs → OutOfReach stamps vs log r c p

abbrev pub IsChain : Size → (ℕ → Owner) → (links stamps : ℕ → ℕ) → List View → (number : ℕ) → List Logged → List ℕ → Item → Type 0
IsChain z owner links stamps vs number log xs no_item = Unit {0}
IsChain z owner links stamps vs number log xs (collects r c stage) = HasChain stage → ChainOk z owner links stamps vs number log r c stage xs

-- the view of this seat has cut off this place
pub record InChain (chains : ℕ → List ℕ) (seat p : ℕ) (v : View) : Type 0 where
  pub number : v.number ≡ seat
  pub frees : Frees v.work.item
  pub there : Has p (chains seat)

pub record Chains (z : Size) (owner : ℕ → Owner) (chains : ℕ → List ℕ) (links stamps : ℕ → ℕ) (vs : List View) : Type 0 where
  pub each : Each (λ v. IsChain z owner links stamps vs v.number v.log (chains v.number) v.work.item) vs
  -- what was cut off is in the chain of a view
  pub holder : (p seat : ℕ) → p < places z → owner p ≡ cut_by seat → SomeView (InChain chains seat p) vs
