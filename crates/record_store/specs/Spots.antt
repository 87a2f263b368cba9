-- Records that are reached, each from one spot, and how the records of one spot change.
use Rattle.std.specs.Prelude.{◌≡◌, ◌⊎◌, ℕ, ◌≤◌, List, None, Some}
use Rattle.plain_data.specs.State.{State}

-- A spot is where records are reached from: a bucket of a chain, a tree, or the place of a row. `holds` has the records that are
-- reached from each. Every record that is reached is present and reached from one spot alone, and no other record is present.
pub record IsLaid {Spot : Type 0} (holds : Spot → ℕ → Type 0) (state : State) : Type 0 where
  pub once : (rid : ℕ) (a b : Spot) → holds a rid → holds b rid → a ≡ b
  pub present : (rid : ℕ) (a : Spot) → holds a rid → (words : List ℕ) × (state rid ≡ Some words)
  pub all : (rid : ℕ) (words : List ℕ) → state rid ≡ Some words → (a : Spot) × holds a rid

-- One spot changed, and reached the records `was` before and `now` afterwards. What it no longer reaches is absent. What it reaches
-- anew was absent, and is either the record `first` at which the spot begins or one of the new records, which have numbers from
-- `fixed` on. Every record that it reached neither before nor afterwards is as it was.
pub record IsMoved (fixed first : ℕ) (was now : ℕ → Type 0) (state state' : State) : Type 0 where
  pub kept : (rid : ℕ) → was rid → now rid ⊎ (state' rid ≡ None)
  pub anew : (rid : ℕ) → now rid → was rid ⊎ ((state rid ≡ None) × ((rid ≡ first) ⊎ (fixed ≤ rid)))
  pub present : (rid : ℕ) → now rid → (words : List ℕ) × (state' rid ≡ Some words)
  pub outside : (rid : ℕ) → (now rid → ⊥) → (was rid → ⊥) → state' rid ≡ state rid
  -- of each record it can be told whether it is reached
  pub known : (rid : ℕ) → now rid ⊎ (now rid → ⊥)
  pub known_before : (rid : ℕ) → was rid ⊎ (was rid → ⊥)
