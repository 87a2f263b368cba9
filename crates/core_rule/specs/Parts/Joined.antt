-- Joined: the seats taken in are seats that a stamp may carry, and a stamp in flight is above all that they have drawn.
use Rattle.std.specs.Prelude.{◌≡◌, ℕ, ◌<◌, List}
use Rattle.stamp_base.specs.Limits.{most_seats}
use Rattle.core_rule.specs.View.{View, writing}
use Rattle.core_rule.specs.Views.{Each, AllOf}

pub record JoinedOk (drawn : ℕ → ℕ) (v : View) : Type 0 where
  pub within : AllOf (λ s. s < most_seats) v.clock.taken_in
  pub below : (t : ℕ) → v.flight ≡ writing t → AllOf (λ s. drawn s < t) v.clock.taken_in

abbrev pub Joined : (ℕ → ℕ) → List View → Type 0
Joined drawn vs = Each (JoinedOk drawn) vs
