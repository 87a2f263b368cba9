-- Fronts: a seat that looks at the first version of a list is alone, and that version is the first.
use Rattle.std.specs.Prelude.{◌≡◌, ℕ, suc, ◌<◌, List}
use Rattle.word_layout.specs.Size.{Size}
use Rattle.core_rule.specs.View.{View, Front, no_front, at_front, Splitting}
use Rattle.core_rule.specs.Views.{Each, OthersTaken}

abbrev pub IsFront : Size → (heads : ℕ → ℕ) → ℕ → Splitting → List ℕ → Front → Type 0
IsFront z heads number splitting taken_in no_front = Unit {0}
IsFront z heads number splitting taken_in (at_front r p look) = (r < z.records) × OthersTaken z.seats number splitting taken_in × (heads r ≡ suc p)

abbrev pub FrontOk : Size → (heads : ℕ → ℕ) → View → Type 0
FrontOk z heads v = IsFront z heads v.number v.splitting v.clock.taken_in v.front

abbrev pub Fronts : Size → (heads : ℕ → ℕ) → List View → Type 0
Fronts z heads vs = Each (FrontOk z heads) vs
