-- Tops: while a seat is alone, its search for the place of a version that it links stands at the head of the list.
use Rattle.std.specs.Prelude.{◌≡◌, ℕ, suc, List, None}
use Rattle.word_layout.specs.Size.{Size}
use Rattle.core_rule.specs.View.{View, Aim, links, Stand, Search, stands}
use Rattle.core_rule.specs.Views.{Each, OthersTaken}

abbrev pub AimAtTop : (heads : ℕ → ℕ) → Stand → Aim → Type 0
AimAtTop heads s (links j) = j.above ≡ None → heads s.record_number ≡ suc s.place
AimAtTop heads s _ = Unit {0}

abbrev pub IsAtTop : (heads : ℕ → ℕ) → Search → Type 0
IsAtTop heads (stands s look) = AimAtTop heads s s.aim
IsAtTop heads _ = Unit {0}

abbrev pub TopOk : Size → (heads : ℕ → ℕ) → View → Type 0
TopOk z heads v = OthersTaken z.seats v.number v.splitting v.clock.taken_in → IsAtTop heads v.work.search

abbrev pub Tops : Size → (heads : ℕ → ℕ) → List View → Type 0
Tops z heads vs = Each (TopOk z heads) vs
