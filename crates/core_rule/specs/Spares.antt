-- Which places a seat that is alone knows to be free.
use Rattle.std.specs.Prelude.{◌≡◌, ◌⊎◌, ℕ, ◌<◌, ◌≤◌, Some}
use Rattle.word_layout.specs.Size.{Size, reserved_place}
use Rattle.core_rule.specs.View.{View, Bound, Counted, nothing_reserved, version_reserved, no_item}
use Rattle.core_rule.specs.Views.{Has, IsAlone}
use Rattle.core_rule.specs.Searching.{Rests, known_of}

-- the only version of record r stands in the reserved place, as it is known
pub record StandsReserved (r : ℕ) (c : Counted) : Type 0 where
  pub stamp : ℕ
  pub reserved : c.in_reserved ≡ version_reserved r stamp
  pub bound : Bound
  pub known : known_of c r ≡ Some bound
  pub only : bound.linked ≤ 1

-- the reserved place, where the seat has nothing there; the inline place of a record whose only version stands there
abbrev pub IsSpare : Size → (p : ℕ) → Counted → Type 0
IsSpare z p c = ((p ≡ reserved_place z) × (c.in_reserved ≡ nothing_reserved)) ⊎ ((p < z.records) × StandsReserved p c)

-- the seat is alone, marks and collects nothing, and does not hold it, so it is free
pub record KnowsFree (v : View) (p : ℕ) : Type 0 where
  pub alone : IsAlone v
  pub rests : Rests v.work.search
  pub collected : v.work.item ≡ no_item
  pub not_held : Has p v.places.held → ⊥
  pub spare : IsSpare v.size p v.counts
