-- Counts: while no other seat is open, what a view knows of the number of linked versions and of their write stamps holds.
use Rattle.std.specs.Prelude.{ℕ, suc, ◌<◌, ◌≤◌, nat_lt, if◌then◌else◌, List, [], ◌∷◌, length, Option, Some, None}
use Rattle.word_layout.specs.Size.{Size}
use Rattle.core_rule.specs.View.{View, Bound}
use Rattle.core_rule.specs.Views.{Each, Has, OthersTaken}
use Rattle.core_rule.specs.Searching.{known_of, newest_stamp}

-- how many of these places are no inline places
abbrev pub outside : Size → List ℕ → ℕ
outside z [] = 0
outside z (p ∷ ps) = if nat_lt p z.records then outside z ps else suc (outside z ps)

abbrev pub IsBounded : Size → Option Bound → List ℕ → Type 0
IsBounded z None xs = Unit {0}
IsBounded z (Some b) xs = (length xs ≤ b.linked) × (outside z xs ≤ b.outside)

-- no write stamp in these places is above the number
abbrev pub IsTop : (ℕ → ℕ) → Option ℕ → List ℕ → Type 0
IsTop stamps None xs = Unit {0}
IsTop stamps (Some t) xs = (p : ℕ) → Has p xs → stamps p ≤ t

pub record Knows (z : Size) (lists : ℕ → List ℕ) (stamps : ℕ → ℕ) (counts : ℕ → Option Bound) (tops : ℕ → Option ℕ) : Type 0 where
  pub bounded : (r : ℕ) → r < z.records → IsBounded z (counts r) (lists r)
  pub newest : (r : ℕ) → r < z.records → IsTop stamps (tops r) (lists r)

abbrev pub CountsOk : Size → (ℕ → List ℕ) → (ℕ → ℕ) → View → Type 0
CountsOk z lists stamps v = OthersTaken z.seats v.number v.splitting v.clock.taken_in → Knows z lists stamps (known_of v.counts) (newest_stamp v.tops)

abbrev pub Counts : Size → (ℕ → List ℕ) → (ℕ → ℕ) → List View → Type 0
Counts z lists stamps vs = Each (CountsOk z lists stamps) vs
