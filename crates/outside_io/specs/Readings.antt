-- Readings of a clock, and which of two clocks is asked.
use Rattle.std.specs.Prelude.{◌≡◌, ℕ, ◌-◌, ◌^◌, min, Bool, true, false, List, [], ◌∷◌}

-- the first of the readings that are left, or 0
abbrev pub first_reading : List ℕ → ℕ
first_reading [] = 0
first_reading (reading ∷ later) = reading

-- what is left behind it: the last reading stays
abbrev pub after_reading : List ℕ → List ℕ
after_reading [] = []
after_reading (last ∷ []) = last ∷ []
after_reading (reading ∷ next ∷ later) = next ∷ later

-- a clock that is asked reads as it does; one that is not asked stands for the reading 0, and stays
abbrev pub ReadsIfAsked : {C : Type 0} → (C → ℕ → C → Type 0) → Bool → C → ℕ → C → Type 0
ReadsIfAsked reads true before reading after = reads before reading after
ReadsIfAsked reads false before reading after = (reading ≡ 0) × (after ≡ before)

-- the nanoseconds from one time to a later one, which end at the greatest 64-bit number; from a later time to an earlier one they are 0
abbrev pub nanos_between : ℕ → ℕ → ℕ
nanos_between start now = min (now - start) (2 ^ 64 - 1)
