-- Counts of faults: how often reading or writing has failed. A count ends at the greatest 64-bit number.
use Rattle.std.specs.Prelude.{◌≡◌, ◌⊎◌, ℕ, ◌-◌, ◌^◌, ◌<◌, ◌≤◌, ◌+◌, min}

-- where a count ends
abbrev pub count_end : ℕ
count_end = 2 ^ 64 - 1

-- one more, or still the end
abbrev pub one_more : ℕ → ℕ
one_more count = min (count + 1) count_end

-- the count has risen; one that stands at its end is said to have risen
abbrev pub HasRisen : ℕ → ℕ → Type 0
HasRisen before now = (before < now) ⊎ (now ≡ count_end)

-- the count has not fallen, and has not passed its end
pub record GoesOn (before now : ℕ) : Type 0 where
  pub never_falls : before ≤ now
  pub ends : now ≤ count_end

-- a stream, and how often it has failed
pub record Counted (A : Type 0) : Type 0 where
  pub stream : A
  pub faults : ℕ
