-- A stamp is a clock and a seat, kept in one number.
use Rattle.std.specs.Prelude.{◌≡◌, ℕ, ◌+◌, ◌*◌, ◌/◌, ◌%◌, ◌<◌, ◌≤◌, ◌⊎◌}
use Rattle.stamp_base.specs.Limits.{greatest_clock, most_seats}

-- the stamp of a clock and a seat, and the clock and the seat of a stamp
abbrev pub stamp_of : ℕ → ℕ → ℕ
stamp_of clock seat = clock * 256 + seat

abbrev pub clock_of : ℕ → ℕ
clock_of n = n / 256

abbrev pub seat_of : ℕ → ℕ
seat_of n = n % 256

-- the number is that of a stamp
pub record IsStamp (n : ℕ) : Type 0 where
  pub clock_in_range : clock_of n ≤ greatest_clock
  pub seat_in_range : seat_of n < most_seats

-- the pair of a clock and a seat comes before that of another stamp: by the clock, and at one clock by the seat
abbrev pub PairIsBefore : (clock seat other : ℕ) → Type 0
PairIsBefore clock seat other =
    (clock < clock_of other) ⊎ ((clock ≡ clock_of other) × (seat < seat_of other))

-- a bound between the stamps of this clock and those of the next one
abbrev pub bound_of_clock : ℕ → ℕ
bound_of_clock clock = stamp_of clock most_seats
