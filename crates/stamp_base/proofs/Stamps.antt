-- Laws of stamps: the pair and the number give each other back, and the order is that of the pairs.
use Rattle.std.proofs.Common.{◌≡◌, ◌≢◌, ℕ, ◌<◌, ◌≤◌, ◌↔◌, ap, arith}
use Rattle.stamp_base.specs.Limits.{greatest_clock, most_seats, end_of_stamps}
use Rattle.stamp_base.specs.Stamp.{stamp_of, clock_of, seat_of, IsStamp, PairIsBefore, bound_of_clock}

pub clock_of-stamp_of : (clock seat : ℕ) → seat ≤ most_seats → clock_of (stamp_of clock seat) ≡ clock
clock_of-stamp_of clock seat in_range = omega arith

pub seat_of-stamp_of : (clock seat : ℕ) → seat ≤ most_seats → seat_of (stamp_of clock seat) ≡ seat
seat_of-stamp_of clock seat in_range = omega arith

pub stamp_of-clock_of : (n : ℕ) → stamp_of (clock_of n) (seat_of n) ≡ n
stamp_of-clock_of n = omega arith

pub IsStamp-stamp_of : (clock seat : ℕ) → clock ≤ greatest_clock → seat < most_seats → IsStamp (stamp_of clock seat)
IsStamp-stamp_of clock seat clock_in_range seat_in_range =
    record { clock_in_range = omega arith; seat_in_range = omega arith }

-- numbers are ordered as their pairs are, by the clock first
pub order_is_of_pairs : (n m : ℕ) → (n < m) ↔ PairIsBefore (clock_of n) (seat_of n) m
order_is_of_pairs n m = (λ below. grind arith, λ before. grind arith)

pub clock_of-mono : (n m : ℕ) → n ≤ m → clock_of n ≤ clock_of m
clock_of-mono n m below = omega arith

-- the stamps of a later clock are above those of this one
pub stamp_of-later : (clock seat later other : ℕ) → seat ≤ most_seats → clock < later → stamp_of clock seat < stamp_of later other
stamp_of-later clock seat later other in_range below = omega arith

-- the bound of a clock is above each stamp of that clock and of those before it
pub bound_of_clock-above : (n clock : ℕ) → IsStamp n → clock_of n ≤ clock → n < bound_of_clock clock
bound_of_clock-above n clock stamp below = omega arith

-- it is below each stamp of a later clock
pub bound_of_clock-below : (n clock : ℕ) → clock < clock_of n → bound_of_clock clock < n
bound_of_clock-below n clock below = omega arith

pub bound_of_clock-below_end : (clock : ℕ) → clock ≤ greatest_clock → bound_of_clock clock < end_of_stamps
bound_of_clock-below_end clock in_range = omega arith

pub IsStamp-below_end : (n : ℕ) → IsStamp n → n < end_of_stamps
IsStamp-below_end n stamp = omega arith

-- stamps of two seats differ
pub apart_by_seat : (n m : ℕ) → seat_of n ≢ seat_of m → n ≢ m
apart_by_seat n m differ same = differ (ap seat_of same)
