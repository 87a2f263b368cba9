-- The limits of stamps, as numbers.
use Rattle.std.specs.Prelude.{ℕ}

-- how many seats there are at most: they are numbered from 0
abbrev pub most_seats : ℕ
most_seats = 64

-- the greatest clock of a stamp: 2 ^ 56 - 2
abbrev pub greatest_clock : ℕ
greatest_clock = 72057594037927934

-- the greatest clock that a seat adopts from a reading, or from another seat: 2 ^ 55
abbrev pub greatest_adopted_clock : ℕ
greatest_adopted_clock = 36028797018963968

-- the number of no stamp that a published word holds where its seat is not open: 2 ^ 64 - 1
abbrev pub end_of_stamps : ℕ
end_of_stamps = 18446744073709551615
