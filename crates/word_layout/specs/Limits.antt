-- The limits of an engine's table, as numbers.
use Rattle.std.specs.Prelude.{ℕ}

-- how many seats there are at most
abbrev pub most_seats : ℕ
most_seats = 64

-- how many records
abbrev pub most_records : ℕ
most_records = 200000

-- how many places beside those of the records
abbrev pub most_spare : ℕ
most_spare = 262144

-- how many words the value of a record has
abbrev pub cells_of_value : ℕ
cells_of_value = 32
