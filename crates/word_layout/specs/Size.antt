-- The size of an engine's table: how many seats, records and places it has.
use Rattle.std.specs.Prelude.{ℕ, ◌+◌, ◌-◌, ◌*◌, ◌<◌, ◌≤◌}
use Rattle.word_layout.specs.Limits.{most_seats, most_records, most_spare}

-- how many seats and records there are, and how many places beside the inline ones
pub record Size : Type 0 where
  pub seats : ℕ
  pub records : ℕ
  pub spare : ℕ

abbrev pub size_of : ℕ → ℕ → ℕ → Size
size_of seats records spare = record { seats = seats; records = records; spare = spare }

-- each number is in its range
pub record IsSize (z : Size) : Type 0 where
  pub has_seat : 1 ≤ z.seats
  pub seats_in_range : z.seats ≤ most_seats
  pub has_record : 1 ≤ z.records
  pub records_in_range : z.records ≤ most_records
  pub has_spare : 1 ≤ z.spare
  pub spare_in_range : z.spare ≤ most_spare

-- how many places there are for versions: an inline one for each record, and the pool places
abbrev pub places : Size → ℕ
places z = z.records + z.spare

-- how many words the table has: two of each seat, two minima, three of each record, and of each place four
-- and the 32 cells of a value
abbrev pub words : Size → ℕ
words z = 2 * z.seats + 2 + 3 * z.records + 36 * places z

-- place p is the inline place of record p
abbrev pub IsInline : Size → ℕ → Type 0
IsInline z p = p < z.records

-- place p belongs to no record
abbrev pub IsPool : Size → ℕ → Type 0
IsPool z p = (z.records ≤ p) × (p < places z)

-- the last pool place, which is kept for settling
abbrev pub reserved_place : Size → ℕ
reserved_place z = places z - 1

-- place p is a pool place other than the reserved one
abbrev pub IsUsable : Size → ℕ → Type 0
IsUsable z p = (z.records ≤ p) × (p < reserved_place z)

-- how many pool places are usable
abbrev pub usable_places : Size → ℕ
usable_places z = z.spare - 1
