-- Which record a transaction read first.
use Rattle.std.specs.Prelude.{ℕ, List, Option, option_map, slice_get}

-- its number, where any was read
abbrev pub first_record : List (ℕ × Option (List ℕ)) → Option ℕ
first_record reads = option_map (λ (read : ℕ × Option (List ℕ)). read.0) (slice_get reads 0)
