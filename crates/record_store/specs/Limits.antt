-- How many records a store may have.
use Rattle.std.specs.Prelude.{ℕ}

-- records are numbered from 0, and a store has at most so many
abbrev pub record_limit : ℕ
record_limit = 200000
