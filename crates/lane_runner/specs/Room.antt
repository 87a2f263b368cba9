-- How far a clock may come.
use Rattle.std.specs.Prelude.{ℕ, ◌+◌, ◌≤◌, max}
use Rattle.stamp_base.specs.Limits.{greatest_clock, greatest_adopted_clock}

-- the greatest clock that a pass may have after so many draws: what it adopts of readings and of other seats is at most 2^55
abbrev pub clock_after : (clock draws : ℕ) → ℕ
clock_after clock draws = max clock greatest_adopted_clock + draws

-- so many draws come at a clock at most 2^56 - 2
abbrev pub HasRoom : (clock draws : ℕ) → Type 0
HasRoom clock draws = clock_after clock draws ≤ greatest_clock
