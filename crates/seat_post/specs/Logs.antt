-- Bounds on the stamps of the entries of a log.
use Rattle.std.specs.Prelude.{◌≡◌, ℕ, ◌<◌, true, false, List}
use Rattle.plain_data.specs.declared.entry.Entry.{Entry}
use Rattle.core_rule.specs.Views.{Among}

-- every commit entry of the log is stamped below this number; and every snapshot entry is
abbrev pub IsAbove : List Entry → ℕ → Type 0
IsAbove log t = (e : Entry) → Among e log → e.snapshot ≡ false → e.stamp < t

abbrev pub AreBelow : List Entry → ℕ → Type 0
AreBelow log t = (e : Entry) → Among e log → e.snapshot ≡ true → e.stamp < t
