-- The words that show the status of a linked version. That of a free place is 0, and that of a held one 1.
use Rattle.std.specs.Prelude.{ℕ, ◌≤◌}
use Rattle.core_rule.specs.declared.status.Status.{Status}
use Rattle.core_rule.specs.declared.status.Status.TheVariants.{Pending, Committed, Deleted, Aborted}

abbrev pub status_word : Status → ℕ
status_word Pending = 2
status_word Committed = 3
status_word Deleted = 4
status_word Aborted = 5

-- the word of a place where a version is linked
abbrev pub IsStatusWord : ℕ → Type 0
IsStatusWord n = (2 ≤ n) × (n ≤ 5)
