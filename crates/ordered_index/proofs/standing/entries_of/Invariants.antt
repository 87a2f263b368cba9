use Rattle.std.proofs.Common.{◌≡◌, take, length}
use Rattle.ordered_index.specs.Standing.{content_at}
use Rattle.ordered_index.proofs.standing.entries_of.Given as goal

-- the entries so far
abbrev pub invariant-loop-i : goal.invariant-loop-i
invariant-loop-i l = record { items : l.entries.items ≡ take l.i (content_at l.words).entries; long : length l.entries.items ≡ l.i }
