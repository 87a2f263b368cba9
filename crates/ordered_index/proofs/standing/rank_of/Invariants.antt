use Rattle.std.proofs.Common.{◌≤◌, drop}
use Rattle.std.specs.Prelude.{slice_index}
use Rattle.ordered_index.specs.Keys.{Above}
use Rattle.ordered_index.specs.Standing.{content_at}
use Rattle.ordered_index.proofs.standing.rank_of.Given as goal

-- the entries from here on have keys behind this one
abbrev pub invariant-loop-rank : goal.invariant-loop-rank
invariant-loop-rank l = record { within : l.rank ≤ slice_index l.words 1; above : Above l.key (drop l.rank (content_at l.words).entries) }

abbrev pub decreases-loop-rank : goal.decreases-loop-rank
decreases-loop-rank l = l.rank
