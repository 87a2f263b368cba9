use Rattle.std.proofs.Common.{◌≡◌, ◌≤◌, take}
use Rattle.validate_core.specs.Sets.{count_below}
use Rattle.validate_core.proofs.sets.Sets.count_below.Given as goal

abbrev pub invariant-loop-i : goal.invariant-loop-i
invariant-loop-i l = record { counted : l.count ≡ count_below l.place (take l.i l.self.writes); bounded : l.count ≤ l.i }
