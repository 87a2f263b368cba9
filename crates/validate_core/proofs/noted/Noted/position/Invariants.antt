use Rattle.std.proofs.Common.{map}
use Rattle.validate_core.specs.Noted.{noted}
use Rattle.validate_core.proofs.Chaining.{IsWalked}
use Rattle.validate_core.proofs.noted.Noted.position.Given as goal

abbrev pub invariant-loop-at : goal.invariant-loop-at
invariant-loop-at g l = IsWalked (map g.V.OfRecord.number (noted l.self)) l.rid l.at

abbrev pub decreases-loop-at : goal.decreases-loop-at
decreases-loop-at g l = l.at
