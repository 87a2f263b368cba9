use Rattle.validate_core.proofs.Placing.{Placing}
use Rattle.validate_core.proofs.installing.install.Given as goal

abbrev pub invariant-loop-i : goal.invariant-loop-i
invariant-loop-i g l = Placing l.core l.fn.hand l.fn.sets l.i l.sets l.hand
