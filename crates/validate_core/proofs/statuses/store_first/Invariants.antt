use Rattle.validate_core.proofs.Settling.{Storing}
use Rattle.validate_core.proofs.statuses.store_first.Given as goal

abbrev pub invariant-loop-i : goal.invariant-loop-i
invariant-loop-i g l = Storing l.core l.fn.hand l.sets l.count l.decided l.i l.hand
