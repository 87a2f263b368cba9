use Rattle.std.proofs.Common.{◌-◌, length}
use Rattle.txn_engine.proofs.Passing.{HasAsked}
use Rattle.txn_engine.proofs.pass.Pass.fresh.Given as goal

abbrev pub invariant-loop-rid : goal.invariant-loop-rid
invariant-loop-rid g l = HasAsked l.i l.fn.self l.self

abbrev pub decreases-loop-rid : goal.decreases-loop-rid
decreases-loop-rid g l = length l.self.spare - l.i
