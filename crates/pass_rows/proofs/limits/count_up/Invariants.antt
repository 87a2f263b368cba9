use Rattle.txn_engine.specs.Pass.{IsIdleOf}
use Rattle.pass_rows.proofs.limits.count_up.Given as goal

abbrev pub invariant-loop-count : goal.invariant-loop-count
invariant-loop-count g l = IsIdleOf l.engine l.pass
