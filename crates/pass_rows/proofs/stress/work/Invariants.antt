use Rattle.txn_engine.specs.Pass.{IsIdleOf}
use Rattle.pass_rows.proofs.stress.work.Given as goal

abbrev pub invariant-loop-round : goal.invariant-loop-round
invariant-loop-round l = IsIdleOf l.engine l.pass
