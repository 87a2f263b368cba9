use Rattle.txn_engine.specs.Pass.{IsIdleOf}
use Rattle.ledger_example.proofs.transfers.work.Given as goal

abbrev pub invariant-loop-turn : goal.invariant-loop-turn
invariant-loop-turn l = IsIdleOf l.engine l.pass
