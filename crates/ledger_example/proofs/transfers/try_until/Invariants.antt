use Rattle.txn_engine.specs.Pass.{IsIdleOf}
use Rattle.ledger_example.proofs.transfers.try_until.Given as goal

abbrev pub invariant-loop : goal.invariant-loop
invariant-loop l = IsIdleOf l.engine l.pass
