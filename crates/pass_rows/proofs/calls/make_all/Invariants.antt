use Rattle.std.proofs.Common.{All}
use Rattle.txn_engine.specs.Pass.{IsIdleOf}
use Rattle.pass_rows.proofs.calls.make_all.Given as goal

abbrev pub invariant-loop-i : goal.invariant-loop-i
invariant-loop-i g l = All (IsIdleOf l.engine) l.passes.items
