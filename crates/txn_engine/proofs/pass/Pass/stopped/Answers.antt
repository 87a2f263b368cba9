use Rattle.std.proofs.Common.{rules}
use Rattle.txn_engine.proofs.pass.Pass.stopped.Goals as goal

pub returns-clause-ok : goal.returns-clause-ok
returns-clause-ok g c = search rules
