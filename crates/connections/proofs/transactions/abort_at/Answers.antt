use Rattle.std.proofs.Common.{rules}
use Rattle.connections.proofs.Txns.{aborts_txn}
use Rattle.connections.proofs.transactions.abort_at.Goals as goal

pub returns-clause-aborts : goal.returns-clause-aborts
returns-clause-aborts c = aborts_txn _ c.resume.result.seat.now _ _ c.resume.ensures.seat (search rules) c.abort.ensures.after c.abort.ensures.read_left
