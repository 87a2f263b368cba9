use Rattle.std.proofs.Common.{rules}
use Rattle.connections.proofs.Txns.{begins_txn, open_begun}
use Rattle.connections.proofs.transactions.begin_at.Goals as goal

pub returns-in-Ok-clause-begins : goal.returns-in-Ok-clause-begins
returns-in-Ok-clause-begins c =
    let e = c.in-Ok.ensures in
    begins_txn c.args.reading c.args.pass.now c.in-Ok.txn.seat.now _ (search rules) e.ok e.above e.each_once e.absent e.in_range

pub returns-in-Ok-clause-open_there : goal.returns-in-Ok-clause-open_there
returns-in-Ok-clause-open_there c = open_begun c.args.engine.now c.args.pass.now c.in-Ok.txn.seat.now _ _ (search rules) c.in-Ok.ensures.ok c.requires.pass
