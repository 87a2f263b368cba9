use Rattle.connections.proofs.Seats.{open_spare}
use Rattle.connections.proofs.in_txn.take_and_put.Goals as goal

pub put_in_txn-requires-clause-pass : goal.put_in_txn-requires-clause-pass
put_in_txn-requires-clause-pass c = open_spare c.args.engine.now c.args.pass.now c.take_in.new.pass c.take_in.ensures.only c.requires.pass

pub returns-clause-did : goal.returns-clause-did
returns-clause-did c = record { ready = c.take_in.new.pass; takes = c.take_in.ensures.takes; does = c.put_in_txn.ensures.did }
