use Rattle.std.proofs.Common.{rules}
use Rattle.connections.proofs.Testing.{reads_seen, reads_spoiled}
use Rattle.connections.proofs.connection.Connection.get.Goals as goal

pub returns-in-Err : goal.returns-in-Err
returns-in-Err c = reads_spoiled _ _ _ _ c.self.inside.opened _ _ _ _ c.in-Some.pass c.get_in_txn.new.pass _ c.self.view_is c.in-Some.is (search rules) c.in-Err.fault c.in-Transaction.is c.in-Err.ensures.fault c.in-Err.ensures.did

pub returns-in-Some-pass : goal.returns-in-Some-pass
returns-in-Some-pass c = reads_seen _ _ _ _ c.self.inside.opened _ _ _ _ c.in-Some-pass.pass c.get_in_snapshot.new.pass _ c.self.view_is c.in-Some-pass.is (search rules) c.get_in_snapshot.result c.in-Snapshot.is c.get_in_snapshot.ensures.fault c.get_in_snapshot.ensures.did
