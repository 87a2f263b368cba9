use Rattle.std.proofs.Common.{arith}
use Rattle.txn_engine.proofs.pass.Pass.records.Goals as goal

pub returns-clause-at_most : goal.returns-clause-at_most
returns-clause-at_most g c = let h = c.number.ensures.size.records_in_range in let k = c.self.invariant.records in let r = c.records.ensures in omega arith
