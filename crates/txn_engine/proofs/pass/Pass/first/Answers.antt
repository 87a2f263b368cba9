use Rattle.std.proofs.Common.{rules}
use Rattle.txn_engine.proofs.pass.Pass.first.Goals as goal

pub invariant_of-result : goal.invariant_of-result
invariant_of-result g c = record {
  records = search rules;
  fixed = search rules;
  clock = search rules;
  log = search rules;
  transaction = search rules;
  room = search rules;
}
