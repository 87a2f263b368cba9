use Rattle.std.proofs.Common.{rules}
use Rattle.txn_engine.proofs.Committing.{may_refuse}
use Rattle.txn_engine.proofs.staged.TxnOver+Pass+J+E.install.Goals as goal

pub returns-in_err-linked : goal.returns-in_err-linked
returns-in_err-linked g c = let may = may_refuse c.in_err-linked.ensures.err in search (may, rules)
