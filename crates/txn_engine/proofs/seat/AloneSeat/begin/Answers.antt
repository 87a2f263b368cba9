use Rattle.std.proofs.Common.{rules}
use Rattle.txn_engine.proofs.Accounting.{keeps_absent}
use Rattle.txn_engine.proofs.seat.AloneSeat.begin.Goals as goal

pub returns : goal.returns
returns g c = search (rules, keeps_absent)
