use Rattle.std.proofs.Common.{subst}
use Rattle.txn_engine.specs.Alone.{AloneView}
use Rattle.seat_post.specs.Logs.{IsAbove}
use Rattle.txn_engine.proofs.at_alone.AloneSeatCalls.open.Goals as goal

pub returns-clause-above : goal.returns-clause-above
returns-clause-above g c = subst (λ (a : AloneView). IsAbove a.pass.log c.open.new.self.stamp) c.self.view_is c.in_ok-open.ensures.above
