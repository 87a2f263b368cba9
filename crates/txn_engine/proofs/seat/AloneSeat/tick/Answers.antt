use Rattle.std.proofs.Common.{subst}
use Rattle.txn_engine.specs.Alone.{AloneView}
use Rattle.seat_post.specs.Logs.{IsAbove}
use Rattle.txn_engine.proofs.seat.AloneSeat.tick.Goals as goal

pub returns-clause-above : goal.returns-clause-above
returns-clause-above g c = subst (λ (a : AloneView). IsAbove a.pass.log c.in_ok-stamp.stamp) c.self.view_is c.in_ok-stamp.ensures.above
