use Rattle.std.proofs.Common.{ap, subst, arith}
use Rattle.stamp_base.specs.Stamp.{bound_of_clock}
use Rattle.seat_post.specs.Logs.{IsAbove}
use Rattle.txn_engine.specs.Pass.{PassView}
use Rattle.txn_engine.proofs.Passes.{pass_met}
use Rattle.seat_post.specs.Post.{PostView}
use Rattle.txn_engine.proofs.pass.Pass.announce.Goals as goal

pub invariant_of-self : goal.invariant_of-self
invariant_of-self g c =
    let i = c.self.inside in
    let met = ap (λ (p : PostView). p.met) c.announce.ensures.value in
    let later = c.announce.ensures.not_back in
    rw (c.announce.ensures.value, c.take_back.ensures.after) (pass_met i.post _ i.queue i.numbers _ _ c.self.invariant (omega arith))

pub returns-clause-above : goal.returns-clause-above
returns-clause-above g c = subst (λ (p : PassView). IsAbove p.log (bound_of_clock p.clock)) c.self.view_is c.self.invariant.clock.commits
