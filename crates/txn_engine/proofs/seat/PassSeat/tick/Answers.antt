use Rattle.std.proofs.Common.{subst}
use Rattle.txn_engine.specs.Pass.{PassView}
use Rattle.seat_post.specs.Logs.{IsAbove}
use Rattle.txn_engine.proofs.Passes.{pass_clock}
use Rattle.seat_post.proofs.Bounds.{above_drawn, drawn_later, less_is_most}
use Rattle.txn_engine.proofs.seat.PassSeat.tick.Goals as goal

pub invariant_of-self-2 : goal.invariant_of-self-2
invariant_of-self-2 g c = let i = c.self.inside in rw c.in_ok-stamp.ensures.ok (pass_clock i.post _ i.queue i.numbers _ _ c.self.invariant (less_is_most _ _ (drawn_later i.post.clock c.saturating_add.result)))

pub returns-clause-above : goal.returns-clause-above
returns-clause-above g c =
    let p = c.self.inside.post in
    let above = above_drawn p.log p.clock c.saturating_add.result p.seat c.self.invariant.clock.commits in
    subst (λ (q : PassView). IsAbove q.log c.in_ok-stamp.stamp) c.self.view_is (rw c.in_ok-stamp.ensures.stamp above)
