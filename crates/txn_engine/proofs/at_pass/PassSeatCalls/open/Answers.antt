use Rattle.std.proofs.Common.{ℕ, ◌<◌, ap, ◌∙◌, subst}
use Rattle.txn_engine.specs.Pass.{PassView, DeskView}
use Rattle.seat_post.specs.Logs.{IsAbove}
use Rattle.txn_engine.proofs.Passes.{pass_room, pass_opened}
use Rattle.seat_post.proofs.Bounds.{above_drawn, drawn_later, seat_below}
use Rattle.txn_engine.proofs.at_pass.PassSeatCalls.open.Goals as goal

pub invariant_of-self : goal.invariant_of-self
invariant_of-self g c = let i = c.self.inside in pass_room i.post i.queue c.reserve.new.self i.numbers _ _ c.self.invariant c.reserve.ensures.items c.reserve.ensures.not_less

pub invariant_of-self-in_err-open : goal.invariant_of-self-in_err-open
invariant_of-self-in_err-open g c = let i = c.self.inside in rw c.in_err-open.ensures.err (pass_room i.post i.queue c.reserve.new.self i.numbers _ _ c.self.invariant c.reserve.ensures.items c.reserve.ensures.not_less)

pub invariant_of-self-2 : goal.invariant_of-self-2
invariant_of-self-2 g c =
    let i = c.self.inside in
    let alive = ap (λ (p : PassView). p.dead) c.self.view_is ∙ ap (λ (d : DeskView). d.dead) c.requires.idle in
    let room = pass_room i.post i.queue c.reserve.new.self i.numbers _ _ c.self.invariant c.reserve.ensures.items c.reserve.ensures.not_less in
    let seat = seat_below c.number.ensures.size (subst (λ (n : ℕ). n < i.post.shared.size.seats) c.number.ensures.value c.number.ensures.within) in
    rw (c.in_ok-open.ensures.ok, c.take_back.ensures.after) (pass_opened i.post _ c.reserve.new.self i.numbers _ _ room alive (drawn_later i.post.clock c.saturating_add.result) seat)

pub returns-clause-above : goal.returns-clause-above
returns-clause-above g c =
    let p = c.self.inside.post in
    let above = above_drawn p.log p.clock c.saturating_add.result p.seat c.self.invariant.clock.commits in
    subst (λ (q : PassView). IsAbove q.log c.open.new.self.stamp) c.self.view_is (rw c.in_ok-open.ensures.ok above)
