use Rattle.std.specs.Result.{IsErrAnd}
use Rattle.std.proofs.Common.{◌≡◌, ◌<◌, ap, ◌∙◌, sym, subst}
use Rattle.stamp_base.specs.Stamp.{stamp_of}
use Rattle.clock_stamps.specs.Clocks.{drawn_clock}
use Rattle.core_rule.specs.View.{View}
use Rattle.seat_post.specs.Post.{PostView, post_of}
use Rattle.seat_post.specs.Promoting.{PromotesAt, FailsAt, CameUpon, IsStoppedPost}
use Rattle.engine_answers.specs.declared.promotion.PromoteFault.TheVariants as fault
use Rattle.seat_post.specs.declared.phase.Phase.TheVariants.{Idle}
use Rattle.seat_post.proofs.Posts.{at_phase}
use Rattle.seat_post.proofs.Promotions.{promotes_rested, fails_rested, post_rested, came_upon, fails_post}
use Rattle.seat_post.proofs.Answered.{err_told}
use Rattle.seat_post.proofs.post.Post.promote.Goals as goal

pub draw-requires-clause-ends : goal.draw-requires-clause-ends
draw-requires-clause-ends g c = (at_phase c.self.inside.phase Idle c.self.inside.hand c.self.inside.stamp c.self.inside.sets c.self.invariant (ap (λ (p : PostView). p.phase) c.self.view_is ∙ c.requires.idle)).ends

pub invariant_of-self-in_err-told : goal.invariant_of-self-in_err-told
invariant_of-self-in_err-told g c =
    let i = c.self.inside in
    let phase = ap (λ (p : PostView). p.phase) c.self.view_is ∙ c.requires.idle in
    let e = c.in_ok-stamp.ensures in
    let lt : c.args.rid < i.hand.view.size.records = subst (λ (p : PostView). c.args.rid < p.shared.size.records) (sym c.self.view_is) c.requires.rid in
    post_rested c.args.core.now i.phase i.hand c.promote_at.new.hand c.draw.new.hand.view _ c.in_ok-stamp.stamp c.args.rid i.stamp i.sets phase c.self.invariant lt e.view e.published
    (λ apart drew. fails_rested c.in_ok-stamp.stamp c.args.rid c.draw.new.hand.view c.promote_at.new.hand.view c.in_err-told.field-0.0 apart drew c.in_err-told.ensures.err) c.promote_at.ensures.stays.ready

pub invariant_of-self-2 : goal.invariant_of-self-2
invariant_of-self-2 g c =
    let i = c.self.inside in
    let phase = ap (λ (p : PostView). p.phase) c.self.view_is ∙ c.requires.idle in
    let e = c.in_ok-stamp.ensures in
    let lt : c.args.rid < i.hand.view.size.records = subst (λ (p : PostView). c.args.rid < p.shared.size.records) (sym c.self.view_is) c.requires.rid in
    post_rested c.args.core.now i.phase i.hand c.promote_at.new.hand c.draw.new.hand.view _ c.in_ok-stamp.stamp c.args.rid i.stamp i.sets phase c.self.invariant lt e.view e.published
    (λ apart drew. promotes_rested g.J.Keeps.kept c.args.core.now.size.records c.in_ok-stamp.stamp c.args.rid c.draw.new.hand.view c.promote_at.new.hand.view c.in_ok-told.told apart drew c.in_ok-told.ensures.ok) c.promote_at.ensures.stays.ready

pub returns-clause-met : goal.returns-clause-met
returns-clause-met g c =
    let i = c.self.inside in let e = c.in_ok-stamp.ensures in let told = c.in_ok-told.told in
    let clock = drawn_clock i.hand.view.clock.clock c.args.reading in
    let at = subst (λ (v : View). PromotesAt g.J.Keeps.kept c.args.core.now.size.records (stamp_of clock i.hand.view.number) c.args.rid v c.promote_at.new.hand.view told) e.view (rw e.stamp at c.in_ok-told.ensures.ok) in
    subst (λ (p : PostView). CameUpon (stamp_of (drawn_clock p.clock c.args.reading) p.seat) c.args.rid p (post_of c.promote_at.new.hand i.phase i.stamp i.sets) told) c.self.view_is
    (came_upon i.hand c.promote_at.new.hand i.phase i.stamp i.sets clock c.args.rid g.J.Keeps.kept c.args.core.now.size.records told at)

pub returns-in_err-told-clause-err : goal.returns-in_err-told-clause-err
returns-in_err-told-clause-err g c =
    let i = c.self.inside in let e = c.in_ok-stamp.ensures in let conflict = c.in_err-told.field-0.0 in
    let clock = drawn_clock i.hand.view.clock.clock c.args.reading in
    let told : IsErrAnd c.from_residual-in_err-told.result (λ x. x ≡ fault.Conflict conflict) = c.from_residual-in_err-told.ensures.1 in
    let table = c.promote_at.ensures.stays.seat.same_table ∙ c.draw.ensures.ready.seat.same_table in
    let at = subst (λ (v : View). FailsAt (stamp_of clock i.hand.view.number) c.args.rid v c.promote_at.new.hand.view conflict) e.view (rw e.stamp at c.in_err-told.ensures.err) in
    err_told c.from_residual-in_err-told.result (fault.Conflict conflict) _ told
    (subst (λ (p : PostView). IsStoppedPost c.args.rid (drawn_clock p.clock c.args.reading) p (post_of c.promote_at.new.hand i.phase i.stamp i.sets) conflict) c.self.view_is
    (fails_post i.hand c.promote_at.new.hand i.phase i.stamp i.sets clock c.args.rid conflict at table))
