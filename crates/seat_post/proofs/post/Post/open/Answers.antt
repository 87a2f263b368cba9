use Rattle.std.proofs.Common.{sym, ap, ◌∙◌, subst, ℕ}
use Rattle.stamp_base.specs.Stamp.{IsStamp, stamp_of}
use Rattle.clock_stamps.specs.Clocks.{drawn_clock}
use Rattle.seat_post.specs.Logs.{IsAbove}
use Rattle.seat_post.proofs.Posts.{at_phase, post_opened}
use Rattle.seat_post.specs.Post.{PostView}
use Rattle.seat_post.specs.declared.phase.Phase.TheVariants.{Idle}
use Rattle.seat_post.proofs.Bounds.{above_drawn}
use Rattle.seat_post.proofs.post.Post.open.Goals as goal

pub draw-requires-clause-ends : goal.draw-requires-clause-ends
draw-requires-clause-ends g c = (at_phase c.self.inside.phase Idle c.self.inside.hand c.self.inside.stamp c.self.inside.sets c.self.invariant (ap (λ (p : PostView). p.phase) c.self.view_is ∙ c.requires.idle)).ends

pub invariant_of-self-2 : goal.invariant_of-self-2
invariant_of-self-2 g c =
    let idle = at_phase c.self.inside.phase Idle c.self.inside.hand c.self.inside.stamp c.self.inside.sets c.self.invariant (ap (λ (p : PostView). p.phase) c.self.view_is ∙ c.requires.idle) in
    post_opened c.args.core.now c.self.inside.hand c.draw.new.hand c.self.inside.stamp c.in_ok-stamp.stamp _ c.self.inside.sets idle c.self.invariant.holds_none c.self.invariant.none_reserved c.self.invariant.size c.draw.ensures.ready.ready c.in_ok-stamp.ensures.view (subst (λ (n : ℕ). IsStamp n) c.number.ensures.value c.number.ensures.stamp) c.in_ok-stamp.ensures.stamp
    (subst (λ (p : PostView). IsAbove p.log (stamp_of (drawn_clock p.clock c.args.reading) p.seat)) (sym c.self.view_is) (above_drawn c.args.self.now.log c.args.self.now.clock c.args.reading c.args.self.now.seat c.requires.commits))
