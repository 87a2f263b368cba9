use Rattle.std.proofs.Common.{ap, ◌∙◌}
use Rattle.seat_post.specs.Post.{PostView}
use Rattle.seat_post.specs.declared.phase.Phase.TheVariants.{Idle}
use Rattle.seat_post.proofs.Posts.{at_phase, post_idle, post_ticked}
use Rattle.seat_post.proofs.post.Post.tick.Goals as goal

pub draw-requires-clause-ends : goal.draw-requires-clause-ends
draw-requires-clause-ends g c = (at_phase c.self.inside.phase Idle c.self.inside.hand c.self.inside.stamp c.self.inside.sets c.self.invariant (ap (λ (p : PostView). p.phase) c.self.view_is ∙ c.requires.idle)).ends

pub invariant_of-self-2 : goal.invariant_of-self-2
invariant_of-self-2 g c =
    let phase = ap (λ (p : PostView). p.phase) c.self.view_is ∙ c.requires.idle in
    let idle = at_phase c.self.inside.phase Idle c.self.inside.hand c.self.inside.stamp c.self.inside.sets c.self.invariant phase in
    let after = post_ticked c.self.inside.hand c.draw.new.hand c.self.inside.stamp _ c.self.inside.sets idle c.in_ok-stamp.ensures.view in
    post_idle c.args.core.now c.self.inside.phase c.draw.new.hand c.self.inside.stamp c.self.inside.sets phase c.draw.ensures.ready.ready (rw c.in_ok-stamp.ensures.view c.self.invariant.size) (rw c.in_ok-stamp.ensures.view c.self.invariant.holds_none) (rw c.in_ok-stamp.ensures.view c.self.invariant.none_reserved) after
