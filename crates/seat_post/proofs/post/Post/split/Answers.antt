use Rattle.std.proofs.Common.{ap, ◌∙◌}
use Rattle.core_rule.specs.View.{View}
use Rattle.seat_post.specs.Post.{PostView}
use Rattle.seat_post.specs.declared.phase.Phase.TheVariants.{Idle}
use Rattle.seat_post.proofs.Posts.{at_phase}
use Rattle.seat_post.proofs.Announcing.{ended, none_read, post_ended}
use Rattle.seat_post.proofs.post.Post.split.Goals as goal

pub split-hand-requires-clause-ends : goal.split-hand-requires-clause-ends
split-hand-requires-clause-ends g c = (at_phase _ Idle c.self.inside.hand c.self.inside.stamp c.self.inside.sets c.self.invariant (ap (λ (p : PostView). p.phase) c.self.view_is ∙ c.requires.idle)).ends

pub invariant_of-self : goal.invariant_of-self
invariant_of-self g c =
    let i = c.self.inside in
    let phase = ap (λ (p : PostView). p.phase) c.self.view_is ∙ c.requires.idle in
    let left = c.split-hand.ensures.split.left in
    post_ended c.args.core.now i.phase i.hand c.split-hand.new.hand i.stamp i.sets phase c.self.invariant c.split-hand.ensures.stays.ready (ap (λ (v : View). v.size) left) (ap (λ (v : View). v.places.held) left) (ap (λ (v : View). v.counts.in_reserved) left) (ended _ (ap (λ (v : View). v.work) left)) (λ at. none_read _ (ap (λ (v : View). v.work) left))
