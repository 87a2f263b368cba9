use Rattle.std.proofs.Common.{ap, ◌∙◌}
use Rattle.core_rule.specs.View.{View}
use Rattle.seat_post.specs.Post.{PostView, shared_of}
use Rattle.seat_post.specs.declared.phase.Phase.TheVariants.{Idle}
use Rattle.seat_post.proofs.Posts.{at_phase}
use Rattle.seat_post.proofs.Announcing.{ended, none_read, nothing_joined, post_ended, ready_same}
use Rattle.seat_post.proofs.post.Post.join.Goals as goal

pub join-requires-clause-ends : goal.join-requires-clause-ends
join-requires-clause-ends g c = (at_phase _ Idle c.self.inside.hand c.self.inside.stamp c.self.inside.sets c.self.invariant (ap (λ (p : PostView). p.phase) c.self.view_is ∙ c.requires.idle)).ends

pub invariant_of-self : goal.invariant_of-self
invariant_of-self g c =
    let i = c.self.inside in
    let phase = ap (λ (p : PostView). p.phase) c.self.view_is ∙ c.requires.idle in
    let view = c.join.ensures.view in
    let ready = ready_same (shared_of i.hand) i.hand c.join.new.hand c.self.invariant.ready c.join.ensures.seat.same_table (ap (λ (v : View). v.size) view) (ap (λ (v : View). v.number) view) (ap (λ (v : View). v.published) view) in
    post_ended (shared_of i.hand) i.phase i.hand c.join.new.hand i.stamp i.sets phase c.self.invariant ready (ap (λ (v : View). v.size) view) (ap (λ (v : View). v.places.held) view) (ap (λ (v : View). v.counts.in_reserved) view ∙ nothing_joined _ _ c.self.invariant.none_reserved c.requires.done.none_reserved) (ended _ (ap (λ (v : View). v.work) view)) (λ at. none_read _ (ap (λ (v : View). v.work) view))
