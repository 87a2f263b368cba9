use Rattle.std.proofs.Common.{ℕ, ap, ◌∙◌, sym, subst}
use Rattle.word_layout.specs.Name.{published_write, min_write}
use Rattle.core_rule.specs.View.{View}
use Rattle.seat_post.specs.Observing.{RaisesTo}
use Rattle.seat_post.specs.Post.{PostView, post_of}
use Rattle.seat_post.specs.Seats.{observed_of}
use Rattle.seat_post.specs.Sharing.{announced_at}
use Rattle.seat_post.specs.declared.phase.Phase.TheVariants.{Idle}
use Rattle.seat_post.proofs.Posts.{at_phase}
use Rattle.seat_post.proofs.Announcing.{Announces, announces, announced_view, post_ended}
use Rattle.seat_post.proofs.post.Post.announce.Given.{Over}
use Rattle.seat_post.proofs.post.Post.announce.Goals as goal

pub idle-requires-clause-ends : goal.idle-requires-clause-ends
idle-requires-clause-ends g c = (at_phase _ Idle c.self.inside.hand c.self.inside.stamp c.self.inside.sets c.self.invariant (ap (λ (p : PostView). p.phase) c.self.view_is ∙ c.requires.idle)).ends

raised : (g : Over) (c : goal.After-raise_min_write g) → Announces c.self.inside.hand.view c.raise_min_write.new.hand.view
raised g c =
    let i = c.self.inside in let e = c.idle.ensures in let r = c.raise_min_write in
    announces i.hand c.idle.new.hand r.new.hand i.phase i.stamp r.result i.sets c.args.self.now c.self.invariant c.self.view_is c.requires.idle c.requires.alone e.rises e.unchanged r.ensures.raises r.ensures.view

pub invariant_of-self : goal.invariant_of-self
invariant_of-self g c =
    let i = c.self.inside in
    let is = raised g c in
    post_ended c.args.core.now i.phase i.hand c.raise_min_write.new.hand i.stamp i.sets (ap (λ (p : PostView). p.phase) c.self.view_is ∙ c.requires.idle) c.self.invariant c.raise_min_write.ensures.ready.ready (ap (λ (v : View). v.size) is.only) (ap (λ (v : View). v.places.held) is.only) (ap (λ (v : View). v.counts.in_reserved) is.only) is.ends is.whole

pub returns-clause-value : goal.returns-clause-value
returns-clause-value g c =
    let i = c.self.inside in
    let last = post_of c.raise_min_write.new.hand i.phase i.stamp i.sets in
    let table = c.raise_min_write.ensures.ready.seat.same_table ∙ c.idle.ensures.ready.seat.same_table in
    announced_view i.hand c.raise_min_write.new.hand i.phase i.stamp i.sets table (raised g c) ∙ ap (λ (p : PostView). record (announced_at p) { placed = last.placed; snapshot = last.snapshot; observed = last.observed }) c.self.view_is

pub returns-clause-raised : goal.returns-clause-raised
returns-clause-raised g c =
    let is = raised g c in
    let w = c.raise_min_write.new.hand.view in
    let v = c.self.inside.hand.view in
    let published = sym (ap (λ (x : View). x.published.write) is.only) in
    let met = sym (ap (λ (x : View). x.clock.met) is.only) in
    let at = subst (λ (n : ℕ × ℕ). RaisesTo published_write min_write v.size.seats v.number n.0 n.1 (observed_of v) (observed_of w)) (λ i. (published i, met i)) is.raised in
    subst (λ (p : PostView). RaisesTo published_write min_write p.shared.size.seats p.seat w.published.write w.clock.met p.observed (observed_of w)) c.self.view_is at
