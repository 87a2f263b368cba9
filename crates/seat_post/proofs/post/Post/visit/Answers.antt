use Rattle.std.proofs.Common.{ap, ◌∙◌, subst}
use Rattle.seat_post.specs.Post.{PostView, post_of}
use Rattle.seat_post.specs.Sharing.{Visits}
use Rattle.seat_post.proofs.Visiting.{post_visited, visited}
use Rattle.seat_post.proofs.post.Post.visit.Goals as goal

pub invariant_of-self : goal.invariant_of-self
invariant_of-self g c =
    let i = c.self.inside in
    let v = c.visit in
    post_visited c.args.core.now i.hand v.new.hand i.phase i.stamp c.args.place i.sets c.self.invariant (ap (λ (p : PostView). p.phase) c.self.view_is ∙ c.requires.idle) v.ensures.ready.seat.same_table v.ensures.ready.ready v.result v.ensures.free v.ensures.not_free

pub returns : goal.returns
returns g c =
    let i = c.self.inside in
    let v = c.visit in
    subst (λ (p : PostView). Visits c.args.place p (post_of v.new.hand i.phase i.stamp i.sets)) c.self.view_is
    (visited c.args.core.now i.hand v.new.hand i.phase i.stamp c.args.place i.sets c.self.invariant (ap (λ (p : PostView). p.phase) c.self.view_is ∙ c.requires.idle) v.ensures.ready.seat.same_table v.ensures.ready.ready v.result v.ensures.free v.ensures.not_free)
