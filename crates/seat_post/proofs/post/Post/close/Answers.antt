use Rattle.std.proofs.Common.{ap, ◌∙◌}
use Rattle.seat_post.specs.Post.{PostView}
use Rattle.seat_post.proofs.ReadMore.{is_open, open_left}
use Rattle.seat_post.proofs.Over.{none_resting}
use Rattle.seat_post.proofs.WriteMore.{post_closed, open_ends}
use Rattle.seat_post.proofs.post.Post.close.Goals as goal

pub invariant_of-self : goal.invariant_of-self
invariant_of-self g c =
    let phase = ap (λ (p : PostView). p.phase) c.self.view_is ∙ c.requires in
    let i = c.self.invariant in
    let e = c.let_go.ensures in
    let begun = is_open _ _ _ _ phase i in
    rw (e.phase, e.stamp) (post_closed c.self.inside.hand c.let_go.new.sets i.ready i.size i.holds_none i.none_reserved (open_ends _ _ _ begun) (none_resting _ _ _ begun.at.begun.in_flight) e.reads e.writes)

pub returns-clause-read_left : goal.returns-clause-read_left
returns-clause-read_left g c = let i = c.self.inside in open_left i.hand i.phase i.stamp i.sets c.args.self.now c.self.invariant c.self.view_is c.requires
