use Rattle.std.proofs.Common.{◌<◌, ap, ◌∙◌, sym, subst}
use Rattle.seat_post.specs.Post.{PostView, written}
use Rattle.seat_post.proofs.ReadMore.{is_open, open_at, post_room, post_written, view_room}
use Rattle.seat_post.proofs.WriteMore.{put_within, view_put}
use Rattle.seat_post.proofs.post.Post.write.Goals as goal

pub invariant_of-self : goal.invariant_of-self
invariant_of-self g c =
    let phase = ap (λ (p : PostView). p.phase) c.self.view_is ∙ c.requires.open in
    let r = c.reserve.ensures in
    open_at _ _ _ _ phase (post_room _ _ _ _ (is_open _ _ _ _ phase c.self.invariant) r.reads r.writes)

pub invariant_of-self-2 : goal.invariant_of-self-2
invariant_of-self-2 g c =
    let i = c.self.inside in
    let phase = ap (λ (p : PostView). p.phase) c.self.view_is ∙ c.requires.open in
    let r = c.reserve.ensures in
    let room = post_room i.hand i.stamp i.sets c.reserve.new.self (is_open _ _ _ _ phase c.self.invariant) r.reads r.writes in
    let rid = subst (λ (p : PostView). c.args.rid < p.shared.size.records) (sym c.self.view_is) c.requires.rid in
    open_at _ _ _ _ phase (post_written i.hand i.stamp c.reserve.new.self c.put.new.self room c.put.ensures.reads (put_within i.hand.view.size c.reserve.new.self.writes c.put.new.self.writes c.args.rid c.args.value.now room.at.begun.inside.writes rid c.put.ensures.values) c.put.ensures.once)

pub returns-clause-ok : goal.returns-clause-ok
returns-clause-ok g c =
    let i = c.self.inside in
    view_put i.hand i.phase i.stamp c.reserve.new.self c.put.new.self c.args.rid c.args.value.now c.put.ensures.reads c.put.ensures.values
    ∙ ap (λ p. written p c.args.rid c.args.value.now) (view_room i.hand i.phase i.stamp i.sets c.reserve.new.self c.reserve.ensures.reads c.reserve.ensures.writes ∙ c.self.view_is)
