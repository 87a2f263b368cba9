use Rattle.std.proofs.Common.{ap, ◌∙◌}
use Rattle.seat_post.specs.Post.{PostView}
use Rattle.seat_post.proofs.ReadMore.{is_open, open_at}
use Rattle.seat_post.proofs.WriteMore.{post_dropped}
use Rattle.seat_post.proofs.post.Post.drop_writes.Goals as goal

pub invariant_of-self : goal.invariant_of-self
invariant_of-self g c =
    let phase = ap (λ (p : PostView). p.phase) c.self.view_is ∙ c.requires in
    open_at _ _ _ _ phase (post_dropped _ _ _ _ (is_open _ _ _ _ phase c.self.invariant) c.drop_writes.ensures.reads c.drop_writes.ensures.writes)
