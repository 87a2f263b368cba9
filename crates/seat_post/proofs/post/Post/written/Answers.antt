use Rattle.std.proofs.Common.{◌∙◌, ap}
use Rattle.record_store.specs.Meaning.{value_at}
use Rattle.seat_post.specs.Post.{PostView}
use Rattle.seat_post.proofs.post.Post.written.Goals as goal

pub returns : goal.returns
returns g c = c.value_written.ensures ∙ ap (λ (p : PostView). value_at p.writes c.args.rid) c.self.view_is
