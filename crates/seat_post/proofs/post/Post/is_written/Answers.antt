use Rattle.std.proofs.Common.{◌≡◌, ◌∙◌, ap, refl, None, Some}
use Rattle.std.specs.Prelude.{is_some, option_copied}
use Rattle.record_store.specs.Meaning.{value_at}
use Rattle.seat_post.specs.Post.{PostView}
use Rattle.seat_post.proofs.post.Post.is_written.Goals as goal

pub returns : goal.returns
returns g c = c.is_some.ensures ∙ (elim c.value_written.result as (λ found. is_some found ≡ is_some (option_copied found)) [ None ↦ refl | Some value ↦ refl ]) ∙ ap is_some c.value_written.ensures ∙ ap (λ (p : PostView). is_some (value_at p.writes c.args.rid)) c.self.view_is
