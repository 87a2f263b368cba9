use Rattle.std.proofs.Common.{◌<◌, ◌≤◌, sym, ap, ◌∙◌, subst, length}
use Rattle.std.specs.Prelude.{IsSome}
use Rattle.record_store.specs.Meaning.{value_at}
use Rattle.seat_post.specs.Post.{PostView}
use Rattle.spare_numbers.proofs.Written.{length-written}
use Rattle.seat_post.proofs.EndMore.{written_below, written_few}
use Rattle.seat_post.proofs.WriteMore.{written_in}
use Rattle.seat_post.proofs.post.Post.sets.Goals as goal

pub returns-clause-within : goal.returns-clause-within
returns-clause-within g c = λ rid some.
    let within = written_in c.self.inside.hand.view.size c.self.inside.sets.writes rid (written_below _ _ _ _ c.self.invariant) in
    subst (λ (p : PostView). rid < p.shared.size.records) c.self.view_is (within (subst (λ (p : PostView). IsSome (value_at p.writes rid)) (sym c.self.view_is) some))

pub returns-clause-few : goal.returns-clause-few
returns-clause-few g c = subst (λ (p : PostView). length p.writes ≤ 200000) c.self.view_is (written_few _ _ _ _ c.self.invariant)

pub returns-clause-count : goal.returns-clause-count
returns-clause-count g c = sym (length-written c.self.inside.sets.writes) ∙ ap (λ (p : PostView). length p.writes) c.self.view_is
