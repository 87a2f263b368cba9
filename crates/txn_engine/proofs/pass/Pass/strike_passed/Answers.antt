use Rattle.std.proofs.Common.{ℕ, List, Option, ap, ◌∙◌}
use Rattle.spare_numbers.specs.Spare.{NumbersView, struck_before}
use Rattle.txn_engine.specs.Fresh.{struck_to}
use Rattle.txn_engine.specs.Inside.{pass_view}
use Rattle.txn_engine.specs.Pass.{PassView}
use Rattle.txn_engine.proofs.pass.Pass.strike_passed.Goals as goal

pub invariant_of-self : goal.invariant_of-self
invariant_of-self g c = rw c.strike_unwritten.ensures c.self.invariant

pub returns : goal.returns
returns g c =
    let i = c.self.inside in
    ap (λ (m : NumbersView). pass_view i.post i.boost i.queue m i.refusals i.commits i.dead i.counted) c.strike_unwritten.ensures
    ∙ ap (λ (ws : List (ℕ × Option (List ℕ))). record (pass_view i.post i.boost i.queue i.numbers i.refusals i.commits i.dead i.counted) { spare = struck_before ws c.args.place i.numbers.spare }) c.sets.ensures.value
    ∙ ap (λ (p : PassView). struck_to p c.args.place) c.self.view_is
