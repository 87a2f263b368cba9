use Rattle.std.proofs.Common.{◌<◌, ap, ◌∙◌, sym, subst}
use Rattle.spare_numbers.specs.Spare.{NumbersView, taken_in}
use Rattle.txn_engine.specs.Inside.{pass_view}
use Rattle.txn_engine.specs.Pass.{PassView}
use Rattle.txn_engine.proofs.pass.Pass.take_in.Goals as goal

pub take_in-requires-clause-within : goal.take_in-requires-clause-within
take_in-requires-clause-within g c = rw c.self.invariant.records (subst (λ (p : PassView). c.args.rid < p.shared.size.records) (sym c.self.view_is) c.requires.within)

pub invariant_of-self : goal.invariant_of-self
invariant_of-self g c = rw c.take_in.ensures c.self.invariant

pub returns : goal.returns
returns g c =
    let i = c.self.inside in
    ap (λ (m : NumbersView). pass_view i.post i.boost i.queue m i.refusals i.commits i.dead i.counted) c.take_in.ensures
    ∙ ap (λ (p : PassView). record p { spare = taken_in p.given p.spare c.args.rid }) c.self.view_is
