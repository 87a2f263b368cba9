use Rattle.std.proofs.Common.{◌≡◌, ap, ◌∙◌, subst}
use Rattle.spare_numbers.specs.Spare.{NumbersView, PartsWith}
use Rattle.txn_engine.specs.Inside.{pass_view}
use Rattle.txn_engine.specs.Pass.{PassView, numbers_of}
use Rattle.txn_engine.proofs.pass.Pass.part_with.Goals as goal

pub invariant_of-self : goal.invariant_of-self
invariant_of-self g c = rw c.part.ensures.only c.self.invariant

pub returns-clause-parts : goal.returns-clause-parts
returns-clause-parts g c =
    let i = c.self.inside in
    let n = c.part.new.self in
    let records : i.numbers.records ≡ i.post.shared.size.records = c.self.invariant.records in
    let here : i.numbers ≡ record i.numbers { records = i.post.shared.size.records } = ap (λ r. record i.numbers { records = r }) records in
    let there : n ≡ record n { records = i.post.shared.size.records } = ap (λ r. record n { records = r }) (ap (λ (m : NumbersView). m.records) c.part.ensures.only ∙ records) in
    let seen = subst (λ (m : NumbersView). PartsWith m (record n { records = i.post.shared.size.records }) c.part.result) here (subst (λ (m : NumbersView). PartsWith i.numbers m c.part.result) there c.part.ensures) in
    subst (λ (p : PassView). PartsWith (numbers_of p) (numbers_of (pass_view i.post i.boost i.queue n i.refusals i.commits i.dead i.counted)) c.part.result) c.self.view_is seen

pub returns-clause-after : goal.returns-clause-after
returns-clause-after g c =
    let i = c.self.inside in
    let n = c.part.new.self in
    ap (λ (m : NumbersView). pass_view i.post i.boost i.queue m i.refusals i.commits i.dead i.counted) c.part.ensures.only
    ∙ ap (λ (p : PassView). record p { spare = n.spare }) c.self.view_is
