use Rattle.std.proofs.Common.{◌<◌, ◌≤◌, ap, ◌∙◌, sym, subst, arith, length, remove}
use Rattle.std.proofs.lemmas.List.Edits.{length-remove}
use Rattle.spare_numbers.specs.Spare.{NumbersView}
use Rattle.txn_engine.specs.Fresh.{struck_to, given_at}
use Rattle.txn_engine.specs.Inside.{pass_view}
use Rattle.txn_engine.specs.Pass.{PassView}
use Rattle.txn_engine.proofs.pass.Pass.give_at.Goals as goal

pub invariant_of-self : goal.invariant_of-self
invariant_of-self g c = rw c.give-rid.ensures.after c.self.invariant

pub strike_passed-requires : goal.strike_passed-requires
strike_passed-requires g c =
    let xs = c.self.inside.numbers.spare in
    let within : c.args.place < length xs = subst (λ (p : PassView). c.args.place < length p.spare) (sym c.self.view_is) c.requires in
    let less = length-remove xs c.args.place within in
    let short : c.args.place ≤ length (remove xs c.args.place) = omega arith in
    rw c.give-rid.ensures.after short

pub returns-clause-after : goal.returns-clause-after
returns-clause-after g c =
    let i = c.self.inside in
    c.strike_passed.ensures
    ∙ ap (λ (m : NumbersView). struck_to (pass_view i.post i.boost i.queue m i.refusals i.commits i.dead i.counted) c.args.place) c.give-rid.ensures.after
    ∙ ap (λ (p : PassView). given_at p c.args.place c.give-rid.result) c.self.view_is
