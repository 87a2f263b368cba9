use Rattle.std.proofs.Common.{◌≡◌, ap, ◌∙◌, sym, refl, arith, None}
use Rattle.std.specs.Prelude.{slice_get}
use Rattle.spare_numbers.specs.Spare.{NumbersView, added}
use Rattle.spare_numbers.proofs.Shares.{fill_first, fill_more, fill_done, none_found}
use Rattle.spare_numbers.proofs.numbers.Numbers.fill.Goals as goal

pub loop-rid-init : goal.loop-rid-init
loop-rid-init c = record { same = refl; shared = fill_first c.args.step c.args.first c.args.from.now.spare c.args.self.now.spare c.requires.none }

pub overflow_add-i : goal.overflow_add-i
overflow_add-i c = let e = c.in-Some.ensures.early in let r = c.records.ensures in omega arith

pub loop-rid-preserved : goal.loop-rid-preserved
loop-rid-preserved c =
    let more = c.add.ensures in
    let spare = ap (λ (n : NumbersView). n.spare) more in
    record {
      same = more ∙ ap (λ (n : NumbersView). record n { spare = added c.loop-rid.self.spare c.in-Some.rid }) c.loop-rid.invariant.same ∙ ap (λ xs. record c.args.self.now { spare = xs }) (sym spare);
      shared = rw spare (fill_more c.args.step c.args.first c.loop-rid.i c.in-Some.rid c.args.from.now.spare c.loop-rid.self.spare c.requires.step c.at.ensures.distinct (sym c.at.ensures.at ∙ c.in-Some.is) c.loop-rid.invariant.shared);
    }

pub returns : goal.returns
returns c =
    let none : slice_get c.args.from.now.spare c.loop-rid.i ≡ None = sym c.at.ensures.at ∙ none_found c.at.result c.in_default.not-Some in
    c.loop-rid.invariant.same ∙ ap (λ xs. record c.args.self.now { spare = xs }) (fill_done c.args.step c.args.first c.loop-rid.i c.args.from.now.spare c.loop-rid.self.spare none c.loop-rid.invariant.shared)
