use Rattle.std.proofs.Common.{◌≡◌, ap, ◌∙◌, sym, None}
use Rattle.std.specs.Prelude.{slice_get}
use Rattle.spare_numbers.specs.Spare.{with_all, NumbersView, added}
use Rattle.spare_numbers.proofs.Shares.{drop_at, drop_past, none_found}
use Rattle.spare_numbers.proofs.numbers.Numbers.add_all.Goals as goal

pub loop-rid-preserved : goal.loop-rid-preserved
loop-rid-preserved c =
    let more = c.add.ensures in
    let spare = ap (λ (n : NumbersView). n.spare) more in
    let at = drop_at c.args.other.now.spare c.loop-rid.i c.in-Some.rid (sym c.at.ensures.at ∙ c.in-Some.is) in
    record {
      same = more ∙ ap (λ (n : NumbersView). record n { spare = added c.loop-rid.self.spare c.in-Some.rid }) c.loop-rid.invariant.same ∙ ap (λ xs. record c.args.self.now { spare = xs }) (sym spare);
      all = rw spare (ap (λ xs. with_all c.loop-rid.self.spare xs) (sym at) ∙ c.loop-rid.invariant.all);
    }

pub returns : goal.returns
returns c =
    let none : slice_get c.args.other.now.spare c.loop-rid.i ≡ None = sym c.at.ensures.at ∙ none_found c.at.result c.in_default.not-Some in
    c.loop-rid.invariant.same ∙ ap (λ xs. record c.args.self.now { spare = xs }) (ap (λ xs. with_all c.loop-rid.self.spare xs) (sym (drop_past c.args.other.now.spare c.loop-rid.i none)) ∙ c.loop-rid.invariant.all)
