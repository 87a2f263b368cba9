use Rattle.std.proofs.Common.{◌≡◌, suc, ◌+◌, ◌-◌, ◌∷◌, drop, remove, ap, ◌∙◌, sym, subst, arith, Some}
use Rattle.std.specs.Prelude.{slice_get}
use Rattle.spare_numbers.specs.Spare.{NumbersView, added}
use Rattle.spare_numbers.proofs.Shares.{KeepsEvery, keep_one, strike_one, goes_on}
use Rattle.spare_numbers.proofs.numbers.Numbers.retain_every.Goals as goal
use Rattle.spare_numbers.proofs.numbers.Numbers.retain_every.Goals.{then-left-eq0, else-left-eq0}

pub loop-number-preserved : goal.loop-number-preserved
loop-number-preserved c =
    let i = c.loop-number.invariant in
    let all = c.args.self.now.spare in
    let before = c.loop-number.self.spare in
    let test = c.loop-number-test.true in
    let end = c.len-number-end.ensures in
    let at : slice_get before 0 ≡ Some c.in-Some.rid = sym c.at.ensures.at ∙ c.in-Some.is in
    let next = goes_on c.args.step c.loop-number.left c.loop-number._number c.in-Some.rid all before (omega arith) at i.keeps in
    let struck : c.strike.new.self ≡ record c.args.self.now { spare = remove before 0 } = c.strike.ensures ∙ ap (λ (n : NumbersView). record n { spare = remove before 0 }) i.same in
    let rest = drop (c.loop-number._number + 1) all in
    elim c.if-left-eq0.branch [
      | then-left-eq0 w ↦
          (let zero : c.loop-number.left ≡ 0 = w.if-left-eq0.true in
          let made : c.if-left-eq0.self ≡ record c.args.self.now { spare = added (remove before 0) c.in-Some.rid } = w.self-is ∙ w.add.ensures ∙ ap (λ (n : NumbersView). record n { spare = added n.spare c.in-Some.rid }) struck in
          let spare = ap (λ (n : NumbersView). n.spare) made in
          let kept = keep_one c.args.step c.in-Some.rid all rest before c.at.ensures.distinct (subst (λ n. KeepsEvery c.args.step n all (c.in-Some.rid ∷ rest) before) zero next) in
          record {
            same = made ∙ ap (λ xs. record c.args.self.now { spare = xs }) (sym spare);
            keeps = rw (w.left-is, spare) kept;
          })
      | else-left-eq0 w ↦
          (let some = w.if-left-eq0.false in
          let more : c.loop-number.left ≡ suc (c.loop-number.left - 1) = omega arith in
          let made : c.if-left-eq0.self ≡ record c.args.self.now { spare = remove before 0 } = w.self-is ∙ struck in
          let spare = ap (λ (n : NumbersView). n.spare) made in
          let kept = strike_one c.args.step (c.loop-number.left - 1) c.in-Some.rid all rest before (subst (λ n. KeepsEvery c.args.step n all (c.in-Some.rid ∷ rest) before) more next) in
          record {
            same = made ∙ ap (λ xs. record c.args.self.now { spare = xs }) (sym spare);
            keeps = rw (w.left-is, spare) kept;
          })
    ]
