use Rattle.std.proofs.Common.{◌≡◌, ◌<◌, Some, sym, ap, ◌∙◌, subst, arith, length, remove}
use Rattle.std.specs.Prelude.{slice_get}
use Rattle.core_rule.specs.Deciding.{written_values}
use Rattle.record_store.specs.Meaning.{value_at}
use Rattle.spare_numbers.specs.Spare.{NumbersView}
use Rattle.spare_numbers.proofs.Struck.{one_stays, one_leaves, some_copied}
use Rattle.spare_numbers.proofs.numbers.Numbers.strike_unwritten.Goals as goal
use Rattle.spare_numbers.proofs.numbers.Numbers.strike_unwritten.Goals.{then-is_some, else-is_some}

pub loop-number-preserved : goal.loop-number-preserved
loop-number-preserved c =
    let n = c.args.self.now in
    let i = c.loop-number.invariant in
    let ws = written_values c.args.sets.now.writes in
    let before = c.loop-number.self.spare in
    let within : c.loop-number._number < length n.spare = let t = c.loop-number-test.true in let r = c.requires in omega arith in
    let at : slice_get before c.loop-number.stay ≡ Some c.in-Some.rid = sym c.at.ensures.at ∙ c.in-Some.is in
    let test = some_copied c.value_written.result (value_at ws c.in-Some.rid) c.value_written.ensures in
    elim c.if-is_some.branch [
      | then-is_some w ↦ record {
        same = subst (λ (m : NumbersView). m ≡ record n { spare = m.spare }) (sym w.self-is) i.same;
        struck = rw (w.self-is, w.stay-is) (one_stays ws n.spare c.loop-number._number c.loop-number.stay before within i.struck c.in-Some.rid at (sym test ∙ sym c.is_some.ensures ∙ w.if-is_some.true));
      }
      | else-is_some w ↦
          (let made = w.self-is ∙ w.strike.ensures ∙ ap (λ (m : NumbersView). record m { spare = remove before c.loop-number.stay }) i.same in
          record {
            same = made ∙ ap (λ xs. record n { spare = xs }) (sym (ap (λ (m : NumbersView). m.spare) made));
            struck = rw (made, w.stay-is) (one_leaves ws n.spare c.loop-number._number c.loop-number.stay before within i.struck c.in-Some.rid at (sym test ∙ sym c.is_some.ensures ∙ w.if-is_some.false));
          })
    ]
