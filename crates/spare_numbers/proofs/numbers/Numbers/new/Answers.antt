use Rattle.std.proofs.Common.{ap, ◌∙◌}
use Rattle.spare_numbers.specs.Spare.{NumbersView, no_numbers, added}
use Rattle.spare_numbers.proofs.NumberLists.{range_added}
use Rattle.spare_numbers.proofs.numbers.Numbers.new.Goals as goal

pub loop-rid-preserved : goal.loop-rid-preserved
loop-rid-preserved c =
    c.add.ensures
    ∙ ap (λ (n : NumbersView). record n { spare = added n.spare c.loop-rid.rid }) c.loop-rid.invariant
    ∙ ap (λ xs. record (no_numbers c.args.fixed c.args.records) { spare = xs }) (range_added c.args.fixed c.loop-rid.rid c.loop-rid.auto.rid)
