use Rattle.std.proofs.Common.{ap, ◌∙◌, arith, false, replicate}
use Rattle.spare_numbers.proofs.NumberLists.{numbers_empty}
use Rattle.spare_numbers.proofs.Marked.{marked_none}
use Rattle.spare_numbers.proofs.numbers.Numbers.empty.Goals as goal

pub invariant_of-result : goal.invariant_of-result
invariant_of-result c =
    let count = c.saturating_sub-count.ensures in
    let room = c.in_ok-list.ensures.capacity in
    record {
      are = numbers_empty c.args.fixed c.args.records c.in_ok-list.list.items _ c.in_ok-list.ensures.items (omega arith);
      marked = marked_none c.args.fixed c.args.records c.in_ok-list.list.items c.in_ok-marks.marks.items c.in_ok-list.ensures.items (c.in_ok-marks.ensures.items_if_clones_equal (λ y same. same) ∙ ap (λ n. replicate n false) count);
    }
