use Rattle.std.proofs.Common.{ap, arith}
use Rattle.spare_numbers.specs.Spare.{NumbersView}
use Rattle.spare_numbers.proofs.NumberLists.{few_numbers}
use Rattle.spare_numbers.proofs.numbers.Numbers.len.Goals as goal

pub overflow_cast-result : goal.overflow_cast-result
overflow_cast-result c =
    let i = c.self.inside in
    let few = few_numbers i.fixed i.records i.taken i.list.items _ c.self.invariant.are in
    let same = ap (λ (n : NumbersView). n.records) c.self.view_is in
    let records = c.records.ensures in
    let o = i.list.ok in
    let l = c.len.ensures in
    omega arith
