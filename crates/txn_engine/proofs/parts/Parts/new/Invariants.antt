use Rattle.std.proofs.Common.{◌≡◌, ◌+◌, length}
use Rattle.core_rule.specs.Views.{Among}
use Rattle.spare_numbers.specs.Spare.{no_numbers, NumbersView}
use Rattle.txn_engine.proofs.parts.Parts.new.Given as goal

abbrev pub invariant-loop-seat : goal.invariant-loop-seat
invariant-loop-seat g l = record {
  count : length l.lists.items + 1 ≡ l._seat;
  empty : (n : NumbersView) → Among n l.lists.items → n ≡ no_numbers l.fixed l.records;
}
