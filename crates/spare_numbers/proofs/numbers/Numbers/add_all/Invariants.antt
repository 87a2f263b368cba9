use Rattle.std.proofs.Common.{◌≡◌, ◌-◌, drop, length}
use Rattle.spare_numbers.specs.Spare.{with_all}
use Rattle.spare_numbers.proofs.numbers.Numbers.add_all.Given as goal

abbrev pub invariant-loop-rid : goal.invariant-loop-rid
invariant-loop-rid l = record {
  same : l.self ≡ record l.fn.self { spare = l.self.spare };
  all : with_all l.self.spare (drop l.i l.other.spare) ≡ with_all l.fn.self.spare l.other.spare;
}

abbrev pub decreases-loop-rid : goal.decreases-loop-rid
decreases-loop-rid l = length l.other.spare - l.i
