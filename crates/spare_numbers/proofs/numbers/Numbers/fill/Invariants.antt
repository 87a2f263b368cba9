use Rattle.std.proofs.Common.{◌≡◌, ◌++◌, drop, length, ◌-◌}
use Rattle.spare_numbers.specs.Spare.{every}
use Rattle.spare_numbers.proofs.numbers.Numbers.fill.Given as goal

abbrev pub invariant-loop-rid : goal.invariant-loop-rid
invariant-loop-rid l = record {
  same : l.self ≡ record l.fn.self { spare = l.self.spare };
  shared : l.self.spare ++ every l.step 0 (drop l.i l.from.spare) ≡ every l.step l.first l.from.spare;
}

abbrev pub decreases-loop-rid : goal.decreases-loop-rid
decreases-loop-rid l = length l.from.spare - l.i
