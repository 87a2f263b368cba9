use Rattle.std.proofs.Common.{◌≡◌, drop}
use Rattle.spare_numbers.proofs.Shares.{KeepsEvery}
use Rattle.spare_numbers.proofs.numbers.Numbers.retain_every.Given as goal

abbrev pub invariant-loop-number : goal.invariant-loop-number
invariant-loop-number l = record {
  same : l.self ≡ record l.fn.self { spare = l.self.spare };
  keeps : KeepsEvery l.step l.left l.fn.self.spare (drop l._number l.fn.self.spare) l.self.spare;
}
