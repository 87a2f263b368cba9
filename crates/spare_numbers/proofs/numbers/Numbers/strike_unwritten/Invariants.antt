use Rattle.std.proofs.Common.{◌≡◌}
use Rattle.core_rule.specs.Deciding.{written_values}
use Rattle.spare_numbers.proofs.Struck.{IsStruck}
use Rattle.spare_numbers.proofs.numbers.Numbers.strike_unwritten.Given as goal

abbrev pub invariant-loop-number : goal.invariant-loop-number
invariant-loop-number l = record {
  same : l.self ≡ record l.fn.self { spare = l.self.spare };
  struck : IsStruck (written_values l.sets.writes) l.fn.self.spare l._number l.stay l.self.spare;
}
