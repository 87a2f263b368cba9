use Rattle.std.proofs.Common.{◌≡◌, ◌++◌, length}
use Rattle.core_rule.specs.Deciding.{written_values}
use Rattle.spare_numbers.specs.Spare.{unused}
use Rattle.spare_numbers.proofs.numbers.Numbers.put_back_unused.Given as goal

abbrev pub invariant-loop-self : goal.invariant-loop-self
invariant-loop-self l = record {
  fixed : l.self.fixed ≡ l.fn.self.fixed;
  records : l.self.records ≡ l.fn.self.records;
  spare : unused (written_values l.sets.writes) l.self.given ++ l.self.spare ≡ unused (written_values l.sets.writes) l.fn.self.given ++ l.fn.self.spare;
}

abbrev pub decreases-loop-self : goal.decreases-loop-self
decreases-loop-self l = length l.self.given
