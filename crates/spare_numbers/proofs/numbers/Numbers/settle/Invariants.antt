use Rattle.std.proofs.Common.{◌≡◌, ◌++◌, [], drop}
use Rattle.core_rule.specs.Deciding.{written_values}
use Rattle.spare_numbers.specs.Spare.{unused, with_deleted}
use Rattle.spare_numbers.proofs.numbers.Numbers.settle.Given as goal

abbrev pub invariant-loop-i : goal.invariant-loop-i
invariant-loop-i l = record {
  fixed : l.self.fixed ≡ l.fn.self.fixed;
  records : l.self.records ≡ l.fn.self.records;
  given : l.self.given ≡ [];
  spare : with_deleted l.fn.self.fixed l.self.spare (drop l.i (written_values l.sets.writes)) ≡ with_deleted l.fn.self.fixed (unused (written_values l.sets.writes) l.fn.self.given ++ l.fn.self.spare) (written_values l.sets.writes);
}
