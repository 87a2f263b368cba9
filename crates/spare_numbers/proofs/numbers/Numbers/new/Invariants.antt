use Rattle.std.proofs.Common.{◌≡◌, ◌-◌}
use Rattle.std.specs.List.{range_with_len}
use Rattle.spare_numbers.specs.Spare.{no_numbers}
use Rattle.spare_numbers.proofs.numbers.Numbers.new.Given as goal

abbrev pub invariant-loop-rid : goal.invariant-loop-rid
invariant-loop-rid l = l.numbers ≡ record (no_numbers l.fixed l.records) { spare = range_with_len l.fixed (l.rid - l.fixed) }
