use Rattle.std.proofs.Common.{◌≡◌, [], length}
use Rattle.txn_script.specs.LineReading.{left, more_numbers}
use Rattle.txn_script.proofs.numbers.Numbers.read.Given as goal

abbrev pub invariant-loop-words : goal.invariant-loop-words
invariant-loop-words l = more_numbers [] (left l.fn.words) ≡ more_numbers l.self (left l.words)

abbrev pub decreases-loop-words : goal.decreases-loop-words
decreases-loop-words l = length (left l.words)
