use Rattle.std.proofs.Common.{◌≡◌, drop}
use Rattle.txn_script.specs.Ahead.{words_ahead, number_with}
use Rattle.txn_script.proofs.digits.number_with.Given as goal

abbrev pub invariant-loop-i : goal.invariant-loop-i
invariant-loop-i l = number_with l.first (words_ahead l.bytes) ≡ number_with l.value (words_ahead (drop l.i l.bytes))
