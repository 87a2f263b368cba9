use Rattle.std.proofs.Common.{◌≡◌, take}
use Rattle.load_gen.specs.Summary.{lists_sum}
use Rattle.load_gen.proofs.totals.lists_sum.Given as goal

abbrev pub invariant-loop-pairs : goal.invariant-loop-pairs
invariant-loop-pairs l = l.total ≡ lists_sum (take l.pairs-index l.lists)
