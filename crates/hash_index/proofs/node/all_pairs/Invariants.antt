use Rattle.std.proofs.Common.{◌≡◌, take, drop}
use Rattle.hash_index.specs.Node.{paired}
use Rattle.hash_index.proofs.node.all_pairs.Given as goal

-- the pairs so far
abbrev pub invariant-loop-i : goal.invariant-loop-i
invariant-loop-i l = l.pairs.items ≡ take l.i (paired (drop 2 l.words))
