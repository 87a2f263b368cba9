use Rattle.std.proofs.Common.{◌<◌, All, take, drop}
use Rattle.hash_index.specs.Node.{paired}
use Rattle.hash_index.proofs.node.are_within.Given as goal

-- the records of the pairs so far lie in the store
abbrev pub invariant-loop-i : goal.invariant-loop-i
invariant-loop-i l = All (λ pair. pair.1 < l.size) (take l.i (paired (drop 2 l.words)))
