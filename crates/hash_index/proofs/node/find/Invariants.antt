use Rattle.std.proofs.Common.{◌≡◌, ℕ, ◌<◌, false, eqb, get_or}
use Rattle.hash_index.specs.Node.{pairs_of}
use Rattle.hash_index.proofs.node.find.Given as goal

-- no pair so far has the key
abbrev pub invariant-loop-i : goal.invariant-loop-i
invariant-loop-i l = (k : ℕ) → k < l.i → eqb (get_or (pairs_of l.words) k (0, 0)).0 l.key ≡ false
