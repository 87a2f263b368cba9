use Rattle.std.proofs.Common.{◌<◌, All, take, drop}
use Rattle.ordered_index.specs.Keys.{Rising}
use Rattle.ordered_index.specs.Node.{in_threes}
use Rattle.ordered_index.proofs.standing.are_in_order.Given as goal

-- the entries so far are in order
abbrev pub invariant-loop-i : goal.invariant-loop-i
invariant-loop-i l = record {
  within : All (λ entry. entry.1 < l.size) (take l.i (in_threes (drop 4 l.words)));
  rising : Rising (take l.i (in_threes (drop 4 l.words)));
}
