use Rattle.std.proofs.Common.{◌≡◌, ◌<◌, ◌≤◌, ◌++◌, take}
use Rattle.std.specs.Prelude.{vec_len}
use Rattle.std.specs.Vec.{vec_capacity}
use Rattle.ordered_index.specs.Standing.{content_at}
use Rattle.ordered_index.specs.Scan.{between}
use Rattle.ordered_index.proofs.range.take_between.Given as goal

-- what lies between of the entries so far is in the list
abbrev pub invariant-loop-i : goal.invariant-loop-i
invariant-loop-i l = record {
  items : l.out.items ≡ l.fn.out.items ++ between l.lo l.hi (take l.i (content_at l.words).entries);
  some : vec_len l.out < l.most;
  room : l.most ≤ vec_capacity l.out;
}
