use Rattle.std.proofs.Common.{◌≡◌}
use Rattle.table_rows.proofs.nodes.count_held.Given as goal

-- the store keeps its size
abbrev pub invariant-loop-i : goal.invariant-loop-i
invariant-loop-i l = record {
  size : l.store.size ≡ 600;
  fixed : l.store.fixed ≡ 512;
}
