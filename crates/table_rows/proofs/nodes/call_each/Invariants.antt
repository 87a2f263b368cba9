use Rattle.std.proofs.Common.{◌≡◌}
use Rattle.table_rows.proofs.nodes.call_each.Given as goal

-- the store keeps its size
abbrev pub invariant-loop-number : goal.invariant-loop-number
invariant-loop-number l = record {
  size : l.store.size ≡ 600;
  fixed : l.store.fixed ≡ 512;
}
