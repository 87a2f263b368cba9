use Rattle.std.proofs.Common.{◌≡◌}
use Rattle.table_rows.proofs.nodes.write_all.Given as goal

-- the store keeps its size
abbrev pub invariant-loop-rid : goal.invariant-loop-rid
invariant-loop-rid l = l.store.size ≡ 200000
