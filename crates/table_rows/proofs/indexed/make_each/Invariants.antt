use Rattle.std.proofs.Common.{◌≡◌}
use Rattle.table_rows.proofs.indexed.make_each.Given as goal

-- the store keeps its size
abbrev pub invariant-loop-call : goal.invariant-loop-call
invariant-loop-call l = record { size : l.store.size ≡ 4200; fixed : l.store.fixed ≡ 4112 }
