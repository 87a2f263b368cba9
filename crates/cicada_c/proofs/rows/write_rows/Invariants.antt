use Rattle.std.proofs.Common.{◌≡◌, map}
use Rattle.cicada_c.specs.Writing.{written}
use Rattle.cicada_c.proofs.rows.write_rows.Given as goal

abbrev pub invariant-loop-i : goal.invariant-loop-i
invariant-loop-i l = (l.keys ≡ written l.i (map (λ row. row.0) l.found) l.fn.keys) × (l.rows ≡ written l.i (map (λ row. row.1) l.found) l.fn.rows)
