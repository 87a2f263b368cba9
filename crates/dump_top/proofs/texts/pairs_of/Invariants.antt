use Rattle.std.proofs.Common.{◌≡◌, take}
use Rattle.dump_top.specs.Rows.{pairs_in}
use Rattle.dump_top.proofs.texts.pairs_of.Given as goal

-- of the rows so far those of the table
abbrev pub invariant-loop-row : goal.invariant-loop-row
invariant-loop-row l = l.pairs.items ≡ pairs_in l.table (take l.row-index l.rows)
