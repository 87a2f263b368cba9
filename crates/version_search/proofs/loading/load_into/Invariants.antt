use Rattle.std.proofs.Common.{◌+◌, ◌*◌}
use Rattle.version_search.proofs.Cells.{LoadedInto}
use Rattle.version_search.proofs.loading.load_into.Given as goal

abbrev pub invariant-loop-row : goal.invariant-loop-row
invariant-loop-row g l = LoadedInto l.core l.fn.hand l.fn.read (l.row * 8) l.hand l.read

abbrev pub invariant-loop-column : goal.invariant-loop-column
invariant-loop-column g l = LoadedInto l.core l.fn.hand l.fn.read (l.row * 8 + l.column) l.hand l.read
