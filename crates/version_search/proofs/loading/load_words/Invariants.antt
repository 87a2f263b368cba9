use Rattle.std.proofs.Common.{◌+◌, ◌*◌}
use Rattle.version_search.proofs.Cells.{Loaded}
use Rattle.version_search.proofs.loading.load_words.Given as goal

abbrev pub invariant-loop-row : goal.invariant-loop-row
invariant-loop-row g l = Loaded l.core l.fn.hand l.words (l.row * 8) l.hand

abbrev pub invariant-loop-column : goal.invariant-loop-column
invariant-loop-column g l = Loaded l.core l.fn.hand l.words (l.row * 8 + l.column) l.hand
