use Rattle.std.proofs.Common.{◌≡◌, ◌++◌, take}
use Rattle.input_runner.specs.Printing.{listed_text}
use Rattle.input_runner.proofs.printing.push_tables.Given as goal

abbrev pub invariant-loop-i : goal.invariant-loop-i
invariant-loop-i l = l.text.items ≡ l.fn.text.items ++ listed_text (take l.i l.declared) (take l.i l.rows)
