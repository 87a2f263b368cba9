use Rattle.std.proofs.Common.{◌≡◌, ◌++◌, take}
use Rattle.replay_model.specs.Report.{tables_text}
use Rattle.snap_dump.specs.Dumps.{seen_of}
use Rattle.dump_top.proofs.texts.push_tables.Given as goal

abbrev pub invariant-loop-i : goal.invariant-loop-i
invariant-loop-i l = l.text.items ≡ l.fn.text.items ++ tables_text 0 (take l.i l.declared) (seen_of l.dump).1
