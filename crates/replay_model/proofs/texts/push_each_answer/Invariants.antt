use Rattle.std.proofs.Common.{◌≡◌, ◌++◌, take}
use Rattle.replay_model.specs.Report.{each_text}
use Rattle.replay_model.proofs.texts.push_each_answer.Given as goal

abbrev pub invariant-loop-i : goal.invariant-loop-i
invariant-loop-i l =
    l.text.items ≡ l.fn.text.items ++ each_text l.tables (take l.i l.commands) (take l.i l.answers)
