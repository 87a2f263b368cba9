use Rattle.std.proofs.Common.{◌++◌, take, ap, sym, ◌∙◌}
use Rattle.std.proofs.lemmas.List.{append_assoc}
use Rattle.replay_model.specs.Report.{answer_text, each_text, columns_of, table_named}
use Rattle.replay_model.proofs.AnswerLaws.{each_text-take}
use Rattle.replay_model.proofs.texts.push_each_answer.Goals as goal

pub loop-i-preserved : goal.loop-i-preserved
loop-i-preserved c =
    let tables = c.args.tables.now in
    let columns = c.columns-columns.ensures ∙ ap (columns_of tables) c.table_of.ensures in
    let before = each_text tables (take c.loop-i.i c.args.commands.now) (take c.loop-i.i c.args.answers.now) in
    c.in_ok-push_answer.ensures ∙ (λ j. c.loop-i.invariant j ++ answer_text (columns j) c.get-in-loop-i.result.now)
    ∙ append_assoc c.args.text.now.items before (answer_text (columns_of tables (table_named c.get.result.now)) c.get-in-loop-i.result.now)
    ∙ ap (λ text. c.args.text.now.items ++ text) (sym (each_text-take tables c.args.commands.now c.args.answers.now c.loop-i.i c.get.result.now c.get-in-loop-i.result.now c.requires.answered c.get.ensures c.get-in-loop-i.ensures))
