use Rattle.std.proofs.Common.{◌++◌, take, ap, sym, ◌∙◌}
use Rattle.std.proofs.lemmas.List.{append_assoc}
use Rattle.replay_model.specs.Report.{columns_of, table_text}
use Rattle.input_runner.specs.Printing.{listed_text}
use Rattle.input_runner.proofs.Texts.{listed_more}
use Rattle.input_runner.proofs.printing.push_tables.Goals as goal

pub loop-i-preserved : goal.loop-i-preserved
loop-i-preserved c =
    let declared = c.args.declared.now in
    let rows = c.args.rows.now in
    let i = c.loop-i.i in
    let name = c.get-name.result.now in
    let pairs = c.index-rows-i.result in
    let table = c.as_slice-in-loop-i.ensures.value ∙ c.in_ok-table.ensures ∙ (λ j. table_text name (c.columns-columns.ensures j) (c.as_slice.ensures j)) in
    c.in_ok-extend_from_slice.ensures.items ∙ (λ j. c.loop-i.invariant j ++ table j)
    ∙ append_assoc c.args.text.now.items (listed_text (take i declared) (take i rows)) (table_text name (columns_of declared i) pairs)
    ∙ ap (λ text. c.args.text.now.items ++ text) (sym (listed_more declared rows i name pairs c.requires.each c.loop-i-test.true c.get-name.ensures c.index-rows-i.is))
