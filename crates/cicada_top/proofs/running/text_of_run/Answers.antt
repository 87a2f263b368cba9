use Rattle.std.proofs.Common.{ℕ, ◌∙◌, List, ◌++◌, All, length, codes, sym, ap, subst}
use Rattle.std.proofs.lemmas.Result.{IfOk-weaker}
use Rattle.replay_model.specs.declared.outcome.Outcome.{Outcome}
use Rattle.replay_model.specs.declared.outcome.Placed.{Placed}
use Rattle.replay_model.specs.Answered.{AllAnswered}
use Rattle.replay_model.specs.Replay.{NamesBlock, last_tables}
use Rattle.replay_model.specs.Report.{blocks_text, tables_text, line}
use Rattle.replay_model.specs.TableMap.{Row}
use Rattle.typed_tables.specs.Listing.{AreRows}
use Rattle.input_runner.specs.Ran.{order_of, outcomes_of}
use Rattle.cicada_top.specs.declared.running.Told.{Told}
use Rattle.cicada_top.specs.Told.{text_told}
use Rattle.cicada_top.proofs.RunLaws.{all_named, answers_are, rows_each, is_report}
use Rattle.cicada_top.proofs.running.text_of_run.Goals as goal

pub report_of-requires-clause-named : goal.report_of-requires-clause-named
report_of-requires-clause-named c =
    subst (λ (results : List (Placed × Outcome)). All (NamesBlock c.args.input.now.lanes) (order_of results)) (sym c.deref.ensures.value) (all_named c.args.input.now c.args.ran.now.results.items c.args.ran.now.rows.items c.args.ran.now.end.pass c.requires.ran)

pub report_of-requires-clause-answered : goal.report_of-requires-clause-answered
report_of-requires-clause-answered c =
    subst (λ (results : List (Placed × Outcome)). AllAnswered c.args.input.now.lanes (order_of results) (outcomes_of results)) (sym c.deref.ensures.value) (answers_are c.args.input.now c.args.ran.now.results.items c.args.ran.now.rows.items c.args.ran.now.end.pass c.requires.ran)

pub report_of-requires-clause-each : goal.report_of-requires-clause-each
report_of-requires-clause-each c = ap length c.deref-in-Report.ensures.value ∙ rows_each c.args.input.now c.args.ran.now.results.items c.args.ran.now.rows.items c.args.ran.now.end.pass c.requires.ran

pub returns-in-Report : goal.returns-in-Report
returns-in-Report c =
    let input = c.args.input.now in
    let ran = c.args.ran.now in
    IfOk-weaker c.report_of.result _ _
    (λ text told.
    is_report input ran.results.items ran.rows.items ran.end.pass c.requires.ran text.items
    (λ tables are. told tables (subst (λ (rows : List (List (ℕ × Row))). AreRows (length input.tables) tables rows) (sym c.deref-in-Report.ensures.value) are)
    ∙ ap (λ (results : List (Placed × Outcome)). blocks_text input (order_of results) (outcomes_of results) ++ tables_text 0 input.tables tables ++ line (codes "done")) c.deref.ensures.value)
    ∙ ap (λ (t : Told). text_told t input (order_of ran.results.items)) (sym c.in-Report.is))
    c.report_of.ensures

pub returns-in-Summary : goal.returns-in-Summary
returns-in-Summary c =
    let input = c.args.input.now in
    let ran = c.args.ran.now in
    let last = last_tables input (order_of ran.results.items) in
    IfOk-weaker c.summary_of.result _ _
    (λ text told.
    told last (subst (λ (rows : List (List (ℕ × Row))). AreRows (length input.tables) last rows) (sym c.deref-in-Summary.ensures.value) c.requires.ran.rows_are)
    ∙ ap (λ (t : Told). text_told t input (order_of ran.results.items)) (sym c.in-Summary.is))
    c.summary_of.ensures
