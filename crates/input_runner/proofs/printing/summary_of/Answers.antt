use Rattle.std.proofs.Common.{ℕ, length, ap, ◌∙◌}
use Rattle.load_gen.specs.Load.{spelled}
use Rattle.load_gen.specs.Summary.{lists_sum, lines_with}
use Rattle.stored_tables.proofs.Runs.{IfOk-map}
use Rattle.input_runner.proofs.Texts.{lists_are_tables}
use Rattle.input_runner.proofs.printing.summary_of.Goals as goal

pub returns : goal.returns
returns c = IfOk-map c.summary_of_rows.result
    (λ text is tables are. is ∙ ap (λ (n : ℕ). spelled (lines_with c.args.input.now n)) (ap lists_sum are ∙ lists_are_tables (length c.args.input.now.tables) tables)) c.summary_of_rows.ensures
