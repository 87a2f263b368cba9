use Rattle.std.proofs.Common.{◌∙◌, true, false, sym, arith}
use Rattle.stored_tables.proofs.OneRow.{taken_does, missing_does, told_as}
use Rattle.stored_tables.proofs.Runs.{runs_moved, runs_value}
use Rattle.stored_tables.proofs.command.delete_row.Goals as goal

pub returns-in_err-take_row-clause-runs : goal.returns-in_err-take_row-clause-runs
returns-in_err-take_row-clause-runs g c =
    runs_moved _ 4 105 (omega arith) c.args.store.now c.take_row.new.store c.from_residual.result c.take_row.result c.in_err-take_row.field-0.0
    c.take_row.ensures.runs c.in_err-take_row.was c.from_residual.ensures.1

pub returns-then-is_some-clause-runs : goal.returns-then-is_some-clause-runs
returns-then-is_some-clause-runs g c =
    runs_value _ 4 105 c.args.store.now c.take_row.new.store c.take_row.result _ _ (omega arith) c.take_row.ensures.runs
    c.in_ok-take_row.was
    (λ asked state held agrees stands took. taken_does c.args.table c.args.key (g.S.RecordRead.meaning c.take_row.new.store) asked state
    held (told_as c.args.table c.args.key (g.S.RecordRead.meaning c.take_row.new.store) _ true asked state held
    (sym c.is_some.ensures ∙ c.if-is_some.true) took))

pub returns-else-is_some-clause-runs : goal.returns-else-is_some-clause-runs
returns-else-is_some-clause-runs g c =
    runs_value _ 4 105 c.args.store.now c.take_row.new.store c.take_row.result _ _ (omega arith) c.take_row.ensures.runs
    c.in_ok-take_row.was
    (λ asked state held agrees stands took. missing_does c.args.table c.args.key (g.S.RecordRead.meaning c.take_row.new.store) asked state
    held (told_as c.args.table c.args.key (g.S.RecordRead.meaning c.take_row.new.store) _ false asked state held
    (sym c.is_some.ensures ∙ c.if-is_some.false) took))
