use Rattle.std.proofs.Common.{arith}
use Rattle.stored_tables.proofs.OneRow.{row_set_by}
use Rattle.stored_tables.proofs.Runs.{runs_moved, runs_value}
use Rattle.stored_tables.proofs.rows.put_row.Goals as goal

pub returns-in_err-_ran-clause-runs : goal.returns-in_err-_ran-clause-runs
returns-in_err-_ran-clause-runs g c =
    runs_moved _ 105 128 (omega arith) c.args.store.now c.put_row.new.store c.from_residual.result c.put_row.result c.in_err-_ran.field-0.0
    c.put_row.ensures.runs c.in_err-_ran.was c.from_residual.ensures.1

pub returns-clause-runs : goal.returns-clause-runs
returns-clause-runs g c =
    runs_value _ 105 128 c.args.store.now c.put_row.new.store c.put_row.result _ _ (omega arith) c.put_row.ensures.runs
    c.in_ok-_ran.was
    (λ asked state held agrees stands did. row_set_by c.args.table c.args.key c.args.row.now
    (g.S.RecordRead.meaning c.put_row.new.store) _ asked state held did)
