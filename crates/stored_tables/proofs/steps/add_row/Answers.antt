use Rattle.std.proofs.Common.{Some, ap, arith}
use Rattle.stored_tables.specs.Tables.{row_words}
use Rattle.stored_tables.proofs.Writing.{fresh_refused}
use Rattle.stored_tables.proofs.RowAdding.{adds_refused, adds_done}
use Rattle.stored_tables.proofs.steps.add_row.Goals as goal

pub returns-in_err-rid-clause-runs : goal.returns-in_err-rid-clause-runs
returns-in_err-rid-clause-runs g c = λ table key.
    fresh_refused _ _ _ 1 c.args.store.now c.fresh.new.self c.in_err-rid.field-0.0 c.from_residual.result c.in_err-rid.ensures.gives
    c.in_err-rid.ensures.err c.from_residual.ensures.1 (λ state places lacks. omega arith)

pub returns-in_err-write-clause-runs : goal.returns-in_err-write-clause-runs
returns-in_err-write-clause-runs g c = λ table key.
    adds_refused {meaning = g.S.RecordRead.meaning} table key (row_words c.args.row.now) c.args.store.now c.fresh.new.self
    c.write.new.self c.in_ok-rid.rid (Some c.row_cells.result) c.in_ok-rid.ensures.gives c.in_ok-rid.ensures.fresh
    c.in_ok-rid.ensures.ok
    c.in_err-write.field-0.0 c.from_residual-in_err-write.result c.in_err-write.ensures.gives c.in_err-write.ensures.err
    c.from_residual-in_err-write.ensures.1

pub returns-clause-runs : goal.returns-clause-runs
returns-clause-runs g c = λ table key.
    adds_done {meaning = g.S.RecordRead.meaning} table key (row_words c.args.row.now) c.args.store.now c.fresh.new.self c.write.new.self
    c.in_ok-rid.rid (Some c.row_cells.result) c.in_ok-rid.ensures.gives c.in_ok-rid.ensures.fresh c.in_ok-rid.ensures.ok
    c.in_ok-write.ensures.gives c.in_ok-write.ensures.ok (ap (λ ws. Some ws) c.row_cells.ensures.cells) c.requires
