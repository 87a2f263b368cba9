use Rattle.std.proofs.Common.{refl, ap}
use Rattle.record_store.specs.Meaning.{Meaning}
use Rattle.stored_tables.proofs.Knowing.{row_may}
use Rattle.stored_tables.proofs.Writing.{write_refused, write_done}
use Rattle.stored_tables.proofs.RowSteps.{drops_row}
use Rattle.record_store.proofs.Going.{by_write_refused, by_write_done}
use Rattle.stored_tables.proofs.steps.drop_row.Goals as goal

pub returns-in_err-write-clause-runs : goal.returns-in_err-write-clause-runs
returns-in_err-write-clause-runs g c = λ table key.
    write_refused _ _ _ 1 c.args.store.now c.write.new.self c.args.rid _ c.in_err-write.field-0.0 c.from_residual.result
    c.in_err-write.ensures.gives c.in_err-write.ensures.err c.from_residual.ensures.1

pub returns-clause-runs : goal.returns-clause-runs
returns-clause-runs g c = λ table key.
    write_done _ _ _ c.args.store.now c.write.new.self c.args.rid _ _ c.in_ok-write.ensures.gives c.in_ok-write.ensures.ok
    (λ state places has. row_may (g.S.RecordRead.meaning c.args.store.now) table key c.args.rid state places has)
    (λ state places agrees has. (
      refl,
      drops_row table key c.args.rid (g.S.RecordRead.meaning c.args.store.now)
          (g.S.RecordRead.meaning c.write.new.self) state places
          (record {
            writes = ap (λ (m : Meaning). m.writes) c.in_ok-write.ensures.ok;
            size = ap (λ (m : Meaning). m.size)
                c.in_ok-write.ensures.ok;
          }) has,
    ))

pub returns-in_err-write-clause-asks_nothing : goal.returns-in_err-write-clause-asks_nothing
returns-in_err-write-clause-asks_nothing g c =
    by_write_refused _ c.args.store.now c.write.new.self c.args.rid _ c.in_err-write.field-0.0 c.write.result c.from_residual.result
    c.in_err-write.was c.write.ensures.gives c.write.ensures.err c.from_residual.ensures.1

pub returns-clause-asks_nothing : goal.returns-clause-asks_nothing
returns-clause-asks_nothing g c = by_write_done _ c.args.store.now c.write.new.self c.args.rid _ c.write.result _ c.write.ensures.gives
    c.in_ok-write.ensures.ok tt
