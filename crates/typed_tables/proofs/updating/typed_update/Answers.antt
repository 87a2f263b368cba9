use Rattle.std.proofs.Common.{◌≡◌, Option, None, Some, Result, Ok, Err, ap, sym, ◌∙◌, arith}
use Rattle.record_store.proofs.Agreement.{agrees-extends}
use Rattle.stored_tables.proofs.Finding.{stands_on}
use Rattle.stored_tables.proofs.Runs.{runs_value}
use Rattle.stored_tables.proofs.TornChanges.{reads_name}
use Rattle.typed_tables.specs.Typed.{UpdatesTyped, walked}
use Rattle.typed_tables.proofs.Updated.{typed_looks, nothing_changed, put_behind, put_refused, same_refusal, torn_on}
use Rattle.typed_tables.proofs.updating.typed_update.Goals as goal

no_row : {T E : Type 0} (got : Result (Option T) E) (fault : E) (row : T) → got ≡ Err fault → got ≡ Ok (Some row) → ⊥
no_row got fault row was is = cc

other_row : {T E : Type 0} (got : Result (Option T) E) (row : T) → got ≡ Ok None → got ≡ Ok (Some row) → ⊥
other_row got row was is = cc

pub returns-in_err-row-clause-runs : goal.returns-in_err-row-clause-runs
returns-in_err-row-clause-runs g c =
    nothing_changed {meaning = g.S.RecordRead.meaning} g.R.Row.columns_of _ c.args.table c.args.key c.args.store.now c.typed_get.new.store
    c.typed_get.result c.from_residual.result
    (same_refusal c.from_residual.result c.in_err-row.field-0.0 c.from_residual.ensures.1 ∙ sym c.in_err-row.was) (λ row is. no_row c.typed_get.result _ row c.in_err-row.was is)
    (typed_looks {meaning = g.S.RecordRead.meaning}
    g.R.Row.columns_of c.args.table c.args.key c.args.store.now c.typed_get.new.store c.typed_get.result c.typed_get.ensures.columns
    c.typed_get.ensures.torn c.typed_get.ensures.fault c.typed_get.ensures.calls c.typed_get.ensures.after)

pub returns-in_default-clause-runs : goal.returns-in_default-clause-runs
returns-in_default-clause-runs g c =
    nothing_changed {meaning = g.S.RecordRead.meaning} g.R.Row.columns_of _ c.args.table c.args.key c.args.store.now c.typed_get.new.store
    c.typed_get.result (Ok None) (sym (c.in_ok-row.was ∙ ap (λ o. Ok o) c.in_default.is)) (λ row is. other_row c.typed_get.result row (c.in_ok-row.was ∙ ap (λ o. Ok o) c.in_default.is) is)
    (typed_looks {meaning = g.S.RecordRead.meaning}
    g.R.Row.columns_of c.args.table c.args.key c.args.store.now c.typed_get.new.store c.typed_get.result c.typed_get.ensures.columns
    c.typed_get.ensures.torn c.typed_get.ensures.fault c.typed_get.ensures.calls c.typed_get.ensures.after)

pub returns-in_err-typed_put-clause-runs : goal.returns-in_err-typed_put-clause-runs
returns-in_err-typed_put-clause-runs g c =
    rw (same_refusal c.from_residual-in_err-typed_put.result c.in_err-typed_put.field-0.0 c.from_residual-in_err-typed_put.ensures.1)
    (put_refused {meaning = g.S.RecordRead.meaning} g.R.Row.columns_of _ c.args.table c.args.key c.change-changed.result c.args.store.now
    c.typed_put.new.store c.typed_put.result c.in_err-typed_put.field-0.0 c.in_err-typed_put.was c.typed_put.ensures.never_foreign
    (put_behind {meaning = g.S.RecordRead.meaning} g.R.Row.columns_of _ c.args.table c.args.key c.in-Some.row c.change-changed.result
    c.args.store.now c.typed_get.new.store c.typed_put.new.store c.typed_get.result c.typed_put.result
    (c.in_ok-row.was ∙ ap (λ o. Ok o) c.in-Some.is) c.change-changed.ensures
    (typed_looks {meaning = g.S.RecordRead.meaning}
    g.R.Row.columns_of c.args.table c.args.key c.args.store.now c.typed_get.new.store c.typed_get.result c.typed_get.ensures.columns
    c.typed_get.ensures.torn c.typed_get.ensures.fault c.typed_get.ensures.calls c.typed_get.ensures.after)
    c.typed_put.ensures.runs))

pub returns-clause-updated : goal.returns-clause-updated
returns-clause-updated g c = record {
  row = c.in-Some.row;
  made = c.change-changed.ensures;
  was = λ state places tables agrees stands.
      rw c.in-Some.is at (c.in_ok-row.ensures.row state places tables
      (agrees-extends (g.S.RecordRead.meaning c.typed_get.new.store).reads (g.S.RecordRead.meaning c.typed_put.new.store).reads state
      c.typed_put.ensures.runs.by.grow.reads agrees) stands);
  leaves = λ state places tables agrees stands.
      c.in_ok-typed_put.ensures.put state places tables agrees
      (stands_on (g.S.RecordRead.meaning c.args.store.now) (g.S.RecordRead.meaning c.typed_get.new.store) state (places, tables)
      c.typed_get.ensures.after stands);
}

pub returns-clause-runs : goal.returns-clause-runs
returns-clause-runs g c =
    runs_value (UpdatesTyped g.R.Row.columns_of _ c.args.table c.args.key (g.S.RecordRead.meaning c.typed_put.new.store)) 128 128
    c.args.store.now c.typed_put.new.store _ (Some tt) (Some (Some c.change-changed.result)) (omega arith)
    (put_behind {meaning = g.S.RecordRead.meaning} g.R.Row.columns_of _ c.args.table c.args.key c.in-Some.row c.change-changed.result
    c.args.store.now c.typed_get.new.store c.typed_put.new.store c.typed_get.result c.typed_put.result
    (c.in_ok-row.was ∙ ap (λ o. Ok o) c.in-Some.is) c.change-changed.ensures
    (typed_looks {meaning = g.S.RecordRead.meaning}
    g.R.Row.columns_of c.args.table c.args.key c.args.store.now c.typed_get.new.store c.typed_get.result c.typed_get.ensures.columns
    c.typed_get.ensures.torn c.typed_get.ensures.fault c.typed_get.ensures.calls c.typed_get.ensures.after)
    c.typed_put.ensures.runs)
    (ap walked c.in_ok-typed_put.was) (λ asked state held agrees stands did. did)

pub returns-in_err-row-clause-tears : goal.returns-in_err-row-clause-tears
returns-in_err-row-clause-tears g c =
    rw (same_refusal c.from_residual.result c.in_err-row.field-0.0 c.from_residual.ensures.1 ∙ sym c.in_err-row.was)
    (reads_name c.args.table (g.S.RecordRead.meaning c.args.store.now) (g.S.RecordRead.meaning c.typed_get.new.store) (walked c.typed_get.result)
    c.typed_get.ensures.after c.typed_get.ensures.tears)

pub returns-in_err-typed_put-clause-tears : goal.returns-in_err-typed_put-clause-tears
returns-in_err-typed_put-clause-tears g c =
    torn_on c.from_residual-in_err-typed_put.result c.typed_put.result c.in_err-typed_put.field-0.0 _ c.in_err-typed_put.was
    (same_refusal c.from_residual-in_err-typed_put.result c.in_err-typed_put.field-0.0 c.from_residual-in_err-typed_put.ensures.1)
    c.typed_put.ensures.tears
