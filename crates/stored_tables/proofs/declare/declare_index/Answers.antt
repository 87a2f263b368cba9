use Rattle.std.proofs.Common.{Ok, ap, ◌∙◌, inl, inr}
use Rattle.record_store.specs.Calls.Calls.{write}
use Rattle.record_store.specs.Calls.CallFault.{by_write}
use Rattle.record_store.proofs.Agreement.{ReadsGrow-only}
use Rattle.record_store.proofs.Paths.{Calls-reads, CallFault-read}
use Rattle.record_store.proofs.Refusals.{torn_moved, fault_moved, store_fault, IfStore-map}
use Rattle.stored_tables.proofs.DeclareRuns.{head_declared, index_then_rows, reads_few, write_few, write_grows, same_only}
use Rattle.stored_tables.proofs.Ending.{looks_torn_tables, on_err}
use Rattle.stored_tables.proofs.Looking.{no_torn}
use Rattle.stored_tables.proofs.Runs.{ok_of}
use Rattle.stored_tables.proofs.TornChanges.{names_after}
use Rattle.stored_tables.proofs.declare.declare_index.Goals as goal

pub returns-in_err-_index-clause-torn : goal.returns-in_err-_index-clause-torn
returns-in_err-_index-clause-torn g c = torn_moved c.from_residual.result c.index_of.result _ _
    c.in_err-_index.was c.from_residual.ensures.1 (looks_torn_tables (g.S.RecordRead.meaning c.args.store.now)
    (g.S.RecordRead.meaning c.index_of.new.store) c.index_of.result c.index_of.ensures.looks.torn)

pub returns-in_err-_index-clause-fault : goal.returns-in_err-_index-clause-fault
returns-in_err-_index-clause-fault g c = fault_moved c.from_residual.result c.index_of.result _ _
    c.in_err-_index.was c.from_residual.ensures.1
    (IfStore-map c.index_of.result (λ f. CallFault-read _ c.args.store.now c.index_of.new.store f) c.index_of.ensures.looks.by.fault)

pub returns-in_err-_index-clause-calls : goal.returns-in_err-_index-clause-calls
returns-in_err-_index-clause-calls g c = Calls-reads c.args.store.now c.index_of.new.store c.index_of.ensures.looks.by.calls

pub returns-in_err-_index-clause-few : goal.returns-in_err-_index-clause-few
returns-in_err-_index-clause-few g c = reads_few (g.S.RecordRead.meaning c.args.store.now) (g.S.RecordRead.meaning c.index_of.new.store)
    c.index_of.ensures.looks.by.only

pub returns-in_err-_index-clause-after : goal.returns-in_err-_index-clause-after
returns-in_err-_index-clause-after g c = ReadsGrow-only (g.S.RecordRead.meaning c.args.store.now)
    (g.S.RecordRead.meaning c.index_of.new.store) c.index_of.ensures.looks.by.only

pub returns-in_err-has_row-in-None-clause-torn : goal.returns-in_err-has_row-in-None-clause-torn
returns-in_err-has_row-in-None-clause-torn g c = torn_moved c.from_residual-in_err-has_row-in-None.result c.has_row.result _ _
    c.in_err-has_row-in-None.was c.from_residual-in_err-has_row-in-None.ensures.1
    (looks_torn_tables (g.S.RecordRead.meaning c.args.store.now) (g.S.RecordRead.meaning c.has_row.new.store) c.has_row.result
    (index_then_rows {meaning = g.S.RecordRead.meaning} c.args.table c.args.store.now c.index_of.new.store c.has_row.new.store
    c.index_of.result c.has_row.result c.index_of.ensures.looks (c.in_ok-_index.was ∙ ap (λ o. Ok o) c.in-None.is)
    c.has_row.ensures.looks).torn)

pub returns-in_err-has_row-in-None-clause-fault : goal.returns-in_err-has_row-in-None-clause-fault
returns-in_err-has_row-in-None-clause-fault g c = fault_moved c.from_residual-in_err-has_row-in-None.result c.has_row.result _ _
    c.in_err-has_row-in-None.was c.from_residual-in_err-has_row-in-None.ensures.1
    (IfStore-map c.has_row.result (λ f. CallFault-read _ c.args.store.now c.has_row.new.store f)
    (index_then_rows {meaning = g.S.RecordRead.meaning} c.args.table c.args.store.now c.index_of.new.store c.has_row.new.store
    c.index_of.result c.has_row.result c.index_of.ensures.looks (c.in_ok-_index.was ∙ ap (λ o. Ok o) c.in-None.is)
    c.has_row.ensures.looks).by.fault)

pub returns-in_err-has_row-in-None-clause-calls : goal.returns-in_err-has_row-in-None-clause-calls
returns-in_err-has_row-in-None-clause-calls g c = Calls-reads c.args.store.now c.has_row.new.store
    (index_then_rows {meaning = g.S.RecordRead.meaning} c.args.table c.args.store.now c.index_of.new.store c.has_row.new.store
    c.index_of.result c.has_row.result c.index_of.ensures.looks (c.in_ok-_index.was ∙ ap (λ o. Ok o) c.in-None.is)
    c.has_row.ensures.looks).by.calls

pub returns-in_err-has_row-in-None-clause-few : goal.returns-in_err-has_row-in-None-clause-few
returns-in_err-has_row-in-None-clause-few g c = reads_few (g.S.RecordRead.meaning c.args.store.now)
    (g.S.RecordRead.meaning c.has_row.new.store) (index_then_rows {meaning = g.S.RecordRead.meaning} c.args.table c.args.store.now
    c.index_of.new.store c.has_row.new.store c.index_of.result c.has_row.result c.index_of.ensures.looks (c.in_ok-_index.was
    ∙ ap (λ o. Ok o) c.in-None.is) c.has_row.ensures.looks).by.only

pub returns-in_err-has_row-in-None-clause-after : goal.returns-in_err-has_row-in-None-clause-after
returns-in_err-has_row-in-None-clause-after g c = ReadsGrow-only (g.S.RecordRead.meaning c.args.store.now)
    (g.S.RecordRead.meaning c.has_row.new.store) (index_then_rows {meaning = g.S.RecordRead.meaning} c.args.table c.args.store.now
    c.index_of.new.store c.has_row.new.store c.index_of.result c.has_row.result c.index_of.ensures.looks (c.in_ok-_index.was
    ∙ ap (λ o. Ok o) c.in-None.is) c.has_row.ensures.looks).by.only

pub returns-in-Some-clause-declared : goal.returns-in-Some-clause-declared
returns-in-Some-clause-declared g c = λ state places tables agrees stands. inr (
  c.in-Some._index,
  ok_of c.index_of.result _ _ (c.in_ok-_index.was ∙ ap (λ o. Ok o) c.in-Some.is) c.index_of.ensures.looks.found
      state (places, tables) agrees stands,
)

pub returns-in-Some-clause-calls : goal.returns-in-Some-clause-calls
returns-in-Some-clause-calls g c = Calls-reads c.args.store.now c.index_of.new.store c.index_of.ensures.looks.by.calls

pub returns-in-Some-clause-few : goal.returns-in-Some-clause-few
returns-in-Some-clause-few g c = reads_few (g.S.RecordRead.meaning c.args.store.now) (g.S.RecordRead.meaning c.index_of.new.store)
    c.index_of.ensures.looks.by.only

pub returns-in-Some-clause-after : goal.returns-in-Some-clause-after
returns-in-Some-clause-after g c = ReadsGrow-only (g.S.RecordRead.meaning c.args.store.now) (g.S.RecordRead.meaning c.index_of.new.store)
    c.index_of.ensures.looks.by.only

pub returns-then-branch-clause-declared : goal.returns-then-branch-clause-declared
returns-then-branch-clause-declared g c = λ state places tables agrees stands. (let told = ok_of c.has_row.result _ _
    (c.in_ok-has_row-in-None.was ∙ ap (λ b. Ok b) c.if-branch.true)
    (index_then_rows {meaning = g.S.RecordRead.meaning} c.args.table c.args.store.now c.index_of.new.store c.has_row.new.store
    c.index_of.result c.has_row.result c.index_of.ensures.looks (c.in_ok-_index.was ∙ ap (λ o. Ok o) c.in-None.is)
    c.has_row.ensures.looks).found state (places, tables) agrees stands in inl told.1)

pub returns-then-branch-clause-unchanged : goal.returns-then-branch-clause-unchanged
returns-then-branch-clause-unchanged g c = λ no. (index_then_rows {meaning = g.S.RecordRead.meaning} c.args.table c.args.store.now
    c.index_of.new.store c.has_row.new.store c.index_of.result c.has_row.result c.index_of.ensures.looks (c.in_ok-_index.was
    ∙ ap (λ o. Ok o) c.in-None.is) c.has_row.ensures.looks).by.only

pub returns-then-branch-clause-calls : goal.returns-then-branch-clause-calls
returns-then-branch-clause-calls g c = Calls-reads c.args.store.now c.has_row.new.store
    (index_then_rows {meaning = g.S.RecordRead.meaning} c.args.table c.args.store.now c.index_of.new.store c.has_row.new.store
    c.index_of.result c.has_row.result c.index_of.ensures.looks (c.in_ok-_index.was ∙ ap (λ o. Ok o) c.in-None.is)
    c.has_row.ensures.looks).by.calls

pub returns-then-branch-clause-few : goal.returns-then-branch-clause-few
returns-then-branch-clause-few g c = reads_few (g.S.RecordRead.meaning c.args.store.now) (g.S.RecordRead.meaning c.has_row.new.store)
    (index_then_rows {meaning = g.S.RecordRead.meaning} c.args.table c.args.store.now c.index_of.new.store c.has_row.new.store
    c.index_of.result c.has_row.result c.index_of.ensures.looks (c.in_ok-_index.was ∙ ap (λ o. Ok o) c.in-None.is)
    c.has_row.ensures.looks).by.only

pub returns-then-branch-clause-after : goal.returns-then-branch-clause-after
returns-then-branch-clause-after g c = ReadsGrow-only (g.S.RecordRead.meaning c.args.store.now)
    (g.S.RecordRead.meaning c.has_row.new.store) (index_then_rows {meaning = g.S.RecordRead.meaning} c.args.table c.args.store.now
    c.index_of.new.store c.has_row.new.store c.index_of.result c.has_row.result c.index_of.ensures.looks (c.in_ok-_index.was
    ∙ ap (λ o. Ok o) c.in-None.is) c.has_row.ensures.looks).by.only

pub returns-in_err-write-in-None-clause-fault : goal.returns-in_err-write-in-None-clause-fault
returns-in_err-write-in-None-clause-fault g c =
    store_fault c.from_residual-in_err-write-in-None.result c.in_err-write-in-None.field-0.0 _
    c.from_residual-in_err-write-in-None.ensures.1 (by_write c.has_row.new.store 0 c.head_of.result _
    (Calls-reads c.args.store.now c.has_row.new.store
    (index_then_rows {meaning = g.S.RecordRead.meaning} c.args.table c.args.store.now c.index_of.new.store c.has_row.new.store
    c.index_of.result c.has_row.result c.index_of.ensures.looks (c.in_ok-_index.was ∙ ap (λ o. Ok o) c.in-None.is)
    c.has_row.ensures.looks).by.calls) c.in_err-write-in-None.ensures.gives)

pub returns-in_err-write-in-None-clause-torn : goal.returns-in_err-write-in-None-clause-torn
returns-in_err-write-in-None-clause-torn g c = no_torn c.from_residual-in_err-write-in-None.result c.in_err-write-in-None.field-0.0 _
    c.from_residual-in_err-write-in-None.ensures.1

pub returns-in_err-write-in-None-clause-calls : goal.returns-in_err-write-in-None-clause-calls
returns-in_err-write-in-None-clause-calls g c = write c.args.store.now c.has_row.new.store c.write.new.self 0 c.head_of.result _ _
    (Calls-reads c.args.store.now c.has_row.new.store (index_then_rows {meaning = g.S.RecordRead.meaning} c.args.table c.args.store.now
    c.index_of.new.store c.has_row.new.store c.index_of.result c.has_row.result c.index_of.ensures.looks (c.in_ok-_index.was
    ∙ ap (λ o. Ok o) c.in-None.is) c.has_row.ensures.looks).by.calls) c.in_err-write-in-None.ensures.gives

pub returns-in_err-write-in-None-clause-few : goal.returns-in_err-write-in-None-clause-few
returns-in_err-write-in-None-clause-few g c = reads_few (g.S.RecordRead.meaning c.args.store.now)
    (g.S.RecordRead.meaning c.write.new.self) (same_only (g.S.RecordRead.meaning c.args.store.now)
    (g.S.RecordRead.meaning c.has_row.new.store) (g.S.RecordRead.meaning c.write.new.self)
    (index_then_rows {meaning = g.S.RecordRead.meaning} c.args.table c.args.store.now c.index_of.new.store c.has_row.new.store
    c.index_of.result c.has_row.result c.index_of.ensures.looks (c.in_ok-_index.was ∙ ap (λ o. Ok o) c.in-None.is)
    c.has_row.ensures.looks).by.only c.in_err-write-in-None.ensures.err)

pub returns-in_err-write-in-None-clause-after : goal.returns-in_err-write-in-None-clause-after
returns-in_err-write-in-None-clause-after g c = ReadsGrow-only (g.S.RecordRead.meaning c.args.store.now)
    (g.S.RecordRead.meaning c.write.new.self) (same_only (g.S.RecordRead.meaning c.args.store.now)
    (g.S.RecordRead.meaning c.has_row.new.store) (g.S.RecordRead.meaning c.write.new.self)
    (index_then_rows {meaning = g.S.RecordRead.meaning} c.args.table c.args.store.now c.index_of.new.store c.has_row.new.store
    c.index_of.result c.has_row.result c.index_of.ensures.looks (c.in_ok-_index.was ∙ ap (λ o. Ok o) c.in-None.is)
    c.has_row.ensures.looks).by.only c.in_err-write-in-None.ensures.err)

pub returns-in_ok-write-in-None-clause-declared : goal.returns-in_ok-write-in-None-clause-declared
returns-in_ok-write-in-None-clause-declared g c =
    head_declared c.args.table c.args.column c.head_of.result c.head_cells.result (g.S.RecordRead.meaning c.args.store.now)
    (g.S.RecordRead.meaning c.has_row.new.store) (g.S.RecordRead.meaning c.write.new.self) c.requires.table c.requires.column
    c.head_of.ensures.head c.head_cells.ensures (index_then_rows {meaning = g.S.RecordRead.meaning} c.args.table c.args.store.now
    c.index_of.new.store c.has_row.new.store c.index_of.result c.has_row.result c.index_of.ensures.looks (c.in_ok-_index.was
    ∙ ap (λ o. Ok o) c.in-None.is) c.has_row.ensures.looks).by.only c.in_ok-write-in-None.ensures.ok
    (ok_of c.has_row.result _ _ (c.in_ok-has_row-in-None.was ∙ ap (λ b. Ok b) c.if-branch.false)
    (index_then_rows {meaning = g.S.RecordRead.meaning} c.args.table c.args.store.now c.index_of.new.store c.has_row.new.store
    c.index_of.result c.has_row.result c.index_of.ensures.looks (c.in_ok-_index.was ∙ ap (λ o. Ok o) c.in-None.is)
    c.has_row.ensures.looks).found)

pub returns-in_ok-write-in-None-clause-calls : goal.returns-in_ok-write-in-None-clause-calls
returns-in_ok-write-in-None-clause-calls g c = write c.args.store.now c.has_row.new.store c.write.new.self 0 c.head_of.result _ _
    (Calls-reads c.args.store.now c.has_row.new.store (index_then_rows {meaning = g.S.RecordRead.meaning} c.args.table c.args.store.now
    c.index_of.new.store c.has_row.new.store c.index_of.result c.has_row.result c.index_of.ensures.looks (c.in_ok-_index.was
    ∙ ap (λ o. Ok o) c.in-None.is) c.has_row.ensures.looks).by.calls) c.in_ok-write-in-None.ensures.gives

pub returns-in_ok-write-in-None-clause-few : goal.returns-in_ok-write-in-None-clause-few
returns-in_ok-write-in-None-clause-few g c = write_few (g.S.RecordRead.meaning c.args.store.now)
    (g.S.RecordRead.meaning c.has_row.new.store) (g.S.RecordRead.meaning c.write.new.self) c.head_of.result _
    (index_then_rows {meaning = g.S.RecordRead.meaning} c.args.table c.args.store.now c.index_of.new.store c.has_row.new.store
    c.index_of.result c.has_row.result c.index_of.ensures.looks (c.in_ok-_index.was ∙ ap (λ o. Ok o) c.in-None.is)
    c.has_row.ensures.looks).by.only c.in_ok-write-in-None.ensures.ok

pub returns-in_ok-write-in-None-clause-after : goal.returns-in_ok-write-in-None-clause-after
returns-in_ok-write-in-None-clause-after g c = write_grows (g.S.RecordRead.meaning c.args.store.now)
    (g.S.RecordRead.meaning c.has_row.new.store) (g.S.RecordRead.meaning c.write.new.self) c.head_of.result _
    (index_then_rows {meaning = g.S.RecordRead.meaning} c.args.table c.args.store.now c.index_of.new.store c.has_row.new.store
    c.index_of.result c.has_row.result c.index_of.ensures.looks (c.in_ok-_index.was ∙ ap (λ o. Ok o) c.in-None.is)
    c.has_row.ensures.looks).by.only c.in_ok-write-in-None.ensures.ok

pub returns-in_err-has_row-in-None-clause-refused : goal.returns-in_err-has_row-in-None-clause-refused
returns-in_err-has_row-in-None-clause-refused g c = on_err c.from_residual-in_err-has_row-in-None.result _
    (index_then_rows {meaning = g.S.RecordRead.meaning} c.args.table c.args.store.now c.index_of.new.store c.has_row.new.store
    c.index_of.result c.has_row.result c.index_of.ensures.looks (c.in_ok-_index.was ∙ ap (λ o. Ok o) c.in-None.is)
    c.has_row.ensures.looks).by.only

pub returns-in_err-write-in-None-clause-refused : goal.returns-in_err-write-in-None-clause-refused
returns-in_err-write-in-None-clause-refused g c = on_err c.from_residual-in_err-write-in-None.result _
    (same_only (g.S.RecordRead.meaning c.args.store.now) (g.S.RecordRead.meaning c.has_row.new.store) (g.S.RecordRead.meaning c.write.new.self)
    (index_then_rows {meaning = g.S.RecordRead.meaning} c.args.table c.args.store.now c.index_of.new.store c.has_row.new.store
    c.index_of.result c.has_row.result c.index_of.ensures.looks (c.in_ok-_index.was ∙ ap (λ o. Ok o) c.in-None.is)
    c.has_row.ensures.looks).by.only c.in_err-write-in-None.ensures.err)

pub returns-in_err-has_row-in-None-clause-tears : goal.returns-in_err-has_row-in-None-clause-tears
returns-in_err-has_row-in-None-clause-tears g c =
    torn_moved c.from_residual-in_err-has_row-in-None.result c.has_row.result c.in_err-has_row-in-None.field-0.0 _ c.in_err-has_row-in-None.was c.from_residual-in_err-has_row-in-None.ensures.1
    (names_after c.args.table (g.S.RecordRead.meaning c.args.store.now) (g.S.RecordRead.meaning c.index_of.new.store)
    (g.S.RecordRead.meaning c.has_row.new.store) c.has_row.result c.index_of.ensures.looks.by.only c.has_row.ensures.tears)
