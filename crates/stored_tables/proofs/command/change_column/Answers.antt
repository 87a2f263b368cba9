use Rattle.std.proofs.Common.{Some, Ok, sym, ap, ◌∙◌, arith}
use Rattle.replay_model.specs.declared.outcome.Answer.TheVariants.{Nothing}
use Rattle.stored_tables.specs.Change.{changed, command_with}
use Rattle.replay_model.specs.TableMap.{with_value}
use Rattle.record_store.proofs.Agreement.{size_same}
use Rattle.stored_tables.proofs.Commands.{row_then_index, then_command, plan_changes, plan_with, column_changes, column_refused, column_missing}
use Rattle.stored_tables.specs.Answers.{IsFound}
use Rattle.stored_tables.specs.Plan.{moves_to}
use Rattle.stored_tables.proofs.Runs.{looks_runs, runs_moved, runs_value}
use Rattle.record_store.proofs.Refusals.{torn_moved}
use Rattle.stored_tables.proofs.TornChanges.{reads_name}
use Rattle.stored_tables.proofs.command.change_column.Goals as goal

pub index_of-requires-clause-size : goal.index_of-requires-clause-size
index_of-requires-clause-size g c = rw (size_same (g.S.RecordRead.meaning c.args.store.now) (g.S.RecordRead.meaning c.find_row.new.store)
    c.find_row.ensures.looks.by.only) c.requires.size

pub returns-in_err-found-clause-runs : goal.returns-in_err-found-clause-runs
returns-in_err-found-clause-runs g c =
    runs_moved _ 105 105 (omega arith) c.args.store.now c.find_row.new.store c.from_residual.result c.find_row.result c.in_err-found.field-0.0
    (looks_runs _ (λ _ _ _ _. Unit {0}) 105 c.args.store.now c.find_row.new.store c.find_row.result c.find_row.ensures.looks
    (λ v state held agrees stands found. tt)) c.in_err-found.was c.from_residual.ensures.1

pub returns-in_err-index-clause-runs : goal.returns-in_err-index-clause-runs
returns-in_err-index-clause-runs g c =
    runs_moved _ 105 105 (omega arith) c.args.store.now c.index_of.new.store c.from_residual-in_err-index.result c.index_of.result
    c.in_err-index.field-0.0
    (looks_runs _ (λ _ _ _ _. Unit {0}) 105 c.args.store.now c.index_of.new.store c.index_of.result
    (row_then_index {meaning = g.S.RecordRead.meaning} c.args.table c.args.key (Some c.in-Some.found) c.args.store.now
    c.find_row.new.store c.index_of.new.store c.find_row.result c.index_of.result c.find_row.ensures.looks (c.in_ok-found.was
    ∙ ap Ok c.in-Some.is) c.index_of.ensures.looks) (λ v state held agrees stands found. tt))
    c.in_err-index.was c.from_residual-in_err-index.ensures.1

pub returns-in_err-change_row-clause-runs : goal.returns-in_err-change_row-clause-runs
returns-in_err-change_row-clause-runs g c =
    runs_moved _ 105 105 (omega arith) c.args.store.now c.change_row.new.store c.from_residual-in_err-change_row.result c.change_row.result
    c.in_err-change_row.field-0.0
    (then_command {meaning = g.S.RecordRead.meaning} (command_with c.args.table c.args.key c.args.column c.args.change) _
    (λ held. with_value held.1 c.args.table c.args.key c.with.result) 53 105 c.args.store.now c.index_of.new.store
    c.change_row.new.store c.index_of.result _ c.change_row.result
    (row_then_index {meaning = g.S.RecordRead.meaning} c.args.table c.args.key (Some c.in-Some.found) c.args.store.now
    c.find_row.new.store c.index_of.new.store c.find_row.result c.index_of.result c.find_row.ensures.looks (c.in_ok-found.was
    ∙ ap Ok c.in-Some.is) c.index_of.ensures.looks) c.in_ok-index.was (omega arith) c.change_row.ensures.runs
    (λ state held stands known. (let eff = (column_changes held.1 c.args.table c.args.key c.args.column c.in-Ok.value c.args.change c.in-Some.found.row known.1.1
    (ap (changed c.args.change) (sym c.column.ensures) ∙ sym c.of.ensures ∙ c.in-Ok.is)
    ∙ ap (λ row. Ok (Nothing, with_value held.1 c.args.table c.args.key row)) (sym c.with.ensures)) in (
      ((stands, known.0), known.1),
      plan_with held.1 c.args.table c.args.key c.args.column c.args.change ∙ ap (moves_to held.1 c.args.table c.args.key) eff
          ∙ plan_changes held.1 c.args.table c.args.key c.in_ok-index.index c.in-Some.found.row c.with.result known.0 known.1.1,
      eff,
    ))))
    c.in_err-change_row.was c.from_residual-in_err-change_row.ensures.1

pub returns-clause-runs : goal.returns-clause-runs
returns-clause-runs g c =
    runs_value _ 105 105 c.args.store.now c.change_row.new.store c.change_row.result _ _ (omega arith)
    (then_command {meaning = g.S.RecordRead.meaning} (command_with c.args.table c.args.key c.args.column c.args.change) _
    (λ held. with_value held.1 c.args.table c.args.key c.with.result) 53 105 c.args.store.now c.index_of.new.store
    c.change_row.new.store c.index_of.result _ c.change_row.result
    (row_then_index {meaning = g.S.RecordRead.meaning} c.args.table c.args.key (Some c.in-Some.found) c.args.store.now
    c.find_row.new.store c.index_of.new.store c.find_row.result c.index_of.result c.find_row.ensures.looks (c.in_ok-found.was
    ∙ ap Ok c.in-Some.is) c.index_of.ensures.looks) c.in_ok-index.was (omega arith) c.change_row.ensures.runs
    (λ state held stands known. (let eff = (column_changes held.1 c.args.table c.args.key c.args.column c.in-Ok.value c.args.change c.in-Some.found.row known.1.1
    (ap (changed c.args.change) (sym c.column.ensures) ∙ sym c.of.ensures ∙ c.in-Ok.is)
    ∙ ap (λ row. Ok (Nothing, with_value held.1 c.args.table c.args.key row)) (sym c.with.ensures)) in (
      ((stands, known.0), known.1),
      plan_with held.1 c.args.table c.args.key c.args.column c.args.change ∙ ap (moves_to held.1 c.args.table c.args.key) eff
          ∙ plan_changes held.1 c.args.table c.args.key c.in_ok-index.index c.in-Some.found.row c.with.result known.0 known.1.1,
      eff,
    ))))
    c.in_ok-change_row.was (λ asked state held agrees stands did. did)

pub returns-in_default-clause-runs : goal.returns-in_default-clause-runs
returns-in_default-clause-runs g c =
    runs_value _ 105 105 c.args.store.now c.find_row.new.store c.find_row.result _ _ (omega arith)
    (looks_runs _ (λ found _ state held. IsFound c.args.table c.args.key found state held) 105 c.args.store.now c.find_row.new.store
    c.find_row.result c.find_row.ensures.looks (λ v state held agrees stands found. found)) c.in_ok-found.was
    (λ asked state held agrees stands found. (let f = rw c.in_default.is at found in column_missing held.1 c.args.table c.args.key
    c.args.column c.args.change f.1))

pub returns-in-Err-clause-runs : goal.returns-in-Err-clause-runs
returns-in-Err-clause-runs g c =
    runs_value _ 105 105 c.args.store.now c.find_row.new.store c.find_row.result _ _ (omega arith)
    (looks_runs _ (λ found _ state held. IsFound c.args.table c.args.key found state held) 105 c.args.store.now c.find_row.new.store
    c.find_row.result c.find_row.ensures.looks (λ v state held agrees stands found. found)) c.in_ok-found.was
    (λ asked state held agrees stands found. (let f = rw c.in-Some.is at found in column_refused held.1 c.args.table c.args.key c.args.column
    c.in-Err.cause c.args.change c.in-Some.found.row f.1 (ap (changed c.args.change) (sym c.column.ensures) ∙ sym c.of.ensures ∙ c.in-Err.is)))

pub returns-in_err-found-clause-tears : goal.returns-in_err-found-clause-tears
returns-in_err-found-clause-tears g c =
    torn_moved c.from_residual.result c.find_row.result c.in_err-found.field-0.0 _ c.in_err-found.was c.from_residual.ensures.1
    (reads_name c.args.table (g.S.RecordRead.meaning c.args.store.now) (g.S.RecordRead.meaning c.find_row.new.store) c.find_row.result c.find_row.ensures.looks.by.only c.find_row.ensures.tears)

pub returns-in_err-index-clause-tears : goal.returns-in_err-index-clause-tears
returns-in_err-index-clause-tears g c =
    torn_moved c.from_residual-in_err-index.result c.index_of.result c.in_err-index.field-0.0 _ c.in_err-index.was c.from_residual-in_err-index.ensures.1
    (reads_name c.args.table (g.S.RecordRead.meaning c.find_row.new.store) (g.S.RecordRead.meaning c.index_of.new.store) c.index_of.result c.index_of.ensures.looks.by.only c.index_of.ensures.tears)
