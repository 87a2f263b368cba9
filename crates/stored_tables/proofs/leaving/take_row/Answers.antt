use Rattle.std.proofs.Common.{◌≡◌, Some, Ok, ap, ◌∙◌, refl, arith}
use Rattle.replay_model.specs.declared.command.Command.TheVariants.{Del}
use Rattle.replay_model.specs.TableMap.{without}
use Rattle.record_store.proofs.Agreement.{agrees-extends, size_same}
use Rattle.stored_tables.proofs.Commands.{row_then_index, then_command, plan_leaves, del_leaves}
use Rattle.stored_tables.proofs.Finding.{stands_on}
use Rattle.stored_tables.proofs.OneRow.{taken_out}
use Rattle.stored_tables.specs.Answers.{IsFound, Stands}
use Rattle.stored_tables.specs.Plan.{moves_to}
use Rattle.stored_tables.proofs.Runs.{looks_runs, ok_of, runs_moved, runs_value}
use Rattle.record_store.proofs.Going.{by_calls_reads, by_calls_moved, by_calls_quiet, by_calls_never}
use Rattle.record_store.proofs.Refusals.{torn_moved}
use Rattle.stored_tables.proofs.TornChanges.{reads_name}
use Rattle.stored_tables.proofs.leaving.take_row.Goals as goal

pub index_of-requires-clause-size : goal.index_of-requires-clause-size
index_of-requires-clause-size g c = rw (size_same (g.S.RecordRead.meaning c.args.store.now) (g.S.RecordRead.meaning c.find_row.new.store)
    c.find_row.ensures.looks.by.only) c.requires.size

pub returns-in_err-found-clause-runs : goal.returns-in_err-found-clause-runs
returns-in_err-found-clause-runs g c =
    runs_moved _ 4 4 (omega arith) c.args.store.now c.find_row.new.store c.from_residual.result c.find_row.result c.in_err-found.field-0.0
    (looks_runs _ (λ _ _ _ _. Unit {0}) 4 c.args.store.now c.find_row.new.store c.find_row.result c.find_row.ensures.looks
    (λ v state held agrees stands found. tt)) c.in_err-found.was c.from_residual.ensures.1

pub returns-in_err-index-clause-runs : goal.returns-in_err-index-clause-runs
returns-in_err-index-clause-runs g c =
    runs_moved _ 4 4 (omega arith) c.args.store.now c.index_of.new.store c.from_residual-in_err-index.result c.index_of.result
    c.in_err-index.field-0.0
    (looks_runs _ (λ _ _ _ _. Unit {0}) 4 c.args.store.now c.index_of.new.store c.index_of.result
    (row_then_index {meaning = g.S.RecordRead.meaning} c.args.table c.args.key (Some c.in-Some.found) c.args.store.now
    c.find_row.new.store c.index_of.new.store c.find_row.result c.index_of.result c.find_row.ensures.looks (c.in_ok-found.was
    ∙ ap Ok c.in-Some.is) c.index_of.ensures.looks) (λ v state held agrees stands found. tt))
    c.in_err-index.was c.from_residual-in_err-index.ensures.1

pub returns-in_err-leave_row-clause-runs : goal.returns-in_err-leave_row-clause-runs
returns-in_err-leave_row-clause-runs g c =
    runs_moved _ 4 4 (omega arith) c.args.store.now c.leave_row.new.store c.from_residual-in_err-leave_row.result c.leave_row.result
    c.in_err-leave_row.field-0.0
    (then_command {meaning = g.S.RecordRead.meaning} (Del c.args.table c.args.key) _
    (λ held. without held.1 c.args.table c.args.key) 4 4 c.args.store.now c.index_of.new.store c.leave_row.new.store
    c.index_of.result _ c.leave_row.result (row_then_index {meaning = g.S.RecordRead.meaning} c.args.table c.args.key
    (Some c.in-Some.found) c.args.store.now c.find_row.new.store c.index_of.new.store c.find_row.result c.index_of.result
    c.find_row.ensures.looks (c.in_ok-found.was ∙ ap Ok c.in-Some.is) c.index_of.ensures.looks) c.in_ok-index.was
    (omega arith) c.leave_row.ensures.runs
    (λ state held stands known. (
      ((stands, known.0), known.1),
      ap (moves_to held.1 c.args.table c.args.key)
          (del_leaves held.1 c.args.table c.args.key c.in-Some.found.row known.1.1)
          ∙ plan_leaves held.1 c.args.table c.args.key c.in_ok-index.index c.in-Some.found.row known.0 known.1.1,
      del_leaves held.1
          c.args.table c.args.key c.in-Some.found.row known.1.1,
    ))) c.in_err-leave_row.was c.from_residual-in_err-leave_row.ensures.1

pub returns-clause-runs : goal.returns-clause-runs
returns-clause-runs g c =
    runs_value _ 4 4 c.args.store.now c.leave_row.new.store c.leave_row.result _ _ (omega arith)
    (then_command {meaning = g.S.RecordRead.meaning} (Del c.args.table c.args.key) _
    (λ held. without held.1 c.args.table c.args.key) 4 4 c.args.store.now c.index_of.new.store c.leave_row.new.store
    c.index_of.result _ c.leave_row.result (row_then_index {meaning = g.S.RecordRead.meaning} c.args.table c.args.key
    (Some c.in-Some.found) c.args.store.now c.find_row.new.store c.index_of.new.store c.find_row.result c.index_of.result
    c.find_row.ensures.looks (c.in_ok-found.was ∙ ap Ok c.in-Some.is) c.index_of.ensures.looks) c.in_ok-index.was
    (omega arith) c.leave_row.ensures.runs
    (λ state held stands known. (
      ((stands, known.0), known.1),
      ap (moves_to held.1 c.args.table c.args.key)
          (del_leaves held.1 c.args.table c.args.key c.in-Some.found.row known.1.1)
          ∙ plan_leaves held.1 c.args.table c.args.key c.in_ok-index.index c.in-Some.found.row known.0 known.1.1,
      del_leaves held.1
          c.args.table c.args.key c.in-Some.found.row known.1.1,
    ))) c.in_ok-leave_row.was
    (λ asked state held agrees stands did. taken_out c.args.table c.args.key
    (g.S.RecordRead.meaning c.leave_row.new.store) (record { row = c.in-Some.found.row; index = c.in_ok-index.index }) c.in-Some.found.rid asked state held did
    (ok_of c.index_of.result _ c.in_ok-index.index c.in_ok-index.was
    (row_then_index {meaning = g.S.RecordRead.meaning} c.args.table c.args.key
    (Some c.in-Some.found) c.args.store.now c.find_row.new.store c.index_of.new.store c.find_row.result c.index_of.result
    c.find_row.ensures.looks (c.in_ok-found.was ∙ ap Ok c.in-Some.is) c.index_of.ensures.looks).found state held
    (agrees-extends (g.S.RecordRead.meaning c.index_of.new.store).reads (g.S.RecordRead.meaning c.leave_row.new.store).reads state
    c.leave_row.ensures.runs.by.grow.reads agrees) stands))

pub returns-in_default-clause-runs : goal.returns-in_default-clause-runs
returns-in_default-clause-runs g c =
    runs_value _ 4 4 c.args.store.now c.find_row.new.store c.find_row.result _ _ (omega arith)
    (looks_runs _ (λ found asked state held. IsFound c.args.table c.args.key found state held × (asked ≡ 0)
    × Stands (g.S.RecordRead.meaning c.find_row.new.store) state held) 4 c.args.store.now c.find_row.new.store
    c.find_row.result c.find_row.ensures.looks
    (λ v state held agrees stands found. (
      found,
      refl,
      stands_on (g.S.RecordRead.meaning c.args.store.now) (g.S.RecordRead.meaning c.find_row.new.store) state held
          c.find_row.ensures.looks.by.only stands,
    ))) c.in_ok-found.was
    (λ asked state held agrees stands did. (let f = rw c.in_default.is at did.0 in (f.1, did.1, did.2)))

pub returns-in_err-found-clause-asks_nothing : goal.returns-in_err-found-clause-asks_nothing
returns-in_err-found-clause-asks_nothing g c =
    by_calls_moved c.args.store.now c.find_row.new.store c.from_residual.result c.find_row.result c.in_err-found.field-0.0 c.in_err-found.was
    c.from_residual.ensures.1 (by_calls_reads (λ _. ⊥) c.args.store.now c.find_row.new.store c.find_row.result c.find_row.ensures.looks.by)

pub returns-in_default-clause-asks_nothing : goal.returns-in_default-clause-asks_nothing
returns-in_default-clause-asks_nothing g c =
    by_calls_quiet _ c.args.store.now c.find_row.new.store _ c.find_row.result tt (by_calls_reads (λ _. ⊥) c.args.store.now c.find_row.new.store c.find_row.result c.find_row.ensures.looks.by)

pub returns-in_err-index-clause-asks_nothing : goal.returns-in_err-index-clause-asks_nothing
returns-in_err-index-clause-asks_nothing g c =
    by_calls_moved c.args.store.now c.index_of.new.store c.from_residual-in_err-index.result c.index_of.result c.in_err-index.field-0.0
    c.in_err-index.was c.from_residual-in_err-index.ensures.1
    (by_calls_never (λ _. ⊥) 0 c.args.store.now c.find_row.new.store c.index_of.new.store c.find_row.result c.index_of.result
    (by_calls_reads (λ _. ⊥) c.args.store.now c.find_row.new.store c.find_row.result c.find_row.ensures.looks.by)
    (by_calls_reads (λ _. ⊥) c.find_row.new.store c.index_of.new.store c.index_of.result c.index_of.ensures.looks.by))

pub returns-in_err-leave_row-clause-asks_nothing : goal.returns-in_err-leave_row-clause-asks_nothing
returns-in_err-leave_row-clause-asks_nothing g c =
    by_calls_moved c.args.store.now c.leave_row.new.store c.from_residual-in_err-leave_row.result c.leave_row.result c.in_err-leave_row.field-0.0
    c.in_err-leave_row.was c.from_residual-in_err-leave_row.ensures.1
    (by_calls_never (λ _. ⊥) 0 c.args.store.now c.index_of.new.store c.leave_row.new.store c.index_of.result c.leave_row.result
    (by_calls_never (λ _. ⊥) 0 c.args.store.now c.find_row.new.store c.index_of.new.store c.find_row.result c.index_of.result
    (by_calls_reads (λ _. ⊥) c.args.store.now c.find_row.new.store c.find_row.result c.find_row.ensures.looks.by)
    (by_calls_reads (λ _. ⊥) c.find_row.new.store c.index_of.new.store c.index_of.result c.index_of.ensures.looks.by))
    c.leave_row.ensures.asks_nothing)

pub returns-clause-asks_nothing : goal.returns-clause-asks_nothing
returns-clause-asks_nothing g c =
    by_calls_quiet _ c.args.store.now c.leave_row.new.store _ c.leave_row.result tt
    (by_calls_never (λ _. ⊥) 0 c.args.store.now c.index_of.new.store c.leave_row.new.store c.index_of.result c.leave_row.result
    (by_calls_never (λ _. ⊥) 0 c.args.store.now c.find_row.new.store c.index_of.new.store c.find_row.result c.index_of.result
    (by_calls_reads (λ _. ⊥) c.args.store.now c.find_row.new.store c.find_row.result c.find_row.ensures.looks.by)
    (by_calls_reads (λ _. ⊥) c.find_row.new.store c.index_of.new.store c.index_of.result c.index_of.ensures.looks.by))
    c.leave_row.ensures.asks_nothing)

pub returns-in_err-found-clause-tears : goal.returns-in_err-found-clause-tears
returns-in_err-found-clause-tears g c =
    torn_moved c.from_residual.result c.find_row.result c.in_err-found.field-0.0 _ c.in_err-found.was c.from_residual.ensures.1
    (reads_name c.args.table (g.S.RecordRead.meaning c.args.store.now) (g.S.RecordRead.meaning c.find_row.new.store) c.find_row.result c.find_row.ensures.looks.by.only c.find_row.ensures.tears)

pub returns-in_err-index-clause-tears : goal.returns-in_err-index-clause-tears
returns-in_err-index-clause-tears g c =
    torn_moved c.from_residual-in_err-index.result c.index_of.result c.in_err-index.field-0.0 _ c.in_err-index.was c.from_residual-in_err-index.ensures.1
    (reads_name c.args.table (g.S.RecordRead.meaning c.find_row.new.store) (g.S.RecordRead.meaning c.index_of.new.store) c.index_of.result c.index_of.ensures.looks.by.only c.index_of.ensures.tears)
