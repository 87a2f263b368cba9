use Rattle.std.proofs.Common.{None, Ok, ap, ◌∙◌, arith}
use Rattle.replay_model.specs.declared.command.Command.TheVariants.{Ins}
use Rattle.replay_model.specs.TableMap.{with_value}
use Rattle.stored_tables.proofs.Commands.{row_then_index, then_command, plan_enters, ins_enters, ins_exists}
use Rattle.stored_tables.specs.Answers.{IsFound}
use Rattle.stored_tables.specs.Plan.{moves_to}
use Rattle.stored_tables.proofs.Runs.{looks_runs, runs_moved, runs_value}
use Rattle.record_store.proofs.Refusals.{torn_moved}
use Rattle.stored_tables.proofs.TornChanges.{reads_name}
use Rattle.stored_tables.proofs.command.insert_row.Goals as goal

pub returns-in_err-_found-clause-runs : goal.returns-in_err-_found-clause-runs
returns-in_err-_found-clause-runs g c =
    runs_moved _ 105 105 (omega arith) c.args.store.now c.find_row.new.store c.from_residual.result c.find_row.result c.in_err-_found.field-0.0
    (looks_runs _ (λ _ _ _ _. Unit {0}) 105 c.args.store.now c.find_row.new.store c.find_row.result c.find_row.ensures.looks
    (λ v state held agrees stands found. tt)) c.in_err-_found.was c.from_residual.ensures.1

pub returns-in_err-index-in-None-clause-runs : goal.returns-in_err-index-in-None-clause-runs
returns-in_err-index-in-None-clause-runs g c =
    runs_moved _ 105 105 (omega arith) c.args.store.now c.index_of.new.store c.from_residual-in_err-index-in-None.result c.index_of.result
    c.in_err-index-in-None.field-0.0
    (looks_runs _ (λ _ _ _ _. Unit {0}) 105 c.args.store.now c.index_of.new.store c.index_of.result
    (row_then_index {meaning = g.S.RecordRead.meaning} c.args.table c.args.key None c.args.store.now c.find_row.new.store
    c.index_of.new.store c.find_row.result c.index_of.result c.find_row.ensures.looks (c.in_ok-_found.was ∙ ap Ok c.in-None.is)
    c.index_of.ensures.looks) (λ v state held agrees stands found. tt))
    c.in_err-index-in-None.was c.from_residual-in_err-index-in-None.ensures.1

pub returns-in_err-enter_row-in-None-clause-runs : goal.returns-in_err-enter_row-in-None-clause-runs
returns-in_err-enter_row-in-None-clause-runs g c =
    runs_moved _ 105 105 (omega arith) c.args.store.now c.enter_row.new.store c.from_residual-in_err-enter_row-in-None.result c.enter_row.result
    c.in_err-enter_row-in-None.field-0.0
    (then_command {meaning = g.S.RecordRead.meaning} (Ins c.args.table c.args.key c.args.values.now) _
    (λ held. with_value held.1 c.args.table c.args.key c.args.values.now) 105 105 c.args.store.now c.index_of.new.store
    c.enter_row.new.store c.index_of.result _ c.enter_row.result
    (row_then_index {meaning = g.S.RecordRead.meaning} c.args.table c.args.key None c.args.store.now c.find_row.new.store
    c.index_of.new.store c.find_row.result c.index_of.result c.find_row.ensures.looks (c.in_ok-_found.was ∙ ap Ok c.in-None.is)
    c.index_of.ensures.looks) c.in_ok-index-in-None.was (omega arith) c.enter_row.ensures.runs
    (λ state held stands known. (
      ((stands, known.0), known.1),
      ap (moves_to held.1 c.args.table c.args.key)
          (ins_enters held.1 c.args.table c.args.key c.args.values.now known.1.1)
          ∙ plan_enters held.1 c.args.table c.args.key c.in_ok-index-in-None.index c.args.values.now known.0 known.1.1,
      ins_enters held.1
          c.args.table c.args.key c.args.values.now known.1.1,
    )))
    c.in_err-enter_row-in-None.was c.from_residual-in_err-enter_row-in-None.ensures.1

pub returns-in_ok-enter_row-in-None-clause-runs : goal.returns-in_ok-enter_row-in-None-clause-runs
returns-in_ok-enter_row-in-None-clause-runs g c =
    runs_value _ 105 105 c.args.store.now c.enter_row.new.store c.enter_row.result _ _ (omega arith)
    (then_command {meaning = g.S.RecordRead.meaning} (Ins c.args.table c.args.key c.args.values.now) _
    (λ held. with_value held.1 c.args.table c.args.key c.args.values.now) 105 105 c.args.store.now c.index_of.new.store
    c.enter_row.new.store c.index_of.result _ c.enter_row.result
    (row_then_index {meaning = g.S.RecordRead.meaning} c.args.table c.args.key None c.args.store.now c.find_row.new.store
    c.index_of.new.store c.find_row.result c.index_of.result c.find_row.ensures.looks (c.in_ok-_found.was ∙ ap Ok c.in-None.is)
    c.index_of.ensures.looks) c.in_ok-index-in-None.was (omega arith) c.enter_row.ensures.runs
    (λ state held stands known. (
      ((stands, known.0), known.1),
      ap (moves_to held.1 c.args.table c.args.key)
          (ins_enters held.1 c.args.table c.args.key c.args.values.now known.1.1)
          ∙ plan_enters held.1 c.args.table c.args.key c.in_ok-index-in-None.index c.args.values.now known.0 known.1.1,
      ins_enters held.1
          c.args.table c.args.key c.args.values.now known.1.1,
    ))) c.in_ok-enter_row-in-None.was (λ asked state held agrees stands did. did)

pub returns-in-Some-clause-runs : goal.returns-in-Some-clause-runs
returns-in-Some-clause-runs g c =
    runs_value _ 105 105 c.args.store.now c.find_row.new.store c.find_row.result _ _ (omega arith)
    (looks_runs _ (λ found _ state held. IsFound c.args.table c.args.key found state held) 105 c.args.store.now c.find_row.new.store
    c.find_row.result c.find_row.ensures.looks (λ v state held agrees stands found. found)) c.in_ok-_found.was
    (λ asked state held agrees stands found. (let f = rw c.in-Some.is at found in ins_exists held.1 c.args.table c.args.key
    c.args.values.now c.in-Some._found.row f.1))

pub returns-in_err-_found-clause-tears : goal.returns-in_err-_found-clause-tears
returns-in_err-_found-clause-tears g c =
    torn_moved c.from_residual.result c.find_row.result c.in_err-_found.field-0.0 _ c.in_err-_found.was c.from_residual.ensures.1
    (reads_name c.args.table (g.S.RecordRead.meaning c.args.store.now) (g.S.RecordRead.meaning c.find_row.new.store) c.find_row.result c.find_row.ensures.looks.by.only c.find_row.ensures.tears)

pub returns-in_err-index-in-None-clause-tears : goal.returns-in_err-index-in-None-clause-tears
returns-in_err-index-in-None-clause-tears g c =
    torn_moved c.from_residual-in_err-index-in-None.result c.index_of.result c.in_err-index-in-None.field-0.0 _ c.in_err-index-in-None.was c.from_residual-in_err-index-in-None.ensures.1
    (reads_name c.args.table (g.S.RecordRead.meaning c.find_row.new.store) (g.S.RecordRead.meaning c.index_of.new.store) c.index_of.result c.index_of.ensures.looks.by.only c.index_of.ensures.tears)
