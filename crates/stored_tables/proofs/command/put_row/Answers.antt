use Rattle.std.proofs.Common.{refl, arith}
use Rattle.replay_model.specs.declared.command.Command.TheVariants.{Put}
use Rattle.replay_model.specs.TableMap.{with_value}
use Rattle.record_store.proofs.Agreement.{size_same}
use Rattle.stored_tables.proofs.Commands.{index_then_row, then_command, plan_changes, plan_enters}
use Rattle.stored_tables.proofs.Runs.{looks_runs, runs_moved, runs_value}
use Rattle.record_store.proofs.Refusals.{torn_moved}
use Rattle.stored_tables.proofs.TornChanges.{reads_name}
use Rattle.stored_tables.proofs.command.put_row.Goals as goal

pub find_row-requires-clause-size : goal.find_row-requires-clause-size
find_row-requires-clause-size g c = rw (size_same (g.S.RecordRead.meaning c.args.store.now) (g.S.RecordRead.meaning c.index_of.new.store)
    c.index_of.ensures.looks.by.only) c.requires.size

pub returns-in_err-index-clause-runs : goal.returns-in_err-index-clause-runs
returns-in_err-index-clause-runs g c =
    runs_moved _ 105 105 (omega arith) c.args.store.now c.index_of.new.store c.from_residual.result c.index_of.result c.in_err-index.field-0.0
    (looks_runs _ (λ _ _ _ _. Unit {0}) 105 c.args.store.now c.index_of.new.store c.index_of.result c.index_of.ensures.looks
    (λ v state held agrees stands found. tt)) c.in_err-index.was c.from_residual.ensures.1

pub returns-in_err-found-clause-runs : goal.returns-in_err-found-clause-runs
returns-in_err-found-clause-runs g c =
    runs_moved _ 105 105 (omega arith) c.args.store.now c.find_row.new.store c.from_residual-in_err-found.result c.find_row.result
    c.in_err-found.field-0.0
    (looks_runs _ (λ _ _ _ _. Unit {0}) 105 c.args.store.now c.find_row.new.store c.find_row.result
    (index_then_row {meaning = g.S.RecordRead.meaning} c.args.table c.args.key c.in_ok-index.index c.args.store.now
    c.index_of.new.store c.find_row.new.store c.index_of.result c.find_row.result c.index_of.ensures.looks
    c.in_ok-index.was c.find_row.ensures.looks) (λ v state held agrees stands found. tt))
    c.in_err-found.was c.from_residual-in_err-found.ensures.1

pub returns-in_err-change_row-in-Some-clause-runs : goal.returns-in_err-change_row-in-Some-clause-runs
returns-in_err-change_row-in-Some-clause-runs g c =
    runs_moved _ 105 105 (omega arith) c.args.store.now c.change_row.new.store c.from_residual-in_err-change_row-in-Some.result c.change_row.result
    c.in_err-change_row-in-Some.field-0.0
    (then_command {meaning = g.S.RecordRead.meaning} (Put c.args.table c.args.key c.args.values.now) _
    (λ held. with_value held.1 c.args.table c.args.key c.args.values.now) 53 105 c.args.store.now c.find_row.new.store
    c.change_row.new.store c.find_row.result _ c.change_row.result
    (index_then_row {meaning = g.S.RecordRead.meaning} c.args.table c.args.key c.in_ok-index.index c.args.store.now
    c.index_of.new.store c.find_row.new.store c.index_of.result c.find_row.result c.index_of.ensures.looks
    c.in_ok-index.was c.find_row.ensures.looks) c.in_ok-found.was (omega arith) c.change_row.ensures.runs
    (λ state held stands known. (let k = rw c.in-Some.is at known in (
      ((stands, k.0), k.1),
      plan_changes held.1 c.args.table c.args.key
          c.in_ok-index.index c.in-Some.found.row c.args.values.now k.0 k.1.1,
      refl,
    ))))
    c.in_err-change_row-in-Some.was c.from_residual-in_err-change_row-in-Some.ensures.1

pub returns-in_err-enter_row-in-None-clause-runs : goal.returns-in_err-enter_row-in-None-clause-runs
returns-in_err-enter_row-in-None-clause-runs g c =
    runs_moved _ 105 105 (omega arith) c.args.store.now c.enter_row.new.store c.from_residual-in_err-enter_row-in-None.result c.enter_row.result
    c.in_err-enter_row-in-None.field-0.0
    (then_command {meaning = g.S.RecordRead.meaning} (Put c.args.table c.args.key c.args.values.now) _
    (λ held. with_value held.1 c.args.table c.args.key c.args.values.now) 105 105 c.args.store.now c.find_row.new.store
    c.enter_row.new.store c.find_row.result _ c.enter_row.result
    (index_then_row {meaning = g.S.RecordRead.meaning} c.args.table c.args.key c.in_ok-index.index c.args.store.now
    c.index_of.new.store c.find_row.new.store c.index_of.result c.find_row.result c.index_of.ensures.looks
    c.in_ok-index.was c.find_row.ensures.looks) c.in_ok-found.was (omega arith) c.enter_row.ensures.runs
    (λ state held stands known. (let k = rw c.in-None.is at known in
    (((stands, k.0), k.1), plan_enters held.1 c.args.table c.args.key c.in_ok-index.index c.args.values.now k.0 k.1.1, refl))))
    c.in_err-enter_row-in-None.was c.from_residual-in_err-enter_row-in-None.ensures.1

pub returns-in_ok-change_row-in-Some-clause-runs : goal.returns-in_ok-change_row-in-Some-clause-runs
returns-in_ok-change_row-in-Some-clause-runs g c =
    runs_value _ 105 105 c.args.store.now c.change_row.new.store c.change_row.result _ _ (omega arith)
    (then_command {meaning = g.S.RecordRead.meaning} (Put c.args.table c.args.key c.args.values.now) _
    (λ held. with_value held.1 c.args.table c.args.key c.args.values.now) 53 105 c.args.store.now c.find_row.new.store
    c.change_row.new.store c.find_row.result _ c.change_row.result
    (index_then_row {meaning = g.S.RecordRead.meaning} c.args.table c.args.key c.in_ok-index.index c.args.store.now
    c.index_of.new.store c.find_row.new.store c.index_of.result c.find_row.result c.index_of.ensures.looks
    c.in_ok-index.was c.find_row.ensures.looks) c.in_ok-found.was (omega arith) c.change_row.ensures.runs
    (λ state held stands known. (let k = rw c.in-Some.is at known in (
      ((stands, k.0), k.1),
      plan_changes held.1 c.args.table c.args.key
          c.in_ok-index.index c.in-Some.found.row c.args.values.now k.0 k.1.1,
      refl,
    )))) c.in_ok-change_row-in-Some.was
    (λ asked state held agrees stands did. did)

pub returns-in_ok-enter_row-in-None-clause-runs : goal.returns-in_ok-enter_row-in-None-clause-runs
returns-in_ok-enter_row-in-None-clause-runs g c =
    runs_value _ 105 105 c.args.store.now c.enter_row.new.store c.enter_row.result _ _ (omega arith)
    (then_command {meaning = g.S.RecordRead.meaning} (Put c.args.table c.args.key c.args.values.now) _
    (λ held. with_value held.1 c.args.table c.args.key c.args.values.now) 105 105 c.args.store.now c.find_row.new.store
    c.enter_row.new.store c.find_row.result _ c.enter_row.result
    (index_then_row {meaning = g.S.RecordRead.meaning} c.args.table c.args.key c.in_ok-index.index c.args.store.now
    c.index_of.new.store c.find_row.new.store c.index_of.result c.find_row.result c.index_of.ensures.looks
    c.in_ok-index.was c.find_row.ensures.looks) c.in_ok-found.was (omega arith) c.enter_row.ensures.runs
    (λ state held stands known. (let k = rw c.in-None.is at known in
    (((stands, k.0), k.1), plan_enters held.1 c.args.table c.args.key c.in_ok-index.index c.args.values.now k.0 k.1.1, refl))))
    c.in_ok-enter_row-in-None.was (λ asked state held agrees stands did. did)

pub returns-in_err-index-clause-tears : goal.returns-in_err-index-clause-tears
returns-in_err-index-clause-tears g c =
    torn_moved c.from_residual.result c.index_of.result c.in_err-index.field-0.0 _ c.in_err-index.was c.from_residual.ensures.1
    (reads_name c.args.table (g.S.RecordRead.meaning c.args.store.now) (g.S.RecordRead.meaning c.index_of.new.store) c.index_of.result c.index_of.ensures.looks.by.only c.index_of.ensures.tears)

pub returns-in_err-found-clause-tears : goal.returns-in_err-found-clause-tears
returns-in_err-found-clause-tears g c =
    torn_moved c.from_residual-in_err-found.result c.find_row.result c.in_err-found.field-0.0 _ c.in_err-found.was c.from_residual-in_err-found.ensures.1
    (reads_name c.args.table (g.S.RecordRead.meaning c.index_of.new.store) (g.S.RecordRead.meaning c.find_row.new.store) c.find_row.result c.find_row.ensures.looks.by.only c.find_row.ensures.tears)
