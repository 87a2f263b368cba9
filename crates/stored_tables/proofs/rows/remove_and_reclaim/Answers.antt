use Rattle.std.proofs.Common.{◌∙◌, Ok, ap, arith}
use Rattle.record_store.proofs.Going.{by_calls_moved, by_calls_never, by_calls_quiet}
use Rattle.stored_tables.proofs.ReclaimRuns.{cleared, halves}
use Rattle.stored_tables.proofs.Runs.{runs_moved, runs_value}
use Rattle.stored_tables.proofs.rows.remove_and_reclaim.Goals as goal

pub returns-in_err-reclaim_leaves-clause-runs : goal.returns-in_err-reclaim_leaves-clause-runs
returns-in_err-reclaim_leaves-clause-runs g c =
    runs_moved _ 10 10 (omega arith) c.args.store.now c.reclaim_leaves.new.store c.from_residual-in_err-reclaim_leaves.result
    c.reclaim_leaves.result c.in_err-reclaim_leaves.field-0.0
    (cleared {meaning = g.S.RecordRead.meaning} c.args.table c.args.key c.args.store.now c.take_row.new.store c.reclaim_leaves.new.store
    c.take_row.result c.in-Some.taken c.reclaim_leaves.result c.take_row.ensures.runs (c.in_ok-taken.was ∙ ap Ok c.in-Some.is)
    c.reclaim_leaves.ensures.runs)
    c.in_err-reclaim_leaves.was c.from_residual-in_err-reclaim_leaves.ensures.1

pub returns-clause-runs : goal.returns-clause-runs
returns-clause-runs g c =
    runs_value _ 10 10 c.args.store.now c.reclaim_leaves.new.store c.reclaim_leaves.result _ _ (omega arith)
    (cleared {meaning = g.S.RecordRead.meaning} c.args.table c.args.key c.args.store.now c.take_row.new.store c.reclaim_leaves.new.store
    c.take_row.result c.in-Some.taken c.reclaim_leaves.result c.take_row.ensures.runs (c.in_ok-taken.was ∙ ap Ok c.in-Some.is)
    c.reclaim_leaves.ensures.runs)
    c.in_ok-reclaim_leaves.was (λ asked state held agrees stands did. did)

pub returns-in_err-reclaim_leaves-clause-asks_nothing : goal.returns-in_err-reclaim_leaves-clause-asks_nothing
returns-in_err-reclaim_leaves-clause-asks_nothing g c =
    by_calls_moved c.args.store.now c.reclaim_leaves.new.store c.from_residual-in_err-reclaim_leaves.result c.reclaim_leaves.result
    c.in_err-reclaim_leaves.field-0.0 c.in_err-reclaim_leaves.was c.from_residual-in_err-reclaim_leaves.ensures.1
    (by_calls_never (λ _. ⊥) 0 c.args.store.now c.take_row.new.store c.reclaim_leaves.new.store c.take_row.result c.reclaim_leaves.result
    c.take_row.ensures.asks_nothing c.reclaim_leaves.ensures.asks_nothing)

pub returns-clause-asks_nothing : goal.returns-clause-asks_nothing
returns-clause-asks_nothing g c =
    by_calls_quiet _ c.args.store.now c.reclaim_leaves.new.store _ c.reclaim_leaves.result tt
    (by_calls_never (λ _. ⊥) 0 c.args.store.now c.take_row.new.store c.reclaim_leaves.new.store c.take_row.result c.reclaim_leaves.result
    c.take_row.ensures.asks_nothing c.reclaim_leaves.ensures.asks_nothing)

pub returns-clause-halves : goal.returns-clause-halves
returns-clause-halves g c = λ yes.
    halves {meaning = g.S.RecordRead.meaning} c.args.table c.args.key c.args.store.now c.take_row.new.store c.reclaim_leaves.new.store
    c.take_row.result c.in-Some.taken c.reclaim_leaves.result c.take_row.ensures.runs (c.in_ok-taken.was ∙ ap Ok c.in-Some.is)
    c.reclaim_leaves.ensures.runs c.in_ok-reclaim_leaves.was
