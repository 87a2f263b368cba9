use Rattle.std.proofs.Common.{arith}
use Rattle.record_store.proofs.Going.{by_calls_moved, by_calls_never, by_calls_quiet}
use Rattle.stored_tables.proofs.ReclaimRuns.{by_key_alone, by_both}
use Rattle.stored_tables.proofs.Runs.{runs_moved, runs_value}
use Rattle.stored_tables.proofs.reclaiming.reclaim_leaves.Goals as goal

pub returns-in_default-clause-runs : goal.returns-in_default-clause-runs
returns-in_default-clause-runs g c =
    by_key_alone {meaning = g.S.RecordRead.meaning} (λ freed. freed.items) c.args.table c.args.key c.args.taken.now.index
    c.args.taken.now.row c.args.store.now c.reclaim_leaf.new.store c.reclaim_leaf.result _ c.in_default.is c.reclaim_leaf.ensures.runs
    c.in_ok-reclaim_leaf.was

pub returns-in_err-reclaim_leaf-2-clause-runs : goal.returns-in_err-reclaim_leaf-2-clause-runs
returns-in_err-reclaim_leaf-2-clause-runs g c =
    runs_moved _ 6 6 (omega arith) c.args.store.now c.reclaim_leaf-2.new.store c.from_residual-in_err-reclaim_leaf-2.result c.reclaim_leaf-2.result
    c.in_err-reclaim_leaf-2.field-0.0
    (by_both {meaning = g.S.RecordRead.meaning} (λ freed. freed.items) c.args.table c.args.key c.in-Some.column c.column-high.result
    c.args.taken.now.index c.args.taken.now.row c.args.store.now c.reclaim_leaf.new.store c.reclaim_leaf-2.new.store
    c.reclaim_leaf.result c.reclaim_leaf-2.result _ c.in-Some.is c.column-high.ensures c.reclaim_leaf.ensures.runs
    c.in_ok-reclaim_leaf.was c.reclaim_leaf-2.ensures.runs)
    c.in_err-reclaim_leaf-2.was c.from_residual-in_err-reclaim_leaf-2.ensures.1

pub returns-clause-runs : goal.returns-clause-runs
returns-clause-runs g c =
    runs_value _ 6 6 c.args.store.now c.reclaim_leaf-2.new.store c.reclaim_leaf-2.result _ _ (omega arith)
    (by_both {meaning = g.S.RecordRead.meaning} (λ freed. freed.items) c.args.table c.args.key c.in-Some.column c.column-high.result
    c.args.taken.now.index c.args.taken.now.row c.args.store.now c.reclaim_leaf.new.store c.reclaim_leaf-2.new.store
    c.reclaim_leaf.result c.reclaim_leaf-2.result _ c.in-Some.is c.column-high.ensures c.reclaim_leaf.ensures.runs
    c.in_ok-reclaim_leaf.was c.reclaim_leaf-2.ensures.runs)
    c.in_ok-reclaim_leaf-2.was (λ asked state held agrees stands did. did)

pub returns-in_err-reclaim_leaf-2-clause-asks_nothing : goal.returns-in_err-reclaim_leaf-2-clause-asks_nothing
returns-in_err-reclaim_leaf-2-clause-asks_nothing g c =
    by_calls_moved c.args.store.now c.reclaim_leaf-2.new.store c.from_residual-in_err-reclaim_leaf-2.result c.reclaim_leaf-2.result
    c.in_err-reclaim_leaf-2.field-0.0 c.in_err-reclaim_leaf-2.was c.from_residual-in_err-reclaim_leaf-2.ensures.1
    (by_calls_never (λ _. ⊥) 0 c.args.store.now c.reclaim_leaf.new.store c.reclaim_leaf-2.new.store c.reclaim_leaf.result c.reclaim_leaf-2.result
    c.reclaim_leaf.ensures.asks_nothing c.reclaim_leaf-2.ensures.asks_nothing)

pub returns-clause-asks_nothing : goal.returns-clause-asks_nothing
returns-clause-asks_nothing g c =
    by_calls_quiet _ c.args.store.now c.reclaim_leaf-2.new.store _ c.reclaim_leaf-2.result tt
    (by_calls_never (λ _. ⊥) 0 c.args.store.now c.reclaim_leaf.new.store c.reclaim_leaf-2.new.store c.reclaim_leaf.result c.reclaim_leaf-2.result
    c.reclaim_leaf.ensures.asks_nothing c.reclaim_leaf-2.ensures.asks_nothing)
