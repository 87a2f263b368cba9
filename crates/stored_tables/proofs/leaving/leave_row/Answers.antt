use Rattle.std.proofs.Common.{◌∙◌, arith}
use Rattle.stored_tables.proofs.RowLeaves.{left_pair, left_tree, left_row}
use Rattle.stored_tables.proofs.Runs.{runs_moved}
use Rattle.record_store.proofs.Going.{by_calls_moved, by_calls_never}
use Rattle.stored_tables.proofs.leaving.leave_row.Goals as goal

pub remove_pair-requires-clause-fixed : goal.remove_pair-requires-clause-fixed
remove_pair-requires-clause-fixed g c = rw c.leave_index.ensures.runs.by.grow.fixed c.requires.fixed

pub remove_entry-requires-clause-fixed : goal.remove_entry-requires-clause-fixed
remove_entry-requires-clause-fixed g c = rw ((c.remove_pair.ensures.runs c.args.found.now.rid).by.grow.fixed ∙ c.leave_index.ensures.runs.by.grow.fixed)
    c.requires.fixed

pub drop_row-requires : goal.drop_row-requires
drop_row-requires g c = rw ((c.remove_entry.ensures.runs c.args.found.now.rid).by.grow.size ∙ (c.remove_pair.ensures.runs c.args.found.now.rid).by.grow.size
    ∙ c.leave_index.ensures.runs.by.grow.size) c.requires.rid

pub returns-in_err-leave_index-clause-runs : goal.returns-in_err-leave_index-clause-runs
returns-in_err-leave_index-clause-runs g c =
    runs_moved _ 1 4 (omega arith) c.args.store.now c.leave_index.new.store c.from_residual.result c.leave_index.result c.in_err-leave_index.field-0.0
    c.leave_index.ensures.runs c.in_err-leave_index.was c.from_residual.ensures.1

pub returns-in_err-remove_pair-clause-runs : goal.returns-in_err-remove_pair-clause-runs
returns-in_err-remove_pair-clause-runs g c =
    runs_moved _ 2 4 (omega arith) c.args.store.now c.remove_pair.new.store c.from_residual-in_err-remove_pair.result c.remove_pair.result
    c.in_err-remove_pair.field-0.0
    (left_pair {meaning = g.S.RecordRead.meaning} c.args.table c.args.key c.args.index c.args.found.now c.args.store.now
    c.leave_index.new.store c.remove_pair.new.store c.leave_index.result c.remove_pair.result c.requires.table
    c.leave_index.ensures.runs c.in_ok-leave_index.was (c.remove_pair.ensures.runs c.args.found.now.rid))
    c.in_err-remove_pair.was c.from_residual-in_err-remove_pair.ensures.1

pub returns-in_err-remove_entry-clause-runs : goal.returns-in_err-remove_entry-clause-runs
returns-in_err-remove_entry-clause-runs g c =
    runs_moved _ 3 4 (omega arith) c.args.store.now c.remove_entry.new.store c.from_residual-in_err-remove_entry.result c.remove_entry.result
    c.in_err-remove_entry.field-0.0
    (left_tree {meaning = g.S.RecordRead.meaning} c.args.table c.args.key c.args.index c.args.found.now c.args.store.now
    c.remove_pair.new.store c.remove_entry.new.store c.remove_pair.result c.remove_entry.result c.requires.table
    (left_pair {meaning = g.S.RecordRead.meaning} c.args.table c.args.key c.args.index c.args.found.now c.args.store.now
    c.leave_index.new.store c.remove_pair.new.store c.leave_index.result c.remove_pair.result c.requires.table
    c.leave_index.ensures.runs c.in_ok-leave_index.was (c.remove_pair.ensures.runs c.args.found.now.rid))
    c.in_ok-remove_pair.was (c.remove_entry.ensures.runs c.args.found.now.rid)) c.in_err-remove_entry.was c.from_residual-in_err-remove_entry.ensures.1

pub returns-clause-runs : goal.returns-clause-runs
returns-clause-runs g c =
    left_row {meaning = g.S.RecordRead.meaning} c.args.table c.args.key c.args.index c.args.found.now c.args.store.now
    c.remove_entry.new.store c.drop_row.new.store c.remove_entry.result c.drop_row.result c.requires.table (omega arith)
    (left_tree {meaning = g.S.RecordRead.meaning} c.args.table c.args.key c.args.index c.args.found.now c.args.store.now
    c.remove_pair.new.store c.remove_entry.new.store c.remove_pair.result c.remove_entry.result c.requires.table
    (left_pair {meaning = g.S.RecordRead.meaning} c.args.table c.args.key c.args.index c.args.found.now c.args.store.now
    c.leave_index.new.store c.remove_pair.new.store c.leave_index.result c.remove_pair.result c.requires.table
    c.leave_index.ensures.runs c.in_ok-leave_index.was (c.remove_pair.ensures.runs c.args.found.now.rid))
    c.in_ok-remove_pair.was (c.remove_entry.ensures.runs c.args.found.now.rid)) c.in_ok-remove_entry.was (c.drop_row.ensures.runs c.args.table c.args.key)

pub returns-in_err-leave_index-clause-asks_nothing : goal.returns-in_err-leave_index-clause-asks_nothing
returns-in_err-leave_index-clause-asks_nothing g c =
    by_calls_moved c.args.store.now c.leave_index.new.store c.from_residual.result c.leave_index.result c.in_err-leave_index.field-0.0
    c.in_err-leave_index.was c.from_residual.ensures.1 c.leave_index.ensures.asks_nothing

pub returns-in_err-remove_pair-clause-asks_nothing : goal.returns-in_err-remove_pair-clause-asks_nothing
returns-in_err-remove_pair-clause-asks_nothing g c =
    by_calls_moved c.args.store.now c.remove_pair.new.store c.from_residual-in_err-remove_pair.result c.remove_pair.result
    c.in_err-remove_pair.field-0.0 c.in_err-remove_pair.was c.from_residual-in_err-remove_pair.ensures.1
    (by_calls_never (λ _. ⊥) 0 c.args.store.now c.leave_index.new.store c.remove_pair.new.store c.leave_index.result c.remove_pair.result
    c.leave_index.ensures.asks_nothing c.remove_pair.ensures.asks_nothing)

pub returns-in_err-remove_entry-clause-asks_nothing : goal.returns-in_err-remove_entry-clause-asks_nothing
returns-in_err-remove_entry-clause-asks_nothing g c =
    by_calls_moved c.args.store.now c.remove_entry.new.store c.from_residual-in_err-remove_entry.result c.remove_entry.result
    c.in_err-remove_entry.field-0.0 c.in_err-remove_entry.was c.from_residual-in_err-remove_entry.ensures.1
    (by_calls_never (λ _. ⊥) 0 c.args.store.now c.remove_pair.new.store c.remove_entry.new.store c.remove_pair.result c.remove_entry.result
    (by_calls_never (λ _. ⊥) 0 c.args.store.now c.leave_index.new.store c.remove_pair.new.store c.leave_index.result c.remove_pair.result
    c.leave_index.ensures.asks_nothing c.remove_pair.ensures.asks_nothing) c.remove_entry.ensures.asks_nothing)

pub returns-clause-asks_nothing : goal.returns-clause-asks_nothing
returns-clause-asks_nothing g c =
    by_calls_never (λ _. ⊥) 0 c.args.store.now c.remove_entry.new.store c.drop_row.new.store c.remove_entry.result c.drop_row.result
    (by_calls_never (λ _. ⊥) 0 c.args.store.now c.remove_pair.new.store c.remove_entry.new.store c.remove_pair.result c.remove_entry.result
    (by_calls_never (λ _. ⊥) 0 c.args.store.now c.leave_index.new.store c.remove_pair.new.store c.leave_index.result c.remove_pair.result
    c.leave_index.ensures.asks_nothing c.remove_pair.ensures.asks_nothing) c.remove_entry.ensures.asks_nothing)
    c.drop_row.ensures.asks_nothing
