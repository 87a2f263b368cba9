use Rattle.stored_tables.proofs.RowLeaves.{left_none, left_index}
use Rattle.record_store.proofs.Going.{by_reads_none, by_calls_reads}
use Rattle.stored_tables.proofs.leaving.leave_index.Goals as goal

pub returns-in_default-clause-runs : goal.returns-in_default-clause-runs
returns-in_default-clause-runs g c = left_none {meaning = g.S.RecordRead.meaning} c.args.table c.args.key c.args.index c.args.found.now
    c.args.store.now c.requires.table c.in_default.is

pub returns-clause-runs : goal.returns-clause-runs
returns-clause-runs g c =
    left_index {meaning = g.S.RecordRead.meaning} c.args.table c.args.key c.in-Some.column c.column-high.result c.args.index
    c.args.found.now c.args.store.now c.remove_entry.new.store c.remove_entry.result c.requires.table c.in-Some.is
    c.column-high.ensures (c.remove_entry.ensures.runs c.args.found.now.rid)

pub returns-in_default-clause-asks_nothing : goal.returns-in_default-clause-asks_nothing
returns-in_default-clause-asks_nothing g c = by_calls_reads (λ _. ⊥) c.args.store.now c.args.store.now _ (by_reads_none c.args.store.now _ tt)
