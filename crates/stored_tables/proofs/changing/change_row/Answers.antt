use Rattle.std.proofs.Common.{◌∙◌, arith}
use Rattle.stored_tables.proofs.RowChanges.{changed_row, changed_stays, changed_removed, changed_moves}
use Rattle.stored_tables.proofs.Rowing.{change_none, change_same}
use Rattle.stored_tables.proofs.Runs.{runs_moved}
use Rattle.stored_tables.proofs.changing.change_row.Goals as goal

pub remove_entry-requires-clause-fixed : goal.remove_entry-requires-clause-fixed
remove_entry-requires-clause-fixed g c = rw (c.write_row.ensures.runs c.args.table c.args.key).by.grow.fixed c.requires.fixed

pub insert_entry-requires-clause-fixed : goal.insert_entry-requires-clause-fixed
insert_entry-requires-clause-fixed g c = rw ((c.remove_entry.ensures.runs c.args.found.now.rid).by.grow.fixed
    ∙ (c.write_row.ensures.runs c.args.table c.args.key).by.grow.fixed) c.requires.fixed

pub insert_entry-requires-clause-rid : goal.insert_entry-requires-clause-rid
insert_entry-requires-clause-rid g c = rw ((c.remove_entry.ensures.runs c.args.found.now.rid).by.grow.size
    ∙ (c.write_row.ensures.runs c.args.table c.args.key).by.grow.size) c.requires.rid

pub returns-in_err-write_row-clause-runs : goal.returns-in_err-write_row-clause-runs
returns-in_err-write_row-clause-runs g c =
    runs_moved _ 1 53 (omega arith) c.args.store.now c.write_row.new.store c.from_residual.result c.write_row.result c.in_err-write_row.field-0.0
    (changed_row {meaning = g.S.RecordRead.meaning} c.args.table c.args.key c.args.index c.args.found.now c.args.row.now c.args.store.now
    c.write_row.new.store c.write_row.result c.requires.table (c.write_row.ensures.runs c.args.table c.args.key))
    c.in_err-write_row.was c.from_residual.ensures.1

pub returns-in_default-clause-runs : goal.returns-in_default-clause-runs
returns-in_default-clause-runs g c =
    changed_stays {meaning = g.S.RecordRead.meaning} c.args.table c.args.key c.args.index c.args.found.now c.args.row.now
    c.args.store.now c.write_row.new.store c.write_row.result c.requires.table (omega arith) c.write_row.ensures.six
    (change_none c.args.table c.args.key c.args.index c.args.found.now.row c.args.row.now c.in_default.is)
    (changed_row {meaning = g.S.RecordRead.meaning} c.args.table c.args.key c.args.index c.args.found.now c.args.row.now c.args.store.now
    c.write_row.new.store c.write_row.result c.requires.table (c.write_row.ensures.runs c.args.table c.args.key))
    c.in_ok-write_row.was

pub returns-then-was-high-clause-runs : goal.returns-then-was-high-clause-runs
returns-then-was-high-clause-runs g c =
    changed_stays {meaning = g.S.RecordRead.meaning} c.args.table c.args.key c.args.index c.args.found.now c.args.row.now
    c.args.store.now c.write_row.new.store c.write_row.result c.requires.table (omega arith) c.write_row.ensures.six
    (change_same c.args.table c.args.key c.in-Some.column c.column-was.result c.column-high.result c.args.index c.args.found.now.row
    c.args.row.now c.in-Some.is c.column-was.ensures c.column-high.ensures c.if-was-high.true)
    (changed_row {meaning = g.S.RecordRead.meaning} c.args.table c.args.key c.args.index c.args.found.now c.args.row.now c.args.store.now
    c.write_row.new.store c.write_row.result c.requires.table (c.write_row.ensures.runs c.args.table c.args.key))
    c.in_ok-write_row.was

pub returns-in_err-remove_entry-clause-runs : goal.returns-in_err-remove_entry-clause-runs
returns-in_err-remove_entry-clause-runs g c =
    runs_moved _ 2 53 (omega arith) c.args.store.now c.remove_entry.new.store c.from_residual-in_err-remove_entry.result c.remove_entry.result
    c.in_err-remove_entry.field-0.0
    (changed_removed {meaning = g.S.RecordRead.meaning} c.args.table c.args.key c.in-Some.column c.column-was.result c.column-high.result
    c.args.index c.args.found.now c.args.row.now c.args.store.now c.write_row.new.store c.remove_entry.new.store c.write_row.result
    c.remove_entry.result c.requires.table c.in-Some.is c.column-was.ensures c.column-high.ensures c.if-was-high.false
    (changed_row {meaning = g.S.RecordRead.meaning} c.args.table c.args.key c.args.index c.args.found.now c.args.row.now
    c.args.store.now c.write_row.new.store c.write_row.result c.requires.table (c.write_row.ensures.runs c.args.table c.args.key))
    c.in_ok-write_row.was (c.remove_entry.ensures.runs c.args.found.now.rid)) c.in_err-remove_entry.was c.from_residual-in_err-remove_entry.ensures.1

pub returns-clause-runs : goal.returns-clause-runs
returns-clause-runs g c =
    changed_moves {meaning = g.S.RecordRead.meaning} c.args.table c.args.key c.in-Some.column c.column-was.result c.column-high.result
    c.args.index c.args.found.now c.args.row.now c.args.store.now c.remove_entry.new.store c.insert_entry.new.store
    c.remove_entry.result c.insert_entry.result c.requires.table (omega arith) c.write_row.ensures.six c.in-Some.is
    c.column-was.ensures c.column-high.ensures c.if-was-high.false
    (changed_removed {meaning = g.S.RecordRead.meaning} c.args.table c.args.key c.in-Some.column c.column-was.result c.column-high.result
    c.args.index c.args.found.now c.args.row.now c.args.store.now c.write_row.new.store c.remove_entry.new.store c.write_row.result
    c.remove_entry.result c.requires.table c.in-Some.is c.column-was.ensures c.column-high.ensures c.if-was-high.false
    (changed_row {meaning = g.S.RecordRead.meaning} c.args.table c.args.key c.args.index c.args.found.now c.args.row.now
    c.args.store.now c.write_row.new.store c.write_row.result c.requires.table (c.write_row.ensures.runs c.args.table c.args.key))
    c.in_ok-write_row.was (c.remove_entry.ensures.runs c.args.found.now.rid)) c.in_ok-remove_entry.was c.insert_entry.ensures.runs
