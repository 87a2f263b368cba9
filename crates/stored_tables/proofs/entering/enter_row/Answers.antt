use Rattle.std.proofs.Common.{◌∙◌, arith}
use Rattle.stored_tables.proofs.RowEnters.{entered_row, entered_pair, entered_tree, entered_none, entered_index}
use Rattle.stored_tables.proofs.Runs.{runs_moved}
use Rattle.stored_tables.proofs.entering.enter_row.Goals as goal

pub put_pair-requires-clause-fixed : goal.put_pair-requires-clause-fixed
put_pair-requires-clause-fixed g c = rw (c.add_row.ensures.runs c.args.table c.args.key).by.grow.fixed c.requires.fixed

pub put_pair-requires-clause-rid : goal.put_pair-requires-clause-rid
put_pair-requires-clause-rid g c = rw (c.add_row.ensures.runs c.args.table c.args.key).by.grow.size c.in_ok-rid.ensures.stored

pub insert_entry-requires-clause-fixed : goal.insert_entry-requires-clause-fixed
insert_entry-requires-clause-fixed g c = rw (c.put_pair.ensures.runs.by.grow.fixed
    ∙ (c.add_row.ensures.runs c.args.table c.args.key).by.grow.fixed) c.requires.fixed

pub insert_entry-requires-clause-rid : goal.insert_entry-requires-clause-rid
insert_entry-requires-clause-rid g c = rw (c.put_pair.ensures.runs.by.grow.size
    ∙ (c.add_row.ensures.runs c.args.table c.args.key).by.grow.size) c.in_ok-rid.ensures.stored

pub returns-in_err-rid-clause-runs : goal.returns-in_err-rid-clause-runs
returns-in_err-rid-clause-runs g c =
    runs_moved _ 1 105 (omega arith) c.args.store.now c.add_row.new.store c.from_residual.result c.add_row.result c.in_err-rid.field-0.0
    (entered_row {meaning = g.S.RecordRead.meaning} c.args.table c.args.key c.args.index c.args.row.now c.args.store.now
    c.add_row.new.store c.add_row.result c.requires.table (c.add_row.ensures.runs c.args.table c.args.key))
    c.in_err-rid.was c.from_residual.ensures.1

pub returns-in_err-put_pair-clause-runs : goal.returns-in_err-put_pair-clause-runs
returns-in_err-put_pair-clause-runs g c =
    runs_moved _ 3 105 (omega arith) c.args.store.now c.put_pair.new.store c.from_residual-in_err-put_pair.result c.put_pair.result
    c.in_err-put_pair.field-0.0
    (entered_pair {meaning = g.S.RecordRead.meaning} c.args.table c.args.key c.in_ok-rid.rid c.args.index c.args.row.now c.args.store.now
    c.add_row.new.store c.put_pair.new.store c.add_row.result c.put_pair.result c.requires.table
    (entered_row {meaning = g.S.RecordRead.meaning} c.args.table c.args.key c.args.index c.args.row.now c.args.store.now
    c.add_row.new.store c.add_row.result c.requires.table (c.add_row.ensures.runs c.args.table c.args.key))
    c.in_ok-rid.was c.put_pair.ensures.runs) c.in_err-put_pair.was c.from_residual-in_err-put_pair.ensures.1

pub returns-in_err-insert_entry-clause-runs : goal.returns-in_err-insert_entry-clause-runs
returns-in_err-insert_entry-clause-runs g c =
    runs_moved _ 54 105 (omega arith) c.args.store.now c.insert_entry.new.store c.from_residual-in_err-insert_entry.result c.insert_entry.result
    c.in_err-insert_entry.field-0.0
    (entered_tree {meaning = g.S.RecordRead.meaning} c.args.table c.args.key c.in_ok-rid.rid c.args.index c.args.row.now c.args.store.now
    c.put_pair.new.store c.insert_entry.new.store c.put_pair.result c.insert_entry.result c.requires.table
    (entered_pair {meaning = g.S.RecordRead.meaning} c.args.table c.args.key c.in_ok-rid.rid c.args.index c.args.row.now
    c.args.store.now c.add_row.new.store c.put_pair.new.store c.add_row.result c.put_pair.result c.requires.table
    (entered_row {meaning = g.S.RecordRead.meaning} c.args.table c.args.key c.args.index c.args.row.now c.args.store.now
    c.add_row.new.store c.add_row.result c.requires.table (c.add_row.ensures.runs c.args.table c.args.key))
    c.in_ok-rid.was c.put_pair.ensures.runs) c.in_ok-put_pair.was c.insert_entry.ensures.runs)
    c.in_err-insert_entry.was c.from_residual-in_err-insert_entry.ensures.1

pub returns-in_default-clause-runs : goal.returns-in_default-clause-runs
returns-in_default-clause-runs g c =
    entered_none {meaning = g.S.RecordRead.meaning} c.args.table c.args.key c.in_ok-rid.rid c.args.index c.args.row.now c.args.store.now
    c.insert_entry.new.store c.insert_entry.result c.requires.table (omega arith) c.in_ok-rid.ensures.six c.in_default.is
    (entered_tree {meaning = g.S.RecordRead.meaning} c.args.table c.args.key c.in_ok-rid.rid c.args.index c.args.row.now c.args.store.now
    c.put_pair.new.store c.insert_entry.new.store c.put_pair.result c.insert_entry.result c.requires.table
    (entered_pair {meaning = g.S.RecordRead.meaning} c.args.table c.args.key c.in_ok-rid.rid c.args.index c.args.row.now
    c.args.store.now c.add_row.new.store c.put_pair.new.store c.add_row.result c.put_pair.result c.requires.table
    (entered_row {meaning = g.S.RecordRead.meaning} c.args.table c.args.key c.args.index c.args.row.now c.args.store.now
    c.add_row.new.store c.add_row.result c.requires.table (c.add_row.ensures.runs c.args.table c.args.key))
    c.in_ok-rid.was c.put_pair.ensures.runs) c.in_ok-put_pair.was c.insert_entry.ensures.runs) c.in_ok-insert_entry.was

pub returns-clause-runs : goal.returns-clause-runs
returns-clause-runs g c =
    entered_index {meaning = g.S.RecordRead.meaning} c.args.table c.args.key c.in_ok-rid.rid c.in-Some.column c.column-high.result
    c.args.index c.args.row.now c.args.store.now c.insert_entry.new.store c.insert_entry-2.new.store c.insert_entry.result
    c.insert_entry-2.result c.requires.table (omega arith) c.in_ok-rid.ensures.six c.in-Some.is c.column-high.ensures
    (entered_tree {meaning = g.S.RecordRead.meaning} c.args.table c.args.key c.in_ok-rid.rid c.args.index c.args.row.now c.args.store.now
    c.put_pair.new.store c.insert_entry.new.store c.put_pair.result c.insert_entry.result c.requires.table
    (entered_pair {meaning = g.S.RecordRead.meaning} c.args.table c.args.key c.in_ok-rid.rid c.args.index c.args.row.now
    c.args.store.now c.add_row.new.store c.put_pair.new.store c.add_row.result c.put_pair.result c.requires.table
    (entered_row {meaning = g.S.RecordRead.meaning} c.args.table c.args.key c.args.index c.args.row.now c.args.store.now
    c.add_row.new.store c.add_row.result c.requires.table (c.add_row.ensures.runs c.args.table c.args.key))
    c.in_ok-rid.was c.put_pair.ensures.runs) c.in_ok-put_pair.was c.insert_entry.ensures.runs)
    c.in_ok-insert_entry.was c.insert_entry-2.ensures.runs

pub insert_entry-requires-2-clause-fixed : goal.insert_entry-requires-2-clause-fixed
insert_entry-requires-2-clause-fixed g c = rw (c.insert_entry.ensures.runs.by.grow.fixed ∙ c.put_pair.ensures.runs.by.grow.fixed
    ∙ (c.add_row.ensures.runs c.args.table c.args.key).by.grow.fixed) c.requires.fixed

pub insert_entry-requires-2-clause-rid : goal.insert_entry-requires-2-clause-rid
insert_entry-requires-2-clause-rid g c = rw (c.insert_entry.ensures.runs.by.grow.size ∙ c.put_pair.ensures.runs.by.grow.size
    ∙ (c.add_row.ensures.runs c.args.table c.args.key).by.grow.size) c.in_ok-rid.ensures.stored
