use Rattle.stored_tables.proofs.Ending.{snap_outcome, looks_torn_tables}
use Rattle.stored_tables.proofs.block.exec_snap.Goals as goal

pub returns-clause-outcome : goal.returns-clause-outcome
returns-clause-outcome g c = snap_outcome c.args.commands.now (g.S.RecordRead.meaning c.args.store.now)
    (g.S.RecordRead.meaning c.read_commands.new.store) c.read_commands.result c.read_commands.ensures.looks.found

pub returns-clause-torn : goal.returns-clause-torn
returns-clause-torn g c = looks_torn_tables (g.S.RecordRead.meaning c.args.store.now) (g.S.RecordRead.meaning c.read_commands.new.store)
    c.read_commands.result c.read_commands.ensures.looks.torn
