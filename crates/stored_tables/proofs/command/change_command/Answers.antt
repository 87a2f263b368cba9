use Rattle.stored_tables.proofs.command.change_command.Goals as goal

pub returns-in-Put-clause-runs : goal.returns-in-Put-clause-runs
returns-in-Put-clause-runs g c = rw c.in-Put.is c.put_row.ensures.runs

pub returns-in-Ins-clause-runs : goal.returns-in-Ins-clause-runs
returns-in-Ins-clause-runs g c = rw c.in-Ins.is c.insert_row.ensures.runs

pub returns-in-Del-clause-runs : goal.returns-in-Del-clause-runs
returns-in-Del-clause-runs g c = rw c.in-Del.is c.delete_row.ensures.runs

pub returns-in-Add-clause-runs : goal.returns-in-Add-clause-runs
returns-in-Add-clause-runs g c = rw c.in-Add.is c.change_column.ensures.runs

pub returns-in-Sub-clause-runs : goal.returns-in-Sub-clause-runs
returns-in-Sub-clause-runs g c = rw c.in-Sub.is c.change_column-in-Sub.ensures.runs
