use Rattle.std.proofs.Common.{arith}
use Rattle.stored_tables.proofs.Finding.{stands_on}
use Rattle.stored_tables.proofs.ReadingCommands.{not_idle, reads_by, read_does}
use Rattle.stored_tables.proofs.Runs.{looks_runs, runs_did}
use Rattle.stored_tables.proofs.TornChanges.{reads_name}
use Rattle.stored_tables.proofs.command.run_command.Goals as goal

pub returns-in-Get-clause-runs : goal.returns-in-Get-clause-runs
returns-in-Get-clause-runs g c =
    looks_runs _ _ 128 c.args.store.now c.read_command.new.store c.read_command.result c.read_command.ensures.looks
    (λ value state held agrees stands answers. read_does c.args.command.now value (g.S.RecordRead.meaning c.read_command.new.store) state
    held (reads_by c.args.command.now c.in-Get.is)
    (stands_on (g.S.RecordRead.meaning c.args.store.now) (g.S.RecordRead.meaning c.read_command.new.store) state held
    c.read_command.ensures.looks.by.only stands) answers)

pub returns-in_default-clause-runs : goal.returns-in_default-clause-runs
returns-in_default-clause-runs g c =
    runs_did _ 105 128 c.args.store.now c.change_command.new.store c.change_command.result (omega arith) c.change_command.ensures.runs
    (λ value asked state held stands did. did)

pub returns-in_default-clause-idle : goal.returns-in_default-clause-idle
returns-in_default-clause-idle g c = λ idle. absurd (not_idle c.args.command.now c.in_default.not-Scan idle)

pub returns-in_default-clause-answered : goal.returns-in_default-clause-answered
returns-in_default-clause-answered g c = λ idle. absurd (not_idle c.args.command.now c.in_default.not-Scan idle)

pub returns-in-Get-clause-tears : goal.returns-in-Get-clause-tears
returns-in-Get-clause-tears g c =
    reads_name _ (g.S.RecordRead.meaning c.args.store.now) (g.S.RecordRead.meaning c.read_command.new.store) c.read_command.result
    c.read_command.ensures.looks.by.only c.read_command.ensures.tears
