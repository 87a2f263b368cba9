use Rattle.std.proofs.Common.{Ok, ap, ◌∙◌}
use Rattle.record_store.proofs.Refusals.{torn_moved}
use Rattle.stored_tables.proofs.Ending.{never_refused, called_err, called_done, called_refused, fault_tables, looks_torn_tables, done_outcome, refused_outcome}
use Rattle.stored_tables.proofs.Runs.{ok_of}
use Rattle.stored_tables.proofs.block.exec_txn.Goals as goal

pub returns-in_err-answers-clause-called : goal.returns-in_err-answers-clause-called
returns-in_err-answers-clause-called g c = called_err {meaning = g.S.RecordRead.meaning} c.args.commands.now c.args.store.now
    c.run_commands.new.store c.from_residual.result c.run_commands.result _ c.run_commands.ensures.runs c.from_residual.ensures.1

pub returns-in_err-answers-clause-torn : goal.returns-in_err-answers-clause-torn
returns-in_err-answers-clause-torn g c =
    torn_moved c.from_residual.result c.run_commands.result _ _ c.in_err-answers.was c.from_residual.ensures.1
    (looks_torn_tables (g.S.RecordRead.meaning c.args.store.now) (g.S.RecordRead.meaning c.run_commands.new.store)
    c.run_commands.result c.run_commands.ensures.runs.torn)

pub returns-in_err-answers-clause-fault : goal.returns-in_err-answers-clause-fault
returns-in_err-answers-clause-fault g c = fault_tables g.S.RecordRead.read_gives g.S.RecordStore.write_gives g.S.RecordStore.fresh_gives
    g.S.RecordRead.meaning c.args.commands.now c.run_commands.ensures.runs.asked c.args.store.now c.run_commands.new.store
    c.from_residual.result c.run_commands.result _ c.in_err-answers.was c.from_residual.ensures.1 c.run_commands.ensures.runs.by

pub returns-in-Done-clause-outcome : goal.returns-in-Done-clause-outcome
returns-in-Done-clause-outcome g c =
    done_outcome c.args.commands.now (g.S.RecordRead.meaning c.args.store.now) (g.S.RecordRead.meaning c.run_commands.new.store)
    c.in-Done.answers c.run_commands.ensures.runs.asked
    (ok_of c.run_commands.result _ _ (c.in_ok-answers.was ∙ ap (λ o. Ok o) c.in-Done.is) c.run_commands.ensures.runs.did)

pub returns-in-Done-clause-called : goal.returns-in-Done-clause-called
returns-in-Done-clause-called g c =
    called_done {meaning = g.S.RecordRead.meaning} c.args.commands.now c.args.store.now c.run_commands.new.store c.in-Done.answers
    c.run_commands.result (c.in_ok-answers.was ∙ ap (λ o. Ok o) c.in-Done.is) c.run_commands.ensures.runs

pub returns-in-Refused-clause-outcome : goal.returns-in-Refused-clause-outcome
returns-in-Refused-clause-outcome g c =
    refused_outcome c.args.commands.now (g.S.RecordRead.meaning c.args.store.now) (g.S.RecordRead.meaning c.run_commands.new.store)
    (g.S.RecordRead.meaning c.undo.new.self) c.in-Refused.command c.in-Refused.cause c.undo.ensures.undone
    (ok_of c.run_commands.result _ _ (c.in_ok-answers.was ∙ ap (λ o. Ok o) c.in-Refused.is) c.run_commands.ensures.runs.did)

pub returns-in-Refused-clause-called : goal.returns-in-Refused-clause-called
returns-in-Refused-clause-called g c =
    called_refused {meaning = g.S.RecordRead.meaning} c.args.commands.now c.args.store.now c.run_commands.new.store c.undo.new.self
    c.in-Refused.command c.in-Refused.cause c.run_commands.result (c.in_ok-answers.was ∙ ap (λ o. Ok o) c.in-Refused.is)
    c.undo.ensures.undone c.run_commands.ensures.runs

pub returns-in-Refused-clause-idle : goal.returns-in-Refused-clause-idle
returns-in-Refused-clause-idle g c = λ all. absurd (never_refused c.run_commands.result c.in-Refused.command c.in-Refused.cause
    (c.in_ok-answers.was ∙ ap (λ o. Ok o) c.in-Refused.is) (c.run_commands.ensures.unrefused all))
