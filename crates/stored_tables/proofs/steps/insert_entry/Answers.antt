use Rattle.std.proofs.Common.{arith}
use Rattle.stored_tables.proofs.Runs.{runs_moved, runs_value, runs_torn, unlike}
use Rattle.stored_tables.proofs.StepRuns.{inserted_runs}
use Rattle.record_store.proofs.Refusals.{torn_moved}
use Rattle.stored_tables.proofs.TornChanges.{tree_changes, tree_has}
use Rattle.stored_tables.proofs.steps.insert_entry.Goals as goal

pub returns-in_err-insert-clause-runs : goal.returns-in_err-insert-clause-runs
returns-in_err-insert-clause-runs g c =
    runs_moved _ 51 51 (omega arith) c.args.store.now c.insert.new.store c.from_residual.result c.insert.result c.in_err-insert.field-0.0
    (inserted_runs {meaning = g.S.RecordRead.meaning} c.args.tree c.root_of-root.result c.args.key c.args.rid c.args.store.now
    c.insert.new.store c.insert.result c.requires.tree c.root_of-root.ensures.root c.requires.fixed c.insert.ensures.ok
    c.insert.ensures.torn c.insert.ensures.walk c.insert.ensures.writes c.insert.ensures.few)
    c.in_err-insert.was c.from_residual.ensures.1

pub returns-then-branch-clause-runs : goal.returns-then-branch-clause-runs
returns-then-branch-clause-runs g c =
    runs_value _ 51 51 c.args.store.now c.insert.new.store c.insert.result _ _ (omega arith)
    (inserted_runs {meaning = g.S.RecordRead.meaning} c.args.tree c.root_of-root.result c.args.key c.args.rid c.args.store.now
    c.insert.new.store c.insert.result c.requires.tree c.root_of-root.ensures.root c.requires.fixed c.insert.ensures.ok
    c.insert.ensures.torn c.insert.ensures.walk c.insert.ensures.writes c.insert.ensures.few)
    c.in_ok-insert.was (λ asked state places agrees has did. did.1)

pub returns-else-branch-clause-runs : goal.returns-else-branch-clause-runs
returns-else-branch-clause-runs g c =
    runs_torn _ 51 51 (omega arith) c.args.store.now c.insert.new.store c.insert.result _ _
    (inserted_runs {meaning = g.S.RecordRead.meaning} c.args.tree c.root_of-root.result c.args.key c.args.rid c.args.store.now
    c.insert.new.store c.insert.result c.requires.tree c.root_of-root.ensures.root c.requires.fixed c.insert.ensures.ok
    c.insert.ensures.torn c.insert.ensures.walk c.insert.ensures.writes c.insert.ensures.few)
    c.in_ok-insert.was (λ asked state places agrees has did. unlike _ did.0 c.if-branch.false)

pub returns-in_err-insert-clause-tears : goal.returns-in_err-insert-clause-tears
returns-in_err-insert-clause-tears g c = λ table of.
    torn_moved c.from_residual.result c.insert.result c.in_err-insert.field-0.0 _ c.in_err-insert.was c.from_residual.ensures.1
    (tree_changes table c.args.tree c.root_of-root.result c.args.key (g.S.RecordRead.meaning c.args.store.now) (g.S.RecordRead.meaning c.insert.new.store)
    c.insert.result of c.root_of-root.ensures.root c.insert.ensures.torn c.insert.ensures.unwritten)

pub returns-else-branch-clause-tears : goal.returns-else-branch-clause-tears
returns-else-branch-clause-tears g c = λ table of.
    tree_has table c.args.tree c.root_of-root.result c.args.key (g.S.RecordRead.meaning c.args.store.now)
    (g.S.RecordRead.meaning c.insert.new.store) of c.root_of-root.ensures.root (c.in_ok-insert.ensures.ok.unchanged c.if-branch.false)
    c.in_ok-insert.ensures.walked (c.in_ok-insert.ensures.ok.there c.if-branch.false)
