use Rattle.std.proofs.Common.{arith}
use Rattle.stored_tables.proofs.Runs.{runs_moved, runs_value, runs_torn, unlike}
use Rattle.stored_tables.proofs.StepRuns.{taken_runs}
use Rattle.record_store.proofs.Going.{by_calls_moved, by_calls_quiet}
use Rattle.record_store.proofs.Refusals.{torn_moved}
use Rattle.stored_tables.proofs.TornChanges.{tree_changes, tree_lacks}
use Rattle.stored_tables.proofs.steps.remove_entry.Goals as goal

pub returns-in_err-remove-clause-runs : goal.returns-in_err-remove-clause-runs
returns-in_err-remove-clause-runs g c = λ rid.
    runs_moved _ 1 1 (omega arith) c.args.store.now c.remove.new.store c.from_residual.result c.remove.result c.in_err-remove.field-0.0
    (taken_runs {meaning = g.S.RecordRead.meaning} c.args.tree c.root_of-root.result c.args.key rid c.args.store.now c.remove.new.store
    c.remove.result c.requires.tree c.root_of-root.ensures.root c.requires.fixed c.remove.ensures.ok c.remove.ensures.torn
    c.remove.ensures.walk.by c.remove.ensures.few c.remove.ensures.writes)
    c.in_err-remove.was c.from_residual.ensures.1

pub returns-then-branch-clause-runs : goal.returns-then-branch-clause-runs
returns-then-branch-clause-runs g c = λ rid.
    runs_value _ 1 1 c.args.store.now c.remove.new.store c.remove.result _ _ (omega arith)
    (taken_runs {meaning = g.S.RecordRead.meaning} c.args.tree c.root_of-root.result c.args.key rid c.args.store.now c.remove.new.store
    c.remove.result c.requires.tree c.root_of-root.ensures.root c.requires.fixed c.remove.ensures.ok c.remove.ensures.torn
    c.remove.ensures.walk.by c.remove.ensures.few c.remove.ensures.writes) c.in_ok-remove.was
    (λ asked state places agrees has did. did.1)

pub returns-else-branch-clause-runs : goal.returns-else-branch-clause-runs
returns-else-branch-clause-runs g c = λ rid.
    runs_torn _ 1 1 (omega arith) c.args.store.now c.remove.new.store c.remove.result _ _
    (taken_runs {meaning = g.S.RecordRead.meaning} c.args.tree c.root_of-root.result c.args.key rid c.args.store.now c.remove.new.store
    c.remove.result c.requires.tree c.root_of-root.ensures.root c.requires.fixed c.remove.ensures.ok c.remove.ensures.torn
    c.remove.ensures.walk.by c.remove.ensures.few c.remove.ensures.writes) c.in_ok-remove.was
    (λ asked state places agrees has did. unlike _ did.0 c.if-branch.false)

pub returns-in_err-remove-clause-asks_nothing : goal.returns-in_err-remove-clause-asks_nothing
returns-in_err-remove-clause-asks_nothing g c =
    by_calls_moved c.args.store.now c.remove.new.store c.from_residual.result c.remove.result c.in_err-remove.field-0.0 c.in_err-remove.was
    c.from_residual.ensures.1 c.remove.ensures.walk.by

pub returns-then-branch-clause-asks_nothing : goal.returns-then-branch-clause-asks_nothing
returns-then-branch-clause-asks_nothing g c =
    by_calls_quiet _ c.args.store.now c.remove.new.store _ c.remove.result tt c.remove.ensures.walk.by

pub returns-else-branch-clause-asks_nothing : goal.returns-else-branch-clause-asks_nothing
returns-else-branch-clause-asks_nothing g c =
    by_calls_quiet _ c.args.store.now c.remove.new.store _ c.remove.result tt c.remove.ensures.walk.by

pub returns-in_err-remove-clause-tears : goal.returns-in_err-remove-clause-tears
returns-in_err-remove-clause-tears g c = λ table of.
    torn_moved c.from_residual.result c.remove.result c.in_err-remove.field-0.0 _ c.in_err-remove.was c.from_residual.ensures.1
    (tree_changes table c.args.tree c.root_of-root.result c.args.key (g.S.RecordRead.meaning c.args.store.now) (g.S.RecordRead.meaning c.remove.new.store)
    c.remove.result of c.root_of-root.ensures.root c.remove.ensures.torn c.remove.ensures.unwritten)

pub returns-else-branch-clause-tears : goal.returns-else-branch-clause-tears
returns-else-branch-clause-tears g c = λ table of.
    tree_lacks table c.args.tree c.root_of-root.result c.args.key _ (g.S.RecordRead.meaning c.args.store.now)
    (g.S.RecordRead.meaning c.remove.new.store) of c.root_of-root.ensures.root c.if-branch.false
    (c.in_ok-remove.ensures.ok.unchanged c.if-branch.false) c.remove.ensures.walk.by.grow.size c.in_ok-remove.ensures.walked
    c.in_ok-remove.ensures.ok.answer
