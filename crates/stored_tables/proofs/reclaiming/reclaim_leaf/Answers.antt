use Rattle.stored_tables.proofs.ReclaimRuns.{leaf_runs}
use Rattle.stored_tables.proofs.TornChanges.{leaf_changes}
use Rattle.stored_tables.proofs.reclaiming.reclaim_leaf.Goals as goal

pub returns-clause-runs : goal.returns-clause-runs
returns-clause-runs g c =
    leaf_runs {meaning = g.S.RecordRead.meaning} (λ freed. freed.items) c.args.tree c.root_of.result c.args.key c.args.store.now
    c.reclaim.new.store c.reclaim.result c.requires.tree c.root_of.ensures.root c.requires.fixed c.reclaim.ensures.ok
    c.reclaim.ensures.torn c.reclaim.ensures.walk.by c.reclaim.ensures.few c.reclaim.ensures.writes

pub returns-clause-tears : goal.returns-clause-tears
returns-clause-tears g c = λ table of.
    leaf_changes table c.args.tree c.root_of.result c.args.key (g.S.RecordRead.meaning c.args.store.now)
    (g.S.RecordRead.meaning c.reclaim.new.store) c.reclaim.result of c.root_of.ensures.root c.reclaim.ensures.torn c.reclaim.ensures.unwritten
