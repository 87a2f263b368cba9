use Rattle.stored_tables.proofs.StepRuns.{put_runs}
use Rattle.stored_tables.proofs.TornChanges.{chain_changes}
use Rattle.stored_tables.proofs.steps.put_pair.Goals as goal

pub returns-clause-runs : goal.returns-clause-runs
returns-clause-runs g c =
    put_runs {meaning = g.S.RecordRead.meaning} c.args.table c.base_of.result c.args.key c.args.rid c.args.store.now c.put.new.store
    c.put.result c.requires.table c.base_of.ensures.base c.requires.fixed c.put.ensures.ok c.put.ensures.torn c.put.ensures.walk c.put.ensures.writes

pub returns-clause-tears : goal.returns-clause-tears
returns-clause-tears g c =
    chain_changes c.args.table c.base_of.result c.args.key (g.S.RecordRead.meaning c.args.store.now) (g.S.RecordRead.meaning c.put.new.store)
    c.put.result c.base_of.ensures.base c.put.ensures.torn c.put.ensures.unwritten
