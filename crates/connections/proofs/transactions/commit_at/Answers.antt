use Rattle.std.proofs.Common.{rules, ◌≤◌, Ok, Err, refl, ap, arith}
use Rattle.record_store.specs.Limits.{record_limit}
use Rattle.engine_answers.specs.declared.faults.CommitFault.TheVariants as commit
use Rattle.connections.proofs.Txns.{commits_txn, fits_open}
use Rattle.connections.proofs.transactions.commit_at.Goals as goal

pub commit-requires-clause-fits : goal.commit-requires-clause-fits
commit-requires-clause-fits c =
    let few : c.args.engine.now.size.records ≤ record_limit = let is = c.records.ensures.in_range.records_in_range in omega arith in
    fits_open c.args.engine.now c.args.pass.now c.resume.result.seat.now c.resume.ensures.seat c.requires.pass c.keeps_tables.ensures few

pub returns-in-Ok-clause-commits : goal.returns-in-Ok-clause-commits
returns-in-Ok-clause-commits c = commits_txn _ c.resume.result.seat.now _ _ _ (Ok c.in-Ok.committed) c.resume.ensures.seat (search rules) (ap Ok c.number.ensures.value) c.in-Ok.ensures.commits

pub returns-in-Err-Conflict-clause-commits : goal.returns-in-Err-Conflict-clause-commits
returns-in-Err-Conflict-clause-commits c = commits_txn _ c.resume.result.seat.now _ _ _ (Err (commit.Conflict c.in-Err-Conflict.conflict)) c.resume.ensures.seat (search rules) refl
    (rw c.in-Err-Conflict.field-0-is at c.in-Err-Conflict.ensures.commits)

pub returns-in-Err-PlacesOut-clause-commits : goal.returns-in-Err-PlacesOut-clause-commits
returns-in-Err-PlacesOut-clause-commits c = commits_txn _ c.resume.result.seat.now _ _ _ (Err commit.PlacesOut) c.resume.ensures.seat (search rules) refl
    (rw c.in-Err-PlacesOut.field-0-is at c.in-Err-PlacesOut.ensures.commits)
