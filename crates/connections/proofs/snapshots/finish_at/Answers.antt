use Rattle.std.proofs.Common.{rules}
use Rattle.connections.proofs.Finished.{finishes_at}
use Rattle.connections.proofs.snapshots.finish_at.Goals as goal

pub returns-clause-finishes : goal.returns-clause-finishes
returns-clause-finishes c = finishes_at c.args.pass.now c.resume.result.seat.now _ _ c.finish.result c.resume.ensures.seat (search rules) c.finish.ensures.finishes
