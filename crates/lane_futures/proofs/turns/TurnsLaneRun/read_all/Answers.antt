use Rattle.lane_threads.proofs.LaneLists.{reads_none}
use Rattle.lane_futures.proofs.turns.TurnsLaneRun.read_all.Goals as goal

pub returns-clause-reads : goal.returns-clause-reads
returns-clause-reads g c = reads_none c.args._alone.now c.requires.pass.idle
