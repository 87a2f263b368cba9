use Rattle.snap_dump.proofs.Placed.{none_made}
use Rattle.snap_dump.proofs.dumping.DumpingLaneRun.first.Goals as goal

pub work_dumping-done-requires-clause-none : goal.work_dumping-done-requires-clause-none
work_dumping-done-requires-clause-none g c = none_made c.args.reader.made.items c.requires.none
