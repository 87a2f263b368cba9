use Rattle.std.proofs.Common.{◌≡◌, ◌≤◌, length}
use Rattle.txn_engine.specs.Pass.{engine_of}
use Rattle.lane_runner.specs.Session.{LeadsOn, tries_left}
use Rattle.snap_dump.specs.Beside.{AreBeside}
use Rattle.snap_dump.specs.Dumps.{DumpsMade, how_many}
use Rattle.snap_dump.proofs.lanes.run_lane_dumping.Given as goal

abbrev pub invariant-attempts : goal.invariant-attempts
invariant-attempts g l = record {
  engine : engine_of l.pass ≡ l.engine;
  leads : LeadsOn (how_many l.initial.made.items l.made.items) l.initial.pass l.pass l.initial.session l.session;
  made : DumpsMade l.initial.pass l.pass l.initial.made.items l.made.items;
  beside : AreBeside l.due l.initial.made.items made.more l.session.results;
  within : length l.made.items ≤ l.due;
}

abbrev pub decreases-attempts : goal.decreases-attempts
decreases-attempts g l = tries_left l.session
