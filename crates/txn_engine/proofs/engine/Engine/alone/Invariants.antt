use Rattle.txn_engine.specs.Pass.{engine_of}
use Rattle.std.proofs.Common.{◌≡◌, ◌+◌, ◌-◌, ◌*◌, ◌≤◌, length}
use Rattle.stamp_base.specs.Limits.{greatest_clock}
use Rattle.txn_engine.specs.Joining.{AreOfEngine, refusals_of, come_together}
use Rattle.txn_engine.proofs.Joined.{without_snapshot, resting}
use Rattle.txn_engine.proofs.engine.Engine.alone.Given as goal

abbrev pub invariant-loop-pass : goal.invariant-loop-pass
invariant-loop-pass g l = record {
  together : without_snapshot (come_together l.pass l.remaining.items) ≡ without_snapshot (come_together l.initial.pass l.initial.remaining.items);
  rests : l.pass ≡ resting l.pass;
  engine : engine_of l.pass ≡ l.self;
  of_engine : AreOfEngine l.self l.remaining.items;
  sum : l.earlier + refusals_of l.remaining.items ≡ refusals_of l.initial.remaining.items;
  fewer : length l.remaining.items ≤ length l.initial.remaining.items;
  earlier : l.earlier ≤ (length l.initial.remaining.items - length l.remaining.items) * l.pass.clock;
  in_range : l.pass.clock ≤ greatest_clock;
}

abbrev pub decreases-loop-pass : goal.decreases-loop-pass
decreases-loop-pass g l = length l.remaining.items
