use Rattle.std.proofs.Common.{◌≡◌, ◌≤◌}
use Rattle.txn_engine.specs.Pass.{IsIdleOf}
use Rattle.lane_runner.specs.Blocks.{IsRefused}
use Rattle.lane_runner.specs.Room.{clock_after}
use Rattle.lane_runner.proofs.keeping_up.sync_with_others.Given as goal

abbrev pub invariant-loop-steps : goal.invariant-loop-steps
invariant-loop-steps l = record {
  idle : IsIdleOf l.engine l.pass;
  none : IsRefused 0 l.initial.pass l.pass;
  queue : l.pass.queue ≡ l.initial.pass.queue;
  clock : l.pass.clock ≤ clock_after l.initial.pass.clock 0;
}
