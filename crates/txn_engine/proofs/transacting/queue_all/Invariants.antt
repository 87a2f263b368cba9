use Rattle.std.proofs.Common.{◌≡◌, ◌≤◌, ◌++◌, take}
use Rattle.core_rule.specs.Deciding.{written_values}
use Rattle.txn_engine.specs.Pass.{queued}
use Rattle.txn_engine.proofs.transacting.queue_all.Given as goal

abbrev pub invariant-loop-i : goal.invariant-loop-i
invariant-loop-i l = record {
  items : l.queue.items ≡ l.initial.queue.items ++ queued l.stamp (take l.i (written_values l.sets.writes));
  room : l.initial.queue.room ≤ l.queue.room;
}
