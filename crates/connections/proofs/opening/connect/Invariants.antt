use Rattle.std.proofs.Common.{All, List, length, reverse, ◌++◌}
use Rattle.std.specs.Arc.{arc_value}
use Rattle.connections.specs.Connection.{ConnectionView, HoldsTables}
use Rattle.connections.specs.Opening.{AreConnected}
use Rattle.txn_engine.specs.Pass.{IsIdleOf}
use Rattle.connections.proofs.opening.connect.Given as goal

-- the last passes have their connections, in the other order: with those of the other passes before them they are all
abbrev pub invariant-loop-pass : goal.invariant-loop-pass
invariant-loop-pass l = record {
  passes : All (IsIdleOf (arc_value l.engine)) l.remaining.items;
  tables : HoldsTables (arc_value l.engine);
  connected : (cs : List ConnectionView) → AreConnected (arc_value l.engine) l.remaining.items cs → AreConnected (arc_value l.engine) l.fn.passes.items (cs ++ reverse l.connections.items);
}

abbrev pub decreases-loop-pass : goal.decreases-loop-pass
decreases-loop-pass l = length l.remaining.items
