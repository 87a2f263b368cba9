use Rattle.std.proofs.Common.{length}
use Rattle.connections.proofs.Giving.{Giving}
use Rattle.connections.proofs.handing.give.Given as goal

abbrev pub invariant-loop-pass : goal.invariant-loop-pass
invariant-loop-pass l = Giving l.keep l.fn.pass l.pass l.fn.numbers l.numbers

abbrev pub decreases-loop-pass : goal.decreases-loop-pass
decreases-loop-pass l = length l.pass.spare
