use Rattle.std.proofs.Common.{arith}
use Rattle.txn_engine.proofs.Passes.{pass_clock}
use Rattle.txn_engine.proofs.seat.PassSeat.hear.Goals as goal

pub invariant_of-self : goal.invariant_of-self
invariant_of-self g c = let i = c.self.inside in rw c.hear.ensures.value (pass_clock i.post _ i.queue i.numbers _ _ c.self.invariant (omega arith))
