use Rattle.txn_engine.proofs.Passes.{pass_met}
use Rattle.txn_engine.proofs.seat.PassSeat.tell.Goals as goal

pub invariant_of-self : goal.invariant_of-self
invariant_of-self g c = let i = c.self.inside in rw c.tell.ensures.value (pass_met i.post c.tell.new.self.met i.queue i.numbers _ _ c.self.invariant c.tell.ensures.not_back)
