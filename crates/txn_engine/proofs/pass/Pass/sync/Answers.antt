use Rattle.txn_engine.proofs.Passes.{pass_clock, adopted_later}
use Rattle.txn_engine.proofs.pass.Pass.sync.Goals as goal

pub invariant_of-self : goal.invariant_of-self
invariant_of-self g c = let i = c.self.inside in rw c.sync.ensures.value.1 (pass_clock i.post _ i.queue i.numbers _ _ c.self.invariant (adopted_later i.post.clock c.sync.ensures.value.0))
