use Rattle.std.proofs.Common.{ap, arith}
use Rattle.txn_engine.specs.Alone.{AloneView}
use Rattle.txn_engine.proofs.alone.Alone.refusals.Goals as goal

pub overflow_add-result : goal.overflow_add-result
overflow_add-result g c = let p = c.refusals.ensures.value in let few = c.refusals.ensures.at_most in let most = c.refusals.ensures.clock in let e = c.self.invariant.counts in omega arith

pub returns-clause-at_most : goal.returns-clause-at_most
returns-clause-at_most g c =
    let few = c.refusals.ensures.at_most in
    let e = c.self.invariant.counts in
    let clock = ap (λ (a : AloneView). a.pass.clock) c.self.view_is in
    omega arith
