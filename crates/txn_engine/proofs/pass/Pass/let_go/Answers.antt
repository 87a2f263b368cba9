use Rattle.std.proofs.Common.{ap, ◌∙◌, arith}
use Rattle.txn_engine.specs.Pass.{PassView}
use Rattle.txn_engine.proofs.Passes.{pass_let_go}
use Rattle.txn_engine.proofs.pass.Pass.let_go.Goals as goal

pub invariant_of-self : goal.invariant_of-self
invariant_of-self g c =
    let i = c.self.inside in
    let idle = ap (λ (p : PassView). p.phase) c.self.view_is ∙ c.requires.idle in
    let refusals = ap (λ (p : PassView). p.refusals) c.self.view_is in
    let clock = ap (λ (p : PassView). p.clock) c.self.view_is in
    let room = c.requires.room in
    let counts = c.self.invariant.clock.counts in
    rw c.take_back.ensures.after (pass_let_go i.post i.queue i.numbers _ _ i.dead c.self.invariant idle (omega arith))
