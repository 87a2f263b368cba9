use Rattle.std.proofs.Common.{ap, subst, ◌∙◌, arith}
use Rattle.seat_post.specs.Leaves.{AreLeft}
use Rattle.seat_post.specs.Post.{PostView}
use Rattle.txn_engine.specs.Pass.{PassView, IsAlone}
use Rattle.txn_engine.proofs.Passes.{pass_closed, at_most_one}
use Rattle.txn_engine.proofs.at_pass.PassSeatCalls.abort.Goals as goal

pub let_go-requires-clause-room : goal.let_go-requires-clause-room
let_go-requires-clause-room g c =
    let phase = ap (λ (p : PassView). p.phase) c.self.view_is ∙ c.requires in
    let h = c.self.invariant.clock.in_flight (λ off. cc) in
    let few = at_most_one c.self.inside.counted in
    let more = c.one_if-more.ensures in
    let clock = ap (λ (p : PostView). p.clock) c.close.ensures.closed in
    omega arith

pub invariant_of-self : goal.invariant_of-self
invariant_of-self g c =
    let i = c.self.inside in
    let phase = ap (λ (p : PassView). p.phase) c.self.view_is ∙ c.requires in
    rw c.close.ensures.closed (pass_closed i.post i.queue i.numbers _ _ _ c.self.invariant (λ off. cc) (omega arith))

pub returns-clause-read_left : goal.returns-clause-read_left
returns-clause-read_left g c = subst (λ (p : PassView). IsAlone p → AreLeft p.log p.stamp p.reads) c.self.view_is c.close.ensures.read_left
