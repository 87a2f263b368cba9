use Rattle.std.proofs.Common.{ap, subst, arith}
use Rattle.txn_engine.specs.Pass.{PassView}
use Rattle.txn_engine.specs.Inside.{pass_view}
use Rattle.seat_post.specs.Post.{PostView}
use Rattle.txn_engine.specs.Snapshot.{Begins}
use Rattle.txn_engine.proofs.Passes.{pass_later}
use Rattle.txn_engine.proofs.at_pass.PassSeatCalls.begin_snapshot.Goals as goal

pub invariant_of-self : goal.invariant_of-self
invariant_of-self g c =
    let i = c.self.inside in
    let e = c.begin_snapshot.ensures in
    rw e.after (pass_later i.post i.post.clock _ i.post.log i.queue i.numbers _ _ c.self.invariant (omega arith) c.self.invariant.clock.commits e.snapshots (λ x among. among))

pub returns-clause-begins : goal.returns-clause-begins
returns-clause-begins g c =
    let e = c.begin_snapshot.ensures in
    let i = c.self.inside in
    subst (λ (p : PassView). Begins p (pass_view c.begin_snapshot.new.self i.boost i.queue i.numbers i.refusals i.commits i.dead i.counted)) c.self.view_is (record {
      stamp = c.begin_snapshot.result;
      pass = ap (λ (q : PostView). pass_view q i.boost i.queue i.numbers i.refusals i.commits i.dead i.counted) e.after;
      minimum = e.minimum;
      met = e.met;
      snapshots = e.snapshots;
      below = e.below;
      below_next = e.below_next;
      alone = e.alone;
    })
