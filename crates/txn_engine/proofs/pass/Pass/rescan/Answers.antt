use Rattle.std.proofs.Common.{◌≡◌, ap, subst, rules, arith}
use Rattle.stamp_base.specs.Stamp.{bound_of_clock}
use Rattle.seat_post.specs.Leaves.{AreAbsent}
use Rattle.seat_post.specs.Logs.{IsAbove}
use Rattle.seat_post.specs.Post.{PostView}
use Rattle.txn_engine.specs.Inside.{pass_view}
use Rattle.txn_engine.specs.Pass.{PassView, observing}
use Rattle.txn_engine.specs.Rescan.{rescanned}
use Rattle.txn_engine.proofs.Accounting.{absent_rescanned}
use Rattle.txn_engine.proofs.Passes.{pass_met}
use Rattle.txn_engine.proofs.pass.Pass.rescan.Goals as goal

pub invariant_of-self : goal.invariant_of-self
invariant_of-self g c =
    let i = c.self.inside in
    let e = c.look_over.ensures in
    let met = ap (λ (p : PostView). p.met) e.value in
    let later = e.not_back in
    rw (e.value, e.numbers, c.clear.ensures) (pass_met i.post _ i.queue i.numbers _ _ c.self.invariant (omega arith))

pub returns : goal.returns
returns g c =
    let i = c.self.inside in
    let p = c.args.self.now in
    let q = pass_view c.look_over.new.self i.boost i.queue c.look_over.new.numbers i.refusals i.commits i.dead i.counted in
    let above = subst (λ (x : PassView). IsAbove x.log (bound_of_clock x.clock)) c.self.view_is c.self.invariant.clock.commits in
    let after : q ≡ observing (rescanned p q.spare) q.observed = search rules in
    let absent : AreAbsent p.log q.published p.fixed p.shared.size.records q.spare = search rules in
    record { rescans = record { after = after; absent = absent; held = absent_rescanned p q after above absent; count = search rules; above = above; not_back = search rules; loads = search rules } }
