use Rattle.std.proofs.Common.{suc, ◌≤◌, ap, subst, arith}
use Rattle.seat_post.specs.Post.{PostView}
use Rattle.txn_engine.specs.Collecting.{CollectsPass}
use Rattle.txn_engine.specs.Inside.{pass_view}
use Rattle.txn_engine.specs.Pass.{PassView}
use Rattle.txn_engine.proofs.CollectMore.{all_below, pass_collected, tidy_collected, roomy_collected}
use Rattle.txn_engine.proofs.seat.PassSeat.collect.Goals as goal

pub collect-requires-clause-below : goal.collect-requires-clause-below
collect-requires-clause-below g c = all_below _ _ _ _ c.self.invariant.log.queued c.self.invariant.clock.commits

pub invariant_of-self : goal.invariant_of-self
invariant_of-self g c =
    let i = c.self.inside in
    let e = c.collect.ensures in
    rw e.after (pass_collected i.post _ c.collect.new.self.bounds i.queue c.collect.new.queue _ i.numbers _ _ c.self.invariant e.met e.collects.queue e.room)

pub returns-clause-collects : goal.returns-clause-collects
returns-clause-collects g c =
    let i = c.self.inside in
    let p = i.post in
    let e = c.collect.ensures in
    let view = λ (x : PostView). pass_view x i.boost c.collect.new.queue i.numbers i.refusals i.commits i.dead i.counted in
    subst (λ (x : PassView). CollectsPass x (view c.collect.new.self) c.collect.result) c.self.view_is (record {
      after = ap view e.after;
      collects = e.collects;
      grows = e.grows;
      met = e.met;
      within = e.within;
      above = λ x among commit. let h = c.self.invariant.clock.commits x among commit in let a = ap (λ q. q.published) e.after in omega arith;
      counts = e.bounds;
      tops = e.tops;
      alone = e.alone;
      seen = e.seen;
      single = e.single;
      tidy = λ alone before r within. tidy_collected i.queue.items p.bounds c.collect.new.self.bounds.counts r e.bounds (e.single alone) (before r (subst (λ (q : PostView). suc r ≤ q.shared.size.records) e.after within));
      roomy = λ alone before r within. roomy_collected i.queue.items p.bounds c.collect.new.self.bounds.counts r e.bounds (e.single alone) (before r (subst (λ (q : PostView). suc r ≤ q.shared.size.records) e.after within));
    })
