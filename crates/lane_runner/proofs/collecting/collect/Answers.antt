use Rattle.std.proofs.Common.{◌≡◌, ap, sym, subst, ◌∙◌}
use Rattle.txn_engine.specs.Pass.{PassView, IsAlone, engine_of, observing, removing, with_met}
use Rattle.txn_engine.specs.Collecting.{collected}
use Rattle.txn_engine.specs.Lists.{IsRoomyOnceCollected}
use Rattle.lane_runner.proofs.Granted.{none_collected, ready_collected}
use Rattle.lane_runner.proofs.collecting.collect.Goals as goal

pub returns-clause-none : goal.returns-clause-none
returns-clause-none c = none_collected c.args.pass.now c.tell.new.self c.collect.new.self _ _ _ c.tell.ensures.value c.collect.ensures.collects.after c.requires.pass.1 c.tell.ensures.not_back c.collect.ensures.collects.met

pub returns-clause-clock : goal.returns-clause-clock
returns-clause-clock c = ap (λ (x : PassView). x.clock) c.collect.ensures.collects.after ∙ ap (λ (x : PassView). x.clock) c.tell.ensures.value

pub returns-clause-queue : goal.returns-clause-queue
returns-clause-queue c = λ alone. c.collect.ensures.collects.alone (subst (λ (x : PassView). IsAlone x) (sym c.tell.ensures.value) alone)

pub returns-clause-ready : goal.returns-clause-ready
returns-clause-ready c = λ ready.
    let r = c.collect.new.self in
    let is : r ≡ removing (observing (collected (with_met c.args.pass.now c.tell.new.self.met) r.met r.bounds r.queue) r.observed) r.gone = c.collect.ensures.collects.after ∙ ap (λ (x : PassView). removing (observing (collected x r.met r.bounds r.queue) r.observed) r.gone) c.tell.ensures.value in
    let told = c.tell.ensures.value in
    ready_collected c.args.pass.now r (ap engine_of is) (ap (λ (x : PassView). x.seat) is) (ap (λ (x : PassView). x.others) is) (ap (λ (x : PassView). x.given) is) (ap (λ (x : PassView). x.spare) is) (ap (λ (x : PassView). x.log) is)
    ready (c.collect.ensures.collects.roomy (subst (λ (x : PassView). IsAlone x) (sym told) ready.alone) (subst (λ (x : PassView). IsRoomyOnceCollected x) (sym told) ready.roomy))
