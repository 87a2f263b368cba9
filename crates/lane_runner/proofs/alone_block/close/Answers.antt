use Rattle.std.proofs.Common.{◌≡◌, [], sym, ap, subst, ◌∙◌}
use Rattle.txn_engine.specs.Collecting.{collected}
use Rattle.txn_engine.specs.Lists.{IsRoomyOnceCollected}
use Rattle.txn_engine.specs.Pass.{PassView, observing, removing, with_met}
use Rattle.seat_post.specs.Logs.{IsAbove}
use Rattle.lane_runner.proofs.Held.{collected_alone, Holds-collected, Adds-collected}
use Rattle.lane_runner.proofs.alone_block.close.Goals as goal
use Rattle.lane_runner.proofs.alone_block.close.Goals.{After-collect}

closes : (c : After-collect) → c.collect.new.self.pass ≡ removing (observing (collected (with_met c.args.alone.now.pass c.tell.new.self.pass.met) c.collect.new.self.pass.met c.collect.new.self.pass.bounds []) c.collect.new.self.pass.observed) c.collect.new.self.pass.gone
closes c =
    let w = c.collect.new.self.pass in
    collected_alone c.tell.new.self.pass w c.collect.ensures.collects.after (c.collect.ensures.collects.alone c.collect.ensures.holds) ∙ ap (λ (x : PassView). removing (observing (collected x w.met w.bounds []) w.observed) w.gone) c.tell.ensures.value

pub returns-clause-holds : goal.returns-clause-holds
returns-clause-holds c =
    let r = c.args.alone.now.pass in
    let w = c.collect.new.self.pass in
    let told = c.tell.ensures.value in
    Holds-collected r w c.tell.new.self.pass.met w.met w.bounds (closes c) c.requires.awaits.idle (c.tell.ensures.lawful c.tell.ensures.holds) (subst (λ (x : PassView). IsAbove x.log w.published) told c.collect.ensures.collects.above) c.requires.awaits.absent
    (c.collect.ensures.collects.roomy c.collect.ensures.holds (subst (λ (x : PassView). IsRoomyOnceCollected x) (sym told) c.requires.awaits.roomy))

pub returns-clause-adds : goal.returns-clause-adds
returns-clause-adds c =
    let r = c.args.alone.now.pass in
    let w = c.collect.new.self.pass in
    Adds-collected r w c.tell.new.self.pass.met w.met w.bounds (closes c) c.requires.awaits.idle c.tell.ensures.not_back c.collect.ensures.collects.met

pub returns-clause-clock : goal.returns-clause-clock
returns-clause-clock c = ap (λ (x : PassView). x.clock) (closes c)

pub returns-clause-lawful : goal.returns-clause-lawful
returns-clause-lawful c = c.tell.ensures.lawful c.tell.ensures.holds
