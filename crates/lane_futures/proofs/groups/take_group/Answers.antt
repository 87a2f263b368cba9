use Rattle.std.proofs.Common.{◌∙◌, arith}
use Rattle.lane_threads.proofs.LaneLists.{taken_may}
use Rattle.lane_futures.proofs.groups.take_group.Goals as goal

pub new-requires : goal.new-requires
new-requires g c =
    let t = c.in-Some.ensures in
    taken_may c.args.taker.now.lanes c.take.new.pass.lanes c.loop.taker.took c.take.new.pass.took c.in-Some.lane t.some.0 (t.pass.same_lanes ∙ c.loop.invariant.same.same_lanes) t.in_order c.requires.lanes

pub returns-clause-few : goal.returns-clause-few
returns-clause-few g c = omega (arith, c.loop.invariant.count, c.loop.auto.counter-end)
