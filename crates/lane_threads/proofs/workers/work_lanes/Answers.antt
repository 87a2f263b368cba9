use Rattle.std.proofs.Common.{List, ◌++◌, refl, sym, ◌∙◌, subst}
use Rattle.lane_queue.specs.declared.lane.Lane.{Lane}
use Rattle.lane_runner.specs.declared.done.LaneDone.{LaneDone}
use Rattle.lane_threads.specs.Workers.{DoesLanes}
use Rattle.lane_runner.proofs.Answered.{not_ok}
use Rattle.lane_runner.proofs.Adding.{Adds-trans}
use Rattle.lane_threads.proofs.LaneLists.{taken_may, taken_room, DoesLanes-none, DoesLanes-next}
use Rattle.lane_threads.proofs.workers.work_lanes.Goals as goal

pub loop-init : goal.loop-init
loop-init g c = record {
  queue_is = c.requires.may_work.queue_is;
  engine_is = c.requires.may_work.uses.same;
  same = record { same_queue = refl; same_lanes = refl; same_share = refl };
  does =
      subst (λ (y : List Lane × List LaneDone). DoesLanes c.args.tries c.args.pass.now c.args.pass.now y.0 y.1) (λ i. (sym c.requires.may_work.fresh.took_none i, sym c.new-done.ensures.items i))
      (DoesLanes-none c.args.tries c.args.pass.now c.requires.may_work.uses.idle);
}

pub run_lane-requires-clause-blocks : goal.run_lane-requires-clause-blocks
run_lane-requires-clause-blocks g c =
    let t = c.in-Some-take.ensures in
    taken_may c.args.taker.now.lanes c.take.new.pass.lanes c.loop.taker.took c.take.new.pass.took c.in-Some-take.lane t.some.0 (t.pass.same_lanes ∙ c.loop.invariant.same.same_lanes) t.in_order c.requires.may_work.lanes

pub run_lane-requires-clause-room : goal.run_lane-requires-clause-room
run_lane-requires-clause-room g c =
    let t = c.in-Some-take.ensures in
    taken_room c.args.taker.now.lanes c.take.new.pass.lanes c.loop.taker.took c.take.new.pass.took c.in-Some-take.lane t.some.0 (t.pass.same_lanes ∙ c.loop.invariant.same.same_lanes) t.in_order
    c.args.tries c.args.pass.now.clock c.loop.pass.clock c.requires.may_work.room c.loop.invariant.does.clock

pub returns-in_err-ran-clause-adds : goal.returns-in_err-ran-clause-adds
returns-in_err-ran-clause-adds g c =
    let so_far = c.loop.invariant.does in
    let more = c.run_lane.ensures.adds in
    (so_far.entries ++ more.0, Adds-trans c.args.pass.now c.loop.pass c.run_lane.new.pass so_far.entries more.0 so_far.adds more.1)

pub loop-preserved : goal.loop-preserved
loop-preserved g c =
    let i = c.loop.invariant in
    let t = c.in-Some-take.ensures in
    let ran = c.in_ok-ran.ensures in record {
      queue_is = t.pass.same_queue ∙ i.queue_is;
      engine_is = c.run_lane.ensures.adds.1.engine ∙ i.engine_is;
      same = record { same_queue = t.pass.same_queue ∙ i.same.same_queue; same_lanes = t.pass.same_lanes ∙ i.same.same_lanes; same_share = t.pass.same_share ∙ i.same.same_share };
      does = DoesLanes-next c.args.tries c.args.pass.now c.loop.pass c.run_lane.new.pass c.loop.taker.took c.take.new.pass.took c.in-Some-take.lane c.loop.done.items c.push.new.self.items c.in_ok-ran.ran t.some.0 c.in_ok-push.ensures.items i.does ran.does ran.rest c.run_lane.ensures.clock;
    }

pub returns-in_err-push-clause-adds : goal.returns-in_err-push-clause-adds
returns-in_err-push-clause-adds g c =
    let so_far = c.loop.invariant.does in
    let more = c.run_lane.ensures.adds in
    (so_far.entries ++ more.0, Adds-trans c.args.pass.now c.loop.pass c.run_lane.new.pass so_far.entries more.0 so_far.adds more.1)

pub take-requires : goal.take-requires
take-requires g c = c.loop.invariant.queue_is

pub run_lane-requires-clause-pass : goal.run_lane-requires-clause-pass
run_lane-requires-clause-pass g c = record { same = c.loop.invariant.engine_is; idle = c.loop.invariant.does.adds.idle; fixed = c.requires.may_work.uses.fixed }

pub returns-in_err-ran-clause-ended : goal.returns-in_err-ran-clause-ended
returns-in_err-ran-clause-ended g c = not_ok c.from_residual.result _ c.from_residual.ensures.0

pub returns-in_err-ran-clause-does : goal.returns-in_err-ran-clause-does
returns-in_err-ran-clause-does g c = not_ok c.from_residual.result _ c.from_residual.ensures.0

pub returns-in_err-push-clause-ended : goal.returns-in_err-push-clause-ended
returns-in_err-push-clause-ended g c = not_ok c.from_residual-in_err-push.result _ c.from_residual-in_err-push.ensures.0

pub returns-in_err-push-clause-does : goal.returns-in_err-push-clause-does
returns-in_err-push-clause-does g c = not_ok c.from_residual-in_err-push.result _ c.from_residual-in_err-push.ensures.0

pub returns-in_err-ran-clause-same : goal.returns-in_err-ran-clause-same
returns-in_err-ran-clause-same g c =
    let i = c.loop.invariant.same in
    let t = c.in-Some-take.ensures.pass in
    record { same_queue = t.same_queue ∙ i.same_queue; same_lanes = t.same_lanes ∙ i.same_lanes; same_share = t.same_share ∙ i.same_share }

pub returns-in_err-push-clause-same : goal.returns-in_err-push-clause-same
returns-in_err-push-clause-same g c =
    let i = c.loop.invariant.same in
    let t = c.in-Some-take.ensures.pass in
    record { same_queue = t.same_queue ∙ i.same_queue; same_lanes = t.same_lanes ∙ i.same_lanes; same_share = t.same_share ∙ i.same_share }

pub returns-clause-adds : goal.returns-clause-adds
returns-clause-adds g c = (c.loop.invariant.does.entries, c.loop.invariant.does.adds)
