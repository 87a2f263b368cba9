use Rattle.std.proofs.Common.{rules, ◌+◌, ◌<◌, ◌≡◌, List, [], ◌++◌, length, refl, sym, ap, ◌∙◌, subst, arith}
use Rattle.txn_engine.specs.Pass.{EngineView}
use Rattle.lane_runner.specs.declared.done.LaneDone.{LaneDone}
use Rattle.lane_runner.specs.Finishing.{results_of}
use Rattle.lane_runner.proofs.Rests.{results_more}
use Rattle.snap_dump.specs.Beside.{AreBeside}
use Rattle.snap_dump.proofs.Beside.{beside_none, beside_then, lane_above}
use Rattle.lane_runner.proofs.Answered.{not_ok}
use Rattle.lane_queue.specs.Passes.{Taker}
use Rattle.lane_queue.specs.declared.lane.Lane.{Lane}
use Rattle.lane_threads.specs.Workers.{RunsLanes, draws_of}
use Rattle.lane_threads.proofs.LaneLists.{taken_may}
use Rattle.snap_dump.specs.declared.dump.Dump.{Dump}
use Rattle.snap_dump.specs.Dumps.{how_many}
use Rattle.snap_dump.proofs.Made.{made_more, made_none, made_then, none_added, some_then}
use Rattle.snap_dump.proofs.Worked.{does_dumping, room_taken, runs_more, runs_none}
use Rattle.snap_dump.proofs.work.work_dumping.Goals.{in-None, in-Some+in_default}
use Rattle.snap_dump.proofs.work.work_dumping.Goals as goal

pub loop-init : goal.loop-init
loop-init g c = record {
  queue_is = c.requires.may_work.queue_is;
  engine_is = c.requires.may_work.uses.same;
  same = record { same_queue = refl; same_lanes = refl; same_share = refl };
  does = runs_none c.args.tries c.args.pass.now c.args.taker.now.took c.new-done.result.items _ c.requires.may_work.uses.idle c.requires.may_work.fresh.took_none c.new-done.ensures.items;
  made = made_none c.args.pass.now c.args.pass.now c.args.made.now.items (none_added c.args.pass.now c.requires.may_work.uses.idle);
  beside = subst (λ (ds : List LaneDone). AreBeside c.args.due c.args.made.now.items [] (results_of ds)) (sym c.new-done.ensures.items) (beside_none c.args.due c.args.made.now.items);
  within = (let none = ap (λ (ds : List Dump). length ds) c.requires.none in omega (arith, none));
}

pub take-requires : goal.take-requires
take-requires g c = c.loop.invariant.queue_is

pub run_lane_dumping-requires-clause-pass : goal.run_lane_dumping-requires-clause-pass
run_lane_dumping-requires-clause-pass g c = record { same = c.loop.invariant.engine_is; idle = c.loop.invariant.does.adds.idle; fixed = c.requires.may_work.uses.fixed }

pub run_lane_dumping-requires-clause-blocks : goal.run_lane_dumping-requires-clause-blocks
run_lane_dumping-requires-clause-blocks g c =
    let t = c.in-Some-take.ensures in
    taken_may c.args.taker.now.lanes c.take.new.pass.lanes c.loop.taker.took c.take.new.pass.took c.in-Some-take.lane t.some.0 (t.pass.same_lanes ∙ c.loop.invariant.same.same_lanes) t.in_order c.requires.may_work.lanes

pub run_lane_dumping-requires-clause-within : goal.run_lane_dumping-requires-clause-within
run_lane_dumping-requires-clause-within g c = c.loop.invariant.within

pub run_lane_dumping-requires-clause-room : goal.run_lane_dumping-requires-clause-room
run_lane_dumping-requires-clause-room g c =
    let t = c.in-Some-take.ensures in
    let i = c.loop.invariant in
    let none = ap (λ (ds : List Dump). length ds) c.requires.none in
    room_taken c.args.taker.now.lanes c.take.new.pass.lanes c.loop.taker.took c.take.new.pass.took c.in-Some-take.lane t.some.0 (t.pass.same_lanes ∙ i.same.same_lanes) t.in_order
    c.args.tries c.args.pass.now.clock c.loop.pass.clock c.args.due (length c.loop.made.items) c.requires.room (let so_far = i.does.clock in omega (arith, so_far, none)) i.within

pub loop-preserved : goal.loop-preserved
loop-preserved g c =
    let i = c.loop.invariant in
    let t = c.in-Some-take.ensures in
    let ran = c.in_ok-ran.ensures in
    let p = c.args.pass.now in
    let q = c.loop.pass in
    let r = c.run_lane_dumping.new.pass in
    let old = c.args.made.now.items in
    let mid = c.loop.made.items in
    let new = c.run_lane_dumping.new.made.items in
    let size : p.shared.size.seats ≡ c.args.engine.now.size.seats = ap (λ (e : EngineView). e.size.seats) c.requires.may_work.uses.same in
    let same_seat = i.does.adds.seat in
    record {
      queue_is = t.pass.same_queue ∙ i.queue_is;
      engine_is = c.run_lane_dumping.ensures.adds.1.engine ∙ i.engine_is;
      same = record { same_queue = t.pass.same_queue ∙ i.same.same_queue; same_lanes = t.pass.same_lanes ∙ i.same.same_lanes; same_share = t.pass.same_share ∙ i.same.same_share };
      does = runs_more c.args.tries p q r c.loop.taker.took c.take.new.pass.took c.in-Some-take.lane c.loop.done.items c.push.new.self.items c.in_ok-ran.ran old mid new t.some.0 c.in_ok-push.ensures.items i.does ran.does ran.rest ran.clock
          (made_more p q old mid i.made) (made_more q r mid new ran.made);
      made = made_then p q r old mid new (i.does.entries, i.does.adds) c.run_lane_dumping.ensures.adds i.made ran.beside.0;
      beside = subst (λ (ds : List LaneDone). AreBeside c.args.due old (i.made.more ++ ran.beside.0.more) (results_of ds)) (sym c.in_ok-push.ensures.items)
          (subst (λ rs. AreBeside c.args.due old (i.made.more ++ ran.beside.0.more) rs) (sym (results_more c.loop.done.items c.in_ok-ran.ran))
          (beside_then c.args.due old i.made.more ran.beside.0.more (results_of c.loop.done.items) c.in_ok-ran.ran.results
          (lane_above p.met q r i.made.more c.in-Some-take.lane c.in_ok-ran.ran (omega (arith, c.seat.ensures.within, c.seats.ensures.in_range.seats_in_range, size, same_seat)) ran.does i.made.each)
          i.beside (subst (λ (ds : List Dump). AreBeside c.args.due ds ran.beside.0.more c.in_ok-ran.ran.results) i.made.grown ran.beside.1)));
      within = ran.within;
    }

pub returns-in_err-ran-clause-adds : goal.returns-in_err-ran-clause-adds
returns-in_err-ran-clause-adds g c = some_then c.args.pass.now c.loop.pass c.run_lane_dumping.new.pass (c.loop.invariant.does.entries, c.loop.invariant.does.adds) c.run_lane_dumping.ensures.adds

pub returns-in_err-push-clause-adds : goal.returns-in_err-push-clause-adds
returns-in_err-push-clause-adds g c = some_then c.args.pass.now c.loop.pass c.run_lane_dumping.new.pass (c.loop.invariant.does.entries, c.loop.invariant.does.adds) c.run_lane_dumping.ensures.adds

pub returns-in_err-ran-clause-ended : goal.returns-in_err-ran-clause-ended
returns-in_err-ran-clause-ended g c = not_ok c.from_residual.result _ c.from_residual.ensures.0

pub returns-in_err-ran-clause-does : goal.returns-in_err-ran-clause-does
returns-in_err-ran-clause-does g c = not_ok c.from_residual.result _ c.from_residual.ensures.0

pub returns-in_err-push-clause-ended : goal.returns-in_err-push-clause-ended
returns-in_err-push-clause-ended g c = not_ok c.from_residual-in_err-push.result _ c.from_residual-in_err-push.ensures.0

pub returns-in_err-push-clause-does : goal.returns-in_err-push-clause-does
returns-in_err-push-clause-does g c = not_ok c.from_residual-in_err-push.result _ c.from_residual-in_err-push.ensures.0

pub returns-in_err-ran-clause-same : goal.returns-in_err-ran-clause-same
returns-in_err-ran-clause-same g c =
    let i = c.loop.invariant.same in
    let t = c.in-Some-take.ensures.pass in
    record { same_queue = t.same_queue ∙ i.same_queue; same_lanes = t.same_lanes ∙ i.same_lanes; same_share = t.same_share ∙ i.same_share }

pub returns-in_err-push-clause-same : goal.returns-in_err-push-clause-same
returns-in_err-push-clause-same g c =
    let i = c.loop.invariant.same in
    let t = c.in-Some-take.ensures.pass in
    record { same_queue = t.same_queue ∙ i.same_queue; same_lanes = t.same_lanes ∙ i.same_lanes; same_share = t.same_share ∙ i.same_share }

pub returns-clause-adds : goal.returns-clause-adds
returns-clause-adds g c = (c.loop.invariant.does.entries, c.loop.invariant.does.adds)

pub returns-clause-does : goal.returns-clause-does
returns-clause-does g c =
    let same : c.match-next.taker.took ≡ c.loop.taker.took = elim c.match-next.branch [
      | in-None w ↦ ap (λ (t : Taker). t.took) w.taker-is
      | in-Some+in_default w ↦ ap (λ (t : Taker). t.took) w.taker-is ∙ (search rules)
    ] in
    does_dumping c.args.tries c.args.due c.args.pass.now c.loop.pass c.match-next.taker.took c.loop.done.items c.args.made.now.items c.loop.made.items c.requires.none
    (subst (λ (took : List Lane). RunsLanes c.args.tries (draws_of took c.args.tries + how_many c.args.made.now.items c.loop.made.items) c.args.pass.now c.loop.pass took c.loop.done.items) (sym same) c.loop.invariant.does)
    c.loop.invariant.made c.loop.invariant.within c.loop.invariant.beside
