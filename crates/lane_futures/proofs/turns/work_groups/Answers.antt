use Rattle.std.proofs.Common.{rules, ◌≡◌, ◌<◌, List, ◌++◌, length, vec_len, refl, sym, ap, subst, ◌∙◌, arith}
use Rattle.std.proofs.lemmas.Bool.{eqb-true}
use Rattle.lane_queue.specs.declared.lane.Lane.{Lane}
use Rattle.lane_queue.specs.Passes.{Taker, HasEnded}
use Rattle.lane_queue.specs.Subsequences.{IsSubsequence}
use Rattle.lane_runner.specs.declared.done.LaneDone.{LaneDone}
use Rattle.lane_runner.specs.Room.{HasRoom}
use Rattle.lane_runner.specs.Session.{SessionView}
use Rattle.lane_threads.specs.Workers.{DoesLanes}
use Rattle.lane_runner.proofs.Adding.{Adds-trans}
use Rattle.lane_threads.proofs.LaneLists.{DoesLanes-none}
use Rattle.lane_futures.specs.Lanes.{all_draws_left, ComeTo}
use Rattle.lane_futures.proofs.Grouped.{room_group, does_more, none_taken}
use Rattle.lane_futures.proofs.turns.work_groups.Goals.{in-None, in-Some+in-Ok+then-is_empty}
use Rattle.lane_futures.proofs.turns.work_groups.Goals as goal

pub loop-init : goal.loop-init
loop-init g c = record {
  queue_is = c.requires.may_work.queue_is;
  engine_is = c.requires.may_work.uses.same;
  same = record { same_queue = refl; same_lanes = refl; same_share = refl };
  part = subst (λ (took : List Lane). IsSubsequence took c.args.taker.now.lanes) (sym c.requires.may_work.fresh.took_none) tt;
  does =
      subst (λ (y : List Lane × List LaneDone). DoesLanes c.args.tries c.args.seat.pass c.args.seat.pass y.0 y.1) (λ i. (sym c.requires.may_work.fresh.took_none i, sym c.new-done.ensures.items i))
      (DoesLanes-none c.args.tries c.args.seat.pass c.requires.may_work.uses.idle);
}

pub run_group-next-requires-clause-room : goal.run_group-next-requires-clause-room
run_group-next-requires-clause-room g c =
    let t = c.in-Ok.ensures.takes in
    let i = c.loop.invariant in
    let part : IsSubsequence c.take_group.new.taker.took c.args.taker.now.lanes = subst (λ (lanes : List Lane). IsSubsequence c.take_group.new.taker.took lanes) (c.take_group.ensures.same.same_lanes ∙ i.same.same_lanes) (t.in_order i.part) in
    subst (λ (sessions : List SessionView). HasRoom c.loop.seat.pass.clock (all_draws_left sessions)) (sym t.sessions_are)
    (room_group c.args.tries c.args.seat.pass.clock c.loop.seat.pass.clock c.args.taker.now.lanes c.loop.taker.took t.lanes c.take_group.new.taker.took t.took part c.requires.may_work.room i.does.clock)

pub returns-in_default-ran-clause-adds : goal.returns-in_default-ran-clause-adds
returns-in_default-ran-clause-adds g c =
    let so_far = c.loop.invariant.does in
    let more = c.run_group-next.ensures.adds in
    (so_far.entries ++ more.0, Adds-trans c.args.seat.pass c.loop.seat.pass c.run_group-next.result.0.pass so_far.entries more.0 so_far.adds more.1)

pub returns-in_default-append-clause-adds : goal.returns-in_default-append-clause-adds
returns-in_default-append-clause-adds g c =
    let so_far = c.loop.invariant.does in
    let more = c.run_group-next.ensures.adds in
    (so_far.entries ++ more.0, Adds-trans c.args.seat.pass c.loop.seat.pass c.run_group-next.result.0.pass so_far.entries more.0 so_far.adds more.1)

pub loop-preserved : goal.loop-preserved
loop-preserved g c =
    let i = c.loop.invariant in
    let same = c.take_group.ensures.same in
    let t = c.in-Ok.ensures.takes in
    let come : ComeTo (record { pass = c.loop.seat.pass; sessions = c.in-Ok.group.sessions.items; next = 0 }) c.run_group-next.result.0.pass c.in-Ok-ran.more.items = rw c.in-Ok-ran.is at c.run_group-next.ensures.done in
    record {
      queue_is = same.same_queue ∙ i.queue_is;
      engine_is = c.run_group-next.ensures.adds.1.engine ∙ i.engine_is;
      same = record { same_queue = same.same_queue ∙ i.same.same_queue; same_lanes = same.same_lanes ∙ i.same.same_lanes; same_share = same.same_share ∙ i.same.same_share };
      part = t.in_order i.part;
      does = does_more c.args.tries c.args.seat.pass c.loop.seat.pass c.run_group-next.result.0.pass c.loop.taker.took t.lanes c.take_group.new.taker.took c.loop.done.items c.in-Ok-ran.more.items c.append.new.self.items c.in-Ok.group.sessions.items i.does t.took t.sessions_are come c.in-Ok-append.ensures.items;
    }

pub returns-clause-does : goal.returns-clause-does
returns-clause-does g c = elim c.match-next.branch [
  | in-None w ↦ subst (λ (t : Taker). DoesLanes c.args.tries c.args.seat.pass c.loop.seat.pass t.took c.loop.done.items) (sym w.taker-is) c.loop.invariant.does
  | in-Some+in-Ok+then-is_empty w ↦
      let t = w.in-Ok.ensures.takes in
      let none : length w.in-Ok.group.sessions.items ≡ 0 = omega (arith, w.in-Ok.group.sessions.ok.0, eqb-true (vec_len w.in-Ok.group.sessions) 0 (sym w.if-is_empty.ensures)) in
      let took : w.take_group.new.taker.took ≡ c.loop.taker.took = none_taken c.loop.taker.took t.lanes w.take_group.new.taker.took c.args.tries w.in-Ok.group.sessions.items t.took t.sessions_are none in
      subst (λ (xs : List Lane). DoesLanes c.args.tries c.args.seat.pass c.loop.seat.pass xs c.loop.done.items) (sym took ∙ sym (ap (λ (x : Taker). x.took) w.taker-is)) c.loop.invariant.does
]

pub returns-clause-ended : goal.returns-clause-ended
returns-clause-ended g c = elim c.match-next.branch [
  | in-None w ↦ search rules
  | in-Some+in-Ok+then-is_empty w ↦
      let none : length w.in-Ok.group.sessions.items ≡ 0 = omega (arith, w.in-Ok.group.sessions.ok.0, eqb-true (vec_len w.in-Ok.group.sessions) 0 (sym w.if-is_empty.ensures)) in
      let some = c.requires.some in
      let few : length w.in-Ok.group.sessions.items < c.args.most = omega arith in
      ap (λ (x : Taker). x.ended) w.taker-is ∙ w.in-Ok.ensures.ended few
]
