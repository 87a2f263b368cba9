use Rattle.std.proofs.Common.{map, sym, ap, ◌∙◌}
use Rattle.lane_queue.specs.Passes.{numbered}
use Rattle.txn_engine.specs.Pass.{PassView}
use Rattle.lane_runner.proofs.Answered.{not_ok}
use Rattle.lane_threads.proofs.Gathered.{passes_of, takers_of}
use Rattle.lane_threads.proofs.Together.{count_passes, begin_all, less_room, room_all, all_again, of_again, first_seat, other_seats, others_apart, runs_all_on}
use Rattle.lane_threads.proofs.all.run_all_in.Goals as goal

pub workers_of-requires-clause-takers : goal.workers_of-requires-clause-takers
workers_of-requires-clause-takers g c κs within = count_passes c.args.engine.now c.args.passes.items c.requires.passes ∙ sym c.seats.ensures.value ∙ sym c.in_ok-queue.ensures.count

pub run_workers-requires-clause-begin : goal.run_workers-requires-clause-begin
run_workers-requires-clause-begin g c κs within =
    begin_all c.args.engine.now c.in_ok-queue.queue c.args.tries c.args.lanes c.requires.fixed c.args.passes.items c.in_ok-queue.takers.items c.in_ok-workers.workers.items c.in_ok-workers.ensures.passes c.in_ok-workers.ensures.takers
    c.requires.passes c.in_ok-queue.ensures.all c.in_ok-queue.ensures.fresh c.in_ok-queue.ensures.lanes c.requires.blocks
    (less_room c.args.passes.items _ (g.L.LaneRun.may_read c.args.reader) c.requires.room)

pub run_workers-requires-clause-room : goal.run_workers-requires-clause-room
run_workers-requires-clause-room g c κs within =
    room_all c.args.tries (g.L.LaneRun.may_read c.args.reader) c.args.lanes c.args.passes.items c.in_ok-queue.takers.items c.in_ok-workers.workers.items c.in_ok-workers.ensures.passes c.in_ok-workers.ensures.takers c.in_ok-queue.ensures.lanes c.requires.room

pub close-requires-clause-all : goal.close-requires-clause-all
close-requires-clause-all g c =
    all_again c.in_ok-queue.queue c.in_ok-queue.takers.items c.in_ok-gathered.gathered.takers.items (c.in_ok-gathered.ensures.takers_are ∙ c.in_ok-workers.ensures.takers) c.in_ok-queue.ensures.all

pub alone-requires-clause-first : goal.alone-requires-clause-first
alone-requires-clause-first g c =
    let seats = c.in_ok-gathered.ensures.seats ∙ ap (map (λ (p : PassView). p.seat)) c.in_ok-workers.ensures.passes in
    first_seat c.args.engine.now c.args.passes.items c.in_ok-gathered.gathered.pass c.in_ok-gathered.gathered.retired.items c.seats.ensures.in_range.has_seat c.requires.passes seats

pub alone-requires-clause-each_once : goal.alone-requires-clause-each_once
alone-requires-clause-each_once g c =
    let left = c.in_ok-gathered.ensures in
    let seats = left.seats ∙ ap (map (λ (p : PassView). p.seat)) c.in_ok-workers.ensures.passes in
    other_seats c.args.engine.now c.args.passes.items c.in_ok-gathered.gathered.pass c.in_ok-gathered.gathered.retired.items c.seats.ensures.in_range.has_seat c.requires.passes seats

pub returns : goal.returns
returns g c =
    let left = c.in_ok-gathered.ensures in
    let joined = c.alone.ensures in
    let seats = left.seats ∙ ap (map (λ (p : PassView). p.seat)) c.in_ok-workers.ensures.passes in
    let first = first_seat c.args.engine.now c.args.passes.items c.in_ok-gathered.gathered.pass c.in_ok-gathered.gathered.retired.items c.seats.ensures.in_range.has_seat c.requires.passes seats in
    let same = of_again (numbered 1 c.args.lanes) c.in_ok-queue.takers.items c.in_ok-gathered.gathered.takers.items (left.takers_are ∙ c.in_ok-workers.ensures.takers) c.in_ok-queue.ensures.lanes in
    runs_all_on c.args.engine.now (passes_of c.in_ok-workers.workers.items) c.args.passes.items (takers_of c.in_ok-workers.workers.items) c.args.lanes c.args.tries (g.L.LaneRun.may_read c.args.reader) c.in_ok-gathered.gathered.pass c.in_ok-gathered.gathered.retired.items c.in_ok-gathered.gathered.takers.items c.in_ok-gathered.gathered.done.items
    (g.L.LaneRun.has_read c.in_ok-gathered.reader) c.alone.result c.alone.result.pass.snapshot left first (c.close.ensures (numbered 1 c.args.lanes) same) joined.pass joined.shared joined.earlier joined.alone
    (others_apart c.args.engine.now c.args.passes.items c.in_ok-gathered.gathered.pass c.in_ok-gathered.gathered.retired.items c.seats.ensures.in_range.has_seat c.requires.passes seats c.seats.ensures.in_range.seats_in_range) c.in_ok-workers.ensures.passes

pub workers_of-requires-clause-clocks : goal.workers_of-requires-clause-clocks
workers_of-requires-clause-clocks g c κs within = c.requires.clocks

pub returns-in_err-queue : goal.returns-in_err-queue
returns-in_err-queue g c = not_ok c.from_residual.result _ c.from_residual.ensures.0

pub returns-in_err-workers : goal.returns-in_err-workers
returns-in_err-workers g c = not_ok c.from_residual-in_err-workers.result _ c.from_residual-in_err-workers.ensures.0

pub returns-in_err-gathered : goal.returns-in_err-gathered
returns-in_err-gathered g c = not_ok c.from_residual-in_err-gathered.result _ c.from_residual-in_err-gathered.ensures.0
