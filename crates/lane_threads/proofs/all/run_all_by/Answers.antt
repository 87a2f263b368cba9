use Rattle.std.proofs.Common.{ℕ, ◌+◌, ◌-◌, length, sym, subst}
use Rattle.std.specs.List.{AllByRecursion}
use Rattle.lane_runner.specs.Room.{HasRoom}
use Rattle.lane_threads.specs.All.{all_draws, RunsAndReads}
use Rattle.lane_threads.specs.Seen.{ReadsAll}
use Rattle.lane_threads.proofs.ReadBeside.{room_beside, runs_read, seen_beside, runs_told, seen_told}
use Rattle.lane_threads.proofs.all.run_all_by.Goals as goal

pub run_all_in-requires-clause-room : goal.run_all_in-requires-clause-room
run_all_in-requires-clause-room g c κs within =
    subst (λ (n : ℕ). AllByRecursion (λ p. HasRoom p.clock (all_draws c.args.lanes c.args.tries + n)) c.args.passes.items) (sym c.begin-way.ensures.may) c.requires.room

pub read_all-requires-clause-room : goal.read_all-requires-clause-room
read_all-requires-clause-room g c =
    let both = subst (λ (n : ℕ). RunsAndReads c.args.engine.now c.args.passes.items c.args.lanes c.args.tries n c.in_ok-alone.alone c.in_ok-alone.done.items (g.L.LaneRun.has_read c.in_ok-alone.reader)) c.begin-way.ensures.may c.in_ok-alone.ensures in
    subst (λ (n : ℕ). HasRoom c.in_ok-alone.alone.pass.clock (n - length (g.L.LaneRun.has_read c.in_ok-alone.reader))) (sym c.begin-way.ensures.due)
    (room_beside c.args.engine.now c.args.passes.items c.args.lanes c.args.tries (g.L.LaneRun.due c.args.run.now) c.in_ok-alone.alone c.in_ok-alone.done.items (g.L.LaneRun.has_read c.in_ok-alone.reader) c.seats.ensures.in_range.has_seat c.requires.passes both c.requires.room)

pub returns-clause-ran : goal.returns-clause-ran
returns-clause-ran g c =
    let both = subst (λ (n : ℕ). RunsAndReads c.args.engine.now c.args.passes.items c.args.lanes c.args.tries n c.in_ok-alone.alone c.in_ok-alone.done.items (g.L.LaneRun.has_read c.in_ok-alone.reader)) c.begin-way.ensures.may c.in_ok-alone.ensures in
    let reads = subst (λ (n : ℕ). ReadsAll n (g.L.LaneRun.has_read c.in_ok-alone.reader) c.in_ok-alone.alone c.read_all.new.alone (g.L.LaneRun.seen c.read_all.new.self)) c.begin-way.ensures.due c.in_ok-read_all.ensures.reads in
    runs_told c.read_all.new.alone c.tell.new.self c.tell.ensures.value c.tell.ensures.beside c.tell.ensures.not_back c.args.engine.now c.args.passes.items c.args.lanes c.args.tries (g.L.LaneRun.due c.args.run.now) c.in_ok-alone.done.items
    (runs_read c.args.engine.now c.args.passes.items c.args.lanes c.args.tries (g.L.LaneRun.due c.args.run.now) c.in_ok-alone.alone c.read_all.new.alone c.in_ok-alone.done.items (g.L.LaneRun.has_read c.in_ok-alone.reader) (g.L.LaneRun.seen c.read_all.new.self)
    both reads c.seats.ensures.in_range.has_seat c.requires.passes)

pub returns-clause-seen : goal.returns-clause-seen
returns-clause-seen g c =
    let both = subst (λ (n : ℕ). RunsAndReads c.args.engine.now c.args.passes.items c.args.lanes c.args.tries n c.in_ok-alone.alone c.in_ok-alone.done.items (g.L.LaneRun.has_read c.in_ok-alone.reader)) c.begin-way.ensures.may c.in_ok-alone.ensures in
    let reads = subst (λ (n : ℕ). ReadsAll n (g.L.LaneRun.has_read c.in_ok-alone.reader) c.in_ok-alone.alone c.read_all.new.alone (g.L.LaneRun.seen c.read_all.new.self)) c.begin-way.ensures.due c.in_ok-read_all.ensures.reads in
    seen_told c.read_all.new.alone c.tell.new.self c.tell.ensures.value c.tell.ensures.beside c.tell.ensures.not_back (g.L.LaneRun.due c.args.run.now) c.args.passes.items c.in_ok-alone.done.items (g.L.LaneRun.seen c.read_all.new.self)
    (seen_beside c.args.engine.now c.args.passes.items c.args.lanes c.args.tries (g.L.LaneRun.due c.args.run.now) c.in_ok-alone.alone c.read_all.new.alone c.in_ok-alone.done.items (g.L.LaneRun.has_read c.in_ok-alone.reader) (g.L.LaneRun.seen c.read_all.new.self)
    both reads c.readings_are_seen.ensures (c.tell.ensures.lawful c.tell.ensures.holds))
