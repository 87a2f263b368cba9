use Rattle.std.proofs.Common.{◌≡◌, ◌≢◌, ℕ, ◌+◌, ◌-◌, ◌<◌, ◌≤◌, List, [], ◌++◌, length, sym, ap, subst, ◌∙◌, arith}
use Rattle.std.proofs.lemmas.List.{length-append}
use Rattle.txn_engine.specs.Pass.{EngineView}
use Rattle.lane_runner.specs.declared.turn.Turn.TheVariants.{Outcome as HasEnded}
use Rattle.snap_dump.specs.declared.dump.Dump.{Dump}
use Rattle.snap_dump.specs.Beside.{AreBeside, MadeBeside}
use Rattle.snap_dump.proofs.Beside.{beside_next, beside_none}
use Rattle.lane_runner.specs.declared.done.LaneDone.{LaneDone}
use Rattle.lane_runner.specs.Done.{DoesLane}
use Rattle.lane_runner.specs.Lanes.{lane_draws}
use Rattle.lane_runner.proofs.Attempted.{does_lane}
use Rattle.lane_runner.specs.Session.{SessionView, LeadsOn}
use Rattle.snap_dump.specs.Dumps.{how_many}
use Rattle.snap_dump.proofs.Made.{leads_dumps, leads_more, made_more, made_none, made_then, none_added, none_others, room_left, some_then}
use Rattle.snap_dump.proofs.lanes.run_lane_dumping.Goals as goal

pub attempts-init : goal.attempts-init
attempts-init g c = record {
  engine = c.requires.pass.same;
  leads = subst (λ (n : ℕ). LeadsOn n c.args.pass.now c.args.pass.now c.new-session.result c.new-session.result) (omega arith)
      (leads_dumps c.args.pass.now c.args.pass.now c.new-session.result 0 (none_others c.args.pass.now c.requires.pass.idle) (omega arith));
  made = made_none c.args.pass.now c.args.pass.now c.args.made.now.items (none_added c.args.pass.now c.requires.pass.idle);
  beside = subst (λ (s : SessionView). AreBeside c.args.due c.args.made.now.items [] s.results) (sym c.new-session.ensures.new) (beside_none c.args.due c.args.made.now.items);
  within = c.requires.within;
}

pub attempt-requires-clause-pass : goal.attempt-requires-clause-pass
attempt-requires-clause-pass g c = record { same = c.attempts.invariant.engine; idle = c.attempts.invariant.leads.adds.idle; fixed = c.requires.pass.fixed }

pub attempt-requires-clause-room : goal.attempt-requires-clause-room
attempt-requires-clause-room g c =
    let i = c.attempts.invariant in
    omega (
      arith,
      room_left c.args.pass.now c.attempts.pass c.new-session.result c.attempts.session c.args.made.now.items c.attempts.made.items (lane_draws c.args.lane.blocks c.args.tries) c.args.due i.leads c.new-session.ensures.draws
          (made_more c.args.pass.now c.attempts.pass c.args.made.now.items c.attempts.made.items i.made) i.within c.requires.room,
    )

pub dump_behind-requires-clause-pass : goal.dump_behind-requires-clause-pass
dump_behind-requires-clause-pass g c = record { same = c.attempt.ensures.adds.1.engine ∙ c.attempts.invariant.engine; idle = c.attempt.ensures.adds.1.idle; fixed = c.requires.pass.fixed }

pub dump_behind-requires-clause-room : goal.dump_behind-requires-clause-room
dump_behind-requires-clause-room g c =
    let i = c.attempts.invariant in
    let room = room_left c.args.pass.now c.attempts.pass c.new-session.result c.attempts.session c.args.made.now.items c.attempts.made.items (lane_draws c.args.lane.blocks c.args.tries) c.args.due i.leads c.new-session.ensures.draws
    (made_more c.args.pass.now c.attempts.pass c.args.made.now.items c.attempts.made.items i.made) i.within c.requires.room in
    omega (arith, c.in_ok-turn.ensures.leads.clock, room)

pub attempts-preserved : goal.attempts-preserved
attempts-preserved g c =
    let i = c.attempts.invariant in
    let p = c.args.pass.now in
    let q = c.attempts.pass in
    let r = c.attempt.new.pass in
    let v = c.dump_behind.new.pass in
    let old = c.args.made.now.items in
    let mid = c.attempts.made.items in
    let new = c.dump_behind.new.made.items in
    let dumped = c.in_ok-dump_behind.ensures in
    let fresh = made_then q r v mid mid new c.attempt.ensures.adds c.dump_behind.ensures.adds (made_none q r mid c.attempt.ensures.adds) dumped.made in
    let grown = ap (λ (ds : List Dump). length ds) dumped.made.grown in
    let sum = length-append mid dumped.made.more in
    let front = ap (λ (ds : List Dump). length ds) i.made.grown in
    let size : p.shared.size.seats ≡ c.args.engine.now.size.seats = ap (λ (e : EngineView). e.size.seats) c.requires.pass.same in
    let same_seat = i.leads.adds.seat in
    record {
      engine = c.dump_behind.ensures.adds.1.engine ∙ c.attempt.ensures.adds.1.engine ∙ i.engine;
      leads = leads_more p q r v c.new-session.result c.attempts.session c.attempt.new.self old mid new (made_more p q old mid i.made) (made_more q v mid new fresh) i.leads c.in_ok-turn.ensures.leads dumped.others dumped.clock;
      made = made_then p q v old mid new (i.leads.entries, i.leads.adds) (some_then q r v c.attempt.ensures.adds c.dump_behind.ensures.adds) i.made fresh;
      beside = beside_next c.in_ok-turn.turn p.met c.args.due q r c.attempts.session c.attempt.new.self old i.made.more dumped.made.more
          (omega (arith, c.seat.ensures.within, c.seats.ensures.in_range.seats_in_range, size, same_seat)) c.in_ok-turn.ensures.attempts i.made.each
          (λ outcome few. let one = dumped.one outcome (omega (arith, few, front)) in omega (arith, one, grown, sum))
          (λ other. let none = ap (λ (ds : List Dump). length ds) (c.dump_behind.ensures.none other).0 in omega (arith, none, grown, sum))
          (let most = dumped.within in omega (arith, most, grown, sum, front))
          i.beside;
      within = dumped.within;
    }

pub returns-in_err-turn-clause-adds : goal.returns-in_err-turn-clause-adds
returns-in_err-turn-clause-adds g c =
    some_then c.args.pass.now c.attempts.pass c.attempt.new.pass (c.attempts.invariant.leads.entries, c.attempts.invariant.leads.adds) c.attempt.ensures.adds

pub returns-in_err-dump_behind-clause-adds : goal.returns-in_err-dump_behind-clause-adds
returns-in_err-dump_behind-clause-adds g c =
    some_then c.args.pass.now c.attempts.pass c.dump_behind.new.pass (c.attempts.invariant.leads.entries, c.attempts.invariant.leads.adds)
    (some_then c.attempts.pass c.attempt.new.pass c.dump_behind.new.pass c.attempt.ensures.adds c.dump_behind.ensures.adds)

pub returns-clause-does : goal.returns-clause-does
returns-clause-does g c =
    let dumps = how_many c.args.made.now.items c.attempts.made.items in
    subst (λ (done : LaneDone). DoesLane c.args.lane done c.args.pass.now c.attempts.pass) (sym c.finish.ensures)
    (does_lane c.args.lane c.args.tries dumps c.args.pass.now c.attempts.pass c.attempts.session
    (subst (λ (s : SessionView). LeadsOn dumps c.args.pass.now c.attempts.pass s c.attempts.session) c.new-session.ensures.new c.attempts.invariant.leads))

pub returns-clause-beside : goal.returns-clause-beside
returns-clause-beside g c =
    subst (λ (done : LaneDone). MadeBeside c.args.due c.args.pass.now c.attempts.pass c.args.made.now.items c.attempts.made.items done.results) (sym c.finish.ensures)
    (c.attempts.invariant.made, c.attempts.invariant.beside)
