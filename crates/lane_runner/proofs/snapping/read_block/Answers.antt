use Rattle.std.proofs.Common.{rules, ◌≡◌, ℕ, [], ◌∷◌, refl, sym, ap, subst, ◌∙◌, arith}
use Rattle.seat_post.specs.Logs.{IsAbove}
use Rattle.txn_engine.specs.Pass.{EngineView, PassView, next_clock}
use Rattle.txn_engine.specs.Snapshot.{SnapshotFrame, unread}
use Rattle.seat_post.specs.Snapshot.{entry_of_snapshot}
use Rattle.lane_runner.proofs.Answered.{on_err}
use Rattle.lane_runner.proofs.Clocks.{clock_later, clock_drawn}
use Rattle.lane_runner.proofs.Granted.{ready_seen}
use Rattle.lane_runner.proofs.Looked.{sought}
use Rattle.lane_runner.proofs.Seen.{has_seen, sees_all, never_torn, not_torn, Adds-finished, none_refused, commits_seen}
use Rattle.lane_runner.proofs.snapping.read_block.Goals as goal

pub exec_snap-told-requires-clause-size : goal.exec_snap-told-requires-clause-size
exec_snap-told-requires-clause-size c =
    let p = c.args.pass.now in
    let all = sees_all p c.tick.new.self c.snapshot-snapshot.result.seat.now (next_clock p c.args.reading) c.in-Ok.ensures.ok c.snapshot-snapshot.ensures.begins in
    let records : p.shared.size.records ≡ c.args.engine.now.size.records = ap (λ (e : EngineView). e.size.records) c.requires.pass.same in
    omega (arith, all, records, c.requires.pass.fixed, c.fixed.ensures.value, c.fixed.ensures.within)

pub untorn-requires : goal.untorn-requires
untorn-requires c =
    let p = c.args.pass.now in
    let s = c.snapshot-snapshot.result.seat.now in
    let q = c.exec_snap-told.new.store.seat.now in
    let rest : unread q ≡ unread s = ap (λ (x : SnapshotFrame (Unit {0})). x.of_pass) c.exec_snap-told.ensures.rest in
    not_torn c.exec_snap-told.result _ c.exec_snap-told.ensures.torn
    (never_torn p c.tick.new.self s q (next_clock p c.args.reading) c.in-Ok.ensures.ok c.snapshot-snapshot.ensures.begins rest _ c.keeps_tables.ensures c.finish-stamp.ensures.finishes.stood)

pub returns-clause-done : goal.returns-clause-done
returns-clause-done c =
    let p = c.args.pass.now in
    let s = c.snapshot-snapshot.result.seat.now in
    let q = c.exec_snap-told.new.store.seat.now in
    let rest : unread q ≡ unread s = ap (λ (x : SnapshotFrame (Unit {0})). x.of_pass) c.exec_snap-told.ensures.rest in
    record {
      ran = record {
        commits = commits_seen p c.tick.new.self s q (next_clock p c.args.reading) c.in-Ok.ensures.ok c.snapshot-snapshot.ensures.begins rest c.finish-stamp.new.self.0 _ c.finish-stamp.ensures.finishes.after (search rules) c.requires.pass.idle (omega arith)
            c.args.block.now.commands c.in_ok-outcome.outcome _ c.fits_records.ensures (rw c.in_ok-outcome.ensures at c.exec_snap-told.ensures.outcome) c.finish-stamp.ensures.finishes.stamp refl;
        place = record { snap = sym c.requires.kind; lane = refl; number = refl };
      };
      once = none_refused p c.tick.new.self s q (next_clock p c.args.reading) c.in-Ok.ensures.ok c.snapshot-snapshot.ensures.begins rest c.finish-stamp.new.self.0 _ c.finish-stamp.ensures.finishes.after (search rules) c.requires.pass.idle (omega arith);
      first = tt;
    }

pub returns-in_err-outcome-clause-fault : goal.returns-in_err-outcome-clause-fault
returns-in_err-outcome-clause-fault c =
    let p = c.args.pass.now in
    let s = c.snapshot-snapshot.result.seat.now in
    let q = c.exec_snap-told.new.store.seat.now in
    let rest : unread q ≡ unread s = ap (λ (x : SnapshotFrame (Unit {0})). x.of_pass) c.exec_snap-told.ensures.rest in
    let seen = has_seen p c.tick.new.self s q (next_clock p c.args.reading) c.in-Ok.ensures.ok c.snapshot-snapshot.ensures.begins rest in
    on_err c.from_residual.result (entry_of_snapshot seen.0 ∷ [], Adds-finished p c.tick.new.self s q (next_clock p c.args.reading) c.in-Ok.ensures.ok c.snapshot-snapshot.ensures.begins rest c.finish-stamp.new.self.0 _ c.finish-stamp.ensures.finishes.after (search rules) c.requires.pass.idle (omega arith))

pub returns-clause-ready : goal.returns-clause-ready
returns-clause-ready c = λ ready.
    let p = c.args.pass.now in
    let s = c.exec_snap-told.new.store.seat.now in
    let f = c.finish-stamp.new.self.0 in
    ready_seen p s f _ c.finish-stamp.result
    (sought p c.tick.new.self c.snapshot-snapshot.result.seat.now s f (next_clock p c.args.reading) c.finish-stamp.result c.snapshot-snapshot.ensures.begins (clock_later p c.args.reading) (clock_drawn p c.args.reading) c.requires.pass.idle
    c.in-Ok.ensures.ok (ap (λ (x : SnapshotFrame (Unit {0})). x.of_pass) c.exec_snap-told.ensures.rest) c.finish-stamp.ensures.finishes.after c.finish-stamp.ensures.finishes.stamp c.finish-stamp.ensures.finishes.absent ready.alone
    (subst (λ (n : ℕ). IsAbove p.log n) (c.in-Ok.ensures.stamp ∙ sym (ap (λ (x : PassView). x.published) c.in-Ok.ensures.ok)) c.in-Ok.ensures.above)) (search rules) ready
