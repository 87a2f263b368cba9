use Rattle.std.proofs.Common.{rules, ◌≡◌, ℕ, [], ◌∷◌, sym, subst, ap, ◌∙◌, arith}
use Rattle.seat_post.specs.Logs.{IsAbove}
use Rattle.txn_engine.specs.Pass.{EngineView, PassView, next_clock}
use Rattle.txn_engine.specs.Snapshot.{SnapshotFrame, unread}
use Rattle.seat_post.specs.Snapshot.{entry_of_snapshot}
use Rattle.lane_runner.proofs.Answered.{on_err}
use Rattle.lane_runner.proofs.Seen.{has_seen, sees_all, never_torn, not_torn, Adds-finished}
use Rattle.snap_dump.specs.Tagged.{tagged}
use Rattle.snap_dump.proofs.Dumped.{dumps_seen, keeps_seen, read_in_order}
use Rattle.snap_dump.proofs.at_seat.dump_at.Goals as goal

pub list_tables-told-requires-clause-size : goal.list_tables-told-requires-clause-size
list_tables-told-requires-clause-size g c =
    let pass = g.S.SeatCalls.pass in
    let p = pass c.args.seat.now in
    let all = sees_all p (pass c.tick.new.self) (pass c.snapshot-snapshot.result.seat.now) (next_clock p c.args.reading) c.in-Ok.ensures.ok c.snapshot-snapshot.ensures.begins in
    let records : p.shared.size.records ≡ c.args.engine.now.size.records = ap (λ (e : EngineView). e.size.records) c.requires.pass.same in
    omega (arith, all, records, c.requires.pass.fixed, c.fixed.ensures.value, c.fixed.ensures.within)

pub untorn-requires : goal.untorn-requires
untorn-requires g c =
    let pass = g.S.SeatCalls.pass in
    let p = pass c.args.seat.now in
    let s = pass c.snapshot-snapshot.result.seat.now in
    let q = pass c.list_tables-told.new.store.seat.now in
    let rest : unread q ≡ unread s = ap (λ (x : SnapshotFrame g.S.SeatCalls.Beside). x.of_pass) c.list_tables-told.ensures.rest in
    not_torn c.list_tables-told.result _ c.list_tables-told.ensures.torn
    (never_torn p (pass c.tick.new.self) s q (next_clock p c.args.reading) c.in-Ok.ensures.ok c.snapshot-snapshot.ensures.begins rest _ c.keeps_tables.ensures c.finish-stamp.ensures.finishes.stood)

pub returns-clause-dumps : goal.returns-clause-dumps
returns-clause-dumps g c =
    let pass = g.S.SeatCalls.pass in
    let p = pass c.args.seat.now in
    let s = pass c.snapshot-snapshot.result.seat.now in
    let q = pass c.list_tables-told.new.store.seat.now in
    let rest : unread q ≡ unread s = ap (λ (x : SnapshotFrame g.S.SeatCalls.Beside). x.of_pass) c.list_tables-told.ensures.rest in
    dumps_seen p (pass c.tick.new.self) s q (next_clock p c.args.reading) c.in-Ok.ensures.ok c.snapshot-snapshot.ensures.begins rest (pass c.finish-stamp.new.self.0) _ c.finish-stamp.ensures.finishes.after (search rules) c.requires.pass.idle (omega arith)
    c.in_ok-lists.lists.items _ c.fits_records.ensures (rw c.in_ok-lists.ensures at c.list_tables-told.ensures.rows) c.finish-stamp.ensures.finishes.stamp
    (c.in_ok-rows.ensures ∙ ap (tagged 0) c.deref.ensures.value)
    (subst (λ (n : ℕ). IsAbove p.log n) (c.in-Ok.ensures.stamp ∙ sym (ap (λ (x : PassView). x.published) c.in-Ok.ensures.ok)) c.in-Ok.ensures.above)

pub returns-in_err-lists-clause-fault : goal.returns-in_err-lists-clause-fault
returns-in_err-lists-clause-fault g c =
    let pass = g.S.SeatCalls.pass in
    let p = pass c.args.seat.now in
    let s = pass c.snapshot-snapshot.result.seat.now in
    let q = pass c.list_tables-told.new.store.seat.now in
    let rest : unread q ≡ unread s = ap (λ (x : SnapshotFrame g.S.SeatCalls.Beside). x.of_pass) c.list_tables-told.ensures.rest in
    let seen = has_seen p (pass c.tick.new.self) s q (next_clock p c.args.reading) c.in-Ok.ensures.ok c.snapshot-snapshot.ensures.begins rest in
    on_err c.from_residual.result (entry_of_snapshot seen.0 ∷ [], Adds-finished p (pass c.tick.new.self) s q (next_clock p c.args.reading) c.in-Ok.ensures.ok c.snapshot-snapshot.ensures.begins rest (pass c.finish-stamp.new.self.0) _ c.finish-stamp.ensures.finishes.after (search rules) c.requires.pass.idle (omega arith))

pub returns-in_err-rows-clause-fault : goal.returns-in_err-rows-clause-fault
returns-in_err-rows-clause-fault g c =
    let pass = g.S.SeatCalls.pass in
    let p = pass c.args.seat.now in
    let s = pass c.snapshot-snapshot.result.seat.now in
    let q = pass c.list_tables-told.new.store.seat.now in
    let rest : unread q ≡ unread s = ap (λ (x : SnapshotFrame g.S.SeatCalls.Beside). x.of_pass) c.list_tables-told.ensures.rest in
    let seen = has_seen p (pass c.tick.new.self) s q (next_clock p c.args.reading) c.in-Ok.ensures.ok c.snapshot-snapshot.ensures.begins rest in
    on_err c.from_residual-in_err-rows.result (entry_of_snapshot seen.0 ∷ [], Adds-finished p (pass c.tick.new.self) s q (next_clock p c.args.reading) c.in-Ok.ensures.ok c.snapshot-snapshot.ensures.begins rest (pass c.finish-stamp.new.self.0) _ c.finish-stamp.ensures.finishes.after (search rules) c.requires.pass.idle (omega arith))

pub invariant_of-result : goal.invariant_of-result
invariant_of-result g c =
    let pass = g.S.SeatCalls.pass in
    let p = pass c.args.seat.now in
    let s = pass c.snapshot-snapshot.result.seat.now in
    let q = pass c.list_tables-told.new.store.seat.now in
    let rest : unread q ≡ unread s = ap (λ (x : SnapshotFrame g.S.SeatCalls.Beside). x.of_pass) c.list_tables-told.ensures.rest in
    record {
      in_order = read_in_order p (pass c.tick.new.self) s q (next_clock p c.args.reading) c.in-Ok.ensures.ok c.snapshot-snapshot.ensures.begins rest _ c.in_ok-lists.lists.items c.in_ok-rows.rows c.keeps_tables.ensures c.finish-stamp.ensures.finishes.stood
          (rw c.in_ok-lists.ensures at c.list_tables-told.ensures.rows) (c.in_ok-rows.ensures ∙ ap (tagged 0) c.deref.ensures.value);
    }

pub returns-clause-keeps : goal.returns-clause-keeps
returns-clause-keeps g c =
    let pass = g.S.SeatCalls.pass in
    let p = pass c.args.seat.now in
    let s = pass c.snapshot-snapshot.result.seat.now in
    let q = pass c.list_tables-told.new.store.seat.now in
    let rest : unread q ≡ unread s = ap (λ (x : SnapshotFrame g.S.SeatCalls.Beside). x.of_pass) c.list_tables-told.ensures.rest in
    keeps_seen p (pass c.tick.new.self) s q (next_clock p c.args.reading) c.in-Ok.ensures.ok c.snapshot-snapshot.ensures.begins rest (pass c.finish-stamp.new.self.0) _ c.finish-stamp.ensures.finishes.after (search rules) c.requires.pass.idle (omega arith)

pub returns-in_err-lists-clause-keeps : goal.returns-in_err-lists-clause-keeps
returns-in_err-lists-clause-keeps g c =
    let pass = g.S.SeatCalls.pass in
    let p = pass c.args.seat.now in
    let s = pass c.snapshot-snapshot.result.seat.now in
    let q = pass c.list_tables-told.new.store.seat.now in
    let rest : unread q ≡ unread s = ap (λ (x : SnapshotFrame g.S.SeatCalls.Beside). x.of_pass) c.list_tables-told.ensures.rest in
    keeps_seen p (pass c.tick.new.self) s q (next_clock p c.args.reading) c.in-Ok.ensures.ok c.snapshot-snapshot.ensures.begins rest (pass c.finish-stamp.new.self.0) _ c.finish-stamp.ensures.finishes.after (search rules) c.requires.pass.idle (omega arith)

pub returns-in_err-rows-clause-keeps : goal.returns-in_err-rows-clause-keeps
returns-in_err-rows-clause-keeps g c =
    let pass = g.S.SeatCalls.pass in
    let p = pass c.args.seat.now in
    let s = pass c.snapshot-snapshot.result.seat.now in
    let q = pass c.list_tables-told.new.store.seat.now in
    let rest : unread q ≡ unread s = ap (λ (x : SnapshotFrame g.S.SeatCalls.Beside). x.of_pass) c.list_tables-told.ensures.rest in
    keeps_seen p (pass c.tick.new.self) s q (next_clock p c.args.reading) c.in-Ok.ensures.ok c.snapshot-snapshot.ensures.begins rest (pass c.finish-stamp.new.self.0) _ c.finish-stamp.ensures.finishes.after (search rules) c.requires.pass.idle (omega arith)
