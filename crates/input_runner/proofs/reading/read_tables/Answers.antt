use Rattle.std.proofs.Common.{ℕ, List, ◌++◌, ◌∷◌, [], Contains, refl, sym, ap, subst, ◌∙◌, rules}
use Rattle.plain_data.specs.declared.entry.Entry.{Entry}
use Rattle.histories.specs.History.{Lawful, Leaves}
use Rattle.history_replay.specs.Results.{StandsForSome}
use Rattle.record_store.specs.Limits.{record_limit}
use Rattle.seat_post.specs.Snapshot.{entry_of_snapshot}
use Rattle.seat_post.specs.Logs.{IsAbove}
use Rattle.stored_tables.proofs.Runs.{IfOk-map, ok_of}
use Rattle.txn_engine.specs.Alone.{Beside}
use Rattle.txn_engine.specs.Snapshot.{SnapshotFrame}
use Rattle.txn_engine.specs.Pass.{PassView, next_clock}
use Rattle.txn_engine.specs.Snapshot.{meaning_of_snapshot}
use Rattle.typed_tables.specs.Listing.{AreRows}
use Rattle.lane_runner.specs.Rows.{stands}
use Rattle.input_runner.proofs.Sought.{Sought, sought, not_torn, never_torn, each_told, left_agrees, clock_later, clock_drawn}
use Rattle.input_runner.proofs.reading.read_tables.Goals as goal
use Rattle.input_runner.proofs.reading.read_tables.Goals.{After-tell}

sight : (c : After-tell) → Sought c.args.alone.now.pass c.snapshot-snapshot.result.seat.now.pass c.list_tables-told.new.store.seat.now.pass c.tell.new.self.pass
sight c =
    let p = c.args.alone.now.pass in
    let s1 = c.list_tables-told.new.store.seat.now in
    let f = c.finish.new.self.0 in
    sought p c.tick.new.self.pass c.snapshot-snapshot.result.seat.now.pass s1.pass f.pass c.tell.new.self.pass (next_clock p 0) c.snapshot-snapshot.ensures.begins
    c.in-Ok.ensures.ok (ap (λ (x : SnapshotFrame Beside). x.of_pass) c.list_tables-told.ensures.rest) c.finish.ensures.finishes.after
    (record { after = search rules; not_back = search rules }) c.requires.pass.1 c.shared.ensures.alone
    (subst (λ (n : ℕ). IsAbove p.log n) (c.in-Ok.ensures.stamp ∙ sym (ap (λ (x : PassView). x.published) c.in-Ok.ensures.ok)) c.in-Ok.ensures.above) (clock_later p 0) (clock_drawn p 0)

pub untorn-requires : goal.untorn-requires
untorn-requires c =
    let p = c.args.alone.now.pass in
    not_torn c.list_tables-told.result _ c.list_tables-told.ensures.torn
    (never_torn (StandsForSome stands) p c.snapshot-snapshot.result.seat.now.pass c.list_tables-told.new.store.seat.now.pass c.tell.new.self.pass (sight (goal.at.untorn-requires c).After-tell) c.keeps_tables.ensures c.finish.ensures.finishes.stood)

pub returns-clause-adds : goal.returns-clause-adds
returns-clause-adds c = (sight (goal.at.returns-clause-adds c).After-tell).adds

pub returns-clause-rows : goal.returns-clause-rows
returns-clause-rows c =
    let p = c.args.alone.now.pass in
    let s = sight (goal.at.returns-clause-rows c).After-tell in
    let entry = entry_of_snapshot s.snapshot in
    let records = p.shared.size.records in
    let told : Lawful (StandsForSome stands) c.tell.new.self.pass.shared.size.records c.tell.new.self.pass.log = search rules in
    let lawful : Lawful (StandsForSome stands) records (p.log ++ entry ∷ []) =
    subst (λ (n : ℕ). Lawful (StandsForSome stands) n (p.log ++ entry ∷ [])) s.kept_records (subst (λ (log : List Entry). Lawful (StandsForSome stands) c.tell.new.self.pass.shared.size.records log) s.log told) in
    IfOk-map c.untorn.result (λ rows was tables leaves.
    (let left = left_agrees (StandsForSome stands) records p.log entry leaves.0 c.lawful_has_states.ensures lawful refl s.behind (subst (λ (log : List Entry). Leaves (Contains log) leaves.0) s.log leaves.1) in
    each_told records (meaning_of_snapshot c.snapshot-snapshot.result.seat.now.pass) (meaning_of_snapshot c.list_tables-told.new.store.seat.now.pass) s.snapshot.reads (λ tables. AreRows c.args.count tables rows.items) s.size s.none s.reads (ok_of c.list_tables-told.result _ rows was c.list_tables-told.ensures.rows) leaves.0 leaves.2.0 tables left.agrees
    (c.fits_records.ensures record_limit records leaves.0 leaves.2.0 tables left.is_state leaves.2.1))) c.untorn.ensures
