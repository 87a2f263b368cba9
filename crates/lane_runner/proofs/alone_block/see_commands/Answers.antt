use Rattle.std.proofs.Common.{rules, ◌≡◌, ℕ, ◌≤◌, true, false, Option, IfSome, sym, ap, subst, ◌∙◌}
use Rattle.history_replay.specs.Results.{StandsForSome}
use Rattle.txn_engine.specs.Alone.{Beside}
use Rattle.txn_engine.specs.Snapshot.{SnapshotFrame}
use Rattle.seat_post.specs.Ends.{Stood}
use Rattle.seat_post.specs.Snapshot.{SnapshotView}
use Rattle.txn_engine.specs.Pass.{PassView, next_clock}
use Rattle.seat_post.specs.Logs.{IsAbove}
use Rattle.seat_post.specs.Snapshot.{entry_of_snapshot}
use Rattle.txn_engine.specs.Snapshot.{meaning_of_snapshot}
use Rattle.lane_runner.specs.Rows.{stands}
use Rattle.lane_runner.specs.Holding.{Enters}
use Rattle.lane_runner.proofs.Clocks.{clock_later, clock_drawn}
use Rattle.lane_runner.proofs.Entries.{never_stood}
use Rattle.lane_runner.proofs.Held.{roomy_once}
use Rattle.lane_runner.proofs.Looked.{Sought, sought, size_looked, none_looked, reads_looked, is_entry_looked, torn_looked, leaves_looked}
use Rattle.lane_runner.proofs.Seen.{not_torn}
use Rattle.lane_runner.proofs.Ran.{enters_as, awaits_as}
use Rattle.lane_runner.proofs.alone_block.see_commands.Goals as goal
use Rattle.lane_runner.proofs.alone_block.see_commands.Goals.{After-finish-stamp, In_ok-outcome}

sight : (c : After-finish-stamp) → Sought c.args.alone.now.pass c.exec_snap-told.new.store.seat.now.pass c.finish-stamp.new.self.0.pass c.finish-stamp.result
sight c =
    let p = c.args.alone.now.pass in
    let s1 = c.exec_snap-told.new.store.seat.now.pass in
    let f = c.finish-stamp.new.self.0 in
    sought p c.tick.new.self.pass c.snapshot-snapshot.result.seat.now.pass s1 f.pass (next_clock p 0) c.finish-stamp.result c.snapshot-snapshot.ensures.begins (clock_later p 0) (clock_drawn p 0) c.requires.holds.idle
    c.in-Ok.ensures.ok (ap (λ (x : SnapshotFrame Beside). x.of_pass) c.exec_snap-told.ensures.rest) c.finish-stamp.ensures.finishes.after c.finish-stamp.ensures.finishes.stamp c.finish-stamp.ensures.finishes.absent c.shared.ensures.alone
    (subst (λ (n : ℕ). IsAbove p.log n) (c.in-Ok.ensures.stamp ∙ sym (ap (λ (x : PassView). x.published) c.in-Ok.ensures.ok)) c.in-Ok.ensures.above)

pub untorn-requires : goal.untorn-requires
untorn-requires c =
    let p = c.args.alone.now.pass in
    let s0 = c.snapshot-snapshot.result.seat.now.pass in
    let s1 = c.exec_snap-told.new.store.seat.now.pass in
    let t = c.tick.new.self.pass in
    let begins = c.snapshot-snapshot.ensures.begins in
    let tick = c.in-Ok.ensures.ok in
    let o = sight (goal.at.untorn-requires c).After-finish-stamp in
    let records : s1.shared.size.records ≡ p.shared.size.records = ap (λ (x : SnapshotFrame Beside). x.of_pass.shared.size.records) c.exec_snap-told.ensures.rest ∙ ap (λ (x : PassView). x.shared.size.records) begins.pass ∙ ap (λ (x : PassView). x.shared.size.records) tick in
    let stood = subst (λ (g : Option SnapshotView). IfSome g (λ g. Stood (StandsForSome stands) s1.shared.size.records s1.log (entry_of_snapshot g))) o.seen c.finish-stamp.ensures.finishes.stood in
    not_torn c.exec_snap-told.result _ c.exec_snap-told.ensures.torn
    (λ torn. never_stood (StandsForSome stands) s1.shared.size.records s1.log (entry_of_snapshot o.snapshot) c.keeps_tables.ensures stood
    (torn_looked s1.shared.size.records (meaning_of_snapshot s0) (meaning_of_snapshot s1) o.snapshot (size_looked p t s0 s1 (next_clock p 0) begins tick o.snapshot o.seen ∙ sym records) (none_looked p t s0 s1 (next_clock p 0) begins tick o.snapshot o.seen) (reads_looked p t s0 s1 (next_clock p 0) begins tick o.snapshot o.seen) torn))

enters : (c : In_ok-outcome) → Enters c.args.commands.now c.args.alone.now c.finish-stamp.new.self.0 c.finish-stamp.result true c.in_ok-outcome.outcome
enters c =
    let p = c.args.alone.now.pass in
    let s0 = c.snapshot-snapshot.result.seat.now.pass in
    let s1 = c.exec_snap-told.new.store.seat.now.pass in
    let t = c.tick.new.self.pass in
    let begins = c.snapshot-snapshot.ensures.begins in
    let tick = c.in-Ok.ensures.ok in
    let o = sight (goal.at.returns-clause-enters c).After-finish-stamp in
    record {
      committed = λ placed stamp kind. record {
        entry = entry_of_snapshot o.snapshot;
        adds = o.adds;
        is_entry = is_entry_looked p.shared.size.records (meaning_of_snapshot s0) (meaning_of_snapshot s1) c.args.commands.now c.in_ok-outcome.outcome placed o.snapshot c.fits_records.ensures (size_looked p t s0 s1 (next_clock p 0) begins tick o.snapshot o.seen)
            (none_looked p t s0 s1 (next_clock p 0) begins tick o.snapshot o.seen) (reads_looked p t s0 s1 (next_clock p 0) begins tick o.snapshot o.seen) (rw c.in_ok-outcome.ensures at c.exec_snap-told.ensures.outcome) (sym (stamp ∙ o.stamp_is)) kind;
        seat = λ commit. absurd (let both : true ≡ false = sym kind ∙ commit in cc);
        weighs = λ commit. cc;
      };
      leaves = λ lawful. leaves_looked p c.finish-stamp.new.self.0.pass o.snapshot c.args.commands.now o.adds c.requires.reads;
      clock = o.clock;
    }

pub returns-clause-enters : goal.returns-clause-enters
returns-clause-enters c = enters_as c.args.commands.now c.args.alone.now c.finish-stamp.new.self.0 _ c.finish-stamp.result true c.in_ok-outcome.outcome (enters c) (search rules)

pub returns-clause-awaits : goal.returns-clause-awaits
returns-clause-awaits c =
    let o = sight (goal.at.returns-clause-awaits c).After-finish-stamp in
    awaits_as c.finish-stamp.new.self.0 _ (record {
      idle = o.adds.idle;
      absent = o.absent c.requires.holds.absent;
      roomy = roomy_once c.finish-stamp.new.self.0.pass (o.roomy c.requires.holds.roomy);
    }) (search rules)

pub returns-clause-behind : goal.returns-clause-behind
returns-clause-behind c =
    let o = sight (goal.at.returns-clause-behind c).After-finish-stamp in
    λ e among commit. subst (λ (n : ℕ). e.stamp ≤ n) (sym o.stamp_is) (o.behind e among commit)
