use Rattle.std.proofs.Common.{rules, ◌≡◌, Ok, Err, sym, ap, subst, ◌∙◌}
use Rattle.std.specs.Prelude.{IfErr}
use Rattle.engine_answers.specs.declared.faults.AloneFault.TheVariants as fault
use Rattle.plain_data.specs.State.{Fits}
use Rattle.history_replay.specs.Results.{StandsForSome}
use Rattle.txn_engine.specs.Alone.{AloneView}
use Rattle.record_store.specs.declared.walk.Walk.TheVariants.{Store, Torn}
use Rattle.txn_engine.specs.Commits.{Commits, done_of, no_place_of}
use Rattle.txn_engine.specs.Pass.{entry_of}
use Rattle.lane_runner.specs.AloneTxn.{IsRuledOut}
use Rattle.lane_runner.specs.Rows.{stands}
use Rattle.lane_runner.proofs.AloneTxn.{commits_as}
use Rattle.lane_runner.proofs.alone_txn.end_alone.Goals as goal

pub commit-requires-clause-fits : goal.commit-requires-clause-fits
commit-requires-clause-fits g c =
    subst (λ (a : AloneView). Fits (StandsForSome stands) a.pass.shared.size.records (entry_of a.pass)) (sym c.resume-txn.ensures.seat) (rw c.in-Ok.is at c.requires.fits)

pub unreachable-requires : goal.unreachable-requires
unreachable-requires g c =
    let full = (no_place_of (rw c.in_default.is at c.commit.ensures.commits).ends).full c.commit.ensures.holds in
    (rw c.in-Ok.is at c.requires.places) (rw c.resume-txn.ensures.seat at full)

pub unreachable-requires-in-Err-Torn : goal.unreachable-requires-in-Err-Torn
unreachable-requires-in-Err-Torn g c =
    let here = c.in-Err-Torn in
    let told : c.args.told ≡ Err (Torn here.field-0-0) = (let is = here.is in let why = here.field-0-is in search (is, why, rules)) in
    let left = c.abort.ensures.read_left c.abort.ensures.holds in
    subst (λ t. IfErr t (λ why. IsRuledOut why c.args.alone.now.pass)) told c.requires.ruled_out (rw c.resume-txn.ensures.seat at left)

pub unreachable-requires-in-Err-Store-RecordsOut : goal.unreachable-requires-in-Err-Store-RecordsOut
unreachable-requires-in-Err-Store-RecordsOut g c =
    let here = c.in-Err-Store-RecordsOut in
    let told : c.args.told ≡ Err (Store fault.RecordsOut) = (let is = here.is in let why = here.field-0-is in let which = here.field-0-0-is in search (is, why, which, rules)) in
    let left = c.abort-in-Err-Store-RecordsOut.ensures.read_left c.abort-in-Err-Store-RecordsOut.ensures.holds in
    subst (λ t. IfErr t (λ why. IsRuledOut why c.args.alone.now.pass)) told c.requires.ruled_out (rw c.resume-txn.ensures.seat at left)

pub returns-in-Ok-commit-clause-commits : goal.returns-in-Ok-commit-clause-commits
returns-in-Ok-commit-clause-commits g c =
    let commits = c.in-Ok-commit.ensures.commits in
    let seat = c.resume-txn.ensures.seat in
    commits_as c.args.alone.now c.commit.new.self.0 _ c.number.result (record {
      told = c.in-Ok-commit.committed;
      commits = subst (λ (a : AloneView). Commits (StandsForSome stands) a.pass c.commit.new.self.0.pass (Ok c.in-Ok-commit.committed)) seat commits;
      left = rw seat at (commits.read_left c.in-Ok-commit.ensures.holds);
      stamp_is = c.number.ensures.value ∙ (done_of commits.ends).stamp ∙ ap (λ (a : AloneView). a.pass.stamp) seat;
    }) (let first = c.resume-txn.ensures.same_reference in search (first, rules))
