use Rattle.std.proofs.Common.{◌≡◌, sym, subst}
use Rattle.replay_model.specs.declared.input.Input.{Input}
use Rattle.replay_model.specs.Input.{IsWellFormed}
use Rattle.txn_script.specs.declared.keyword.Version.{Version}
use Rattle.txn_script.specs.declared.place.Place.TheVariants.{Finished}
use Rattle.txn_script.specs.Line.{HasForm}
use Rattle.txn_script.specs.Grammar.{IsRunnable, IsWithinLimits}
use Rattle.txn_script.specs.Answer.{SpellsBehind}
use Rattle.txn_script.specs.LineReading.{seen}
use Rattle.txn_script.specs.Reading.{Progress, progress}
use Rattle.txn_script.proofs.LineLaws.{line_of-reads}
use Rattle.txn_script.proofs.Reached.{Reached, Reached-started, Reached-line, refused-end, refused-form, stopped, refused-behind, finished-is}
use Rattle.txn_script.proofs.KeptLaws.{runnable-is, within-is, well_formed-is}
use Rattle.txn_script.proofs.Ends.{not_yet, no_more, some_more}
use Rattle.txn_script.proofs.parsing.read.Goals as goal

pub loop-version-init : goal.loop-version-init
loop-version-init c =
    subst (λ (p : Progress). Reached c.args.version c.args.bytes.now c.args.bytes.now 2 p) (sym c.new-reader.ensures) (Reached-started c.args.version c.args.bytes.now)

pub returns-in_default-clause-answer : goal.returns-in_default-clause-answer
returns-in_default-clause-answer c =
    let p = progress c.loop-version.reader in
    refused-end c.args.version c.args.bytes.now c.loop-version.rest.now c.loop-version.number p c.loop-version.invariant
    (not_yet c.is_finished.result (p.place ≡ Finished) c.is_finished.ensures c.loop-version-test.true) (sym c.in_default.ensures) c.at.result c.at.ensures

pub returns-in_default-read-clause-answer : goal.returns-in_default-read-clause-answer
returns-in_default-read-clause-answer c =
    let p = progress c.loop-version.reader in
    refused-form c.args.version c.args.bytes.now c.loop-version.rest.now c.loop-version.number p c.loop-version.invariant c.in-Some.text.now c.in-Some.behind.now
    (not_yet c.is_finished.result (p.place ≡ Finished) c.is_finished.ensures c.loop-version-test.true) (sym c.in-Some.ensures) (sym c.in_default-read.ensures) c.at-in_default-read.result c.at-in_default-read.ensures

pub step-requires-clause-form : goal.step-requires-clause-form
step-requires-clause-form c =
    let form = (line_of-reads c.args.version c.in-Some.text.now (seen c.in-Some-read.line c.read.new.numbers) (sym c.in-Some-read.ensures)).1 in
    subst (λ (v : Version). HasForm v (seen c.in-Some-read.line c.read.new.numbers)) (sym c.loop-version.invariant.same) form

pub returns-in-Err-clause-answer : goal.returns-in-Err-clause-answer
returns-in-Err-clause-answer c =
    let p = progress c.loop-version.reader in
    stopped c.args.version c.args.bytes.now c.loop-version.rest.now c.loop-version.number p c.loop-version.invariant c.in-Some.text.now c.in-Some.behind.now (seen c.in-Some-read.line c.read.new.numbers) c.in-Err.stop c.at-in-Err.result
    (not_yet c.is_finished.result (p.place ≡ Finished) c.is_finished.ensures c.loop-version-test.true) (sym c.in-Some.ensures) (sym c.in-Some-read.ensures) c.in-Err.ensures c.at-in-Err.ensures

pub loop-version-preserved : goal.loop-version-preserved
loop-version-preserved c =
    Reached-line c.args.version c.args.bytes.now c.loop-version.rest.now c.loop-version.number (progress c.loop-version.reader) c.loop-version.invariant c.in-Some.text.now c.in-Some.behind.now (seen c.in-Some-read.line c.read.new.numbers) (progress c.step.new.self)
    (sym c.in-Some.ensures) (sym c.in-Some-read.ensures) c.in_default-step.ensures

pub returns-then-not-is_empty-clause-answer : goal.returns-then-not-is_empty-clause-answer
returns-then-not-is_empty-clause-answer c =
    let p = progress c.loop-version.reader in
    refused-behind c.args.version c.args.bytes.now c.loop-version.rest.now c.loop-version.number p c.loop-version.invariant
    (c.is_finished.ensures.0 c.loop-version-test.false) (some_more c.loop-version.rest.now c.is_empty.result c.is_empty.ensures c.if-not-is_empty.true) c.at-then-not-is_empty.result c.at-then-not-is_empty.ensures

pub returns-clause-answer : goal.returns-clause-answer
returns-clause-answer c =
    let p = progress c.loop-version.reader in
    let done = finished-is c.args.version c.args.bytes.now c.loop-version.rest.now c.loop-version.number p c.loop-version.invariant
    (c.is_finished.ensures.0 c.loop-version-test.false) (no_more c.loop-version.rest.now c.is_empty.result c.is_empty.ensures c.if-not-is_empty.false) in
    (done.0, subst (λ (input : Input). SpellsBehind c.args.version c.args.bytes.now input done.0) (sym c.finish.ensures) done.1)

pub returns-clause-well_formed : goal.returns-clause-well_formed
returns-clause-well_formed c =
    let reached = c.loop-version.invariant in
    subst IsWellFormed (sym c.finish.ensures) (well_formed-is reached.before (progress c.loop-version.reader) reached.reads (c.is_finished.ensures.0 c.loop-version-test.false))

pub returns-clause-within : goal.returns-clause-within
returns-clause-within c =
    let reached = c.loop-version.invariant in
    subst IsWithinLimits (sym c.finish.ensures) (within-is reached.before (progress c.loop-version.reader) reached.reads (c.is_finished.ensures.0 c.loop-version-test.false))

pub returns-clause-runnable : goal.returns-clause-runnable
returns-clause-runnable c =
    let reached = c.loop-version.invariant in
    subst IsRunnable (sym c.finish.ensures) (runnable-is reached.before (progress c.loop-version.reader) reached.reads (c.is_finished.ensures.0 c.loop-version-test.false))
