use Rattle.std.proofs.Common.{◌≡◌, ℕ, ◌-◌, refl, ap, subst, arith, OnOk, IfErr}
use Rattle.word_layout.specs.Size.{Size}
use Rattle.validate_core.specs.Checked.{PassesCheck}
use Rattle.validate_core.specs.Halting.{FailsCheck}
use Rattle.validate_core.specs.Validating.{Decides}
use Rattle.core_rule.specs.View.{View}
use Rattle.validate_core.proofs.OneByOne.{checks_none}
use Rattle.validate_core.proofs.Checks.{checking_starts, checking_next, ok_checks}
use Rattle.validate_core.proofs.Halting.{checks_halt, err_checks_halt}
use Rattle.validate_core.proofs.LastCheck.{bare_decides}
use Rattle.validate_core.proofs.Staging.{shown_earlier, err_works, err_shown, ok_decides}
use Rattle.validate_core.proofs.Works.{works_both, ready_both, ready_over}
use Rattle.validate_core.proofs.checking.check_writes.Goals as goal

pub loop-i-init : goal.loop-i-init
loop-i-init g c = checking_starts c.args.core.now c.args.hand.now c.args.stamp c.args.sets.now c.requires.ready c.requires.stage

pub loop-i-preserved : goal.loop-i-preserved
loop-i-preserved g c =
    checking_next c.args.core.now c.args.hand.now c.args.stamp c.args.sets.now c.loop-i.i c.loop-i.hand c.check.new.hand c.loop-i.invariant c.check.ensures.stays c.check.ensures.works c.in_default.ensures.passes c.in_default.ensures.stage

pub returns-clause-ok : goal.returns-clause-ok
returns-clause-ok g c = ok_decides g.J.Keeps.kept c.args.core.now.size.records c.args.stamp c.args.sets.now c.args.hand.now.view c.loop-i.hand.view c.check_last.new.hand.view c.check_last.result c.loop-i.invariant.works c.check_last.ensures.ok

pub returns-clause-works : goal.returns-clause-works
returns-clause-works g c = err_works c.args.hand.now.view c.loop-i.hand.view c.check_last.new.hand.view c.check_last.result c.loop-i.invariant.works c.check_last.ensures.works

pub returns-clause-conflict : goal.returns-clause-conflict
returns-clause-conflict g c = err_shown c.args.stamp c.args.sets.now c.args.hand.now.view c.loop-i.hand.view c.check_last.new.hand.view c.check_last.result c.loop-i.invariant.works c.check_last.ensures.conflict

pub returns-in-Err-clause-conflict : goal.returns-in-Err-clause-conflict
returns-in-Err-clause-conflict g c = shown_earlier c.args.stamp c.args.sets.now c.args.hand.now.view c.loop-i.hand.view c.check.new.hand.view c.in-Err.conflict c.loop-i.invariant.works c.in-Err.ensures.conflict

-- a check that passes, and all of them
pub returns-clause-checks : goal.returns-clause-checks
returns-clause-checks g c =
    let after' = c.check_last.new.hand.view.seen.loads in
    let here : c.count_writes-count.result - 1 ≡ c.loop-i.i = omega arith in
    let passes = subst (λ (i : ℕ). OnOk c.check_last.result (PassesCheck c.args.stamp i c.args.sets.now.writes c.loop-i.hand.view.seen.loads after')) here c.check_last.ensures.passes in
    ok_checks c.args.core.now c.args.hand.now c.args.stamp c.args.sets.now c.loop-i.i c.loop-i.hand after' c.check_last.result (omega arith) c.loop-i.invariant passes

-- ---- without writes

pub returns-then-count-eq0-clause-checks : goal.returns-then-count-eq0-clause-checks
returns-then-count-eq0-clause-checks g c =
    let v = c.args.hand.now.view in
    checks_none c.args.stamp v.number c.args.sets.now.writes v.seen.loads c.decide_bare.new.hand.view.seen.loads c.decide_bare.result (omega arith) (ap (λ (w : View). w.seen.loads) c.decide_bare.ensures.view)

pub returns-then-count-eq0-clause-ok : goal.returns-then-count-eq0-clause-ok
returns-then-count-eq0-clause-ok g c =
    subst (λ (n : ℕ). Decides g.J.Keeps.kept n c.args.stamp c.args.sets.now c.args.hand.now.view c.decide_bare.new.hand.view) (ap (λ (z : Size). z.records) c.requires.ready.hand_of.same_size)
    (bare_decides g.J.Keeps.kept c.args.stamp c.args.sets.now _ c.args.hand.now c.decide_bare.new.hand c.decide_bare.result c.requires.stage c.decide_bare.ensures)

pub returns-then-count-eq0-clause-stays : goal.returns-then-count-eq0-clause-stays
returns-then-count-eq0-clause-stays g c = let step = c.decide_bare.ensures in ready_over c.args.core.now c.args.hand.now c.decide_bare.new.hand _ step.view refl refl refl c.requires.ready step.seat

-- ---- a check fails, or passes

pub returns-in-Err-clause-works : goal.returns-in-Err-clause-works
returns-in-Err-clause-works g c = works_both c.args.hand.now.view c.loop-i.hand.view c.check.new.hand.view c.loop-i.invariant.works c.in-Err.ensures.works

pub returns-in-Err-clause-stays : goal.returns-in-Err-clause-stays
returns-in-Err-clause-stays g c = ready_both c.args.core.now c.args.hand.now c.loop-i.hand c.check.new.hand c.loop-i.invariant.stays c.check.ensures.stays

pub returns-clause-stays : goal.returns-clause-stays
returns-clause-stays g c = ready_both c.args.core.now c.args.hand.now c.loop-i.hand c.check_last.new.hand c.loop-i.invariant.stays c.check_last.ensures.stays

-- ---- what was loaded where a check fails

pub returns-in-Err-clause-halts : goal.returns-in-Err-clause-halts
returns-in-Err-clause-halts g c =
    checks_halt c.args.stamp c.loop-i.i c.args.sets.now.writes c.args.hand.now.view.seen.loads c.loop-i.hand.view.seen.loads c.check.new.hand.view.seen.loads c.in-Err.conflict c.loop-i.invariant.checked c.in-Err.ensures.halts

pub returns-clause-halts : goal.returns-clause-halts
returns-clause-halts g c =
    let ms = c.loop-i.hand.view.seen.loads in let after' = c.check_last.new.hand.view.seen.loads in
    let here : c.count_writes-count.result - 1 ≡ c.loop-i.i = omega arith in
    err_checks_halt c.args.stamp c.loop-i.i c.args.sets.now.writes c.args.hand.now.view.seen.loads ms after' c.check_last.result c.loop-i.invariant.checked
    (subst (λ (i : ℕ). IfErr c.check_last.result (FailsCheck c.args.stamp i c.args.sets.now.writes ms after')) here c.check_last.ensures.halts)
