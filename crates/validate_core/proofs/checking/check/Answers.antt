use Rattle.std.proofs.Common.{◌≡◌, ◌≤◌, ℕ, refl, sym, ap, subst, arith}
use Rattle.core_rule.specs.Status.{status_word}
use Rattle.core_rule.specs.View.{View}
use Rattle.core_rule.specs.Deciding.{stamp_in}
use Rattle.validate_core.specs.Validating.{IsShown}
use Rattle.validate_core.specs.declared.conflict.Conflict.TheVariants.{ReadLater}
use Rattle.validate_core.proofs.Checks.{found_at, found_look, found_final, found_aim, passes_works, passes_stage, found_stage, later_shown, check_passes}
use Rattle.validate_core.proofs.Halting.{check_fails}
use Rattle.validate_core.proofs.LastCheck.{load_stops}
use Rattle.validate_core.proofs.Works.{works_step, ready_both, ready_over}
use Rattle.validate_core.proofs.checking.check.Goals as goal

pub returns-then-rts-stamp-clause-works : goal.returns-then-rts-stamp-clause-works
returns-then-rts-stamp-clause-works g c =
    let u = c.write_at-write.result.now in let f = c.in-Ok.shown in let x = c.find_overwritten.new.hand in
    passes_works c.args.stamp c.args.sets.now c.args.i u f.place f.wts (status_word f.status) c.args.hand.now.view x.view (c.in-Ok.ensures.finds c.write_at-write.result.now c.write_at-write.ensures) g.J.Keeps.kept x c.load_read_stamp-rts.new.hand c.load_read_stamp-rts.result refl c.load_read_stamp-rts.ensures

pub returns-then-rts-stamp-clause-conflict : goal.returns-then-rts-stamp-clause-conflict
returns-then-rts-stamp-clause-conflict g c =
    let u = c.write_at-write.result.now in let f = c.in-Ok.shown in let x = c.find_overwritten.new.hand in let y = c.load_read_stamp-rts.new.hand in let r = c.load_read_stamp-rts.result in
    let e = c.load_read_stamp-rts.ensures.view in let found = (c.in-Ok.ensures.finds c.write_at-write.result.now c.write_at-write.ensures) in
    let sx = found_stage c.args.stamp c.args.sets.now c.args.i u f.place f.wts (status_word f.status) c.args.hand.now.view x.view found c.requires.stage in
    let in_flight : stamp_in x.view.flight ≡ c.args.stamp = ap stamp_in sx.in_flight in
    let later = c.if-rts-stamp.true in
    let loads = ap (λ (v : View). v.seen.loads) e in
    let works = works_step x.view y.view _ _ _ e refl refl in
    subst (λ (n : ℕ). IsShown c.args.stamp c.args.sets.now c.args.hand.now.view y.view (ReadLater n f.wts r)) (sym c.rid.ensures)
    (later_shown c.args.stamp c.args.sets.now c.args.i u f.place f.wts (status_word f.status) r c.args.hand.now.view x.view y.view c.write_at-write.ensures found c.in-Ok.ensures.not_pending later works loads (c.load_read_stamp-rts.ensures.learnt (omega arith)))

pub returns-clause-stage : goal.returns-clause-stage
returns-clause-stage g c =
    let u = c.write_at-write.result.now in let f = c.in-Ok.shown in let x = c.find_overwritten.new.hand in
    let le : c.load_read_stamp-rts.result ≤ c.args.stamp = omega arith in
    passes_stage c.args.stamp c.args.sets.now c.args.i u f.place f.wts (status_word f.status) c.args.hand.now.view x.view (c.in-Ok.ensures.finds c.write_at-write.result.now c.write_at-write.ensures) g.J.Keeps.kept x c.load_read_stamp-rts.new.hand c.load_read_stamp-rts.result refl c.load_read_stamp-rts.ensures
    c.write_at-write.ensures c.requires.stage le

pub returns-clause-passes : goal.returns-clause-passes
returns-clause-passes g c =
    let u = c.write_at-write.result.now in let f = c.in-Ok.shown in let x = c.find_overwritten.new.hand in
    let le : c.load_read_stamp-rts.result ≤ c.args.stamp = omega arith in
    check_passes c.args.stamp c.args.sets.now c.args.i u f.place f.wts (status_word f.status) c.load_read_stamp-rts.result c.args.hand.now.view x.view c.load_read_stamp-rts.new.hand.view c.write_at-write.ensures
    (c.in-Ok.ensures.finds u c.write_at-write.ensures) c.in-Ok.ensures.not_pending le (ap (λ (v : View). v.seen.loads) c.load_read_stamp-rts.ensures.view)

pub load_read_stamp-rts-requires-clause-here : goal.load_read_stamp-rts-requires-clause-here
load_read_stamp-rts-requires-clause-here g c =
    let f = c.in-Ok.shown in
    found_at c.args.stamp c.args.sets.now c.args.i c.write_at-write.result.now f.place f.wts (status_word f.status) c.args.hand.now.view c.find_overwritten.new.hand.view (c.in-Ok.ensures.finds c.write_at-write.result.now c.write_at-write.ensures)

pub load_read_stamp-rts-requires-clause-seen : goal.load_read_stamp-rts-requires-clause-seen
load_read_stamp-rts-requires-clause-seen g c =
    let f = c.in-Ok.shown in
    found_look c.args.stamp c.args.sets.now c.args.i c.write_at-write.result.now f.place f.wts (status_word f.status) c.args.hand.now.view c.find_overwritten.new.hand.view (c.in-Ok.ensures.finds c.write_at-write.result.now c.write_at-write.ensures)

pub load_read_stamp-rts-requires-clause-last : goal.load_read_stamp-rts-requires-clause-last
load_read_stamp-rts-requires-clause-last g c =
    let f = c.in-Ok.shown in
    found_final c.args.stamp c.args.sets.now c.args.i c.write_at-write.result.now f.place f.wts (status_word f.status) c.args.hand.now.view c.find_overwritten.new.hand.view (c.in-Ok.ensures.finds c.write_at-write.result.now c.write_at-write.ensures) c.in-Ok.ensures.not_pending

pub load_read_stamp-rts-requires-clause-aim : goal.load_read_stamp-rts-requires-clause-aim
load_read_stamp-rts-requires-clause-aim g c =
    let f = c.in-Ok.shown in
    found_aim c.args.stamp c.args.sets.now c.args.i c.write_at-write.result.now f.place f.wts (status_word f.status) c.args.hand.now.view c.find_overwritten.new.hand.view (c.in-Ok.ensures.finds c.write_at-write.result.now c.write_at-write.ensures)

pub returns-then-rts-stamp-clause-stopped : goal.returns-then-rts-stamp-clause-stopped
returns-then-rts-stamp-clause-stopped g c =
    let u = c.write_at-write.result.now in let f = c.in-Ok.shown in let x = c.find_overwritten.new.hand in
    load_stops g.J.Keeps.kept c.args.stamp c.args.sets.now _ x c.load_read_stamp-rts.new.hand c.load_read_stamp-rts.result
    (found_stage c.args.stamp c.args.sets.now c.args.i u f.place f.wts (status_word f.status) c.args.hand.now.view x.view (c.in-Ok.ensures.finds c.write_at-write.result.now c.write_at-write.ensures) c.requires.stage) _ _ _ _ c.load_read_stamp-rts.ensures

pub returns-then-rts-stamp-clause-stays : goal.returns-then-rts-stamp-clause-stays
returns-then-rts-stamp-clause-stays g c =
    let x = c.find_overwritten.new.hand in let stays = c.find_overwritten.ensures.stays in let step = c.load_read_stamp-rts.ensures in
    ready_both c.args.core.now c.args.hand.now x c.load_read_stamp-rts.new.hand stays (ready_over c.args.core.now x c.load_read_stamp-rts.new.hand _ step.view refl refl refl stays.ready step.seat)

pub returns-clause-stays : goal.returns-clause-stays
returns-clause-stays g c =
    let x = c.find_overwritten.new.hand in let stays = c.find_overwritten.ensures.stays in let step = c.load_read_stamp-rts.ensures in
    ready_both c.args.core.now c.args.hand.now x c.load_read_stamp-rts.new.hand stays (ready_over c.args.core.now x c.load_read_stamp-rts.new.hand _ step.view refl refl refl stays.ready step.seat)

pub returns-then-rts-stamp-clause-halts : goal.returns-then-rts-stamp-clause-halts
returns-then-rts-stamp-clause-halts g c =
    let u = c.write_at-write.result.now in let f = c.in-Ok.shown in
    check_fails c.args.stamp c.args.sets.now c.args.i u f.place f.wts (status_word f.status) c.load_read_stamp-rts.result c.rid.result c.args.hand.now.view c.find_overwritten.new.hand.view c.load_read_stamp-rts.new.hand.view c.write_at-write.ensures
    (c.in-Ok.ensures.finds u c.write_at-write.ensures) c.in-Ok.ensures.not_pending c.rid.ensures (ap (λ (v : View). v.seen.loads) c.load_read_stamp-rts.ensures.view)
