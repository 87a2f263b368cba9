use Rattle.std.proofs.Common.{◌≡◌, ◌≤◌, ℕ, refl, sym, ap, subst, arith}
use Rattle.core_rule.specs.Status.{status_word}
use Rattle.word_layout.specs.Size.{Size}
use Rattle.core_rule.specs.View.{View, checks}
use Rattle.core_rule.specs.Deciding.{stamp_in}
use Rattle.validate_core.specs.Validating.{IsShown, Decides}
use Rattle.validate_core.specs.declared.conflict.Conflict.TheVariants.{ReadLater}
use Rattle.validate_core.proofs.Checks.{found_at, found_look, found_final, found_aim, others_passed, found_stage, later_shown, check_passes, refused_works, fits_found}
use Rattle.validate_core.proofs.Halting.{check_fails}
use Rattle.validate_core.proofs.LastCheck.{check_stops, check_decides}
use Rattle.validate_core.proofs.Staging.{found_works, decides_earlier}
use Rattle.validate_core.proofs.Works.{works_both, ready_both, ready_over}
use Rattle.validate_core.proofs.checking.check_last.Goals as goal

pub returns-then-rts-stamp-clause-conflict : goal.returns-then-rts-stamp-clause-conflict
returns-then-rts-stamp-clause-conflict g c =
    let u = c.write_at-write.result.now in let f = c.in-Ok.shown in let x = c.find_overwritten.new.hand in let y = c.decide_by_check-rts.new.hand in let r = c.decide_by_check-rts.result in
    let e = c.decide_by_check-rts.ensures.view in let found = (c.in-Ok.ensures.finds c.write_at-write.result.now c.write_at-write.ensures) in
    let sx = found_stage c.args.stamp c.args.sets.now c.args.i u f.place f.wts (status_word f.status) c.args.hand.now.view x.view found c.requires.stage in
    let in_flight : stamp_in x.view.flight ≡ c.args.stamp = ap stamp_in sx.in_flight in
    let later = c.if-rts-stamp.true in
    let loads = ap (λ (v : View). v.seen.loads) e in
    let works = refused_works g.J.Keeps.kept _ _ _ _ r x y c.decide_by_check-rts.ensures (omega arith) in
    subst (λ (n : ℕ). IsShown c.args.stamp c.args.sets.now c.args.hand.now.view y.view (ReadLater n f.wts r)) (sym c.rid.ensures)
    (later_shown c.args.stamp c.args.sets.now c.args.i u f.place f.wts (status_word f.status) r c.args.hand.now.view x.view y.view c.write_at-write.ensures found c.in-Ok.ensures.not_pending later works loads (c.decide_by_check-rts.ensures.learnt.0 (omega arith)))

pub decide_by_check-rts-requires-clause-passed : goal.decide_by_check-rts-requires-clause-passed
decide_by_check-rts-requires-clause-passed g c =
    let u = c.write_at-write.result.now in let f = c.in-Ok.shown in let x = c.find_overwritten.new.hand in
    others_passed c.args.stamp c.args.sets.now c.args.i u f.place f.wts (status_word f.status) c.args.hand.now.view x.view (c.in-Ok.ensures.finds c.write_at-write.result.now c.write_at-write.ensures) c.write_at-write.ensures c.requires.number c.requires.stage

pub decide_by_check-rts-requires-clause-fits : goal.decide_by_check-rts-requires-clause-fits
decide_by_check-rts-requires-clause-fits g c =
    let u = c.write_at-write.result.now in let f = c.in-Ok.shown in let x = c.find_overwritten.new.hand in
    fits_found g.J.Keeps.kept c.args.core.now.size.records c.args.stamp c.args.sets.now _ x.view
    (found_stage c.args.stamp c.args.sets.now c.args.i u f.place f.wts (status_word f.status) c.args.hand.now.view x.view (c.in-Ok.ensures.finds c.write_at-write.result.now c.write_at-write.ensures) c.requires.stage) c.requires.fits

pub decide_by_check-rts-requires-clause-here : goal.decide_by_check-rts-requires-clause-here
decide_by_check-rts-requires-clause-here g c =
    let f = c.in-Ok.shown in
    found_at c.args.stamp c.args.sets.now c.args.i c.write_at-write.result.now f.place f.wts (status_word f.status) c.args.hand.now.view c.find_overwritten.new.hand.view (c.in-Ok.ensures.finds c.write_at-write.result.now c.write_at-write.ensures)

pub decide_by_check-rts-requires-clause-seen : goal.decide_by_check-rts-requires-clause-seen
decide_by_check-rts-requires-clause-seen g c =
    let f = c.in-Ok.shown in
    found_look c.args.stamp c.args.sets.now c.args.i c.write_at-write.result.now f.place f.wts (status_word f.status) c.args.hand.now.view c.find_overwritten.new.hand.view (c.in-Ok.ensures.finds c.write_at-write.result.now c.write_at-write.ensures)

pub decide_by_check-rts-requires-clause-last : goal.decide_by_check-rts-requires-clause-last
decide_by_check-rts-requires-clause-last g c =
    let f = c.in-Ok.shown in
    found_final c.args.stamp c.args.sets.now c.args.i c.write_at-write.result.now f.place f.wts (status_word f.status) c.args.hand.now.view c.find_overwritten.new.hand.view (c.in-Ok.ensures.finds c.write_at-write.result.now c.write_at-write.ensures) c.in-Ok.ensures.not_pending

pub decide_by_check-rts-requires-clause-aim : goal.decide_by_check-rts-requires-clause-aim
decide_by_check-rts-requires-clause-aim g c =
    let f = c.in-Ok.shown in
    found_aim c.args.stamp c.args.sets.now c.args.i c.write_at-write.result.now f.place f.wts (status_word f.status) c.args.hand.now.view c.find_overwritten.new.hand.view (c.in-Ok.ensures.finds c.write_at-write.result.now c.write_at-write.ensures)

pub returns-then-rts-stamp-clause-works : goal.returns-then-rts-stamp-clause-works
returns-then-rts-stamp-clause-works g c =
    let u = c.write_at-write.result.now in let f = c.in-Ok.shown in let v = c.args.hand.now.view in let x = c.find_overwritten.new.hand in let y = c.decide_by_check-rts.new.hand in
    let found = (c.in-Ok.ensures.finds c.write_at-write.result.now c.write_at-write.ensures) in
    let in_flight : stamp_in x.view.flight ≡ c.args.stamp = ap stamp_in (found_stage c.args.stamp c.args.sets.now c.args.i u f.place f.wts (status_word f.status) v x.view found c.requires.stage).in_flight in
    let later = c.if-rts-stamp.true in
    works_both v x.view y.view (found_works (checks u) c.args.stamp u.record_number f.place f.wts (status_word f.status) v x.view found) (refused_works g.J.Keeps.kept _ _ _ _ c.decide_by_check-rts.result x y c.decide_by_check-rts.ensures (omega arith))

pub returns-then-rts-stamp-clause-stopped : goal.returns-then-rts-stamp-clause-stopped
returns-then-rts-stamp-clause-stopped g c =
    let u = c.write_at-write.result.now in let f = c.in-Ok.shown in let x = c.find_overwritten.new.hand in
    check_stops g.J.Keeps.kept c.args.stamp c.args.sets.now _ x c.decide_by_check-rts.new.hand c.decide_by_check-rts.result
    (found_stage c.args.stamp c.args.sets.now c.args.i u f.place f.wts (status_word f.status) c.args.hand.now.view x.view (c.in-Ok.ensures.finds c.write_at-write.result.now c.write_at-write.ensures) c.requires.stage) _ _ _ _ c.decide_by_check-rts.ensures c.if-rts-stamp.true

pub returns-then-rts-stamp-clause-stays : goal.returns-then-rts-stamp-clause-stays
returns-then-rts-stamp-clause-stays g c =
    let x = c.find_overwritten.new.hand in let stays = c.find_overwritten.ensures.stays in let step = c.decide_by_check-rts.ensures in
    ready_both c.args.core.now c.args.hand.now x c.decide_by_check-rts.new.hand stays (ready_over c.args.core.now x c.decide_by_check-rts.new.hand _ step.view refl refl refl stays.ready step.seat)

pub returns-clause-ok : goal.returns-clause-ok
returns-clause-ok g c =
    let u = c.write_at-write.result.now in let f = c.in-Ok.shown in let v = c.args.hand.now.view in let x = c.find_overwritten.new.hand in let y = c.decide_by_check-rts.new.hand in
    let found = (c.in-Ok.ensures.finds c.write_at-write.result.now c.write_at-write.ensures) in
    let le : c.decide_by_check-rts.result ≤ c.args.stamp = omega arith in
    subst (λ (n : ℕ). Decides g.J.Keeps.kept n c.args.stamp c.args.sets.now v y.view) (ap (λ (z : Size). z.records) c.find_overwritten.ensures.stays.ready.hand_of.same_size)
    (decides_earlier g.J.Keeps.kept x.view.size.records c.args.stamp c.args.sets.now v x.view y.view (found_works (checks u) c.args.stamp u.record_number f.place f.wts (status_word f.status) v x.view found)
    (check_decides g.J.Keeps.kept c.args.stamp c.args.sets.now _ x y c.decide_by_check-rts.result (found_stage c.args.stamp c.args.sets.now c.args.i u f.place f.wts (status_word f.status) v x.view found c.requires.stage) _ _ _ _ c.decide_by_check-rts.ensures le))

pub returns-clause-passes : goal.returns-clause-passes
returns-clause-passes g c =
    let u = c.write_at-write.result.now in let f = c.in-Ok.shown in let x = c.find_overwritten.new.hand in
    let le : c.decide_by_check-rts.result ≤ c.args.stamp = omega arith in
    check_passes c.args.stamp c.args.sets.now c.args.i u f.place f.wts (status_word f.status) c.decide_by_check-rts.result c.args.hand.now.view x.view c.decide_by_check-rts.new.hand.view c.write_at-write.ensures
    (c.in-Ok.ensures.finds u c.write_at-write.ensures) c.in-Ok.ensures.not_pending le (ap (λ (v : View). v.seen.loads) c.decide_by_check-rts.ensures.view)

pub returns-clause-stays : goal.returns-clause-stays
returns-clause-stays g c =
    let x = c.find_overwritten.new.hand in let stays = c.find_overwritten.ensures.stays in let step = c.decide_by_check-rts.ensures in
    ready_both c.args.core.now c.args.hand.now x c.decide_by_check-rts.new.hand stays (ready_over c.args.core.now x c.decide_by_check-rts.new.hand _ step.view refl refl refl stays.ready step.seat)

pub returns-then-rts-stamp-clause-halts : goal.returns-then-rts-stamp-clause-halts
returns-then-rts-stamp-clause-halts g c =
    let u = c.write_at-write.result.now in let f = c.in-Ok.shown in
    check_fails c.args.stamp c.args.sets.now c.args.i u f.place f.wts (status_word f.status) c.decide_by_check-rts.result c.rid.result c.args.hand.now.view c.find_overwritten.new.hand.view c.decide_by_check-rts.new.hand.view c.write_at-write.ensures
    (c.in-Ok.ensures.finds u c.write_at-write.ensures) c.in-Ok.ensures.not_pending c.rid.ensures (ap (λ (v : View). v.seen.loads) c.decide_by_check-rts.ensures.view)
