use Rattle.std.proofs.Common.{◌≡◌, ◌≢◌, ◌≤◌, ℕ, refl, sym, ◌∙◌, subst, inl, length, arith}
use Rattle.core_rule.specs.Status.{status_word}
use Rattle.core_rule.specs.declared.status.Status.TheVariants.{Pending as PendingStatus}
use Rattle.version_search.proofs.Statuses.{word_is, word_is_not}
use Rattle.core_rule.specs.View.{Read, again}
use Rattle.validate_core.specs.Checked.{FindsAgain}
use Rattle.validate_core.specs.Halting.{StopsSearch}
use Rattle.validate_core.proofs.OneByOne.{each_all, finds_final}
use Rattle.validate_core.proofs.Halting.{finds_pending, stops_next}
use Rattle.validate_core.specs.Validating.{IsShown}
use Rattle.validate_core.specs.declared.conflict.Conflict.TheVariants.{Pending, Overtaken}
use Rattle.validate_core.proofs.Staging.{again_starts, again_begins, again_next, again_all, found_stops, found_works, overtaken_shown, pending_shown, shown_earlier}
use Rattle.validate_core.proofs.Works.{among_turn, works_both, ready_both}
use Rattle.validate_core.proofs.checking.search_again.Goals as goal

pub loop-i-init : goal.loop-i-init
loop-i-init g c = again_starts c.args.core.now c.args.hand.now c.args.stamp c.args.sets.now c.requires.ready c.requires.stage

pub find_again-shown-requires-clause-rid : goal.find_again-shown-requires-clause-rid
find_again-shown-requires-clause-rid g c = (c.requires.inside.reads c.read_at-read.result.now (among_turn c.loop-i.i c.args.sets.now.reads c.read_at-read.result.now c.read_at-read.ensures)).0

pub find_again-shown-requires-clause-begins : goal.find_again-shown-requires-clause-begins
find_again-shown-requires-clause-begins g c = again_begins c.args.stamp c.args.sets.now c.loop-i.i c.read_at-read.result.now c.loop-i.hand.view c.read_at-read.ensures c.loop-i.invariant.stage

pub returns-then-shown-wts-clause-conflict : goal.returns-then-shown-wts-clause-conflict
returns-then-shown-wts-clause-conflict g c =
    let d = c.read_at-read.result.now in let f = c.find_again-shown.result in let seen = c.wts-then-shown-wts.ensures in
    let x = c.find_again-shown.new.hand.view in
    let apart : f.wts ≢ d.version = λ e. c.if-shown-wts.true (e ∙ sym c.wts.ensures) in
    let t : IsShown c.args.stamp c.args.sets.now c.loop-i.hand.view x (Overtaken d.record_number d.version f.wts) = overtaken_shown c.args.stamp c.args.sets.now c.loop-i.i d f.place f.wts (status_word f.status) c.loop-i.hand.view c.find_again-shown.new.hand.view c.read_at-read.ensures c.find_again-shown.ensures.finds (word_is_not f.status PendingStatus (sym c.eq.ensures ∙ c.if-eq.false)) apart in
    shown_earlier c.args.stamp c.args.sets.now c.args.hand.now.view c.loop-i.hand.view x (Overtaken c.rid-then-shown-wts.result c.wts-then-shown-wts.result f.wts) c.loop-i.invariant.works
    (subst (λ (n : ℕ). IsShown c.args.stamp c.args.sets.now c.loop-i.hand.view x (Overtaken n c.wts-then-shown-wts.result f.wts)) (sym c.rid-then-shown-wts.ensures)
    (subst (λ (n : ℕ). IsShown c.args.stamp c.args.sets.now c.loop-i.hand.view x (Overtaken d.record_number n f.wts)) (sym seen) t))

pub returns-then-eq-clause-conflict : goal.returns-then-eq-clause-conflict
returns-then-eq-clause-conflict g c =
    let d = c.read_at-read.result.now in let f = c.find_again-shown.result in let x = c.find_again-shown.new.hand.view in
    let t = pending_shown c.args.stamp c.args.sets.now (again d) d.record_number f.place f.wts (status_word f.status) c.loop-i.hand.view x (word_is f.status PendingStatus (sym c.eq.ensures ∙ c.if-eq.true)) c.find_again-shown.ensures.finds in
    let h : IsShown c.args.stamp c.args.sets.now c.loop-i.hand.view x (Pending d.record_number f.wts) = (t.0, t.1, inl (d.version, record { read = d; among = among_turn c.loop-i.i c.args.sets.now.reads d c.read_at-read.ensures; of_record = refl; at = refl }), t.2) in
    shown_earlier c.args.stamp c.args.sets.now c.args.hand.now.view c.loop-i.hand.view x (Pending c.rid.result f.wts) c.loop-i.invariant.works
    (subst (λ (r : ℕ). IsShown c.args.stamp c.args.sets.now c.loop-i.hand.view x (Pending r f.wts)) (sym c.rid.ensures) h)

pub loop-i-preserved : goal.loop-i-preserved
loop-i-preserved g c =
    let d = c.read_at-read.result.now in let f = c.find_again-shown.result in let at = c.find_again-shown.new.hand in
    let is : f.wts ≡ d.version = c.if-shown-wts.false ∙ c.wts.ensures in
    again_next c.args.core.now c.args.hand.now c.args.stamp c.args.sets.now c.loop-i.i d f.place f.wts (status_word f.status) c.loop-i.hand at c.read_at-read.ensures c.loop-i.invariant c.find_again-shown.ensures.stays
    c.find_again-shown.ensures.finds (word_is_not f.status PendingStatus (sym c.eq.ensures ∙ c.if-eq.false)) is

-- ---- what stops the search

pub returns-then-eq-clause-works : goal.returns-then-eq-clause-works
returns-then-eq-clause-works g c =
    let d = c.read_at-read.result.now in let f = c.find_again-shown.result in let x = c.find_again-shown.new.hand.view in
    works_both c.args.hand.now.view c.loop-i.hand.view x c.loop-i.invariant.works (found_works (again d) c.args.stamp d.record_number f.place f.wts (status_word f.status) c.loop-i.hand.view x c.find_again-shown.ensures.finds)

pub returns-then-eq-clause-stopped : goal.returns-then-eq-clause-stopped
returns-then-eq-clause-stopped g c =
    let d = c.read_at-read.result.now in let f = c.find_again-shown.result in
    found_stops c.args.stamp c.args.sets.now _ _ _ (again d) c.args.stamp d.record_number f.place f.wts (status_word f.status) c.loop-i.hand.view c.find_again-shown.new.hand.view tt c.loop-i.invariant.stage c.find_again-shown.ensures.finds

pub returns-then-eq-clause-stays : goal.returns-then-eq-clause-stays
returns-then-eq-clause-stays g c = ready_both c.args.core.now c.args.hand.now c.loop-i.hand c.find_again-shown.new.hand c.loop-i.invariant.stays c.find_again-shown.ensures.stays

pub returns-then-shown-wts-clause-works : goal.returns-then-shown-wts-clause-works
returns-then-shown-wts-clause-works g c =
    let d = c.read_at-read.result.now in let f = c.find_again-shown.result in let x = c.find_again-shown.new.hand.view in
    works_both c.args.hand.now.view c.loop-i.hand.view x c.loop-i.invariant.works (found_works (again d) c.args.stamp d.record_number f.place f.wts (status_word f.status) c.loop-i.hand.view x c.find_again-shown.ensures.finds)

pub returns-then-shown-wts-clause-stopped : goal.returns-then-shown-wts-clause-stopped
returns-then-shown-wts-clause-stopped g c =
    let d = c.read_at-read.result.now in let f = c.find_again-shown.result in
    found_stops c.args.stamp c.args.sets.now _ _ _ (again d) c.args.stamp d.record_number f.place f.wts (status_word f.status) c.loop-i.hand.view c.find_again-shown.new.hand.view tt c.loop-i.invariant.stage c.find_again-shown.ensures.finds

pub returns-then-shown-wts-clause-stays : goal.returns-then-shown-wts-clause-stays
returns-then-shown-wts-clause-stays g c = ready_both c.args.core.now c.args.hand.now c.loop-i.hand c.find_again-shown.new.hand c.loop-i.invariant.stays c.find_again-shown.ensures.stays

pub returns-clause-stage : goal.returns-clause-stage
returns-clause-stage g c = let over : length c.args.sets.now.reads ≤ c.loop-i.i = omega arith in again_all c.args.core.now c.args.hand.now c.args.stamp c.args.sets.now c.loop-i.i c.loop-i.hand over c.loop-i.invariant

pub returns-clause-again : goal.returns-clause-again
returns-clause-again g c =
    let over : length c.args.sets.now.reads ≤ c.loop-i.i = omega arith in
    each_all (λ (d : Read). (d.record_number, d.version)) (FindsAgain c.args.stamp) c.loop-i.i c.args.sets.now.reads c.args.hand.now.view.seen.loads c.loop-i.hand.view.seen.loads over c.loop-i.invariant.again

-- ---- what was loaded until then

pub returns-then-eq-clause-halts : goal.returns-then-eq-clause-halts
returns-then-eq-clause-halts g c =
    let d = c.read_at-read.result.now in let f = c.find_again-shown.result in let x = c.find_again-shown.new.hand.view in
    stops_next (λ (y : Read). (y.record_number, y.version)) (FindsAgain c.args.stamp) (StopsSearch c.args.stamp (Pending c.rid.result f.wts)) c.loop-i.i c.args.sets.now.reads d c.args.hand.now.view.seen.loads c.loop-i.hand.view.seen.loads x.seen.loads c.read_at-read.ensures c.loop-i.invariant.again
    (c.rid.ensures, finds_pending (again d) c.args.stamp d.record_number f.place f.wts (status_word f.status) c.loop-i.hand.view x (word_is f.status PendingStatus (sym c.eq.ensures ∙ c.if-eq.true)) c.find_again-shown.ensures.finds)

pub returns-then-shown-wts-clause-halts : goal.returns-then-shown-wts-clause-halts
returns-then-shown-wts-clause-halts g c =
    let d = c.read_at-read.result.now in let f = c.find_again-shown.result in let x = c.find_again-shown.new.hand.view in
    stops_next (λ (y : Read). (y.record_number, y.version)) (FindsAgain c.args.stamp) (StopsSearch c.args.stamp (Overtaken c.rid-then-shown-wts.result c.wts-then-shown-wts.result f.wts)) c.loop-i.i c.args.sets.now.reads d c.args.hand.now.view.seen.loads c.loop-i.hand.view.seen.loads x.seen.loads c.read_at-read.ensures c.loop-i.invariant.again
    (c.rid-then-shown-wts.ensures, c.wts-then-shown-wts.ensures, finds_final (again d) c.args.stamp d.record_number f.place f.wts (status_word f.status) c.loop-i.hand.view x (word_is_not f.status PendingStatus (sym c.eq.ensures ∙ c.if-eq.false)) c.find_again-shown.ensures.finds)
