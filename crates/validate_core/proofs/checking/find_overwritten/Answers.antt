use Rattle.std.proofs.Common.{ℕ, refl, sym, subst, inr, ◌∙◌}
use Rattle.core_rule.specs.Status.{status_word}
use Rattle.core_rule.specs.declared.status.Status.TheVariants.{Pending as PendingStatus}
use Rattle.version_search.proofs.Statuses.{word_is}
use Rattle.core_rule.specs.View.{Write, checks}
use Rattle.version_search.specs.Finding.{Finds}
use Rattle.validate_core.proofs.Writes.{turn_same}
use Rattle.validate_core.specs.Validating.{IsShown}
use Rattle.validate_core.specs.declared.conflict.Conflict.TheVariants.{Pending}
use Rattle.validate_core.proofs.Checks.{check_begins}
use Rattle.validate_core.proofs.Halting.{finds_pending}
use Rattle.validate_core.proofs.Staging.{pending_shown, found_stops, found_works}
use Rattle.validate_core.proofs.Works.{among_turn}
use Rattle.validate_core.proofs.checking.find_overwritten.Goals as goal

pub find_to_check-shown-requires-clause-rid : goal.find_to_check-shown-requires-clause-rid
find_to_check-shown-requires-clause-rid g c = (c.requires.inside.writes c.write_at-write.result.now (among_turn c.args.i c.args.sets.now.writes c.write_at-write.result.now c.write_at-write.ensures)).0

pub find_to_check-shown-requires-clause-begins : goal.find_to_check-shown-requires-clause-begins
find_to_check-shown-requires-clause-begins g c = check_begins c.args.stamp c.args.sets.now _ _ _ c.args.i c.write_at-write.result.now c.args.hand.now.view c.write_at-write.ensures c.requires.stage

pub returns-then-eq-clause-conflict : goal.returns-then-eq-clause-conflict
returns-then-eq-clause-conflict g c =
    let u = c.write_at-write.result.now in let f = c.find_to_check-shown.result in
    let t = pending_shown c.args.stamp c.args.sets.now (checks u) u.record_number f.place f.wts (status_word f.status) c.args.hand.now.view c.find_to_check-shown.new.hand.view (word_is f.status PendingStatus (sym c.eq.ensures ∙ c.if-eq.true)) c.find_to_check-shown.ensures.finds in
    subst (λ (r : ℕ). IsShown c.args.stamp c.args.sets.now c.args.hand.now.view c.find_to_check-shown.new.hand.view (Pending r f.wts)) (sym c.rid.ensures)
    (t.0, t.1, inr record { write = u; among = among_turn c.args.i c.args.sets.now.writes u c.write_at-write.ensures; of_record = refl }, t.2)

pub returns-then-eq-clause-works : goal.returns-then-eq-clause-works
returns-then-eq-clause-works g c =
    let u = c.write_at-write.result.now in let f = c.find_to_check-shown.result in
    found_works (checks u) c.args.stamp u.record_number f.place f.wts (status_word f.status) c.args.hand.now.view c.find_to_check-shown.new.hand.view c.find_to_check-shown.ensures.finds

pub returns-then-eq-clause-stopped : goal.returns-then-eq-clause-stopped
returns-then-eq-clause-stopped g c =
    let u = c.write_at-write.result.now in let f = c.find_to_check-shown.result in
    found_stops c.args.stamp c.args.sets.now _ _ _ (checks u) c.args.stamp u.record_number f.place f.wts (status_word f.status) c.args.hand.now.view c.find_to_check-shown.new.hand.view tt c.requires.stage c.find_to_check-shown.ensures.finds

pub returns-clause-finds : goal.returns-clause-finds
returns-clause-finds g c = λ u turn.
    let f = c.find_to_check-shown.result in
    subst (λ (y : Write). Finds (checks y) c.args.stamp y.record_number f.place f.wts (status_word f.status) c.args.hand.now.view c.find_to_check-shown.new.hand.view)
    (turn_same c.args.i c.args.sets.now.writes c.write_at-write.result.now u c.write_at-write.ensures turn) c.find_to_check-shown.ensures.finds

pub returns-then-eq-clause-halts : goal.returns-then-eq-clause-halts
returns-then-eq-clause-halts g c =
    let u = c.write_at-write.result.now in let f = c.find_to_check-shown.result in
    record {
      write = u;
      turn = c.write_at-write.ensures;
      stop = (c.rid.ensures, finds_pending (checks u) c.args.stamp u.record_number f.place f.wts (status_word f.status) c.args.hand.now.view c.find_to_check-shown.new.hand.view (word_is f.status PendingStatus (sym c.eq.ensures ∙ c.if-eq.true)) c.find_to_check-shown.ensures.finds);
    }
