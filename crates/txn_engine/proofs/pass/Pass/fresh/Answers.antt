use Rattle.std.proofs.Common.{◌≡◌, ◌<◌, ◌≤◌, ℕ, Result, None, Some, false, true, sym, ap, ◌∙◌, subst, arith, length}
use Rattle.std.specs.Prelude.{slice_get}
use Rattle.std.proofs.lemmas.Option.{slice_get_within}
use Rattle.engine_answers.specs.declared.faults.TxnFault.{TxnFault}
use Rattle.spare_numbers.specs.Spare.{is_on}
use Rattle.txn_engine.specs.Fresh.{Asks, given_at}
use Rattle.txn_engine.specs.Pass.{PassView, counted}
use Rattle.txn_engine.specs.Txn.{Gives}
use Rattle.txn_engine.proofs.Asking.{asked_list}
use Rattle.txn_engine.proofs.Passes.{none_found}
use Rattle.txn_engine.proofs.Passing.{none_asked, one_asked}
use Rattle.txn_engine.proofs.Giving.{given_gives, stopped_gives_next, wanting_gives, ended_gives}
use Rattle.txn_engine.proofs.Answering.{handed_on, stopped_gives}
use Rattle.txn_engine.proofs.pass.Pass.fresh.Goals as goal

pub loop-rid-init : goal.loop-rid-init
loop-rid-init g c = none_asked c.args.self.now c.stopped.new.self c.in_ok-stopped.ensures.ok.0

pub loop-rid-smaller : goal.loop-rid-smaller
loop-rid-smaller g c =
    let q = c.loop-rid.self in
    let at = sym (ap (λ (p : PassView). slice_get p.spare c.loop-rid.i) c.self.view_is) ∙ sym c.in-Some.ensures.at in
    let within = slice_get_within q.spare c.loop-rid.i c.in-Some.rid at in
    let same = ap length (asked_list q c.ask.new.self c.in-Some.rid false (subst (Asks c.loop-rid.self c.ask.new.self c.in-Some.rid) c.in-Ok-false.field-0-test c.in-Ok-false.ensures.ok)) in
    omega arith

pub loop-rid-preserved : goal.loop-rid-preserved
loop-rid-preserved g c =
    let at = sym (ap (λ (p : PassView). slice_get p.spare c.loop-rid.i) c.self.view_is) ∙ sym c.in-Some.ensures.at in
    one_asked c.args.self.now c.loop-rid.self c.ask.new.self c.loop-rid.i c.in-Some.rid c.loop-rid.invariant at (subst (Asks c.loop-rid.self c.ask.new.self c.in-Some.rid) c.in-Ok-false.field-0-test c.in-Ok-false.ensures.ok)

pub give_at-requires : goal.give_at-requires
give_at-requires g c =
    let q = c.loop-rid.self in
    let at = sym (ap (λ (p : PassView). slice_get p.spare c.loop-rid.i) c.self.view_is) ∙ sym c.in-Some.ensures.at in
    let within = slice_get_within q.spare c.loop-rid.i c.in-Some.rid at in
    let same = ap length (asked_list q c.ask.new.self c.in-Some.rid true (subst (Asks c.loop-rid.self c.ask.new.self c.in-Some.rid) c.in-Ok-true.field-0-test c.in-Ok-true.ensures.ok)) in
    omega arith

pub returns-in_err-stopped : goal.returns-in_err-stopped
returns-in_err-stopped g c =
    let p = c.args.self.now in
    let q = c.stopped.new.self in
    let f = c.in_err-stopped.field-0.0 in
    record { gives = handed_on c.from_residual.result f (λ (r : Result ℕ TxnFault). Gives p q r) c.from_residual.ensures.1 (stopped_gives p q f c.in_err-stopped.ensures.err) }

pub returns-in-Ok-true : goal.returns-in-Ok-true
returns-in-Ok-true g c =
    let q = c.loop-rid.self in
    let i = c.loop-rid.i in
    let rid = c.in-Some.rid in
    let at = sym (ap (λ (p : PassView). slice_get p.spare i) c.self.view_is) ∙ sym c.in-Some.ensures.at in
    let asks : Asks q c.ask.new.self rid true = subst (Asks q c.ask.new.self rid) c.in-Ok-true.field-0-test c.in-Ok-true.ensures.ok in
    let found : Some c.give_at.result ≡ Some rid = sym c.give_at.ensures.value ∙ ap (λ xs. slice_get xs i) (asked_list q c.ask.new.self rid true asks) ∙ at in
    let same : c.give_at.result ≡ rid = cc in
    let from = subst (λ (x : PassView). x.fixed ≤ rid) c.self.view_is c.in-Some.ensures.from in
    let within = subst (λ (x : PassView). rid < x.shared.size.records) c.self.view_is (subst (λ n. rid < n) c.self.invariant.records c.in-Some.ensures.within) in
    let off = subst (λ (x : PassView). is_on x.given rid ≡ false) c.self.view_is c.in-Some.ensures.not_given in
    record {
      gives = rw same (given_gives c.args.self.now q c.ask.new.self c.give_at.new.self i rid c.requires.open c.in_ok-stopped.ensures.ok.1 c.loop-rid.invariant at from within off asks (c.give_at.ensures.after ∙ ap (λ n. given_at c.ask.new.self i n) same));
    }

pub returns-in-Err-Conflict : goal.returns-in-Err-Conflict
returns-in-Err-Conflict g c =
    let at = sym (ap (λ (p : PassView). slice_get p.spare c.loop-rid.i) c.self.view_is) ∙ sym c.in-Some.ensures.at in
    let reads = rw c.in-Err-Conflict.field-0-is at c.in-Err-Conflict.ensures.err in
    record {
      gives = stopped_gives_next c.args.self.now c.loop-rid.self c.ask.new.self c.strike_passed.new.self c.loop-rid.i c.in-Some.rid c.in-Err-Conflict.conflict c.requires.open c.in_ok-stopped.ensures.ok.1 c.loop-rid.invariant at c.in-Err-Conflict.ensures.unknown reads c.strike_passed.ensures;
    }

pub returns-in-Err-NoMemory : goal.returns-in-Err-NoMemory
returns-in-Err-NoMemory g c =
    let at = sym (ap (λ (p : PassView). slice_get p.spare c.loop-rid.i) c.self.view_is) ∙ sym c.in-Some.ensures.at in
    let reads = rw c.in-Err-NoMemory.field-0-is at c.in-Err-NoMemory.ensures.err in
    record { gives = wanting_gives c.args.self.now c.loop-rid.self c.ask.new.self c.loop-rid.i c.in-Some.rid c.requires.open c.in_ok-stopped.ensures.ok.1 c.loop-rid.invariant at c.in-Err-NoMemory.ensures.unknown reads }

pub returns : goal.returns
returns g c =
    let none : slice_get c.loop-rid.self.spare c.loop-rid.i ≡ None = sym (ap (λ (p : PassView). slice_get p.spare c.loop-rid.i) c.self.view_is) ∙ sym c.at.ensures.at ∙ none_found c.at.result c.in_default.not-Some in
    record { gives = ended_gives c.args.self.now c.loop-rid.self c.count.new.self c.loop-rid.i c.requires.open c.in_ok-stopped.ensures.ok.1 c.loop-rid.invariant none (c.count.ensures ∙ ap counted c.strike_passed-2.ensures) }
