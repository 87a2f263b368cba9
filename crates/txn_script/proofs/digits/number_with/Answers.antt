use Rattle.std.proofs.Common.{◌≡◌, ◌+◌, ℕ, List, None, Some, get_or, ap, sym, ◌∙◌, drop}
use Rattle.std.proofs.lemmas.List.{take_rest, at_drop_more, at_drop_all}
use Rattle.txn_script.specs.LineReading.{digit_behind}
use Rattle.txn_script.specs.Ahead.{words_ahead, number_with, number_before}
use Rattle.txn_script.proofs.AheadLaws.{number_with-stop, number_with-more}
use Rattle.txn_script.proofs.digits.number_with.Goals as goal

pub returns-in_default : goal.returns-in_default
returns-in_default c =
    let bytes = c.args.bytes.now in
    let value = c.loop-i.value in
    let i = c.loop-i.i in
    let none : digit_behind value (get_or bytes i 0) ≡ None = sym c.digit_behind.ensures ∙ c.in_default.is in
    c.ended.ensures ∙ sym (c.loop-i.invariant
    ∙ at_drop_more (λ (b : List ℕ). number_with value (words_ahead b)) bytes i 0 c.loop-i-test.true
    ∙ number_with-stop value (get_or bytes i 0) (drop (i + 1) bytes) none
    ∙ sym (at_drop_more (number_before value) bytes i 0 c.loop-i-test.true)
    ∙ ap (number_before value) (sym (take_rest bytes i)))

pub loop-i-preserved : goal.loop-i-preserved
loop-i-preserved c =
    let bytes = c.args.bytes.now in
    let value = c.loop-i.value in
    let i = c.loop-i.i in
    let some : digit_behind value (get_or bytes i 0) ≡ Some c.in-Some.longer = sym c.digit_behind.ensures ∙ c.in-Some.is in
    c.loop-i.invariant
    ∙ at_drop_more (λ (b : List ℕ). number_with value (words_ahead b)) bytes i 0 c.loop-i-test.true
    ∙ number_with-more value (get_or bytes i 0) c.in-Some.longer (drop (i + 1) bytes) some

pub returns : goal.returns
returns c = c.ended-2.ensures ∙ sym (c.loop-i.invariant ∙ at_drop_all (λ (b : List ℕ). number_with c.loop-i.value (words_ahead b)) c.args.bytes.now c.loop-i.i c.loop-i-test.false)
