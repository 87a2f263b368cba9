use Rattle.std.proofs.Common.{ℕ, List, Option, sym, ap, ◌∙◌}
use Rattle.txn_script.specs.LineReading.{◌>>=◌, left, more_numbers}
use Rattle.txn_script.proofs.NumberLaws.{no_word, one_word, left_is_shorter, some_words}
use Rattle.txn_script.proofs.numbers.Numbers.read.Goals as goal

pub returns-in_err-number : goal.returns-in_err-number
returns-in_err-number c =
    let some = some_words _ c.is_empty.result c.is_empty.ensures c.loop-words-test.true in
    rw c.from_residual.ensures (sym (c.loop-words.invariant ∙ no_word (left c.loop-words.words) some (sym c.in_err-number.ensures) c.loop-words.self))

pub returns-in_err-push : goal.returns-in_err-push
returns-in_err-push c =
    let one = one_word (left c.loop-words.words) c.in_ok-number.number (left c.in_ok-number.rest) (sym c.in_ok-number.ensures) c.loop-words.self in
    rw c.from_residual-in_err-push.ensures (sym (c.loop-words.invariant ∙ one ∙ ap (λ (o : Option (List ℕ)). o >>= λ longer. more_numbers longer (left c.in_ok-number.rest)) (sym c.in_err-push.ensures)))

pub loop-words-smaller : goal.loop-words-smaller
loop-words-smaller c = left_is_shorter (left c.loop-words.words) c.in_ok-number.number (left c.in_ok-number.rest) (sym c.in_ok-number.ensures)

pub loop-words-preserved : goal.loop-words-preserved
loop-words-preserved c =
    let one = one_word (left c.loop-words.words) c.in_ok-number.number (left c.in_ok-number.rest) (sym c.in_ok-number.ensures) c.loop-words.self in
    c.loop-words.invariant ∙ one ∙ ap (λ (o : Option (List ℕ)). o >>= λ longer. more_numbers longer (left c.in_ok-number.rest)) (sym c.in_ok-push.ensures)
