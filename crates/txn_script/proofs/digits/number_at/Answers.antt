use Rattle.std.proofs.Common.{◌≡◌, ◌∷◌, ℕ, List, sym, ap, ◌∙◌}
use Rattle.std.proofs.lemmas.List.{nil_from_length}
use Rattle.txn_script.specs.LineReading.{number_at}
use Rattle.txn_script.specs.Ahead.{words_ahead}
use Rattle.txn_script.proofs.AheadLaws.{number_at-nil, number_at-none, number_at-zero, number_at-more}
use Rattle.txn_script.proofs.digits.number_at.Goals as goal

pub returns-in_err-first : goal.returns-in_err-first
returns-in_err-first c = rw c.from_residual.ensures (sym (ap (λ (b : List ℕ). number_at (words_ahead b)) (nil_from_length c.args.bytes.now c.in_err-first.ensures.cases) ∙ number_at-nil))

pub returns-then-first-eq48 : goal.returns-then-first-eq48
returns-then-first-eq48 c =
    let is : c.args.bytes.now ≡ c.in_ok-first.first.now ∷ c.in_ok-first.rest.now = c.in_ok-first.ensures.cases.0 in
    c.ended.ensures ∙ sym (ap (λ (b : List ℕ). number_at (words_ahead b)) is ∙ number_at-zero c.in_ok-first.first.now c.in_ok-first.rest.now c.if-first-eq48.true)

pub returns-in_err-value : goal.returns-in_err-value
returns-in_err-value c =
    let is : c.args.bytes.now ≡ c.in_ok-first.first.now ∷ c.in_ok-first.rest.now = c.in_ok-first.ensures.cases.0 in
    rw c.from_residual-in_err-value.ensures (sym (ap (λ (b : List ℕ). number_at (words_ahead b)) is ∙ number_at-none c.in_ok-first.first.now c.in_ok-first.rest.now (sym c.in_err-value.ensures)))

pub returns : goal.returns
returns c =
    let is : c.args.bytes.now ≡ c.in_ok-first.first.now ∷ c.in_ok-first.rest.now = c.in_ok-first.ensures.cases.0 in
    c.number_with.ensures ∙ sym (ap (λ (b : List ℕ). number_at (words_ahead b)) is ∙ number_at-more c.in_ok-first.first.now c.in_ok-value.value c.in_ok-first.rest.now (sym c.in_ok-value.ensures) c.if-first-eq48.false)
