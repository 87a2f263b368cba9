use Rattle.std.proofs.Common.{◌≡◌, true, false, refl, sym, ◌∙◌}
use Rattle.txn_script.specs.Ahead.{is_short}
use Rattle.txn_script.proofs.AheadLaws.{name_at-split}
use Rattle.txn_script.proofs.words.name_at.Goals as goal

pub returns-then-not-is_short : goal.returns-then-not-is_short
returns-then-not-is_short c =
    let short : is_short c.letters.result.0.now ≡ false = sym c.is_short.ensures ∙ c.if-not-is_short.true in
    sym (name_at-split c.args.bytes.now c.letters.result.0.now c.letters.result.1.now c.letters.ensures.whole c.letters.ensures.letters c.letters.ensures.stops ∙ rw short refl)

pub returns-in_err-words : goal.returns-in_err-words
returns-in_err-words c =
    let short : is_short c.letters.result.0.now ≡ true = sym c.is_short.ensures ∙ c.if-not-is_short.false in
    rw c.from_residual.ensures (sym (name_at-split c.args.bytes.now c.letters.result.0.now c.letters.result.1.now c.letters.ensures.whole c.letters.ensures.letters c.letters.ensures.stops ∙ rw (short, ← c.in_err-words.ensures) refl))

pub returns : goal.returns
returns c =
    let short : is_short c.letters.result.0.now ≡ true = sym c.is_short.ensures ∙ c.if-not-is_short.false in
    sym (name_at-split c.args.bytes.now c.letters.result.0.now c.letters.result.1.now c.letters.ensures.whole c.letters.ensures.letters c.letters.ensures.stops ∙ rw (short, ← c.in_ok-words.ensures) refl)
