use Rattle.std.proofs.Common.{◌≡◌, ◌+◌, ◌∷◌, ◌++◌, [], List, String, Global, take, ap, subst, sym, ◌∙◌}
use Rattle.std.specs.Prelude.{All, string_bytes}
use Rattle.std.proofs.lemmas.List.{take_all, take_more}
use Rattle.std.proofs.lemmas.List.Elements.{All-map, All-push}
use Rattle.dump_top.specs.Words.{IsBarred}
use Rattle.dump_top.proofs.words.names_barred.Goals as goal

pub loop-word-preserved : goal.loop-word-preserved
loop-word-preserved c =
    let words = c.args.words.now in
    let i = c.loop-word.word-index in
    let word = c.word-item.result in
    let more : take (i + 1) words ≡ take i words ++ word ∷ [] = take_more words i word c.loop-word-test.true ∙ ap (λ (w : String Global). take i words ++ w ∷ []) (sym c.word-item.is) in
    subst (λ (ws : List (String Global)). All (λ w. IsBarred (string_bytes w) → ⊥) ws) (sym more)
    (All-push (λ (w : String Global). IsBarred (string_bytes w) → ⊥) (take i words) word c.loop-word.invariant
    (λ barred. c.is_barred.ensures.no c.if-is_barred.false (subst IsBarred (sym c.as_bytes.ensures.value) barred)))

pub returns-clause-no : goal.returns-clause-no
returns-clause-no c = λ _.
    let words = c.args.words.now in
    let whole : take c.loop-word.word-index words ≡ words = take_all c.loop-word.word-index words c.loop-word-test.false in
    All-map (λ text. IsBarred text → ⊥) string_bytes words (subst (λ (ws : List (String Global)). All (λ w. IsBarred (string_bytes w) → ⊥) ws) whole c.loop-word.invariant)
