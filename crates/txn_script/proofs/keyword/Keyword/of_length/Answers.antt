use Rattle.std.proofs.Common.{◌≡◌, ◌+◌, ◌-◌, length, ◌∷◌, ◌++◌, ℕ, List, take, drop, get_or, sym, ap, ◌∙◌}
use Rattle.std.proofs.lemmas.List.{take-append-drop, drop_more, take_rest}
use Rattle.txn_script.proofs.LineLaws.{keyword_of-some}
use Rattle.txn_script.proofs.keyword.Keyword.of_length.Goals as goal

pub returns : goal.returns
returns c =
    let text = c.args.text.now in
    let n = c.args.length in
    let word = keyword_of-some (take n text) c.in_ok-keyword.keyword (sym c.in_ok-keyword.ensures) in
    let space : get_or text n 0 ≡ 32 = c.if-text-length-ne32.false in
    sym (take-append-drop n text)
    ∙ ap (λ (rest : List ℕ). take n text ++ rest) (drop_more text n 0 c.if-text-length.false ∙ ap (λ (b : ℕ). b ∷ drop (n + 1) text) space ∙ ap (λ (rest : List ℕ). 32 ∷ rest) (sym (take_rest text (n + 1))))
    ∙ ap (λ (w : List ℕ). w ++ 32 ∷ take (length text - (n + 1)) (drop (n + 1) text)) word
