use Rattle.std.proofs.Common.{◌∙◌, ◌++◌, ◌∷◌, []}
use Rattle.std.specs.Prelude.{codes, decimal}
use Rattle.load_gen.specs.Load.{spelled}
use Rattle.load_gen.proofs.TextLaws.{three_lines}
use Rattle.load_gen.proofs.summing_up.text_with.Goals as goal

pub returns : goal.returns
returns c =
    let sum = codes "sum " ++ decimal c.args.sum in
    three_lines c.new-text.result.items c.push_numbered.new.text.items c.push_numbered-2.new.text.items c.push_line.new.text.items
    (codes "transactions " ++ decimal c.transactions.result) sum (codes "done")
    c.new-text.ensures.items c.in_ok-push_numbered.ensures c.in_ok-push_numbered-2.ensures c.in_ok-push_line.ensures
    ∙ (λ j. spelled ((codes "transactions " ++ decimal (c.transactions.ensures j)) ∷ sum ∷ codes "done" ∷ []))
