use Rattle.std.proofs.Common.{◌≡◌, length, ap, ◌∙◌}
use Rattle.load_gen.specs.Summary.{tables_sum}
use Rattle.load_gen.proofs.summing_up.summary.Goals as goal

pub returns : goal.returns
returns c =
    let sum : c.in_ok-sum.sum ≡ tables_sum (length c.args.input.now.tables) c.args.last.now = c.in_ok-sum.ensures ∙ ap (λ n. tables_sum n c.args.last.now) c.len.ensures in
    rw sum at c.text_with.ensures
