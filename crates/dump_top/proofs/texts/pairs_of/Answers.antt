use Rattle.std.proofs.Common.{◌≡◌, ◌<◌, ℕ, List, [], ◌∷◌, ◌++◌, length, get_or, sym, ap, ◌∙◌, arith}
use Rattle.replay_model.specs.TableMap.{Row}
use Rattle.dump_top.specs.Rows.{pairs_in}
use Rattle.dump_top.proofs.RowTexts.{pairs_in-more}
use Rattle.dump_top.proofs.texts.pairs_of.Goals as goal

pub loop-row-preserved : goal.loop-row-preserved
loop-row-preserved c =
    let rows = c.args.rows.now in let i = c.loop-row.row-index in let row = c.row-item.result in
    let within : i < length rows = omega (arith, ap length c.as_slice-row-items.ensures, c.loop-row-test.true) in
    let here : row ≡ get_or rows i row = c.row-item.is ∙ ap (λ (rs : List (ℕ × ℕ × Row)). get_or rs i row) c.as_slice-row-items.ensures in
    c.in_ok-push_own.ensures ∙ ap (λ (ps : List (ℕ × Row)). ps ++ pairs_in c.args.table (row ∷ [])) c.loop-row.invariant
    ∙ sym (pairs_in-more c.args.table rows i row within here)
