use Rattle.std.proofs.Common.{◌≡◌, ℕ, suc, ◌+◌, ◌*◌, ◌<◌, [], ◌∷◌, ◌++◌, length, take, sym, ap, ◌∙◌, arith}
use Rattle.std.proofs.Math.Seq.{take-suc}
use Rattle.version_pool.proofs.Cells.{stored-more}
use Rattle.version_pool.proofs.fills.fill_cells.Goals as goal

pub loop-column-preserved : goal.loop-column-preserved
loop-column-preserved g c =
    let row = c.loop-row-test.true in let column = c.loop-column-test.true in
    let cells = c.args.value.now in let size = ap length c.words-words.ensures in
    let i : ℕ = c.loop-row.row * 8 + c.loop-column.column in
    let next' : ℕ = c.loop-row.row * 8 + (c.loop-column.column + 1) in
    let lt : i < length cells = omega arith in
    let up : next' ≡ suc i = omega arith in
    stored-more c.args.core.now c.args.hand.now c.loop-column.hand c.put_cell.new.hand cells i next' c.word.result c.loop-column.invariant
    c.put_cell.ensures.ready c.put_cell.ensures.view
    (ap (λ (n : ℕ). take n cells) up ∙ take-suc cells i 0 lt ∙ ap (λ (w : ℕ). take i cells ++ w ∷ []) (sym c.word.ensures))
