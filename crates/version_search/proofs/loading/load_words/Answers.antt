use Rattle.std.proofs.Common.{◌≡◌, ℕ, ◌+◌, ◌*◌, set, subst, arith}
use Rattle.version_search.proofs.Cells.{Loaded, begins, one_more, leaves}
use Rattle.version_search.proofs.loading.load_words.Goals as goal

pub loop-row-init : goal.loop-row-init
loop-row-init g c = begins c.args.core.now c.args.hand.now c.args.words.now c.requires.ready c.requires.whole

pub loop-column-preserved : goal.loop-column-preserved
loop-column-preserved g c =
    let row = c.loop-row-test.true in let column = c.loop-column-test.true in
    let at : (c.loop-row.row * 8 + c.loop-column.column) + 1 ≡ c.loop-row.row * 8 + (c.loop-column.column + 1) = omega arith in
    subst (λ (n : ℕ). Loaded c.args.core.now c.args.hand.now (set c.loop-column.words (c.loop-row.row * 8 + c.loop-column.column) c.load_cell-word.result) n c.load_cell-word.new.hand) at
    (one_more c.args.core.now c.args.hand.now c.loop-column.words c.requires.loading c.requires.begins (c.loop-row.row * 8 + c.loop-column.column) c.load_cell-word.result
    c.loop-column.hand c.load_cell-word.new.hand (omega arith) c.loop-column.invariant c.load_cell-word.ensures)

pub returns-clause-left : goal.returns-clause-left
returns-clause-left g c =
    let far = c.loop-row.auto.row-end in let stop = c.loop-row-test.false in
    let all : c.loop-row.row * 8 ≡ 32 = omega arith in
    leaves c.args.core.now c.args.hand.now c.loop-row.words c.requires.loading c.requires.begins c.loop-row.hand
    (subst (λ (n : ℕ). Loaded c.args.core.now c.args.hand.now c.loop-row.words n c.loop-row.hand) all c.loop-row.invariant)
