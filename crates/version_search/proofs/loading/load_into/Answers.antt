use Rattle.std.proofs.Common.{◌≡◌, ℕ, ◌+◌, ◌*◌, subst, refl, arith}
use Rattle.version_search.proofs.Cells.{Loaded, begins, one_more_into, leaves}
use Rattle.version_search.proofs.loading.load_into.Goals as goal

pub loop-row-init : goal.loop-row-init
loop-row-init g c = record {
  loaded = begins c.args.core.now c.args.hand.now c.args.read.now.cells c.requires.ready c.requires.present;
  only = refl;
}

pub loop-column-preserved : goal.loop-column-preserved
loop-column-preserved g c =
    let row = c.loop-row-test.true in let column = c.loop-column-test.true in
    one_more_into c.args.core.now c.args.hand.now (c.loop-row.row * 8 + c.loop-column.column) (c.loop-row.row * 8 + (c.loop-column.column + 1)) c.load_cell-word.result
    c.loop-column.hand c.load_cell-word.new.hand c.args.read.now c.loop-column.read c.set_cell.new.self c.requires.loading c.requires.begins (omega arith) (omega arith)
    c.loop-column.invariant c.load_cell-word.ensures c.set_cell.ensures

pub returns-clause-left : goal.returns-clause-left
returns-clause-left g c =
    let far = c.loop-row.auto.row-end in let stop = c.loop-row-test.false in
    let all : c.loop-row.row * 8 ≡ 32 = omega arith in
    leaves c.args.core.now c.args.hand.now c.loop-row.read.cells c.requires.loading c.requires.begins c.loop-row.hand
    (subst (λ (n : ℕ). Loaded c.args.core.now c.args.hand.now c.loop-row.read.cells n c.loop-row.hand) all c.loop-row.invariant.loaded)
