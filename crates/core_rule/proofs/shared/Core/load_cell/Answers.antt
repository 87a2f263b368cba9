use Rattle.std.proofs.Common.{ℕ, sym, ap, ◌∙◌, arith}
use Rattle.word_layout.specs.Name.{cell, word_of}
use Rattle.core_rule.specs.Searching.{read_place, read_cells}
use Rattle.core_rule.proofs.CellWords.{cell_word, cell_in_range}
use Rattle.core_rule.proofs.HandKept.{size_in, steps_of}
use Rattle.core_rule.specs.Hands.{Seated}
use Rattle.core_rule.specs.Kinds.{load_cell}
use Rattle.core_rule.proofs.shared.Core.load_cell.Goals as goal

pub overflow_add-word : goal.overflow_add-word
overflow_add-word g c =
    let h = c.hand.inside in
    let size = size_in h.number h.clock h.published h.bound h.made h.last_pool h.seat.me.0 c.hand.invariant.1 c.args.hand.now c.args.self.now h.seat.table_id h.seat.id c.hand.view_is
    c.requires.ready.hand_of.same_size in
    let lt = cell_in_range c.args.self.now.size (read_place c.args.hand.now.view.work.reads) c.args.index c.args.first size c.requires.inside c.requires.room c.requires.first in omega arith

pub load-requires-clause-word : goal.load-requires-clause-word
load-requires-clause-word g c =
    cell_word c.args.self.now.size (read_place c.args.hand.now.view.work.reads) c.args.index c.args.first c.requires.first
    ∙ ap (λ (i : ℕ). word_of c.args.self.now.size (cell (read_place c.args.hand.now.view.work.reads) i)) c.requires.index
    ∙ ap (λ (t : Seated). word_of c.args.self.now.size (cell (read_place t.view.work.reads) (read_cells t.view.work.reads))) (sym c.hand.view_is)

pub returns : goal.returns
returns g c = let e = c.load.ensures in steps_of g.J.Keeps.kept (λ v. load_cell) _ _ c.load.result _ c.hand.view_is e.table e.id e.told
