use Rattle.std.proofs.Common.{ℕ, refl, sym, ap, ◌∙◌, subst, ◌<◌, arith}
use Rattle.word_layout.specs.Size.{places}
use Rattle.word_layout.specs.Name.{cell, word_of}
use Rattle.core_rule.specs.Hands.{Seated}
use Rattle.core_rule.specs.Holding.{filled_place, filled_cells}
use Rattle.core_rule.proofs.CellWords.{cell_word, cell_in_range}
use Rattle.core_rule.proofs.HandKept.{held_in, size_in, after_fill}
use Rattle.core_rule.proofs.shared.Core.meet_cell.Goals as goal

pub overflow_add-word : goal.overflow_add-word
overflow_add-word g c =
    let h = c.hand.inside in
    let size = size_in h.number h.clock h.published h.bound h.made h.last_pool h.seat.me.0 c.hand.invariant.1 c.args.hand.now c.args.self.now h.seat.table_id h.seat.id c.hand.view_is
    c.requires.ready.hand_of.same_size in
    let inside = held_in h.number h.clock h.published h.bound h.made h.last_pool h.seat.me.0 c.hand.invariant.1 c.args.hand.now c.args.self.now h.seat.table_id h.seat.id c.hand.view_is
    c.requires.ready.hand_of.same_size (filled_place c.args.hand.now.view.places.fills) c.requires.holds in
    let lt = cell_in_range c.args.self.now.size (filled_place c.args.hand.now.view.places.fills) c.args.index c.args.first size inside c.requires.room c.requires.first in omega arith

pub load-requires-clause-named : goal.load-requires-clause-named
load-requires-clause-named g c =
    let h = c.hand.inside in (
      subst (λ (t : Seated). filled_place t.view.places.fills < places c.args.self.now.size) (sym c.hand.view_is)
          (held_in h.number h.clock h.published h.bound h.made h.last_pool h.seat.me.0 c.hand.invariant.1 c.args.hand.now c.args.self.now h.seat.table_id h.seat.id c.hand.view_is
          c.requires.ready.hand_of.same_size (filled_place c.args.hand.now.view.places.fills) c.requires.holds),
      rw (ap (λ (t : Seated). filled_cells t.view.places.fills) c.hand.view_is) (rw (← c.requires.index) c.requires.room),
    )

pub load-requires-clause-word : goal.load-requires-clause-word
load-requires-clause-word g c =
    cell_word c.args.self.now.size (filled_place c.args.hand.now.view.places.fills) c.args.index c.args.first c.requires.first
    ∙ ap (λ (i : ℕ). word_of c.args.self.now.size (cell (filled_place c.args.hand.now.view.places.fills) i)) c.requires.index
    ∙ ap (λ (t : Seated). word_of c.args.self.now.size (cell (filled_place t.view.places.fills) (filled_cells t.view.places.fills))) (sym c.hand.view_is)

pub invariant_of-hand : goal.invariant_of-hand
invariant_of-hand g c =
    let h = c.hand.inside in
    (c.load.ensures.bare, after_fill h.number h.clock h.published h.bound h.made h.last_pool h.seat.me.0 c.hand.invariant.1 _ _ c.load.new.seat.me.0 c.load.ensures.told.view refl refl)
