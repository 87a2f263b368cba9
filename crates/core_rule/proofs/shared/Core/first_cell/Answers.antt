use Rattle.core_rule.proofs.HandKept.{held_in_layout}
use Rattle.core_rule.proofs.shared.Core.first_cell.Goals as goal

pub cell-requires-clause-place : goal.cell-requires-clause-place
cell-requires-clause-place g c =
    let h = c.hand.inside in
    held_in_layout h.number h.clock h.published h.bound h.made h.last_pool h.seat.me.0 c.hand.invariant.1 c.args.hand.now c.args.self.now c.self.inside.layout
    c.self.inside.table.shared.table_id h.seat.table_id h.seat.id c.hand.view_is c.self.view_is c.requires.ready.hand_of.same_size c.args.place c.requires.holds
