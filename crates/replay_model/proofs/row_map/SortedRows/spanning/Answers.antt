use Rattle.std.proofs.Common.{ap, sym, ◌∙◌}
use Rattle.replay_model.specs.RowsIn.{first_spanning}
use Rattle.replay_model.proofs.RowMap.{first_spanning-from_rows, first_spanning-none}
use Rattle.replay_model.proofs.row_map.SortedRows.spanning.Goals as goal

pub returns-then-lo-hi : goal.returns-then-lo-hi
returns-then-lo-hi c =
    c.new.ensures.items ∙ sym (first_spanning-none c.args.lo c.args.hi c.args.limit c.args.self.now c.if-lo-hi.true)

pub returns : goal.returns
returns c =
    c.in_ok-pairs.ensures.pairs
    ∙ first_spanning-from_rows c.self.inside.rows.entries c.in_ok-pairs.ensures.ordered c.self.invariant c.args.lo c.args.hi c.args.limit
    ∙ ap (first_spanning c.args.lo c.args.hi c.args.limit) c.self.view_is
