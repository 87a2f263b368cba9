use Rattle.std.proofs.Common.{ap, sym, ◌∙◌}
use Rattle.std.specs.FinMap.{insert}
use Rattle.replay_model.specs.Effect.{by_column}
use Rattle.replay_model.proofs.Items.{drop_at}
use Rattle.replay_model.proofs.listed.listed_by.Goals as goal

pub loop-i-preserved : goal.loop-i-preserved
loop-i-preserved c =
    c.in_ok-put.ensures.ok ∙ (λ j. insert (c.loop-i.invariant j) (c.column.ensures j, c.get.result.now.0) c.get.result.now.1)
    ∙ ap (by_column c.args.column) (sym (drop_at c.args.pairs.now c.loop-i.i _ c.loop-i-test.true c.get.ensures))
