use Rattle.std.proofs.Common.{take, sym, ap, ◌∙◌}
use Rattle.std.specs.List.{list_any}
use Rattle.std.proofs.lemmas.List.{take_more}
use Rattle.replay_model.specs.Order.{at_place}
use Rattle.replay_model.proofs.Seen.{named_step}
use Rattle.replay_model.proofs.orders.places_named.Goals as goal

pub loop-placed-preserved : goal.loop-placed-preserved
loop-placed-preserved c l k =
    named_step c.loop-placed.places c.insert.new.self (take c.loop-placed.placed-index c.args.order.now) _ c.in_ok-insert.ensures.updates.0 c.loop-placed.invariant l k
    ∙ ap (list_any (at_place l k)) (sym (take_more c.args.order.now c.loop-placed.placed-index _ c.loop-placed-test.true))
