use Rattle.std.proofs.Common.{refl}
use Rattle.cicada_top.proofs.DueLaws.{as_said, failed_writes, begun_writes}
use Rattle.cicada_top.proofs.delivery.stopped.Goals as goal

pub returns-in-Failed-clause-ends : goal.returns-in-Failed-clause-ends
returns-in-Failed-clause-ends c bytes text status fault before after due written short =
    as_said _ _ _ _ _ _ c.args.mode bytes before after c.bare.ensures.status refl c.bare.ensures.fault
    (failed_writes status c.args.mode bytes text c.args.order.items c.order_behind_stop-order.result.items fault c.args.stop.sent before after due c.order_behind_stop-order.ensures written short)

pub returns-in-NoMemory-clause-ends : goal.returns-in-NoMemory-clause-ends
returns-in-NoMemory-clause-ends c bytes text status fault before after due written short =
    as_said _ _ _ _ _ _ c.args.mode bytes before after c.bare-in-NoMemory.ensures.status refl c.bare-in-NoMemory.ensures.fault
    (begun_writes status c.args.mode bytes text c.args.order.items c.order_behind_stop-order.result.items fault c.args.stop.sent before after due c.order_behind_stop-order.ensures written short c.if-stop-gt0.true)
