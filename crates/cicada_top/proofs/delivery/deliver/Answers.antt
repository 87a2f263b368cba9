use Rattle.cicada_top.proofs.DueLaws.{due-not_WriteFault}
use Rattle.cicada_top.proofs.delivery.deliver.Goals as goal

pub returns-in-Ok-clause-cause : goal.returns-in-Ok-clause-cause
returns-in-Ok-clause-cause g c bytes due failed =
    absurd (due-not_WriteFault c.args.reply.status c.args.mode bytes c.args.reply.order.items c.args.reply.fault c.args.reply.text.items due failed)
