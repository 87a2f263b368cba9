use Rattle.std.proofs.Common.{List, sym, subst}
use Rattle.core_rule.specs.View.{Logged}
use Rattle.rapid_gc.specs.declared.queue.Queued.{Queued}
use Rattle.rapid_gc.specs.Queues.{AreCommitted}
use Rattle.engine_rows.proofs.Committed.{remaining_committed}
use Rattle.engine_rows.proofs.collection.collect_once.Goals as goal

pub returns-clause-committed : goal.returns-clause-committed
returns-clause-committed c =
    let through = c.collect.ensures.collects.goes_through in let records = c.args.core.now.size.records in
    let before = subst (λ (items : List Queued). AreCommitted records c.args.hand.now.view.log items) (sym through.each_item) c.requires.committed in
    let stayed = remaining_committed records c.args.hand.now.view.log through.ended before in
    let items = subst (λ (items : List Queued). AreCommitted records c.args.hand.now.view.log items) (sym through.stays_in) stayed in
    subst (λ (log : List Logged). AreCommitted records log c.collect.new.queue.items) (sym c.collect.ensures.log) items
