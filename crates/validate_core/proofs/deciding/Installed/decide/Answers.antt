use Rattle.std.proofs.Common.{sym, subst}
use Rattle.core_rule.specs.View.{Seen}
use Rattle.validate_core.specs.Sets.{versions_read, records_written}
use Rattle.validate_core.specs.Halting.{Halts}
use Rattle.validate_core.proofs.Staging.{shown_later}
use Rattle.validate_core.proofs.Works.{works_stands, works_both, logs_stand}
use Rattle.validate_core.proofs.deciding.Installed.decide.Goals as goal

pub returns-in-Err-clause-conflict : goal.returns-in-Err-clause-conflict
returns-in-Err-clause-conflict g c =
    shown_later c.args.self.stamp c.args.sets.now c.args.hand.now.view c.validate.new.hand.view c.store_all.new.hand.view c.in-Err.conflict c.store_all.ensures.works c.in-Err.ensures.conflict

pub returns-in-Ok-clause-stands : goal.returns-in-Ok-clause-stands
returns-in-Ok-clause-stands g c = logs_stand c.args.hand.now.view c.validate.new.hand.view c.in-Ok.ensures.ok.only c.in-Ok.ensures.ok.grows

pub returns-in-Err-clause-stands : goal.returns-in-Err-clause-stands
returns-in-Err-clause-stands g c =
    works_stands c.args.hand.now.view c.store_all.new.hand.view
    (works_both c.args.hand.now.view c.validate.new.hand.view c.store_all.new.hand.view c.in-Err.ensures.works c.store_all.ensures.works)

pub returns-in-Err-clause-halts : goal.returns-in-Err-clause-halts
returns-in-Err-clause-halts g c =
    let s = c.args.sets.now in
    subst (λ (x : Seen). Halts c.args.self.stamp (versions_read s.reads) (records_written s.writes) c.args.hand.now.view.seen.loads x.loads c.in-Err.conflict) (sym c.store_all.ensures.seen) c.in-Err.ensures.halts
