use Rattle.std.proofs.Common.{sym, subst}
use Rattle.core_rule.specs.Hands.{Seated}
use Rattle.core_rule.specs.Snapshots.{firsts}
use Rattle.core_rule.specs.Kinds.{Can, finish}
use Rattle.core_rule.proofs.HandKept.{after_work}
use Rattle.core_rule.proofs.Snapshots.{firsts_reads}
use Rattle.core_rule.proofs.shared.Core.finish.Goals as goal

pub load-requires-clause-allowed : goal.load-requires-clause-allowed
load-requires-clause-allowed g c =
    let r = c.requires in let ds = c.args.hand.now.view.work.reads in record {
      is_open = c.hand.invariant.1.is_open;
      fits = c.hand.invariant.1.settled;
      can = subst (λ (t : Seated). Can g.J.Keeps.kept (finish (firsts t.view.work.reads)) t.view) (sym c.hand.view_is)
          (r.resting, r.ready.open_words.read, firsts_reads ds r.whole, r.collected);
    }

pub invariant_of-hand : goal.invariant_of-hand
invariant_of-hand g c =
    let h = c.hand.inside in (
      c.load.ensures.bare,
      after_work h.number h.clock h.published h.bound h.made h.last_pool h.seat.me.0 c.hand.invariant.1
          _ _ _ c.load.new.seat.me.0 c.load.ensures.told.view,
    )
