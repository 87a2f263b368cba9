use Rattle.std.proofs.Common.{refl, sym, subst}
use Rattle.core_rule.specs.Hands.{Seated}
use Rattle.core_rule.specs.Kinds.{Can, raise_read_stamp}
use Rattle.core_rule.proofs.HandKept.{after_work}
use Rattle.core_rule.proofs.shared.Core.raise_read_stamp.Goals as goal

pub fetch_max-requires-clause-allowed : goal.fetch_max-requires-clause-allowed
fetch_max-requires-clause-allowed g c =
    let r = c.requires in let v = c.args.hand.now.view in record {
      is_open = c.hand.invariant.1.is_open;
      fits = c.hand.invariant.1.settled;
      can = subst (λ (t : Seated). Can g.J.Keeps.kept (raise_read_stamp c.args.read.now) t.view) (sym c.hand.view_is)
          (rw r.in_flight refl, r.found, r.whole, r.only, r.undecided);
    }

pub invariant_of-hand : goal.invariant_of-hand
invariant_of-hand g c =
    let h = c.hand.inside in
    (c.fetch_max.ensures.bare, after_work h.number h.clock h.published h.bound h.made h.last_pool h.seat.me.0 c.hand.invariant.1 _ _ _ c.fetch_max.new.seat.me.0 c.fetch_max.ensures.told.view)
