use Rattle.std.proofs.Common.{[], sym, subst}
use Rattle.word_layout.specs.Size.{Size}
use Rattle.core_rule.specs.Hands.{Seated}
use Rattle.core_rule.specs.Deciding.{IsFitting, commit_of}
use Rattle.core_rule.specs.Kinds.{Can, decide_bare}
use Rattle.core_rule.proofs.HandKept.{after_work}
use Rattle.core_rule.proofs.shared.Core.decide_bare.Goals as goal

pub load-requires-clause-allowed : goal.load-requires-clause-allowed
load-requires-clause-allowed g c =
    let r = c.requires in let v = c.args.hand.now.view in record {
      is_open = c.hand.invariant.1.is_open;
      fits = c.hand.invariant.1.settled;
      can = subst (λ (t : Seated). Can g.J.Keeps.kept decide_bare t.view) (sym c.hand.view_is)
          (r.in_flight, r.rests, r.finished, r.bare, r.undecided, subst (λ (z : Size). IsFitting g.J.Keeps.kept z.records (commit_of v.flight v.work.finished [])) (sym r.ready.hand_of.same_size) r.fits);
    }

pub invariant_of-hand : goal.invariant_of-hand
invariant_of-hand g c =
    let h = c.hand.inside in
    (c.load.ensures.bare, after_work h.number h.clock h.published h.bound h.made h.last_pool h.seat.me.0 c.hand.invariant.1 _ _ _ c.load.new.seat.me.0 c.load.ensures.told.view)
