use Rattle.std.proofs.Common.{◌≡◌, ◌<◌, ap, sym, subst, ◌∙◌, arith}
use Rattle.word_layout.specs.Size.{Size}
use Rattle.core_rule.specs.View.{View}
use Rattle.core_rule.specs.Views.{IsAlone}
use Rattle.core_rule.specs.Hands.{Seated}
use Rattle.core_rule.proofs.HandKept.{after_look}
use Rattle.core_rule.proofs.shared.Core.front_head.Goals as goal

pub load-requires-clause-allowed : goal.load-requires-clause-allowed
load-requires-clause-allowed g c =
    let here : c.hand.inside.seat.me.0 ≡ c.args.hand.now.view = ap (λ (x : Seated). x.view) c.hand.view_is in
    let size : c.hand.inside.seat.me.0.size ≡ c.args.self.now.size = ap (λ (x : View). x.size) here ∙ c.requires.ready.hand_of.same_size in
    let lt : c.args.rid < c.hand.inside.seat.me.0.size.records = subst (λ (x : Size). c.args.rid < x.records) (sym size) c.requires.rid in record {
      is_open = c.hand.invariant.1.is_open;
      fits = c.hand.invariant.1.settled;
      can = (omega arith, subst IsAlone (sym here) c.requires.alone);
    }

pub invariant_of-hand : goal.invariant_of-hand
invariant_of-hand g c =
    let h = c.hand.inside in
    (c.load.ensures.bare, after_look h.number h.clock h.published h.bound h.made h.last_pool h.seat.me.0 c.hand.invariant.1 _ _ c.load.new.seat.me.0 c.load.ensures.told.view)
