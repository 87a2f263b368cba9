use Rattle.std.proofs.Common.{◌≡◌, ℕ, false, List, [], ◌∷◌, refl, sym, ap, subst, inl}
use Rattle.word_layout.specs.Size.{Size}
use Rattle.core_rule.specs.View.{View, Fill}
use Rattle.core_rule.specs.Views.{Among}
use Rattle.core_rule.specs.Holding.{IsFilling, filled_place}
use Rattle.core_rule.specs.Offers.{IsSettled}
use Rattle.core_rule.specs.Searching.{front_fill, FitsPlace}
use Rattle.core_rule.specs.Hands.{Seated}
use Rattle.core_rule.specs.Kinds.{mark, Allowed}
use Rattle.core_rule.proofs.HandKept.{after_mark}
use Rattle.core_rule.proofs.shared.Core.mark.Goals as goal

has_front : (fs : List Fill) → IsFilling fs → Among (front_fill fs) fs
has_front [] h = absurd h
has_front (f ∷ fs) h = inl refl

front_place : (fs : List Fill) (p : ℕ) → p ≡ filled_place fs → (front_fill fs).place ≡ p
front_place [] p e = sym e
front_place (f ∷ fs) p e = sym e

pub store-requires-clause-allowed : goal.store-requires-clause-allowed
store-requires-clause-allowed g c =
    let here : c.hand.inside.seat.me.0 ≡ c.args.hand.now.view = ap (λ (h : Seated). h.view) c.hand.view_is in
    let v = c.args.hand.now.view in let f = front_fill v.places.fills in
    let place : f.place ≡ c.args.place = front_place v.places.fills c.args.place c.requires.place in
    let fits : FitsPlace v.size c.args.rid f.place = subst (λ (z : Size). FitsPlace z c.args.rid f.place) (sym c.requires.ready.hand_of.same_size) (rw place c.requires.fits) in
    let all : Allowed g.J.Keeps.kept (mark c.args.rid f) v = record {
      is_open = subst (λ (x : View). x.spent ≡ false) here c.hand.invariant.1.is_open;
      fits = subst (λ (x : View). IsSettled x.splitting) here c.hand.invariant.1.settled;
      can = (has_front v.places.fills c.requires.in_work, c.requires.in_flight, c.requires.reset, fits, c.requires.rests, c.requires.only, c.requires.whole, c.requires.undecided);
    } in
    subst (λ (x : View). Allowed g.J.Keeps.kept (mark c.args.rid (front_fill x.places.fills)) x) (sym here) all

pub invariant_of-hand : goal.invariant_of-hand
invariant_of-hand g c =
    let h = c.hand.inside in (
      c.store.ensures.bare,
      after_mark h.number h.clock h.published h.bound h.made h.last_pool h.seat.me.0 c.hand.invariant.1 (front_fill h.seat.me.0.places.fills).place _ _ _ c.store.new.seat.me.0 c.store.ensures.told.view refl refl,
    )
