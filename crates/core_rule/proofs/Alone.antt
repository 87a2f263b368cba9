-- While one view is alone, no other is open, and nothing that was drawn is above its stamp in flight.
use Rattle.std.proofs.Common.{◌≡◌, ◌≢◌, ℕ, ◌+◌, ◌<◌, ◌≤◌, false, List, refl, sym, ap, subst, ⊎_elim, arith}
use mathlib.Core.Logic.{dite}
use native.Mathlib.Decide.{ℕ_discrete, dec_lt}
use Rattle.plain_data.specs.State.{State}
use Rattle.word_layout.specs.Size.{Size}
use Rattle.stamp_base.specs.Stamp.{seat_of}
use Rattle.core_rule.specs.Memory.{Memory, stored}
use Rattle.core_rule.specs.World.{World}
use Rattle.core_rule.specs.View.{View, Splitting, single, sharing, offers_write, offers_both, shared, writing}
use Rattle.core_rule.specs.Views.{At, Has, OthersTaken, IsAlone}
use Rattle.core_rule.specs.Offers.{made_of, made_within, MayOffer, HasOffered, HasOfferedBoth, offered_write, offered_read}
use Rattle.core_rule.specs.Rule.{Rule}
use Rattle.core_rule.specs.Parts.Splitting.{Makes}
use Rattle.core_rule.specs.Parts.Clocks.{InFlight}
use Rattle.core_rule.proofs.EachView.{AllOf-Has, same_view}

-- the second word of a next seat is stored
pub OthersTaken-offered : (seats number : ℕ) (s : Splitting) (taken_in : List ℕ) → HasOffered s → OthersTaken seats number s taken_in → OthersTaken seats number (offered_read s) taken_in
OthersTaken-offered seats number single taken_in offered h = absurd offered
OthersTaken-offered seats number (sharing made) taken_in offered h = absurd offered
OthersTaken-offered seats number (offers_write made) taken_in offered h = h
OthersTaken-offered seats number (offers_both made) taken_in offered h = absurd offered
OthersTaken-offered seats number shared taken_in offered h = absurd offered

-- and the first
pub OthersTaken-begun : (seats number : ℕ) (s : Splitting) (taken_in : List ℕ) → MayOffer s → OthersTaken seats number (offered_write s) taken_in → OthersTaken seats number s taken_in
OthersTaken-begun seats number single taken_in offered h = h
OthersTaken-begun seats number (sharing made) taken_in offered h = h
OthersTaken-begun seats number (offers_write made) taken_in offered h = absurd offered
OthersTaken-begun seats number (offers_both made) taken_in offered h = absurd offered
OthersTaken-begun seats number shared taken_in offered h = absurd offered

-- a seat that is alone after them was so before
pub OthersTaken-before : (seats number : ℕ) (s : Splitting) (taken_in : List ℕ) → HasOffered s → OthersTaken seats number (offered_read s) taken_in → OthersTaken seats number s taken_in
OthersTaken-before seats number single taken_in offered h = absurd offered
OthersTaken-before seats number (sharing made) taken_in offered h = absurd offered
OthersTaken-before seats number (offers_write made) taken_in offered h = h
OthersTaken-before seats number (offers_both made) taken_in offered h = absurd offered
OthersTaken-before seats number shared taken_in offered h = absurd offered

-- and the seat is made
pub OthersTaken-made : (seats number : ℕ) (s : Splitting) (taken_in : List ℕ) → HasOfferedBoth s → OthersTaken seats number (sharing (made_of s + 1)) taken_in → OthersTaken seats number s taken_in
OthersTaken-made seats number single taken_in offered h = absurd offered
OthersTaken-made seats number (sharing made) taken_in offered h = absurd offered
OthersTaken-made seats number (offers_write made) taken_in offered h = absurd offered
OthersTaken-made seats number (offers_both made) taken_in offered h = λ s lt. h s (omega arith)
OthersTaken-made seats number shared taken_in offered h = absurd offered

module _ (kept : State → Type 0) (z : Size) (g : World) (m : Memory) (vs : List View) (rule : Rule kept z g m vs) (id : ℕ) (v : View) (at : At vs id v) (live : v.spent ≡ false) where
  -- each view is of a seat that was made
  within : (i : ℕ) (u : View) → At vs i u → u.spent ≡ false → (s : Splitting) → v.splitting ≡ s → u.number < made_within z.seats s
  within i u at_u live_u single e = (rule.splittings.made id i v u at at_u live live_u 1 (subst (λ (x : Splitting). Makes x 1) (sym e) refl)).seat
  within i u at_u live_u (sharing made) e = (rule.splittings.made id i v u at at_u live live_u made (subst (λ (x : Splitting). Makes x made) (sym e) refl)).seat
  within i u at_u live_u (offers_write made) e = (rule.splittings.made id i v u at at_u live live_u made (subst (λ (x : Splitting). Makes x made) (sym e) refl)).seat
  within i u at_u live_u (offers_both made) e = (rule.splittings.made id i v u at at_u live live_u made (subst (λ (x : Splitting). Makes x made) (sym e) refl)).seat
  within i u at_u live_u shared e = (rule.seats.each i u at_u live_u).within

  pub none_else : (i : ℕ) (u : View) → At vs i u → u.spent ≡ false → u.number ≢ v.number → OthersTaken z.seats v.number v.splitting v.clock.taken_in → ⊥
  none_else i u at_u live_u ne alone = ⊎_elim (λ (e : u.number ≡ v.number). ne e)
      (λ (h : Has u.number v.clock.taken_in). AllOf-Has (λ t. u.number ≢ t) u.number v.clock.taken_in (rule.seats.taken id i v u at at_u live live_u) h refl)
      (alone u.number (within i u at_u live_u v.splitting refl))

  -- so each open view is this one
  pub only_view : (i : ℕ) (u : View) → At vs i u → u.spent ≡ false → OthersTaken z.seats v.number v.splitting v.clock.taken_in → i ≡ id
  only_view i u at_u live_u alone = dite (ℕ_discrete u.number v.number) (λ same. rule.seats.apart i id u v at_u at live_u live same) (λ ne. absurd (none_else i u at_u live_u ne alone))

  pub as_this : (i : ℕ) (u : View) → At vs i u → u.spent ≡ false → OthersTaken z.seats v.number v.splitting v.clock.taken_in → v ≡ u
  as_this i u at_u live_u alone = same_view vs i id v u at (only_view i u at_u live_u alone) at_u

  pub taken_as : IsAlone v → OthersTaken z.seats v.number v.splitting v.clock.taken_in
  taken_as alone = subst (λ (x : Size). OthersTaken x.seats v.number v.splitting v.clock.taken_in) (rule.seats.each id v at live).size alone

  -- a seat that was not made has drawn nothing
  unmade : (seat : ℕ) → seat < z.seats → (s : Splitting) → v.splitting ≡ s → made_within z.seats s ≤ seat → g.drawn seat ≡ 0
  unmade seat lt single e le = (rule.splittings.each id v at live).fresh 1 seat (subst (λ (x : Splitting). Makes x 1) (sym e) refl) le
  unmade seat lt (sharing made) e le = (rule.splittings.each id v at live).fresh made seat (subst (λ (x : Splitting). Makes x made) (sym e) refl) le
  unmade seat lt (offers_write made) e le = (rule.splittings.each id v at live).fresh made seat (subst (λ (x : Splitting). Makes x made) (sym e) refl) le
  unmade seat lt (offers_both made) e le = (rule.splittings.each id v at live).fresh made seat (subst (λ (x : Splitting). Makes x made) (sym e) refl) le
  unmade seat lt shared e le = absurd (omega arith)

  -- nor has another drawn anything above the stamp in flight
  pub drawn_low : (t : ℕ) → v.flight ≡ writing t → OthersTaken z.seats v.number v.splitting v.clock.taken_in → (seat : ℕ) → seat < z.seats → g.drawn seat ≤ t
  drawn_low t f alone seat lt = dite (ℕ_discrete seat v.number)
      (λ own. let c = rule.clocks id v at live in let last = c.last in let is = (subst (InFlight v.clock v.published) f c.in_flight).0 in
      let same : g.drawn seat ≡ g.drawn v.number = ap g.drawn own in omega arith)
      (λ other. dite (dec_lt seat (made_within z.seats v.splitting))
      (λ made. ⊎_elim (λ (e : seat ≡ v.number). absurd (other e))
      (λ (h : Has seat v.clock.taken_in). let below = AllOf-Has (λ x. g.drawn x < t) seat v.clock.taken_in ((rule.joined id v at live).below t f) h in omega arith) (alone seat made))
      (λ not. let none = unmade seat lt v.splitting refl (omega arith) in omega arith))

  -- so a linked version is not above it
  pub linked_low : (t : ℕ) → v.flight ≡ writing t → OthersTaken z.seats v.number v.splitting v.clock.taken_in → (r p : ℕ) → r < z.records → Has p (g.lists r) → (stored m).stamps p ≤ t
  linked_low t f alone r p lt has = let h = rule.versions.each r p lt has in let was = h.not_above_drawn in let low = drawn_low t f alone (seat_of ((stored m).stamps p)) h.within in omega arith
