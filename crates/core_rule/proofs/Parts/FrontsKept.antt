-- Fronts: while a seat is alone, nobody else links.
use Rattle.std.proofs.Common.{◌≡◌, ◌≢◌, ℕ, suc, ◌<◌, List, set, true, false, Bool, cond, eqb, refl, sym, arith, subst}
use Rattle.plain_data.specs.State.{State}
use Rattle.word_layout.specs.Size.{Size}
use Rattle.word_layout.specs.Name.{head, next as next_word}
use prog.Atomic.{either}
use Rattle.core_rule.specs.Memory.{Memory, stored}
use Rattle.core_rule.specs.World.{World, at_number}
use Rattle.core_rule.specs.View.{View, Front, no_front, at_front, Look, blank, stamped, Splitting}
use Rattle.core_rule.specs.Views.{At, OthersTaken}
use Rattle.core_rule.specs.Offers.{offered_read}
use Rattle.core_rule.specs.Rule.{head_words}
use Rattle.core_rule.specs.Kinds.{Kind, offer_write_word, offer_read_word, link_head, link_next, front_head, front_stamp, front_status, front_next, name, after, changed}
use Rattle.core_rule.specs.Parts.Fronts.{IsFront, FrontOk}
use Rattle.core_rule.specs.Parts.Fronts as part
use Rattle.core_rule.proofs.EachView.{Each-set}
use Rattle.core_rule.proofs.Step.{Step, at_number-stays}
use Rattle.core_rule.proofs.Listed.{top}
use Rattle.core_rule.proofs.Working.{front_of}
use Rattle.core_rule.proofs.Parts.CountsKept.{none_other}
use Rattle.core_rule.proofs.Alone.{OthersTaken-offered}

module _ (z : Size) (heads heads' : ℕ → ℕ) (number : ℕ) (s s' : Splitting) (taken_in : List ℕ) (still : OthersTaken z.seats number s taken_in → OthersTaken z.seats number s' taken_in) (same : (r : ℕ) → heads' r ≡ heads r) where
  IsFront-same : (f : Front) → IsFront z heads number s taken_in f → IsFront z heads' number s' taken_in f
  IsFront-same no_front h = tt
  IsFront-same (at_front r p look) h = (h.0, still h.1, rw (same r) h.2)

module _ (kept : State → Type 0) (z : Size) (g : World) (m : Memory) (vs : List View) (id : ℕ) (v : View) where
  -- another view looks at nothing
  none : (k : Kind) → Step kept z g m vs id v k → (heads' : ℕ → ℕ) (i : ℕ) (u : View) → i ≢ id → At vs i u → u.spent ≡ false → (f : Front) → IsFront z (head_words m) u.number u.splitting u.clock.taken_in f
      → IsFront z heads' u.number u.splitting u.clock.taken_in f
  none k s heads' i u ne at live no_front h = tt
  none k s heads' i u ne at live (at_front r p look) h = absurd (none_other kept z g m vs id v k s i u ne at live h.1)

  framed : (k : Kind) → Step kept z g m vs id v k → (heads' : ℕ → ℕ) (w : View) → FrontOk z heads' w → part.Fronts z heads' (set vs id w)
  framed k s heads' w mine = Each-set (FrontOk z (head_words m)) (FrontOk z heads') vs w id (λ i u ne at live h. none k s heads' i u ne at live u.front h) (λ live. mine) s.rule.fronts

  looks : (k : Kind) → Step kept z g m vs id v k → (r p : ℕ) (look : Look) → v.front ≡ at_front r p look → (r < z.records) × OthersTaken z.seats v.number v.splitting v.clock.taken_in × (m (head r) ≡ suc p)
  looks k s r p look e = let f = front_of kept z g m vs id v k s r p look e in (f.0, f.1, f.2)

  as_before : {k : Kind} → Step kept z g m vs id v k → IsFront z (head_words m) v.number v.splitting v.clock.taken_in v.front
  as_before s = s.rule.fronts id v s.at s.allowed.is_open

  pub fronts_kept : (k : Kind) → Step kept z g m vs id v k → part.Fronts z (head_words (changed k v m)) (set vs id (after k v (m (name k v))))
  fronts_kept offer_write_word s = framed _ s (head_words m) _ tt
  fronts_kept offer_read_word s = framed _ s (head_words m) _ (IsFront-same z (head_words m) (head_words m) v.number v.splitting (offered_read v.splitting) v.clock.taken_in
      (OthersTaken-offered z.seats v.number v.splitting v.clock.taken_in s.allowed.fits) (λ r. refl) v.front (s.rule.fronts id v s.at s.allowed.is_open))
  fronts_kept (link_head p j w) s = links (eqb (m (head p.record_number)) (suc p.place)) where
    links : (b : Bool) → part.Fronts z (at_number (head_words m) p.record_number (either b (suc j.write.place) (m (head p.record_number)))) (set vs id record (after (link_head p j w) v (m (head p.record_number))) { front = cond b no_front v.front })
    links true = framed _ s _ _ tt
    links false = subst (λ (x : ℕ → ℕ). part.Fronts z x (set vs id record (after (link_head p j w) v (m (head p.record_number))) { front = v.front })) (λ i r. sym (at_number-stays (head_words m) p.record_number r) i) (framed _ s (head_words m) _ (as_before s))
  fronts_kept (link_next p j a w) s = links (eqb (m (next_word a)) (suc p.place)) where
    links : (b : Bool) → part.Fronts z (head_words m) (set vs id record (after (link_next p j a w) v (m (next_word a))) { front = cond b no_front v.front })
    links true = framed _ s _ _ tt
    links false = framed _ s (head_words m) _ (as_before s)
  fronts_kept (front_head r) s =
      let size = (s.rule.seats.each id v s.at s.allowed.is_open).size in
      let lt : r < z.records = rw (← size) s.allowed.can.0 in
      let l = s.rule.lists.each r lt in
      let t = top (stored m).stamps (stored m).links (g.lists r) (m (head r)) l.base.place l.spelled l.falls l.base.there in
      let low = t.positive in
      framed _ s (head_words m) _ (lt, subst (λ (x : Size). OthersTaken x.seats v.number v.splitting v.clock.taken_in) size s.allowed.can.1, omega arith)
  fronts_kept (front_stamp r p) s = framed _ s (head_words m) _ (looks _ s r p blank s.allowed.can)
  fronts_kept (front_status r p w) s = framed _ s (head_words m) _ (looks _ s r p (stamped w) s.allowed.can)
  fronts_kept (front_next r p w x) s = framed _ s (head_words m) _ tt
  fronts_kept k s = framed k s (head_words m) _ (s.rule.fronts id v s.at s.allowed.is_open)
