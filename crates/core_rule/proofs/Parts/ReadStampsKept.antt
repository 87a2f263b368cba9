-- Read stamps: what raises one is a stamp in flight.
use Rattle.std.proofs.Common.{◌≡◌, ◌⊎◌, ℕ, suc, ◌<◌, ◌≤◌, max, Bool, true, false, cond, eqb, List, ◌∷◌, refl, sym, ap, ◌∙◌, subst, arith, inl, inr}
use mathlib.Core.Logic.{dite}
use native.Mathlib.Decide.{dec_lt}
use Rattle.std.specs.Prelude.{nat_lt}
use Rattle.plain_data.specs.State.{State}
use Rattle.word_layout.specs.Size.{Size, IsSize, places}
use Rattle.word_layout.specs.Name.{head, rts, next as next_word}
use Rattle.stamp_base.specs.Stamp.{stamp_of, seat_of}
use Rattle.core_rule.specs.Memory.{Memory, stored, start}
use Rattle.core_rule.specs.World.{World, at_number, behind, first_world}
use Rattle.core_rule.specs.View.{View, Stand, Joint}
use Rattle.core_rule.specs.Views.{Has}
use Rattle.core_rule.specs.Holding.{filled_place}
use Rattle.core_rule.specs.Deciding.{stamp_in}
use Rattle.core_rule.specs.Kinds.{Kind, publish_stamp, fill_reset, raise_read_stamp, link_head, link_next, name, turned, changed}
use Rattle.core_rule.specs.Parts.Linking.{JointOk, IsAbove}
use Rattle.core_rule.specs.Parts.ReadStamps.{IsNotAboveDrawn}
use Rattle.core_rule.specs.Parts.ReadStamps as part
use Rattle.core_rule.proofs.Step.{Step, at_number-other, at_cases}
use Rattle.core_rule.proofs.Making.{Split, Join}
use Rattle.core_rule.proofs.Listed.{Grown, grown_head, grown_behind}
use Rattle.core_rule.proofs.Touched.{apart, held_unlinked}
use Rattle.core_rule.specs.Kinds.{cut}
use Rattle.core_rule.proofs.Cutting.{shrunk}
use Rattle.core_rule.proofs.Working.{joint_of}
use Rattle.core_rule.proofs.Parts.FilledKept.{front_has}
use Rattle.core_rule.proofs.Parts.VersionsKept.{flight_seat, draws_later}

IsNotAboveDrawn-later : (seats : ℕ) (drawn drawn' : ℕ → ℕ) (t : ℕ) → ((seat : ℕ) → drawn seat ≤ drawn' seat) → IsNotAboveDrawn seats drawn t → IsNotAboveDrawn seats drawn' t
IsNotAboveDrawn-later seats drawn drawn' t rises (inl e) = inl e
IsNotAboveDrawn-later seats drawn drawn' t rises (inr h) = inr (h.0, h.1, let up = rises (seat_of t) in let d = h.2 in omega arith)

-- the greater of two
IsNotAboveDrawn-max : (seats : ℕ) (drawn : ℕ → ℕ) (a b : ℕ) → IsNotAboveDrawn seats drawn a → IsNotAboveDrawn seats drawn b → IsNotAboveDrawn seats drawn (max a b)
IsNotAboveDrawn-max seats drawn a b h k = dite (dec_lt a b)
    (λ lt. subst (IsNotAboveDrawn seats drawn) (let e : b ≡ max a b = omega arith in e) k)
    (λ ge. subst (IsNotAboveDrawn seats drawn) (let e : a ≡ max a b = omega arith in e) h)

module _ (kept : State → Type 0) (z : Size) (g : World) (m : Memory) (vs : List View) (id : ℕ) (v : View) where
  abbrev R : ℕ → ℕ
  R = (stored m).reads

  -- a version that is linked has no read stamp yet
  links_kept : (k : Kind) (s : Step kept z g m vs id v k) (p : Stand) (j : Joint) (lists' : ℕ → List ℕ) → Grown p.record_number j.write.place g.lists lists' → JointOk z g.owner g.lists (stored m) v.number v.flight v.work.linked p j
      → (b : Bool) → part.ReadStamps z g.drawn (cond b lists' g.lists) R
  links_kept k s p j lists' grew o false r q lt has = s.rule.read_stamps r q lt has
  links_kept k s p j lists' grew o true r q lt has = by_case (grew.only r q has) where
    by_case : ((p.record_number ≡ r) × (j.write.place ≡ q)) ⊎ Has q (g.lists r) → IsNotAboveDrawn z.seats g.drawn (R q)
    by_case (inl e) = inl (ap R (sym e.1) ∙ o.mark.reset)
    by_case (inr old) = s.rule.read_stamps r q lt old

  pub read_stamps_kept : (k : Kind) → Step kept z g m vs id v k → part.ReadStamps z (turned k v (m (name k v)) g).drawn (turned k v (m (name k v)) g).lists (stored (changed k v m)).reads
  read_stamps_kept (publish_stamp clock) s r q lt has =
      IsNotAboveDrawn-later z.seats g.drawn (at_number g.drawn v.number (stamp_of clock v.number)) (R q) (draws_later kept z g m vs id v clock s) (s.rule.read_stamps r q lt has)
  read_stamps_kept fill_reset s r q lt has =
      let held = front_has (stored m) v.places.held v.places.fills s.allowed.can (s.rule.filled id v s.at s.allowed.is_open) in
      subst (IsNotAboveDrawn z.seats g.drawn) (sym (at_number-other R (filled_place v.places.fills) q 0 (apart kept z g m vs id v _ s (filled_place v.places.fills) (held_unlinked kept z g m vs id v _ s (filled_place v.places.fills) held) r q lt has)))
      (s.rule.read_stamps r q lt has)
  read_stamps_kept (raise_read_stamp d) s r q lt has = at_cases R d.place (max (m (rts d.place)) (stamp_in v.flight)) q (IsNotAboveDrawn z.seats g.drawn)
      (λ e. IsNotAboveDrawn-max z.seats g.drawn (m (rts d.place)) (stamp_in v.flight) (subst (λ (y : ℕ). IsNotAboveDrawn z.seats g.drawn (m (rts y))) (sym e) (s.rule.read_stamps r q lt has))
      (let f = flight_seat kept z g m vs id v _ s id v s.at s.allowed.is_open (stamp_in v.flight) s.allowed.can.0 in
      let inside = (s.rule.seats.each id v s.at s.allowed.is_open).within in let last = (s.rule.clocks id v s.at s.allowed.is_open).last in let drawn = f.2 in
      inr (f.3, subst (λ (x : ℕ). x < z.seats) (sym f.1) inside, subst (λ (x : ℕ). stamp_in v.flight ≤ g.drawn x) (sym f.1) (omega arith))))
      (λ ne. s.rule.read_stamps r q lt has)
  read_stamps_kept (link_head p j w) s r q lt has =
      links_kept _ s p j (at_number g.lists p.record_number (j.write.place ∷ g.lists p.record_number)) (grown_head g.lists p.record_number j.write.place)
      (joint_of kept z g m vs id v _ s p j w s.allowed.can.0 s.allowed.can.1) (eqb (m (head p.record_number)) (suc p.place)) r q lt has
  read_stamps_kept (link_next p j a w) s r q lt has =
      let o = joint_of kept z g m vs id v _ s p j w s.allowed.can.0 s.allowed.can.1 in
      let there = (subst (IsAbove (g.lists p.record_number) (stored m).stamps j.write.stamp p.under) s.allowed.can.3 o.above).0 in
      links_kept _ s p j (at_number g.lists p.record_number (behind a j.write.place (g.lists p.record_number))) (grown_behind g.lists p.record_number j.write.place a there) o (eqb (m (next_word a)) (suc p.place)) r q lt has
  read_stamps_kept (cut r' c p) s r q lt has = s.rule.read_stamps r q lt ((shrunk kept z g m vs id v r' c p s).fewer r q has)
  read_stamps_kept k s r q lt has = s.rule.read_stamps r q lt has

module _ (kept : State → Type 0) (z : Size) (g : World) (m : Memory) (vs : List View) (id : ℕ) (v : View) (s : Split kept z g m vs id v) where
  pub read_stamps_split : part.ReadStamps z g.drawn g.lists (stored m).reads
  read_stamps_split = s.rule.read_stamps

module _ (kept : State → Type 0) (z : Size) (g : World) (m : Memory) (vs : List View) (id other : ℕ) (v w : View) (s : Join kept z g m vs id other v w) where
  pub read_stamps_joined : part.ReadStamps z g.drawn g.lists (stored m).reads
  read_stamps_joined = s.rule.read_stamps

pub read_stamps_start : (z : Size) → IsSize z → part.ReadStamps z (first_world z).drawn (first_world z).lists (stored (start z)).reads
read_stamps_start z h r q lt has = inl (no_stamp (nat_lt q (places z))) where
  no_stamp : (b : Bool) → cond {A = ℕ} b 0 0 ≡ 0
  no_stamp true = refl
  no_stamp false = refl
