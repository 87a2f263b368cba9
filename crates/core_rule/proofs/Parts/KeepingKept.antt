-- Keeping: a seat that links in the reserved place knows so until it cuts that version off.
use Rattle.std.proofs.Common.{◌≡◌, ℕ, suc, ◌<◌, true, false, Bool, cond, eqb, List, [], ◌∷◌, ◌++◌, set, refl, sym, ap, ◌∙◌, subst, arith, eqb-true, ⊎_elim}
use Rattle.std.specs.Prelude.{nat_lt, ◌&&◌}
use Rattle.std.proofs.lemmas.Bool.{ltb-true}
use Rattle.plain_data.specs.State.{State}
use Rattle.word_layout.specs.Size.{Size, IsSize, places, reserved_place}
use Rattle.word_layout.specs.Name.{head, status, next as next_word}
use Rattle.core_rule.specs.Memory.{Memory, stored, start}
use Rattle.core_rule.specs.World.{World, Owner, free, held, marked, linked, cut_by, at_number, up_to, from_behind, cut_from, first_world}
use Rattle.core_rule.specs.View.{View, Reserved, nothing_reserved, version_reserved, maybe_reserved, first_view}
use Rattle.core_rule.specs.Views.{Has, SomeView, OthersTaken}
use Rattle.core_rule.specs.Searching.{counted_more, counted_one, reserved_from, reserved_by_both}
use Rattle.core_rule.specs.Kinds.{Kind, offer_write_word, offer_read_word, take, fill_stamp, give, mark, link_head, link_next, cut, free_place, front_next, name, after, turned, changed}
use Rattle.core_rule.specs.Hands.{split_left, split_right, joined_view}
use Rattle.core_rule.specs.Parts.Keeping.{MayBe, IsThere, KeepingOk}
use Rattle.core_rule.specs.Parts.Keeping as part
use Rattle.core_rule.proofs.EachView.{Each-set, Each-push, Each-join, Each-one, Each-own, SomeView-set, SomeView-own, SomeView-push, SomeView-merge, joined}
use Rattle.core_rule.proofs.Step.{Step, at_cases, at_number-other, at_number-same, at_number-stays, ltb-true_from}
use Rattle.core_rule.proofs.Making.{Split, Join}
use Rattle.core_rule.proofs.Alone.{OthersTaken-begun, OthersTaken-before, OthersTaken-made}
use Rattle.core_rule.proofs.Without.{ne_from_test}
use Rattle.core_rule.proofs.Working.{joint_of, filled_held}
use Rattle.core_rule.proofs.Tails.{up_high, up_or_behind, cut_same, cut_or}
use Rattle.core_rule.proofs.Cutting.{cut_work, cut_version, tail_linked, tail_low}
use Rattle.core_rule.proofs.Touched.{IsUnlinked, held_unlinked, left_unlinked}
use Rattle.core_rule.proofs.Parts.PlacesKept.{free_from}
use Rattle.core_rule.proofs.Parts.CountsKept.{none_other}

linked_one : (a b : ℕ) → linked a ≡ linked b → a ≡ b
linked_one a b e = cc

IsThere-as : (o o' : Owner) (t t' : ℕ) (k : Reserved) → ((r : ℕ) → o ≡ linked r → (o' ≡ linked r) × (t' ≡ t)) → IsThere o t k → IsThere o' t' k
IsThere-as o o' t t' nothing_reserved stays h = tt
IsThere-as o o' t t' (version_reserved r u) stays h = let a = stays r h.0 in (a.0, a.1 ∙ h.1)
IsThere-as o o' t t' maybe_reserved stays h = tt

module _ (kept : State → Type 0) (z : Size) (g : World) (m : Memory) (vs : List View) (id : ℕ) (v : View) where
  abbrev P : ℕ
  P = reserved_place z

  abbrev S : ℕ → ℕ
  S = (stored m).stamps

  abbrev Alone : View → Type 0
  Alone u = OthersTaken z.seats u.number u.splitting u.clock.taken_in

  framed : {k : Kind} → Step kept z g m vs id v k → (o : Owner) (t : ℕ) (w : View) → ((r : ℕ) → o ≡ linked r → SomeView (λ u. MayBe r t u.counts.in_reserved) (set vs id w)) → KeepingOk z o t w
      → part.Keeping z o t (set vs id w)
  framed {k} s o t w known mine = record {
    known = known;
    alone = Each-set (KeepingOk z (g.owner P) (S P)) (KeepingOk z o t) vs w id (λ i u ne at live h alone. absurd (none_other kept z g m vs id v k s i u ne at live alone)) (λ live. mine) s.rule.keeping.alone;
  }

  there : {k : Kind} → Step kept z g m vs id v k → Alone v → IsThere (g.owner P) (S P) v.counts.in_reserved
  there s = s.rule.keeping.alone id v s.at s.allowed.is_open

  -- the place is linked where it was, and the view has there what it had
  as_before : {k : Kind} → Step kept z g m vs id v k → (o : Owner) (t : ℕ) (w : View) → w.spent ≡ v.spent → w.counts.in_reserved ≡ v.counts.in_reserved → (Alone w → Alone v)
      → ((r : ℕ) → o ≡ linked r → g.owner P ≡ linked r) → ((r : ℕ) → g.owner P ≡ linked r → (o ≡ linked r) × (t ≡ S P)) → part.Keeping z o t (set vs id w)
  as_before s o t w spent same back was stays = framed s o t w
      (λ r is. subst (λ (x : ℕ). SomeView (λ u. MayBe r x u.counts.in_reserved) (set vs id w)) (sym (stays r (was r is)).1)
      (SomeView-set (λ u. MayBe r (S P) u.counts.in_reserved) (λ u. MayBe r (S P) u.counts.in_reserved) vs id v w s.at (spent ∙ s.allowed.is_open) (λ h. subst (MayBe r (S P)) (sym same) h) (λ u h. h) (s.rule.keeping.known r (was r is))))
      (λ alone. subst (IsThere o t) (sym same) (IsThere-as (g.owner P) o (S P) t v.counts.in_reserved stays (there s (back alone))))

  -- a place gets another owner, and is not linked
  one_owner : {k : Kind} → Step kept z g m vs id v k → (p : ℕ) (o : Owner) → IsUnlinked (g.owner p) → IsUnlinked o → (w : View) → w.spent ≡ v.spent → w.counts.in_reserved ≡ v.counts.in_reserved → (Alone w → Alone v)
      → part.Keeping z (at_number g.owner p o P) (S P) (set vs id w)
  one_owner s p o un un' w spent same back = as_before s (at_number g.owner p o P) (S P) w spent same back
      (λ r. at_cases g.owner p o P (λ x. x ≡ linked r → g.owner P ≡ linked r) (λ e is. absurd (subst IsUnlinked is un')) (λ ne is. is))
      (λ r is. (at_number-other g.owner p P o (λ e. absurd (subst IsUnlinked (ap g.owner e ∙ is) un)) ∙ is, refl))

  takes : (p : ℕ) (s : Step kept z g m vs id v (take p)) (b : Bool) → eqb (m (status p)) 0 ≡ b → (w : View) → w.spent ≡ v.spent → w.counts.in_reserved ≡ v.counts.in_reserved → (Alone w → Alone v)
      → part.Keeping z (at_number g.owner p (cond b (held v.number) (g.owner p)) P) (S P) (set vs id w)
  takes p s true e w spent same back =
      let inside : p < places z = rw (← (s.rule.seats.each id v s.at s.allowed.is_open).size) s.allowed.can in
      let is_free = free_from (g.owner p) (m (status p)) (s.rule.places.shows p inside) (eqb-true (m (status p)) 0 e) in
      one_owner s p (held v.number) (subst IsUnlinked (sym is_free) tt) tt w spent same back
  takes p s false e w spent same back = let stays = at_number-stays g.owner p P in as_before s _ (S P) w spent same back (λ r is. sym stays ∙ is) (λ r is. (stays ∙ is, refl))

  -- a version is linked, or not
  links : {k : Kind} → Step kept z g m vs id v k → (r t p : ℕ) → g.owner p ≡ marked v.number → S p ≡ t → (b : Bool) (w : View) → w.spent ≡ v.spent → w.counts ≡ cond b (counted_more v.size r t p v.counts) v.counts → (Alone w → Alone v)
      → part.Keeping z (cond b (at_number g.owner p (linked r)) g.owner P) (S P) (set vs id w)
  links s r t p own at_stamp false w spent known back = as_before s (g.owner P) (S P) w spent (ap (λ c. c.in_reserved) known) back (λ q is. is) (λ q is. (is, refl))
  links s r t p own at_stamp true w spent known back =
      by_place (eqb p P) refl (ap (λ c. c.in_reserved) known ∙ ap (λ (y : Size). cond (eqb p (reserved_place y)) (version_reserved r t) v.counts.in_reserved) (s.rule.seats.each id v s.at s.allowed.is_open).size) where
        by_place : (c : Bool) → eqb p P ≡ c → w.counts.in_reserved ≡ cond c (version_reserved r t) v.counts.in_reserved → part.Keeping z (at_number g.owner p (linked r) P) (S P) (set vs id w)
        by_place true e has =
            let here : p ≡ P = eqb-true p P e in let stamp : S P ≡ t = ap S (sym here) ∙ at_stamp in
            let owned : at_number g.owner p (linked r) P ≡ linked r = subst (λ (y : ℕ). at_number g.owner p (linked r) y ≡ linked r) here (at_number-same g.owner p (linked r)) in
            framed s _ (S P) w
            (λ q is. SomeView-own (λ u. MayBe q (S P) u.counts.in_reserved) vs id v w s.at (spent ∙ s.allowed.is_open) (subst (MayBe q (S P)) (sym has) (linked_one r q (sym owned ∙ is), sym stamp)))
            (λ alone. subst (IsThere (at_number g.owner p (linked r) P) (S P)) (sym has) (owned, stamp))
        by_place false e has =
            let stays = at_number-other g.owner p P (linked r) (ne_from_test p P e) in as_before s _ (S P) w spent has back (λ q is. sym stays ∙ is) (λ q is. (stays ∙ is, refl))

  -- what is older than a version is cut off
  module _ (r c p : ℕ) (s : Step kept z g m vs id v (cut r c p)) where
    abbrev tail : List ℕ
    tail = from_behind p (g.lists r)

    abbrev owner' : Owner
    owner' = cut_from v.number tail g.owner P

    -- a version of the record below the stamp is in it
    cut_off : g.owner P ≡ linked r → S P < c → Has P tail
    cut_off is low = ⊎_elim (λ (up : Has P (up_to p (g.lists r))). absurd
        (let high = up_high p S (g.lists r) (s.rule.lists.each r (cut_work kept z g m vs id v r c p s).on_record).falls (cut_version kept z g m vs id v r c p s).there P up in
        let at_stamp = (cut_version kept z g m vs id v r c p s).stamp_is in omega arith)) (λ k. k)
        (up_or_behind p (g.lists r) P (s.rule.lists.listed P r (let size = s.rule.sized.has_spare in omega arith) is))

    still_may : (q : ℕ) → g.owner P ≡ linked q → (Has P tail → ⊥) → (k : Reserved) → MayBe q (S P) k → MayBe q (S P) (reserved_from r c k)
    still_may q is stays nothing_reserved h = h
    still_may q is stays maybe_reserved h = tt
    still_may q is stays (version_reserved x t) h = by_test (eqb x r) (nat_lt t c) refl refl where
      by_test : (a b : Bool) → eqb x r ≡ a → nat_lt t c ≡ b → MayBe q (S P) (cond (a && b) nothing_reserved (version_reserved x t))
      by_test true true e lt = let low = ltb-true t c lt in let at_stamp = h.1 in stays (cut_off (is ∙ ap linked (sym h.0 ∙ eqb-true x r e)) (omega arith))
      by_test true false e lt = h
      by_test false b e lt = h

    still_there : (k : Reserved) → IsThere (g.owner P) (S P) k → IsThere owner' (S P) (reserved_from r c k)
    still_there nothing_reserved h = tt
    still_there maybe_reserved h = tt
    still_there (version_reserved x t) h = by_test (eqb x r) (nat_lt t c) refl refl where
      stays : ((x ≡ r) → t < c → ⊥) → owner' ≡ linked x
      stays not = cut_same v.number tail g.owner P (λ has. not (linked_one x r (sym h.0 ∙ (tail_linked kept z g m vs id v r c p s P has).1)) (let low = tail_low kept z g m vs id v r c p s P has in let at_stamp = h.1 in omega arith)) ∙ h.0

      by_test : (a b : Bool) → eqb x r ≡ a → nat_lt t c ≡ b → IsThere owner' (S P) (cond (a && b) nothing_reserved (version_reserved x t))
      by_test true true e lt = tt
      by_test true false e lt = (stays (λ same low. absurd (let on = ltb-true_from t c low in let f : true ≡ false = sym on ∙ lt in cc)), h.1)
      by_test false b e lt = (stays (λ same low. ne_from_test x r e same), h.1)

    cuts : (w : View) → w.spent ≡ v.spent → w.counts.in_reserved ≡ reserved_from r c v.counts.in_reserved → (Alone w → Alone v) → part.Keeping z owner' (S P) (set vs id w)
    cuts w spent has back = framed s owner' (S P) w
        (λ q is. ⊎_elim (λ (gone : Has P tail × (cut_by v.number ≡ linked q)). absurd (let e = gone.1 in cc))
        (λ (not : (Has P tail → ⊥) × (g.owner P ≡ linked q)). SomeView-set (λ u. MayBe q (S P) u.counts.in_reserved) (λ u. MayBe q (S P) u.counts.in_reserved) vs id v w s.at (spent ∙ s.allowed.is_open)
        (λ h. subst (MayBe q (S P)) (sym has) (still_may q not.1 not.0 v.counts.in_reserved h)) (λ u h. h) (s.rule.keeping.known q not.1)) (cut_or v.number tail g.owner P (linked q) is))
        (λ alone. subst (IsThere owner' (S P)) (sym has) (still_there v.counts.in_reserved (there s (back alone))))

  pub keeping_kept : (k : Kind) → Step kept z g m vs id v k → part.Keeping z ((turned k v (m (name k v)) g).owner (reserved_place z)) ((stored (changed k v m)).stamps (reserved_place z)) (set vs id (after k v (m (name k v))))
  keeping_kept offer_write_word s = as_before s (g.owner P) (S P) _ refl refl (OthersTaken-begun z.seats v.number v.splitting v.clock.taken_in s.allowed.fits) (λ r is. is) (λ r is. (is, refl))
  keeping_kept offer_read_word s = as_before s (g.owner P) (S P) _ refl refl (OthersTaken-before z.seats v.number v.splitting v.clock.taken_in s.allowed.fits) (λ r is. is) (λ r is. (is, refl))
  keeping_kept (take p) s = takes p s (eqb (m (status p)) 0) refl _ refl refl (λ a. a)
  keeping_kept (fill_stamp p t) s = as_before s (g.owner P) _ _ refl refl (λ a. a) (λ r is. is)
      (λ r is. (is, at_number-other S p P t (λ e. absurd (subst IsUnlinked (ap g.owner e ∙ is) (held_unlinked kept z g m vs id v _ s p s.allowed.can)))))
  keeping_kept (give p) s = one_owner s p free (held_unlinked kept z g m vs id v _ s p s.allowed.can) tt _ refl refl (λ a. a)
  keeping_kept (mark r f) s = one_owner s f.place (marked v.number)
      (held_unlinked kept z g m vs id v _ s f.place (filled_held (stored m) v.places.held f v.places.fills s.allowed.can.0 (s.rule.filled id v s.at s.allowed.is_open))) tt _ refl refl (λ a. a)
  keeping_kept (link_head p j w) s =
      let h = joint_of kept z g m vs id v _ s p j w s.allowed.can.0 s.allowed.can.1 in
      links s p.record_number j.write.stamp j.write.place h.mark.owned h.mark.stamp (eqb (m (head p.record_number)) (suc p.place)) _ refl refl (λ a. a)
  keeping_kept (link_next p j a w) s =
      let h = joint_of kept z g m vs id v _ s p j w s.allowed.can.0 s.allowed.can.1 in
      links s p.record_number j.write.stamp j.write.place h.mark.owned h.mark.stamp (eqb (m (next_word a)) (suc p.place)) _ refl refl (λ a. a)
  keeping_kept (cut r c p) s = cuts r c p s _ refl refl (λ a. a)
  keeping_kept (free_place r c to p) s = one_owner s p free (left_unlinked kept z g m vs id v r c to p s) tt _ refl refl (λ a. a)
  keeping_kept (front_next r p w x) s = as_before s (g.owner P) (S P) _ refl (looks (eqb (m (next_word p)) 0)) (λ a. a) (λ r is. is) (λ r is. (is, refl)) where
    looks : (b : Bool) → (cond b (counted_one v.size r p v.counts) v.counts).in_reserved ≡ v.counts.in_reserved
    looks true = refl
    looks false = refl
  keeping_kept k s = as_before s (g.owner P) (S P) _ refl refl (λ a. a) (λ r is. is) (λ r is. (is, refl))

module _ (kept : State → Type 0) (z : Size) (g : World) (m : Memory) (vs : List View) (id : ℕ) (v : View) (s : Split kept z g m vs id v) where
  pub keeping_split : part.Keeping z (g.owner (reserved_place z)) ((stored m).stamps (reserved_place z)) (set vs id (split_left v) ++ split_right v ∷ [])
  keeping_split = record {
    known = λ r is. SomeView-push (λ u. MayBe r ((stored m).stamps (reserved_place z)) u.counts.in_reserved) (set vs id (split_left v)) (split_right v)
        (SomeView-set (λ u. MayBe r ((stored m).stamps (reserved_place z)) u.counts.in_reserved) (λ u. MayBe r ((stored m).stamps (reserved_place z)) u.counts.in_reserved) vs id v (split_left v) s.at s.is_open (λ h. h) (λ u h. h) (s.rule.keeping.known r is));
    alone = Each-push (KeepingOk z (g.owner (reserved_place z)) ((stored m).stamps (reserved_place z))) (KeepingOk z (g.owner (reserved_place z)) ((stored m).stamps (reserved_place z))) (set vs id (split_left v)) (split_right v) (λ i u at live p. p) (λ live alone. tt)
        (Each-own (KeepingOk z (g.owner (reserved_place z)) ((stored m).stamps (reserved_place z))) vs id v _ s.rule.keeping.alone s.at s.is_open (λ p alone. p (OthersTaken-made z.seats v.number v.splitting v.clock.taken_in s.offered alone)));
  }

-- what two seats have together
both_may : (r t : ℕ) (a b : Reserved) → (MayBe r t a → MayBe r t (reserved_by_both a b)) × (MayBe r t b → MayBe r t (reserved_by_both a b))
both_may r t nothing_reserved nothing_reserved = (λ h. h, λ h. h)
both_may r t a b = (λ h. tt, λ h. tt)

both_there : (o : Owner) (t : ℕ) (a b : Reserved) → IsThere o t (reserved_by_both a b)
both_there o t nothing_reserved nothing_reserved = tt
both_there o t a b = tt

module _ (kept : State → Type 0) (z : Size) (g : World) (m : Memory) (vs : List View) (id other : ℕ) (v w : View) (s : Join kept z g m vs id other v w) where
  pub keeping_joined : part.Keeping z (g.owner (reserved_place z)) ((stored m).stamps (reserved_place z)) (joined vs (joined_view v w) id other)
  keeping_joined = record {
    known = λ r is. let both = both_may r ((stored m).stamps (reserved_place z)) v.counts.in_reserved w.counts.in_reserved in
        SomeView-merge (λ u. MayBe r ((stored m).stamps (reserved_place z)) u.counts.in_reserved) vs id other v w (joined_view v w) s.at s.at_other s.apart s.is_open both.0 both.1 (s.rule.keeping.known r is);
    alone = Each-join vs _ id other (KeepingOk z (g.owner (reserved_place z)) ((stored m).stamps (reserved_place z))) (KeepingOk z (g.owner (reserved_place z)) ((stored m).stamps (reserved_place z))) (λ i u h live p. p)
        (λ live alone. both_there (g.owner (reserved_place z)) ((stored m).stamps (reserved_place z)) v.counts.in_reserved w.counts.in_reserved) s.rule.keeping.alone;
  }

pub keeping_start : (z : Size) → IsSize z → part.Keeping z ((first_world z).owner (reserved_place z)) ((stored (start z)).stamps (reserved_place z)) (first_view z ∷ [])
keeping_start z h = record {
  known = λ r is. absurd (unlinked r (nat_lt (reserved_place z) z.records) refl is);
  alone = Each-one (KeepingOk z ((first_world z).owner (reserved_place z)) ((stored (start z)).stamps (reserved_place z))) (first_view z) (λ alone. tt);
} where
  unlinked : (r : ℕ) (b : Bool) → nat_lt (reserved_place z) z.records ≡ b → cond b (linked (reserved_place z)) free ≡ linked r → ⊥
  unlinked r true e is = absurd (let lt = ltb-true (reserved_place z) z.records e in let spare = h.has_spare in omega arith)
  unlinked r false e is = cc
