-- Places: an exchange wins a free place for its seat, and only its seat gives it back.
use Rattle.std.proofs.Common.{◌≡◌, ◌≢◌, ℕ, ◌<◌, true, false, Bool, cond, eqb, List, [], ◌∷◌, ◌++◌, suc, set, refl, sym, ap, ◌∙◌, subst, arith, eqb-true, inl, inr, Some}
use Rattle.std.specs.Prelude.{nat_lt}
use Rattle.std.proofs.lemmas.Bool.Decides.{Decides-ltb}
use prog.Atomic.{either}
use Rattle.plain_data.specs.State.{State}
use Rattle.word_layout.specs.Size.{Size, places}
use Rattle.core_rule.specs.Memory.{Memory, start}
use Rattle.core_rule.specs.World.{World, Owner, free, held, marked, linked, cut_by, at_number, cut_from, from_behind, is_in, first_owner}
use Rattle.core_rule.specs.Views.{At, AllOf, Has, SomeView}
use Rattle.core_rule.specs.View.{View, first_view}
use Rattle.core_rule.specs.Hands.{split_left, split_right, joined_view}
use Rattle.core_rule.proofs.Step.{Step, differs, ltb-true_from, at_number-other, at_number-same, at_number-stays, at_both, at_cases}
use Rattle.core_rule.proofs.Making.{Split, Join}
use Rattle.core_rule.specs.Holding.{without}
use Rattle.core_rule.specs.Kinds.{Kind, take, give, mark, link_head, link_next, store_status, cut, free_place, name, after, turned, changed}
use Rattle.core_rule.specs.Rule.{status_words}
use Rattle.word_layout.specs.Name.{status, head, next as next_word}
use Rattle.core_rule.specs.Memory.{stored}
use Rattle.core_rule.specs.Searching.{FitsPlace, shown_at}
use Rattle.core_rule.proofs.Working.{filled_held, joint_of, stored_of, shown_at-last}
use Rattle.core_rule.specs.Parts.Places.{Shows, IsLinkedAt, HeldOk, HoldsPlace}
use Rattle.core_rule.specs.Parts.Places as part
use Rattle.core_rule.proofs.EachView.{Each-set, Each-own, Each-push, Each-join, Each-one, SomeView-set, SomeView-own, SomeView-push, SomeView-join, AllOf-Has, AllOf-map, AllOf-zip, joined}
use Rattle.core_rule.proofs.Collected.{work_of, chain_of, left_of}
use Rattle.core_rule.proofs.Tails.{in_has, behind_in}
use Rattle.core_rule.specs.View.{floored, freeing}
use Rattle.core_rule.proofs.Without.{AllOf-without, IsDistinct-without, Has-without}

-- a place that shows 0 is free
pub free_from : (o : Owner) (n : ℕ) → Shows o n → n ≡ 0 → o ≡ free
free_from free n h e = refl
free_from (held seat) n h e = absurd (omega arith)
free_from (marked seat) n h e = absurd (omega arith)
free_from (linked r) n h e = absurd (omega arith)
free_from (cut_by seat) n h e = absurd (omega arith)

-- of two seats, only one has a place
owner-one : (o : Owner) (a b : ℕ) → o ≡ held a → o ≡ held b → a ≡ b
owner-one o a b e f = cc

held-one : (a b : ℕ) → held a ≡ held b → a ≡ b
held-one a b e = cc

HoldsPlace-same : (seat p : ℕ) (v w : View) → w.number ≡ v.number → w.places.held ≡ v.places.held → HoldsPlace seat p v → HoldsPlace seat p w
HoldsPlace-same seat p v w number places h = record { number = number ∙ h.number; has = rw places h.has }

module _ (kept : State → Type 0) (z : Size) (g : World) (m : Memory) (vs : List View) (id : ℕ) (v : View) where
  -- no view's places have changed
  stays : (k : Kind) → Step kept z g m vs id v k → (w : View) → w.spent ≡ v.spent → w.number ≡ v.number → w.places.held ≡ v.places.held → part.Places z g.owner (status_words m) (set vs id w)
  stays k s w spent number same_held = record {
    shows = s.rule.places.shows;
    inline = s.rule.places.inline;
    each = Each-own (HeldOk z g.owner) vs id v w s.rule.places.each s.at s.allowed.is_open (λ p. record { owned = rw same_held (subst (λ (n : ℕ). AllOf (λ q. (q < places z) × (g.owner q ≡ held n)) v.places.held) (sym number) p.owned); once = rw same_held p.once });
    holder = λ p seat inside e. SomeView-set (HoldsPlace seat p) (HoldsPlace seat p) vs id v w s.at (spent ∙ s.allowed.is_open) (HoldsPlace-same seat p v w number same_held) (λ u h. h)
        (s.rule.places.holder p seat inside e);
  }

  -- no other view holds what this one holds
  pub others_hold_not : (k : Kind) → Step kept z g m vs id v k → (p : ℕ) → Has p v.places.held → (i : ℕ) (u : View) → i ≢ id → At vs i u → u.spent ≡ false → AllOf (λ q. q ≢ p) u.places.held
  others_hold_not k s p has i u ne at live =
      let mine = AllOf-Has (λ q. (q < places z) × (g.owner q ≡ held v.number)) p v.places.held (s.rule.places.each id v s.at s.allowed.is_open).owned has in
      AllOf-map (λ q. (q < places z) × (g.owner q ≡ held u.number)) (λ q. q ≢ p)
      (λ q h same. differs kept z g m vs id v k s i u ne at live (owner-one (g.owner p) v.number u.number mine.1 (subst (λ x. g.owner x ≡ held u.number) same h.1)))
      u.places.held (s.rule.places.each i u at live).owned

  -- a place that is free is held by no view
  held_not : (k : Kind) → Step kept z g m vs id v k → (p : ℕ) → g.owner p ≡ free → (i : ℕ) (u : View) → At vs i u → u.spent ≡ false → AllOf (λ q. q ≢ p) u.places.held
  held_not k s p is_free i u at live = AllOf-map (λ q. (q < places z) × (g.owner q ≡ held u.number)) (λ q. q ≢ p)
      (λ q h same. absurd (let e = subst (λ x. g.owner x ≡ held u.number) same h.1 in cc)) u.places.held (s.rule.places.each i u at live).owned

  -- nor is one that a seat has marked, or that is linked
  pub not_held : (k : Kind) → Step kept z g m vs id v k → (p : ℕ) (o : Owner) → g.owner p ≡ o → ((seat : ℕ) → o ≢ held seat) → (i : ℕ) (u : View) → At vs i u → u.spent ≡ false → AllOf (λ q. q ≢ p) u.places.held
  not_held k s p o is unheld i u at live = AllOf-map (λ q. (q < places z) × (g.owner q ≡ held u.number)) (λ q. q ≢ p)
      (λ q h same. unheld u.number (sym is ∙ ap g.owner (sym same) ∙ h.1)) u.places.held (s.rule.places.each i u at live).owned

  pub was_free : (k : Kind) → Step kept z g m vs id v k → (p : ℕ) → p < places z → m (status p) ≡ 0 → AllOf (λ q. q ≢ p) v.places.held
  was_free k s p inside found = held_not k s p (free_from (g.owner p) (m (status p)) (s.rule.places.shows p inside) found) id v s.at s.allowed.is_open

  owned_by : (seat p : ℕ) (o : Owner) (xs : List ℕ) → AllOf (λ q. (q < places z) × (g.owner q ≡ held seat)) xs → AllOf (λ q. q ≢ p) xs
      → AllOf (λ q. (q < places z) × (at_number g.owner p o q ≡ held seat)) xs
  owned_by seat p o xs owned apart = AllOf-zip (λ q. (q < places z) × (g.owner q ≡ held seat)) (λ q. q ≢ p) (λ q. (q < places z) × (at_number g.owner p o q ≡ held seat))
      (λ q h ne. (h.0, at_number-other g.owner p q o (λ e. ne (sym e)) ∙ h.1)) xs owned apart

  takes : (k : Kind) → Step kept z g m vs id v k → (p : ℕ) → p < places z → (b : Bool) → eqb (m (status p)) 0 ≡ b → (w : View) → w.spent ≡ v.spent → w.number ≡ v.number
      → w.places.held ≡ cond b (p ∷ v.places.held) v.places.held
      → part.Places z (at_number g.owner p (cond b (held v.number) (g.owner p))) (at_number (status_words m) p (either b 1 (m (status p)))) (set vs id w)
  takes k s p inside false e w spent number same_held =
      subst (λ (x : (ℕ → Owner) × (ℕ → ℕ)). part.Places z x.0 x.1 (set vs id w))
      (λ i. ((λ q. sym (at_number-stays g.owner p q) i), (λ q. sym (at_number-stays (status_words m) p q) i))) (stays k s w spent number same_held)
  takes k s p inside true e w spent number same_held =
      let is_free = free_from (g.owner p) (m (status p)) (s.rule.places.shows p inside) (eqb-true (m (status p)) 0 e) in
      let apart = held_not k s p is_free in record {
        shows = λ q below. at_both g.owner (status_words m) p (held v.number) 1 q Shows (λ same. refl) (λ ne. s.rule.places.shows q below);
        inline = λ q below. at_cases g.owner p (held v.number) q (IsLinkedAt z q) (λ same. tt) (λ ne. s.rule.places.inline q below);
        each = Each-set (HeldOk z g.owner) (HeldOk z (at_number g.owner p (held v.number))) vs w id
            (λ i u ne at live h. record { owned = owned_by u.number p (held v.number) u.places.held h.owned (apart i u at live); once = h.once })
            (λ live. let h = s.rule.places.each id v s.at s.allowed.is_open in record {
              owned = rw same_held (subst (λ (n : ℕ). AllOf (λ q. (q < places z) × (at_number g.owner p (held v.number) q ≡ held n)) (p ∷ v.places.held)) (sym number)
                  ((inside, at_number-same g.owner p (held v.number)), owned_by v.number p (held v.number) v.places.held h.owned (apart id v s.at s.allowed.is_open)));
              once = rw same_held (apart id v s.at s.allowed.is_open, h.once);
            })
            s.rule.places.each;
        holder = λ q seat below. at_cases g.owner p (held v.number) q (λ o. o ≡ held seat → SomeView (HoldsPlace seat q) (set vs id w))
            (λ same is. SomeView-own (HoldsPlace seat q) vs id v w s.at (spent ∙ s.allowed.is_open) record { number = number ∙ held-one v.number seat is; has = rw same_held (inl same) })
            (λ ne is. SomeView-set (HoldsPlace seat q) (HoldsPlace seat q) vs id v w s.at (spent ∙ s.allowed.is_open) (λ h. record { number = number ∙ h.number; has = rw same_held (inr h.has) }) (λ u h. h)
            (s.rule.places.holder q seat below is));
      }

  -- a place that the view holds gets another owner, no seat as holder
  leaves : (k : Kind) → Step kept z g m vs id v k → (p : ℕ) → Has p v.places.held → (w : View) (o : Owner) (n : ℕ) → Shows o n → IsLinkedAt z p o → ((seat : ℕ) → o ≢ held seat) → w.spent ≡ v.spent → w.number ≡ v.number
      → w.places.held ≡ without p v.places.held → part.Places z (at_number g.owner p o) (at_number (status_words m) p n) (set vs id w)
  leaves k s p has w o n shown at_place unheld spent number same_held = record {
    shows = λ q below. at_both g.owner (status_words m) p o n q Shows (λ same. shown) (λ ne. s.rule.places.shows q below);
    inline = λ q below. at_cases g.owner p o q (IsLinkedAt z q) (λ same. subst (λ (x : ℕ). IsLinkedAt z x o) same at_place) (λ ne. s.rule.places.inline q below);
    each = Each-set (HeldOk z g.owner) (HeldOk z (at_number g.owner p o)) vs w id
        (λ i u ne at live h. record { owned = owned_by u.number p o u.places.held h.owned (others_hold_not k s p has i u ne at live); once = h.once })
        (λ live. let h = s.rule.places.each id v s.at s.allowed.is_open in record {
          owned = rw same_held (subst (λ (n : ℕ). AllOf (λ q. (q < places z) × (at_number g.owner p o q ≡ held n)) (without p v.places.held)) (sym number) (AllOf-map (λ q. ((q < places z) × (g.owner q ≡ held v.number)) × (q ≢ p)) (λ q. (q < places z) × (at_number g.owner p o q ≡ held v.number))
              (λ q t. (t.0.0, at_number-other g.owner p q o (λ e. t.1 (sym e)) ∙ t.0.1)) (without p v.places.held)
              (AllOf-without (λ q. (q < places z) × (g.owner q ≡ held v.number)) p v.places.held h.owned)));
          once = rw same_held (IsDistinct-without p v.places.held h.once);
        })
        s.rule.places.each;
    holder = λ q seat below. at_cases g.owner p o q (λ x. x ≡ held seat → SomeView (HoldsPlace seat q) (set vs id w))
        (λ same is. absurd (unheld seat is))
        (λ ne is. SomeView-set (HoldsPlace seat q) (HoldsPlace seat q) vs id v w s.at (spent ∙ s.allowed.is_open)
        (λ h. record { number = number ∙ h.number; has = rw same_held (Has-without p q v.places.held (λ e. ne (sym e)) h.has) }) (λ u h. h) (s.rule.places.holder q seat below is));
  }

  gives : (k : Kind) → Step kept z g m vs id v k → (p : ℕ) → Has p v.places.held → (w : View) → w.spent ≡ v.spent → w.number ≡ v.number → w.places.held ≡ without p v.places.held
      → part.Places z (at_number g.owner p free) (at_number (status_words m) p 0) (set vs id w)
  gives k s p has w spent number same_held = leaves k s p has w free 0 refl tt (λ seat e. cc) spent number same_held

  owned_still : (seat p : ℕ) (o : Owner) (xs : List ℕ) → g.owner p ≡ marked v.number → AllOf (λ q. (q < places z) × (g.owner q ≡ held seat)) xs → AllOf (λ q. (q < places z) × (at_number g.owner p o q ≡ held seat)) xs
  owned_still seat p o xs is owned = AllOf-map (λ q. (q < places z) × (g.owner q ≡ held seat)) (λ q. (q < places z) × (at_number g.owner p o q ≡ held seat))
      (λ q h. (h.0, at_number-other g.owner p q o (λ same. absurd (let e = sym is ∙ ap g.owner same ∙ h.1 in cc)) ∙ h.1)) xs owned

  -- a held place is marked: it shows 2
  marks_place : (k : Kind) → Step kept z g m vs id v k → (p : ℕ) → Has p v.places.held → (w : View) → w.spent ≡ v.spent → w.number ≡ v.number → w.places.held ≡ without p v.places.held
      → part.Places z (at_number g.owner p (marked v.number)) (at_number (status_words m) p 2) (set vs id w)
  marks_place k s p has w spent number same_held = leaves k s p has w (marked v.number) 2 refl tt (λ seat e. cc) spent number same_held

  -- a marked place is linked
  links_place : (k : Kind) → Step kept z g m vs id v k → (p r : ℕ) → g.owner p ≡ marked v.number → FitsPlace z r p → (b : Bool) → (w : View) → w.spent ≡ v.spent → w.number ≡ v.number → w.places.held ≡ v.places.held
      → part.Places z (cond b (at_number g.owner p (linked r)) g.owner) (status_words m) (set vs id w)
  links_place k s p r is fits false w spent number same_held = stays k s w spent number same_held
  links_place k s p r is fits true w spent number same_held =
      let base = stays k s w spent number same_held in record {
        shows = λ q below. at_cases g.owner p (linked r) q (λ o. Shows o (m (status q)))
            (λ same. let sh : m (status q) ≡ 2 = subst (λ (o : Owner). Shows o (m (status q))) (ap g.owner (sym same) ∙ is) (s.rule.places.shows q below) in omega arith)
            (λ ne. s.rule.places.shows q below);
        inline = λ q below. at_cases g.owner p (linked r) q (IsLinkedAt z q) (λ same. rw (← same) fits) (λ ne. s.rule.places.inline q below);
        each = λ i u at live. let h = base.each i u at live in record {
          owned = owned_still u.number p (linked r) u.places.held is h.owned;
          once = h.once;
        };
        holder = λ q seat below. at_cases g.owner p (linked r) q (λ o. o ≡ held seat → SomeView (HoldsPlace seat q) (set vs id w))
            (λ same e. absurd cc) (λ ne e. base.holder q seat below e);
      }

  -- places that are cut off a list show what they showed
  cuts : (r c p : ℕ) → Step kept z g m vs id v (cut r c p) → (w : View) → w.spent ≡ v.spent → w.number ≡ v.number → w.places.held ≡ v.places.held
      → part.Places z (cut_from v.number (from_behind p (g.lists r)) g.owner) (status_words m) (set vs id w)
  cuts r c p s w spent number same_held =
      let base = stays _ s w spent number same_held in record {
        shows = λ q below. shown_by q below (is_in q tail) refl;
        inline = λ q below. inline_by q (is_in q tail) (s.rule.places.inline q below);
        each = λ i u at live. let h = base.each i u at live in record {
          owned = AllOf-map (λ q. (q < places z) × (g.owner q ≡ held u.number)) (λ q. (q < places z) × (cut_from v.number tail g.owner q ≡ held u.number))
              (λ q h. (h.0, held_by q u.number (is_in q tail) refl h.1)) u.places.held h.owned;
          once = h.once;
        };
        holder = λ q seat below e. base.holder q seat below (was_held q seat (is_in q tail) e);
      } where
        tail : List ℕ
        tail = from_behind p (g.lists r)

        was_linked : (q : ℕ) → is_in q tail ≡ true → g.owner q ≡ linked r
        was_linked q e = ((s.rule.lists.each r (work_of kept z g m vs s.rule id v s.at s.allowed.is_open r c (floored p) s.allowed.can).on_record).owned q (behind_in p (g.lists r) q (in_has q tail e))).1

        shown_by : (q : ℕ) → q < places z → (b : Bool) → is_in q tail ≡ b → Shows (cond b (cut_by v.number) (g.owner q)) (m (status q))
        shown_by q below true e = subst (λ (o : Owner). Shows o (m (status q))) (was_linked q e) (s.rule.places.shows q below)
        shown_by q below false e = s.rule.places.shows q below

        inline_by : (q : ℕ) (b : Bool) → IsLinkedAt z q (g.owner q) → IsLinkedAt z q (cond b (cut_by v.number) (g.owner q))
        inline_by q true h = tt
        inline_by q false h = h

        held_by : (q seat : ℕ) (b : Bool) → is_in q tail ≡ b → g.owner q ≡ held seat → cond b (cut_by v.number) (g.owner q) ≡ held seat
        held_by q seat true e h = absurd (let f = sym (was_linked q e) ∙ h in cc)
        held_by q seat false e h = h

        was_held : (q seat : ℕ) (b : Bool) → cond b (cut_by v.number) (g.owner q) ≡ held seat → g.owner q ≡ held seat
        was_held q seat true h = absurd cc
        was_held q seat false h = h

  pub freed_owner : (r c to p : ℕ) (s : Step kept z g m vs id v (free_place r c to p)) → g.owner p ≡ cut_by v.number
  freed_owner r c to p s =
      ((chain_of kept z g m vs s.rule id v s.at s.allowed.is_open r c (freeing to (Some p)) tt s.allowed.can).owned p (left_of kept z g m vs s.rule id v s.at s.allowed.is_open r c to p s.allowed.can)).1

  -- a place that was cut off becomes free
  lets : (k : Kind) → Step kept z g m vs id v k → (p n : ℕ) → g.owner p ≡ cut_by n → (w : View) → w.spent ≡ v.spent → w.number ≡ v.number → w.places.held ≡ v.places.held
      → part.Places z (at_number g.owner p free) (at_number (status_words m) p 0) (set vs id w)
  lets k s p n is w spent number same_held =
      let base = stays k s w spent number same_held in record {
        shows = λ q below. at_both g.owner (status_words m) p free 0 q Shows (λ same. refl) (λ ne. s.rule.places.shows q below);
        inline = λ q below. at_cases g.owner p free q (IsLinkedAt z q) (λ same. tt) (λ ne. s.rule.places.inline q below);
        each = λ i u at live. let h = base.each i u at live in record {
          owned = AllOf-map (λ q. (q < places z) × (g.owner q ≡ held u.number)) (λ q. (q < places z) × (at_number g.owner p free q ≡ held u.number))
              (λ q h. (h.0, at_number-other g.owner p q free (λ same. absurd (let e = sym is ∙ ap g.owner same ∙ h.1 in cc)) ∙ h.1)) u.places.held h.owned;
          once = h.once;
        };
        holder = λ q seat below. at_cases g.owner p free q (λ o. o ≡ held seat → SomeView (HoldsPlace seat q) (set vs id w))
            (λ same e. absurd cc) (λ ne e. base.holder q seat below e);
      }

  pub places_kept : (k : Kind) → Step kept z g m vs id v k → part.Places z (turned k v (m (name k v)) g).owner (status_words (changed k v m)) (set vs id (after k v (m (name k v))))
  places_kept (take p) s =
      takes _ s p (rw (← (s.rule.seats.each id v s.at s.allowed.is_open).size) s.allowed.can) (eqb (m (status p)) 0) refl _ refl refl refl
  places_kept (give p) s = gives _ s p s.allowed.can _ refl refl refl
  places_kept (mark r f) s = marks_place _ s f.place (filled_held (stored m) v.places.held f v.places.fills s.allowed.can.0 (s.rule.filled id v s.at s.allowed.is_open)) _ refl refl refl
  places_kept (link_head p j w) s =
      let h = joint_of kept z g m vs id v _ s p j w s.allowed.can.0 s.allowed.can.1 in
      links_place _ s j.write.place p.record_number h.mark.owned (rw h.same_record h.mark.fits) (eqb (m (head p.record_number)) (suc p.place)) _ refl refl refl
  places_kept (link_next p j a w) s =
      let h = joint_of kept z g m vs id v _ s p j w s.allowed.can.0 s.allowed.can.1 in
      links_place _ s j.write.place p.record_number h.mark.owned (rw h.same_record h.mark.fits) (eqb (m (next_word a)) (suc p.place)) _ refl refl refl
  places_kept (store_status u) s =
      let base = stays _ s _ refl refl refl in
      let o = stored_of kept z g m vs id v u s in
      let own = (s.rule.lists.each u.record_number o.on_record).owned u.place o.there in
      let last = shown_at-last v.work.decided u.cells in record {
        shows = λ q below. at_cases (status_words m) u.place (shown_at v.work.decided u.cells) q (λ n. Shows (g.owner q) n)
            (λ same. subst (λ (o : Owner). Shows o (shown_at v.work.decided u.cells)) (sym own.1 ∙ ap g.owner same) (omega arith)) (λ ne. s.rule.places.shows q below);
        inline = base.inline;
        each = base.each;
        holder = base.holder;
      }
  places_kept (cut r c p) s = cuts r c p s _ refl refl refl
  places_kept (free_place r c to p) s = lets _ s p v.number (freed_owner r c to p s) _ refl refl refl
  places_kept k s = stays _ s _ refl refl refl

module _ (kept : State → Type 0) (z : Size) (g : World) (m : Memory) (vs : List View) (id : ℕ) (v : View) (s : Split kept z g m vs id v) where
  pub places_split : part.Places z g.owner (status_words m) (set vs id (split_left v) ++ split_right v ∷ [])
  places_split = record {
    shows = s.rule.places.shows;
    inline = s.rule.places.inline;
    each = Each-push (HeldOk z g.owner) (HeldOk z g.owner) (set vs id (split_left v)) (split_right v) (λ i u at live p. p) (λ live. record { owned = tt; once = tt })
        (Each-own (HeldOk z g.owner) vs id v _ s.rule.places.each s.at s.is_open (λ p. record { owned = p.owned; once = p.once }));
    holder = λ p seat inside e. SomeView-push (HoldsPlace seat p) (set vs id (split_left v)) (split_right v)
        (SomeView-set (HoldsPlace seat p) (HoldsPlace seat p) vs id v (split_left v) s.at s.is_open (λ h. record { number = h.number; has = h.has }) (λ u h. h) (s.rule.places.holder p seat inside e));
  }

module _ (kept : State → Type 0) (z : Size) (g : World) (m : Memory) (vs : List View) (id other : ℕ) (v w : View) (s : Join kept z g m vs id other v w) where
  pub places_joined : part.Places z g.owner (status_words m) (joined vs (joined_view v w) id other)
  places_joined = record {
    shows = s.rule.places.shows;
    inline = s.rule.places.inline;
    each = Each-join vs _ id other (HeldOk z g.owner) (HeldOk z g.owner) (λ i u h live p. p)
        (λ live. let p = s.rule.places.each id v s.at s.is_open in record { owned = p.owned; once = p.once }) s.rule.places.each;
    holder = λ p seat inside e. SomeView-join (HoldsPlace seat p) vs id other v w (joined_view v w) s.at s.at_other s.apart s.is_open (λ h. record { number = h.number; has = h.has })
        (λ h. subst (Has p) s.holds_none h.has) (s.rule.places.holder p seat inside e);
  }

pub places_start : (z : Size) → part.Places z (first_owner z) (status_words (start z)) (first_view z ∷ [])
places_start z = record {
  shows = λ p inside. rw (ltb-true_from p (places z) inside) (shows_by p (nat_lt p z.records));
  inline = λ p inside. inline_by p (nat_lt p z.records) refl;
  each = Each-one (HeldOk z (first_owner z)) (first_view z) record { owned = tt; once = tt };
  holder = λ p seat inside e. absurd (unheld p seat (nat_lt p z.records) e);
} where
  shows_by : (p : ℕ) (b : Bool) → Shows (cond b (linked p) free) (cond b 4 0)
  shows_by p true = omega arith
  shows_by p false = refl

  inline_by : (p : ℕ) (b : Bool) → nat_lt p z.records ≡ b → IsLinkedAt z p (cond b (linked p) free)
  inline_by p true e = ((Decides-ltb p z.records).0 e, λ h. refl)
  inline_by p false e = tt

  unheld : (p seat : ℕ) (b : Bool) → cond b (linked p) free ≡ held seat → ⊥
  unheld p seat true e = cc
  unheld p seat false e = cc
