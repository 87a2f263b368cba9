-- Lists: only the exchange that links changes a list, between a place and the one that its link names.
use Rattle.std.proofs.Common.{◌≡◌, ◌≢◌, ◌⊎◌, ℕ, suc, ◌-◌, ◌<◌, ◌≤◌, true, false, Bool, cond, eqb, List, [], ◌∷◌, refl, sym, ap, ◌∙◌, subst, arith, eqb-true, inl, inr, ⊎_elim}
use Rattle.std.specs.Prelude.{nat_lt}
use prog.Atomic.{either}
use Rattle.plain_data.specs.State.{State}
use Rattle.word_layout.specs.Size.{Size, IsSize, places}
use Rattle.word_layout.specs.Name.{min_read, head, lock, status, next as next_word}
use Rattle.core_rule.specs.Memory.{Memory, Stored, stored, start}
use Rattle.core_rule.specs.World.{World, Owner, free, held, marked, linked, cut_by, at_number, first_world, behind, up_to, from_behind, cut_from}
use Rattle.core_rule.specs.View.{View, Stand, Joint, stamped}
use Rattle.core_rule.specs.Views.{Has}
use Rattle.core_rule.specs.Rule.{head_words, lock_words, floor_words, status_words}
use Rattle.core_rule.specs.Kinds.{Kind, raise_min_read, take, give, mark, link_head, link_next, take_lock, raise_floor, cut, unlock, drop, free_place, name, turned, changed}
use Rattle.core_rule.specs.Parts.Lists.{Spells, Falls, Base, ListOk}
use Rattle.core_rule.specs.Parts.Lists as part
use Rattle.core_rule.specs.Parts.Linking.{JointOk, IsAbove}
use Rattle.core_rule.proofs.Step.{Step, at_number-other, at_number-same, at_number-stays, at_cases, at_both, ltb-true_from}
use Rattle.core_rule.proofs.Making.{Split, Join}
use Rattle.core_rule.proofs.Touched.{Quiet, IsUnlinked, quiet, apart, linked_owner, held_unlinked}
use Rattle.core_rule.proofs.Listed.{Meets, Grown, top, below, Spells-same, Falls-same, behind_only, behind_old, spells_behind, falls_behind, grown_head, grown_behind}
use Rattle.core_rule.specs.View.{locked, found, cut_off}
use Rattle.core_rule.specs.Parts.Items.{IsLast}
use Rattle.core_rule.proofs.Collected.{work_of, lock_of}
use Rattle.core_rule.proofs.Cutting.{cut_work, cut_version, owner_stays}
use Rattle.core_rule.proofs.Tails.{up_or_behind, up_has, spells_up, falls_up, cut_or}
use Rattle.core_rule.proofs.Touched.{left_unlinked}
use Rattle.core_rule.proofs.Working.{stand_of, joint_of, filled_held}
use Rattle.core_rule.proofs.Parts.PlacesKept.{free_from}

-- a list whose words are the same
module _ (z : Size) (owner owner' : ℕ → Owner) (least least' head_word lock floor : ℕ) (w w' : Stored) (s s' : ℕ → ℕ) (r : ℕ) (xs : List ℕ) where
  pub ListOk-same : ((q : ℕ) → Has q xs → w'.stamps q ≡ w.stamps q) → ((q : ℕ) → Has q xs → w'.links q ≡ w.links q) → ((q : ℕ) → Has q xs → (s q ≡ 2 → ⊥) → s' q ≡ s q)
      → ((q : ℕ) → Has q xs → owner' q ≡ linked r) → least ≤ least' → ListOk z owner least head_word lock floor w s r xs → ListOk z owner' least' head_word lock floor w' s' r xs
  ListOk-same stamps links statuses owned le h = record {
    spelled = Spells-same w.links w'.links head_word xs links h.spelled;
    falls = Falls-same w.stamps w'.stamps xs stamps h.falls;
    owned = λ q k. ((h.owned q k).0, owned q k);
    base = let b = h.base in let f = b.final in let st = statuses b.place b.there (λ e. absurd (omega arith)) in record {
      place = b.place;
      there = b.there;
      stamp = stamps b.place b.there ∙ b.stamp;
      final = (omega arith, omega arith);
      last = λ e. links b.place b.there ∙ b.last e;
    };
    settled = let l = h.settled in omega arith;
  }

linked_one : (a b : ℕ) → linked a ≡ linked b → a ≡ b
linked_one a b e = cc

module _ (kept : State → Type 0) (z : Size) (g : World) (m : Memory) (vs : List View) (id : ℕ) (v : View) where
  framed : (k : Kind) → Step kept z g m vs id v k → Quiet k → (owner : ℕ → Owner) (least : ℕ) → ((r q : ℕ) → r < z.records → Has q (g.lists r) → owner q ≡ linked r)
      → ((q r : ℕ) → q < places z → owner q ≡ linked r → Has q (g.lists r)) → m min_read ≤ least
      → part.Lists z owner g.lists least (head_words m) (lock_words m) (floor_words m) (stored (changed k v m)) (status_words (changed k v m))
  framed k s h owner least owned listed le = let u = quiet kept z g m vs id v k s h in record {
    each = λ r lt. ListOk-same z g.owner owner (m min_read) least (head_words m r) (lock_words m r) (floor_words m r) (stored m) (stored (changed k v m)) (status_words m) (status_words (changed k v m)) r (g.lists r)
        (λ q. u.stamps r q lt) (λ q. u.links r q lt) (λ q. u.statuses r q lt) (λ q. owned r q lt) le (s.rule.lists.each r lt);
    listed = listed;
  }

  -- the owner of a place changes that is not linked
  owner_changes : (k : Kind) → Step kept z g m vs id v k → Quiet k → (p : ℕ) (o : Owner) → IsUnlinked (g.owner p) → IsUnlinked o
      → part.Lists z (at_number g.owner p o) g.lists (m min_read) (head_words m) (lock_words m) (floor_words m) (stored (changed k v m)) (status_words (changed k v m))
  owner_changes k s h p o un un' = framed k s h (at_number g.owner p o) (m min_read)
      (λ r q lt k'. at_number-other g.owner p q o (apart kept z g m vs id v k s p un r q lt k') ∙ (linked_owner kept z g m vs id v k s r q lt k').1)
      (λ q r lt. at_cases g.owner p o q (λ x. x ≡ linked r → Has q (g.lists r)) (λ e is. absurd (subst IsUnlinked is un')) (λ ne is. s.rule.lists.listed q r lt is)) (omega arith)

  takes : (p : ℕ) (s : Step kept z g m vs id v (take p)) (b : Bool) → eqb (m (status p)) 0 ≡ b → p < places z
      → part.Lists z (at_number g.owner p (cond b (held v.number) (g.owner p))) g.lists (m min_read) (head_words m) (lock_words m) (floor_words m) (stored m) (status_words (changed (take p) v m))
  takes p s true e inside =
      let is_free = free_from (g.owner p) (m (status p)) (s.rule.places.shows p inside) (eqb-true (m (status p)) 0 e) in
      owner_changes (take p) s tt p (held v.number) (subst IsUnlinked (sym is_free) tt) tt
  takes p s false e inside = subst (λ (x : ℕ → Owner). part.Lists z x g.lists (m min_read) (head_words m) (lock_words m) (floor_words m) (stored m) (status_words (changed (take p) v m)))
      (λ i q. sym (at_number-stays g.owner p q) i) (framed (take p) s tt g.owner (m min_read) (λ r q lt h. (linked_owner kept z g m vs id v (take p) s r q lt h).1) s.rule.lists.listed (omega arith))

  -- what is linked: below it stands the place that its link names
  module _ (k : Kind) (s : Step kept z g m vs id v k) (p : Stand) (j : Joint) (on_record : p.record_number < z.records) (h : JointOk z g.owner g.lists (stored m) v.number v.flight v.work.linked p j) (is_stored : j.stored ≡ true) where
    abbrev new : ℕ
    new = j.write.place

    abbrev owner' : ℕ → Owner
    owner' = at_number g.owner new (linked p.record_number)

    new_apart : (r q : ℕ) → r < z.records → Has q (g.lists r) → new ≢ q
    new_apart = apart kept z g m vs id v k s new (subst IsUnlinked (sym h.mark.owned) tt)

    still_owned : (r q : ℕ) → r < z.records → Has q (g.lists r) → owner' q ≡ linked r
    still_owned r q lt has = at_number-other g.owner new q (linked p.record_number) (new_apart r q lt has) ∙ (linked_owner kept z g m vs id v k s r q lt has).1

    listed_more : (lists' : ℕ → List ℕ) → Grown p.record_number new g.lists lists' → (q r : ℕ) → q < places z → owner' q ≡ linked r → Has q (lists' r)
    listed_more lists' grew q r lt = at_cases g.owner new (linked p.record_number) q (λ x. x ≡ linked r → Has q (lists' r))
        (λ e is. subst (λ (y : ℕ). Has y (lists' r)) e (subst (λ (y : ℕ). Has new (lists' y)) (linked_one p.record_number r is) grew.new))
        (λ ne is. grew.old r q (s.rule.lists.listed q r lt is))

    -- what stands at or below the place below is below the new one
    under_new : (q word : ℕ) → word ≡ suc p.place → m (next_word new) ≡ suc p.place → Meets (stored m).stamps (g.lists p.record_number) word q → (stored m).stamps q < (stored m).stamps new
    under_new q word is names meets =
        let here : word - 1 ≡ p.place = omega arith in
        let o = meets.over in let l = (h.stored is_stored).1 in let st = h.mark.stamp in
        let same : (stored m).stamps (word - 1) ≡ (stored m).stamps p.place = ap (stored m).stamps here in omega arith

    other_ok : (w' : Stored) → ((q : ℕ) → w'.stamps q ≡ (stored m).stamps q) → (r : ℕ) → r < z.records → ((q : ℕ) → Has q (g.lists r) → w'.links q ≡ (stored m).links q)
        → ListOk z owner' (m min_read) (head_words m r) (lock_words m r) (floor_words m r) w' (status_words m) r (g.lists r)
    other_ok w' stamps r lt links = ListOk-same z g.owner owner' (m min_read) (m min_read) (head_words m r) (lock_words m r) (floor_words m r) (stored m) w' (status_words m) (status_words m) r (g.lists r)
        (λ q has. stamps q) links (λ q has ne. refl) (λ q has. still_owned r q lt has) (omega arith) (s.rule.lists.each r lt)

    new_owned : (q : ℕ) → new ≡ q → (q < places z) × (owner' q ≡ linked p.record_number)
    new_owned q e = subst (λ (y : ℕ). (y < places z) × (owner' y ≡ linked p.record_number)) e (h.mark.within, at_number-same g.owner new (linked p.record_number))

    old_owned : (q : ℕ) → Has q (g.lists p.record_number) → (q < places z) × (owner' q ≡ linked p.record_number)
    old_owned q has = ((linked_owner kept z g m vs id v k s p.record_number q on_record has).0, still_owned p.record_number q on_record has)

    owned_either : (q : ℕ) → (new ≡ q) ⊎ Has q (g.lists p.record_number) → (q < places z) × (owner' q ≡ linked p.record_number)
    owned_either q (inl e) = new_owned q e
    owned_either q (inr has) = old_owned q has

    -- at the head
    first_ok : m (head p.record_number) ≡ suc p.place
        → ListOk z owner' (m min_read) (suc new) (lock_words m p.record_number) (floor_words m p.record_number) (stored m) (status_words m) p.record_number (new ∷ g.lists p.record_number)
    first_ok is = let old = s.rule.lists.each p.record_number on_record in let names = (h.stored is_stored).0 in record {
      spelled = (refl, subst (λ (x : ℕ). Spells (stored m).links x (g.lists p.record_number)) (is ∙ sym names) old.spelled);
      falls = ((λ q has. under_new q (m (head p.record_number)) is names (top (stored m).stamps (stored m).links (g.lists p.record_number) (m (head p.record_number)) q old.spelled old.falls has)), old.falls);
      owned = owned_either;
      base = let b = old.base in record { place = b.place; there = inr b.there; stamp = b.stamp; final = b.final; last = b.last };
      settled = old.settled;
    }

    pub linked_first : (b : Bool) → eqb (m (head p.record_number)) (suc p.place) ≡ b
        → part.Lists z (cond b owner' g.owner) (cond b (at_number g.lists p.record_number (new ∷ g.lists p.record_number)) g.lists) (m min_read) (at_number (head_words m) p.record_number (either b (suc new) (m (head p.record_number)))) (lock_words m) (floor_words m) (stored m) (status_words m)
    linked_first false e = subst (λ (x : ℕ → ℕ). part.Lists z g.owner g.lists (m min_read) x (lock_words m) (floor_words m) (stored m) (status_words m))
        (λ i q. sym (at_number-stays (head_words m) p.record_number q) i) s.rule.lists
    linked_first true e = record {
      each = λ r lt. at_both g.lists (head_words m) p.record_number (new ∷ g.lists p.record_number) (suc new) r (λ xs x. ListOk z owner' (m min_read) x (lock_words m r) (floor_words m r) (stored m) (status_words m) r xs)
          (λ same. subst (λ (y : ℕ). ListOk z owner' (m min_read) (suc new) (lock_words m y) (floor_words m y) (stored m) (status_words m) y (new ∷ g.lists p.record_number)) same
          (first_ok (eqb-true (m (head p.record_number)) (suc p.place) e)))
          (λ ne. other_ok (stored m) (λ q. refl) r lt (λ q has. refl));
      listed = listed_more (at_number g.lists p.record_number (new ∷ g.lists p.record_number)) (grown_head g.lists p.record_number new);
    }

    -- behind the place above
    module _ (a : ℕ) (there : Has a (g.lists p.record_number)) (above : j.write.stamp < (stored m).stamps a) where
      abbrev w' : ℕ → Stored
      w' x = record (stored m) { links = at_number (stored m).links a x }

      behind_ok : m (next_word a) ≡ suc p.place
          → ListOk z owner' (m min_read) (head_words m p.record_number) (lock_words m p.record_number) (floor_words m p.record_number) (w' (suc new)) (status_words m) p.record_number (behind a new (g.lists p.record_number))
      behind_ok is =
          let old = s.rule.lists.each p.record_number on_record in let names = (h.stored is_stored).0 in
          let lower : (stored m).stamps new < (stored m).stamps a = let st = h.mark.stamp in omega arith in record {
            spelled = spells_behind a new (stored m).links (stored m).stamps (names ∙ sym is) lower (g.lists p.record_number) (head_words m p.record_number) old.spelled old.falls there;
            falls = falls_behind a new (stored m).stamps lower (g.lists p.record_number) old.falls there
                (λ q has lt. under_new q (m (next_word a)) is names (below (stored m).stamps (stored m).links (g.lists p.record_number) (m (head p.record_number)) a q old.spelled old.falls there has lt).meets);
            owned = λ q has. owned_either q (behind_only a new (g.lists p.record_number) q has);
            base = let b = old.base in record {
              place = b.place;
              there = behind_old a new (g.lists p.record_number) b.place b.there;
              stamp = b.stamp;
              final = b.final;
              last = λ e. at_number-other (stored m).links a b.place (suc new) (λ same. absurd (let l = b.last e in let f : m (next_word a) ≡ m (next_word b.place) = ap (λ (x : ℕ). m (next_word x)) same in omega arith)) ∙ b.last e;
            };
            settled = old.settled;
          }

      elsewhere : (r q : ℕ) → r < z.records → p.record_number ≢ r → Has q (g.lists r) → a ≢ q
      elsewhere r q lt ne has same =
          ne (linked_one p.record_number r (sym (linked_owner kept z g m vs id v k s p.record_number a on_record there).1 ∙ ap g.owner same ∙ (linked_owner kept z g m vs id v k s r q lt has).1))

      pub linked_behind : (b : Bool) → eqb (m (next_word a)) (suc p.place) ≡ b
          → part.Lists z (cond b owner' g.owner) (cond b (at_number g.lists p.record_number (behind a new (g.lists p.record_number))) g.lists) (m min_read) (head_words m) (lock_words m) (floor_words m) (w' (either b (suc new) (m (next_word a)))) (status_words m)
      linked_behind false e = subst (λ (x : ℕ → ℕ). part.Lists z g.owner g.lists (m min_read) (head_words m) (lock_words m) (floor_words m) (record (stored m) { links = x }) (status_words m))
          (λ i q. sym (at_number-stays (stored m).links a q) i) s.rule.lists
      linked_behind true e = record {
        each = λ r lt. at_cases g.lists p.record_number (behind a new (g.lists p.record_number)) r (λ xs. ListOk z owner' (m min_read) (head_words m r) (lock_words m r) (floor_words m r) (w' (suc new)) (status_words m) r xs)
            (λ same. subst (λ (y : ℕ). ListOk z owner' (m min_read) (head_words m y) (lock_words m y) (floor_words m y) (w' (suc new)) (status_words m) y (behind a new (g.lists p.record_number))) same
            (behind_ok (eqb-true (m (next_word a)) (suc p.place) e)))
            (λ ne. other_ok (w' (suc new)) (λ q. refl) r lt (λ q has. at_number-other (stored m).links a q (suc new) (elsewhere r q lt ne has)));
        listed = listed_more (at_number g.lists p.record_number (behind a new (g.lists p.record_number))) (grown_behind g.lists p.record_number new a there);
      }

  -- another number in a lock
  module _ (k : Kind) (s : Step kept z g m vs id v k) where
    abbrev Ok : (q x y : ℕ) → Type 0
    Ok q x y = ListOk z g.owner (m min_read) (head_words m q) x y (stored m) (status_words m) q (g.lists q)

    relocked : (q x : ℕ) → (lt : q < z.records) → (x ≡ 0 → m (next_word (s.rule.lists.each q lt).base.place) ≡ 0) → Ok q x (floor_words m q)
    relocked q x lt last = let h = s.rule.lists.each q lt in let b = h.base in record {
      spelled = h.spelled;
      falls = h.falls;
      owned = h.owned;
      base = record { place = b.place; there = b.there; stamp = b.stamp; final = b.final; last = last };
      settled = h.settled;
    }

    with_lock : (r x : ℕ) → ((lt : r < z.records) → x ≡ 0 → m (next_word (s.rule.lists.each r lt).base.place) ≡ 0)
        → part.Lists z g.owner g.lists (m min_read) (head_words m) (at_number (lock_words m) r x) (floor_words m) (stored m) (status_words m)
    with_lock r x last = record {
      each = λ q lt. at_cases (lock_words m) r x q (λ y. Ok q y (floor_words m q)) (λ same. by_record q lt same) (λ ne. s.rule.lists.each q lt);
      listed = s.rule.lists.listed;
    } where
      by_record : (q : ℕ) → q < z.records → r ≡ q → Ok q x (floor_words m q)
      by_record q lt same = subst (λ (y : ℕ). Ok y x (floor_words m y)) same (let lt' : r < z.records = rw same lt in relocked r x lt' (last lt'))

    -- the version at the floor is the last
    last_of : (r : ℕ) → IsLast (g.lists r) (floor_words m r) (stored m) → (lt : r < z.records) → m (next_word (s.rule.lists.each r lt).base.place) ≡ 0
    last_of r is lt = let b = (s.rule.lists.each r lt).base in is b.place b.there b.stamp

  lock_taken : (r c : ℕ) (s : Step kept z g m vs id v (take_lock r c)) (b : Bool) → eqb (m (lock r)) 0 ≡ b → (lt : r < z.records) → either b (suc v.number) (m (lock r)) ≡ 0 → m (next_word (s.rule.lists.each r lt).base.place) ≡ 0
  lock_taken r c s true e lt zero_is = absurd (omega arith)
  lock_taken r c s false e lt zero_is = (s.rule.lists.each r lt).base.last zero_is

  floor_raised : (r c p : ℕ) (s : Step kept z g m vs id v (raise_floor r c p)) (q : ℕ) → q < z.records → r ≡ q → Ok _ s q (lock_words m q) c
  floor_raised r c p s q lt same =
      let w = work_of kept z g m vs s.rule id v s.at s.allowed.is_open r c (found p) s.allowed.can in
      let n = w.at.1 in let low = w.early in let min_low = (s.rule.items id v s.at s.allowed.is_open).reached in
      let taken = lock_of kept z g m vs s.rule id v s.at s.allowed.is_open r c (found p) tt s.allowed.can in
      subst (λ (y : ℕ). Ok _ s y (lock_words m y) c) same (let h = s.rule.lists.each r w.on_record in record {
        spelled = h.spelled;
        falls = h.falls;
        owned = h.owned;
        base = record { place = p; there = n.there; stamp = n.stamp_is; final = n.final; last = λ e. absurd (omega arith) };
        settled = omega arith;
      })

  module _ (r c p : ℕ) (s : Step kept z g m vs id v (cut r c p)) where
    abbrev owner_cut : ℕ → Owner
    owner_cut = cut_from v.number (from_behind p (g.lists r)) g.owner

    abbrev w_cut : Stored
    w_cut = record (stored m) { links = at_number (stored m).links p 0 }

    cut_here_ok : ListOk z owner_cut (m min_read) (head_words m r) (lock_words m r) (floor_words m r) w_cut (status_words m) r (up_to p (g.lists r))
    cut_here_ok =
        let w = cut_work kept z g m vs id v r c p s in let n = cut_version kept z g m vs id v r c p s in
        let h = s.rule.lists.each r w.on_record in let is = n.stamp_is in let at_floor = w.at.0 in record {
          spelled = spells_up p (stored m).stamps (stored m).links (g.lists r) (head_words m r) h.spelled n.there;
          falls = falls_up p (stored m).stamps (g.lists r) h.falls;
          owned = λ q has. owner_stays kept z g m vs id v r c p s r q w.on_record (subst (Has q) (sym (at_number-same g.lists r (up_to p (g.lists r)))) has);
          base = record {
            place = p;
            there = up_has p (stored m).stamps (g.lists r) h.falls n.there p n.there (omega arith);
            stamp = is ∙ sym at_floor;
            final = n.final;
            last = λ e. at_number-same (stored m).links p 0;
          };
          settled = h.settled;
        }

    cut_else_ok : (q : ℕ) → q < z.records → r ≢ q → ListOk z owner_cut (m min_read) (head_words m q) (lock_words m q) (floor_words m q) w_cut (status_words m) q (g.lists q)
    cut_else_ok q lt ne =
        let w = cut_work kept z g m vs id v r c p s in let n = cut_version kept z g m vs id v r c p s in
        ListOk-same z g.owner owner_cut (m min_read) (m min_read) (head_words m q) (lock_words m q) (floor_words m q) (stored m) w_cut (status_words m) (status_words m) q (g.lists q)
        (λ x has. refl)
        (λ x has. at_number-other (stored m).links p x 0 (λ same. absurd (ne (linked_one r q (sym (linked_owner kept z g m vs id v (cut r c p) s r p w.on_record n.there).1 ∙ ap g.owner same ∙ (linked_owner kept z g m vs id v (cut r c p) s q x lt has).1)))))
        (λ x has two. refl)
        (λ x has. (owner_stays kept z g m vs id v r c p s q x lt (at_cases g.lists r (up_to p (g.lists r)) q (Has x) (λ e. absurd (ne e)) (λ ne'. has))).1)
        (omega arith) (s.rule.lists.each q lt)

    cuts : part.Lists z owner_cut (at_number g.lists r (up_to p (g.lists r))) (m min_read) (head_words m) (lock_words m) (floor_words m) w_cut (status_words m)
    cuts = record {
      each = λ q lt. at_cases g.lists r (up_to p (g.lists r)) q (λ xs. ListOk z owner_cut (m min_read) (head_words m q) (lock_words m q) (floor_words m q) w_cut (status_words m) q xs)
          (λ same. subst (λ (y : ℕ). ListOk z owner_cut (m min_read) (head_words m y) (lock_words m y) (floor_words m y) w_cut (status_words m) y (up_to p (g.lists r))) same cut_here_ok)
          (λ ne. cut_else_ok q lt ne);
      listed = λ x q lt is. listed_by x q lt (cut_or v.number (from_behind p (g.lists r)) g.owner x (linked q) is);
    } where
      listed_by : (x q : ℕ) → x < places z → (Has x (from_behind p (g.lists r)) × (cut_by v.number ≡ linked q)) ⊎ ((Has x (from_behind p (g.lists r)) → ⊥) × (g.owner x ≡ linked q)) → Has x (at_number g.lists r (up_to p (g.lists r)) q)
      listed_by x q lt (inl h) = absurd (let e = h.1 in cc)
      listed_by x q lt (inr h) = let has = s.rule.lists.listed x q lt h.1 in
          at_cases g.lists r (up_to p (g.lists r)) q (Has x)
          (λ e. ⊎_elim (λ k. k) (λ k. absurd (h.0 k)) (up_or_behind p (g.lists r) x (subst (λ (y : ℕ). Has x (g.lists y)) (sym e) has))) (λ ne. has)

  pub lists_kept : (k : Kind) → Step kept z g m vs id v k → part.Lists z (turned k v (m (name k v)) g).owner (turned k v (m (name k v)) g).lists (changed k v m min_read) (head_words (changed k v m)) (lock_words (changed k v m)) (floor_words (changed k v m)) (stored (changed k v m)) (status_words (changed k v m))
  lists_kept (take p) s = takes p s (eqb (m (status p)) 0) refl (rw (← (s.rule.seats.each id v s.at s.allowed.is_open).size) s.allowed.can)
  lists_kept (give p) s = owner_changes (give p) s tt p free (held_unlinked kept z g m vs id v (give p) s p s.allowed.can) tt
  lists_kept (mark r f) s = owner_changes (mark r f) s tt f.place (marked v.number)
      (held_unlinked kept z g m vs id v (mark r f) s f.place (filled_held (stored m) v.places.held f v.places.fills s.allowed.can.0 (s.rule.filled id v s.at s.allowed.is_open))) tt
  lists_kept raise_min_read s = framed raise_min_read s tt g.owner _ (λ r q lt h. (linked_owner kept z g m vs id v raise_min_read s r q lt h).1) s.rule.lists.listed (omega arith)
  lists_kept (link_head p j w) s =
      linked_first _ s p j (stand_of kept z g m vs id v _ s p (stamped w) s.allowed.can.0).kept.on_record (joint_of kept z g m vs id v _ s p j w s.allowed.can.0 s.allowed.can.1) s.allowed.can.2
      (eqb (m (head p.record_number)) (suc p.place)) refl
  lists_kept (link_next p j a w) s =
      let h = joint_of kept z g m vs id v _ s p j w s.allowed.can.0 s.allowed.can.1 in
      let above = subst (IsAbove (g.lists p.record_number) (stored m).stamps j.write.stamp p.under) s.allowed.can.3 h.above in
      linked_behind _ s p j (stand_of kept z g m vs id v _ s p (stamped w) s.allowed.can.0).kept.on_record h s.allowed.can.2 a above.0 above.1 (eqb (m (next_word a)) (suc p.place)) refl
  lists_kept (take_lock r c) s = with_lock _ s r (either (eqb (m (lock r)) 0) (suc v.number) (m (lock r))) (lock_taken r c s (eqb (m (lock r)) 0) refl)
  lists_kept (unlock r c to) s = with_lock _ s r 0 (λ lt e. last_of _ s r (work_of kept z g m vs s.rule id v s.at s.allowed.is_open r c (cut_off to) s.allowed.can).at lt)
  lists_kept (drop r c) s = with_lock _ s r 0 (λ lt e. last_of _ s r (work_of kept z g m vs s.rule id v s.at s.allowed.is_open r c locked s.allowed.can).at lt)
  lists_kept (raise_floor r c p) s = record {
    each = λ q lt. at_cases (floor_words m) r c q (λ y. Ok _ s q (lock_words m q) y) (λ same. floor_raised r c p s q lt same) (λ ne. s.rule.lists.each q lt);
    listed = s.rule.lists.listed;
  }
  lists_kept (cut r c p) s = cuts r c p s
  lists_kept (free_place r c to p) s = owner_changes _ s tt p free (left_unlinked kept z g m vs id v r c to p s) tt
  lists_kept k s = framed k s tt g.owner (m min_read) (λ r q lt h. (linked_owner kept z g m vs id v k s r q lt h).1) s.rule.lists.listed (omega arith)

module _ (kept : State → Type 0) (z : Size) (g : World) (m : Memory) (vs : List View) (id : ℕ) (v : View) (s : Split kept z g m vs id v) where
  pub lists_split : part.Lists z g.owner g.lists (m min_read) (head_words m) (lock_words m) (floor_words m) (stored m) (status_words m)
  lists_split = s.rule.lists

module _ (kept : State → Type 0) (z : Size) (g : World) (m : Memory) (vs : List View) (id other : ℕ) (v w : View) (s : Join kept z g m vs id other v w) where
  pub lists_joined : part.Lists z g.owner g.lists (m min_read) (head_words m) (lock_words m) (floor_words m) (stored m) (status_words m)
  lists_joined = s.rule.lists

pub lists_start : (z : Size) → IsSize z → part.Lists z (first_world z).owner (first_world z).lists (start z min_read) (head_words (start z)) (lock_words (start z)) (floor_words (start z)) (stored (start z)) (status_words (start z))
lists_start z h = record {
  each = λ r lt. record {
    spelled = (rw (ltb-true_from r z.records lt), no_link r (nat_lt r (places z)));
    falls = ((λ q has. absurd has), tt);
    owned = λ q has. owned_at r lt q has;
    base = record {
      place = r;
      there = inl refl;
      stamp = rw (ltb-true_from r (places z) (omega arith), ltb-true_from r z.records lt);
      final = rw (ltb-true_from r (places z) (omega arith), ltb-true_from r z.records lt) (omega arith, omega arith);
      last = λ e. no_link r (nat_lt r (places z));
    };
    settled = rw (ltb-true_from r z.records lt) (omega arith);
  };
  listed = λ q r lt. listed_at q r (nat_lt q z.records);
} where
  no_link : (r : ℕ) (b : Bool) → cond {A = ℕ} b 0 0 ≡ 0
  no_link r true = refl
  no_link r false = refl

  owned_at : (r : ℕ) → r < z.records → (q : ℕ) → Has q (r ∷ []) → (q < places z) × ((first_world z).owner q ≡ linked r)
  owned_at r lt q (inl e) = subst (λ (x : ℕ). (x < places z) × ((first_world z).owner x ≡ linked r)) e (omega arith, rw (ltb-true_from r z.records lt))
  owned_at r lt q (inr has) = absurd has

  listed_at : (q r : ℕ) (b : Bool) → cond b (linked q) free ≡ linked r → Has q (r ∷ [])
  listed_at q r true e = inl (sym (linked_one q r e))
  listed_at q r false e = absurd cc
