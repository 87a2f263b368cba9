-- Which steps change no word of a linked place.
use Rattle.std.proofs.Common.{◌≡◌, ◌≢◌, ℕ, ◌<◌, ◌≤◌, Bool, eqb, List, refl, sym, ap, ◌∙◌, subst, arith, ne_eqb}
use prog.Atomic.{either}
use Rattle.plain_data.specs.State.{State}
use Rattle.word_layout.specs.Size.{Size, places}
use Rattle.word_layout.specs.Name.{status}
use Rattle.core_rule.specs.Memory.{Memory, Stored, stored}
use Rattle.core_rule.specs.World.{World, Owner, free, held, marked, linked, cut_by, at_number}
use Rattle.core_rule.specs.Views.{Has}
use Rattle.core_rule.specs.View.{View}
use Rattle.core_rule.specs.Holding.{filled_place}
use Rattle.core_rule.specs.Kinds.{Kind, take, fill_stamp, fill_reset, fill_cell, give, mark, point, link_head, link_next, raise_read_stamp, store_status, cut, free_place, changed}
use Rattle.core_rule.specs.Rule.{status_words}
use Rattle.core_rule.specs.Parts.Places.{Shows}
use Rattle.core_rule.proofs.EachView.{AllOf-Has}
use Rattle.core_rule.proofs.Step.{Step, at_number-other, at_cases}
use Rattle.core_rule.proofs.Parts.FilledKept.{front_has}
use Rattle.core_rule.proofs.Parts.PlacesKept.{freed_owner}
use Rattle.core_rule.proofs.Working.{filled_held, joint_of, was_pending}

-- the words of linked places are the same
pub record Untouched (z : Size) (lists : ℕ → List ℕ) (w w' : Stored) (s s' : ℕ → ℕ) : Type 0 where
  pub stamps : (r q : ℕ) → r < z.records → Has q (lists r) → w'.stamps q ≡ w.stamps q
  pub links : (r q : ℕ) → r < z.records → Has q (lists r) → w'.links q ≡ w.links q
  pub cells : (r q i : ℕ) → r < z.records → Has q (lists r) → w'.cells q i ≡ w.cells q i
  -- a last status does not change
  pub statuses : (r q : ℕ) → r < z.records → Has q (lists r) → s q ≢ 2 → s' q ≡ s q

-- every kind but the exchange that links, and the cut
abbrev pub Quiet : Kind → Type 0
Quiet (link_head s j w) = ⊥
Quiet (link_next s j above w) = ⊥
Quiet (cut r c p) = ⊥
Quiet _ = Unit {0}

-- and every kind but the store of a last status
abbrev pub Steady : Kind → Type 0
Steady (link_head s j w) = ⊥
Steady (link_next s j above w) = ⊥
Steady (cut r c p) = ⊥
Steady (store_status u) = ⊥
Steady _ = Unit {0}

abbrev pub IsUnlinked : Owner → Type 0
IsUnlinked (linked r) = ⊥
IsUnlinked _ = Unit {0}

unlinked_apart : (o : Owner) (r : ℕ) → IsUnlinked o → o ≢ linked r
unlinked_apart free r h e = cc
unlinked_apart (held seat) r h e = cc
unlinked_apart (marked seat) r h e = cc
unlinked_apart (linked q) r h e = absurd h
unlinked_apart (cut_by seat) r h e = cc

shown_linked : (o : Owner) (r n : ℕ) → o ≡ linked r → Shows o n → 2 ≤ n
shown_linked free r n e h = absurd cc
shown_linked (held seat) r n e h = absurd cc
shown_linked (marked seat) r n e h = absurd cc
shown_linked (linked q) r n e h = h
shown_linked (cut_by seat) r n e h = absurd cc

module _ (kept : State → Type 0) (z : Size) (g : World) (m : Memory) (vs : List View) (id : ℕ) (v : View) where
  pub linked_owner : (k : Kind) → Step kept z g m vs id v k → (r q : ℕ) → r < z.records → Has q (g.lists r) → (q < places z) × (g.owner q ≡ linked r)
  linked_owner k s r q lt h = (s.rule.lists.each r lt).owned q h

  -- what is linked shows 2 at least
  pub linked_shows : (k : Kind) → Step kept z g m vs id v k → (r q : ℕ) → r < z.records → Has q (g.lists r) → 2 ≤ m (status q)
  linked_shows k s r q lt h = let o = linked_owner k s r q lt h in shown_linked (g.owner q) r (m (status q)) o.1 (s.rule.places.shows q o.0)

  -- a place that is not linked is none of those
  pub apart : (k : Kind) → Step kept z g m vs id v k → (p : ℕ) → IsUnlinked (g.owner p) → (r q : ℕ) → r < z.records → Has q (g.lists r) → p ≢ q
  apart k s p un r q lt h same =
      unlinked_apart (g.owner p) r un (ap g.owner same ∙ (linked_owner k s r q lt h).1)

  pub held_unlinked : (k : Kind) → Step kept z g m vs id v k → (p : ℕ) → Has p v.places.held → IsUnlinked (g.owner p)
  held_unlinked k s p has = subst IsUnlinked (sym (AllOf-Has (λ q. (q < places z) × (g.owner q ≡ held v.number)) p v.places.held (s.rule.places.each id v s.at s.allowed.is_open).owned has).1) tt

  -- nor is one that is freed
  pub left_unlinked : (r c to p : ℕ) (s : Step kept z g m vs id v (free_place r c to p)) → IsUnlinked (g.owner p)
  left_unlinked r c to p s = subst IsUnlinked (sym (freed_owner kept z g m vs id v r c to p s)) tt

  same : Untouched z g.lists (stored m) (stored m) (status_words m) (status_words m)
  same = record { stamps = λ r q lt h. refl; links = λ r q lt h. refl; cells = λ r q i lt h. refl; statuses = λ r q lt h ne. refl }

  status_touched : (k : Kind) → Step kept z g m vs id v k → (p x : ℕ) → IsUnlinked (g.owner p) → Untouched z g.lists (stored m) (stored m) (status_words m) (at_number (status_words m) p x)
  status_touched k s p x un = record { stamps = λ r q lt h. refl; links = λ r q lt h. refl; cells = λ r q i lt h. refl; statuses = λ r q lt h ne. at_number-other (status_words m) p q x (apart k s p un r q lt h) }

  -- a status changes that is pending, or not of a linked place
  pub steady : (k : Kind) → Step kept z g m vs id v k → Steady k → (r q : ℕ) → r < z.records → Has q (g.lists r) → status_words (changed k v m) q ≡ m (status q)
  steady (take p) s h r q lt has = at_cases (status_words m) p (either (eqb (m (status p)) 0) 1 (m (status p))) q (λ x. x ≡ m (status q))
      (λ e. let two = linked_shows _ s r q lt has in let same_word : m (status p) ≡ m (status q) = ap (λ (x : ℕ). m (status x)) e in
      ap (λ (b : Bool). either b 1 (m (status p))) (ne_eqb (m (status p)) 0 (λ z'. absurd (omega arith))) ∙ same_word)
      (λ ne. refl)
  steady (give p) s h r q lt has = at_number-other (status_words m) p q 0 (apart _ s p (held_unlinked _ s p s.allowed.can) r q lt has)
  steady (mark r' f) s h r q lt has =
      at_number-other (status_words m) f.place q 2 (apart _ s f.place (held_unlinked _ s f.place (filled_held (stored m) v.places.held f v.places.fills s.allowed.can.0 (s.rule.filled id v s.at s.allowed.is_open))) r q lt has)
  steady (link_head p j w) s h r q lt has = absurd h
  steady (link_next p j a w) s h r q lt has = absurd h
  steady (store_status u) s h r q lt has = absurd h
  steady (cut r' c p) s h r q lt has = absurd h
  steady (free_place r' c to p) s h r q lt has = at_number-other (status_words m) p q 0 (apart _ s p (left_unlinked r' c to p s) r q lt has)
  steady k s h r q lt has = refl

  pub quiet : (k : Kind) → Step kept z g m vs id v k → Quiet k → Untouched z g.lists (stored m) (stored (changed k v m)) (status_words m) (status_words (changed k v m))
  quiet (take p) s h = record { stamps = λ r q lt h. refl; links = λ r q lt h. refl; cells = λ r q i lt h. refl; statuses = λ r q lt h ne. steady _ s tt r q lt h }
  quiet (give p) s h = status_touched _ s p 0 (held_unlinked _ s p s.allowed.can)
  quiet (mark r f) s h = status_touched _ s f.place 2 (held_unlinked _ s f.place (filled_held (stored m) v.places.held f v.places.fills s.allowed.can.0 (s.rule.filled id v s.at s.allowed.is_open)))
  quiet (fill_stamp p t) s h = let un = held_unlinked _ s p s.allowed.can in record {
    stamps = λ r q lt h. at_number-other (stored m).stamps p q t (apart _ s p un r q lt h);
    links = λ r q lt h. refl;
    cells = λ r q i lt h. refl;
    statuses = λ r q lt h ne. refl;
  }
  quiet fill_reset s h = record { stamps = λ r q lt h. refl; links = λ r q lt h. refl; cells = λ r q i lt h. refl; statuses = λ r q lt h ne. refl }
  quiet (fill_cell x) s h =
      let has = front_has (stored m) v.places.held v.places.fills s.allowed.can.0 (s.rule.filled id v s.at s.allowed.is_open) in
      let un = held_unlinked _ s (filled_place v.places.fills) has in record {
        stamps = λ r q lt h. refl;
        links = λ r q lt h. refl;
        cells = λ r q i lt h. rw (ne_eqb (filled_place v.places.fills) q (apart _ s (filled_place v.places.fills) un r q lt h));
        statuses = λ r q lt h ne. refl;
      }
  quiet (point p j w) s h =
      let own = (joint_of kept z g m vs id v _ s p j w s.allowed.can.0 s.allowed.can.1).mark.owned in
      let un : IsUnlinked (g.owner j.write.place) = subst IsUnlinked (sym own) tt in record {
        stamps = λ r q lt h. refl;
        links = λ r q lt h. at_number-other (stored m).links j.write.place q _ (apart _ s j.write.place un r q lt h);
        cells = λ r q i lt h. refl;
        statuses = λ r q lt h ne. refl;
      }
  quiet (link_head p j w) s h = absurd h
  quiet (link_next p j a w) s h = absurd h
  quiet (raise_read_stamp d) s h = record { stamps = λ r q lt h. refl; links = λ r q lt h. refl; cells = λ r q i lt h. refl; statuses = λ r q lt h ne. refl }
  quiet (store_status u) s h = record {
    stamps = λ r q lt h. refl;
    links = λ r q lt h. refl;
    cells = λ r q i lt h. refl;
    statuses = λ r q lt h ne. at_number-other (status_words m) u.place q _ (λ e. ne (ap (λ (x : ℕ). m (status x)) (sym e) ∙ was_pending kept z g m vs id v u s));
  }
  quiet (cut r c p) s h = absurd h
  quiet (free_place r c to p) s h = status_touched _ s p 0 (left_unlinked r c to p s)
  quiet k s h = same
