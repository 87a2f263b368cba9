-- Marked places: a seat links what it has marked before it begins anything else.
use Rattle.std.proofs.Common.{◌≡◌, ℕ, suc, ◌-◌, List, [], ◌∷◌, ◌++◌, set, true, false, Bool, cond, eqb, refl, sym, ap, ◌∙◌, subst}
use Rattle.std.specs.Prelude.{nat_lt}
use Rattle.plain_data.specs.State.{State}
use Rattle.word_layout.specs.Size.{Size, IsSize}
use Rattle.word_layout.specs.Name.{head, status, next as next_word}
use Rattle.core_rule.specs.Memory.{Memory, Stored, stored}
use Rattle.core_rule.specs.World.{World, Owner, free, held, marked, linked, cut_by, at_number, from_behind, is_in, first_world}
use Rattle.core_rule.specs.View.{View, Flight, resting, Write, Work, Aim, reads, links, again, checks, Joint, Stand, Look, blank, stamped, shown, Search, still, marks, stands, first_view}
use Rattle.core_rule.specs.Views.{SomeView}
use Rattle.core_rule.specs.Searching.{AsksStatus, moved, Begins, Rests}
use Rattle.core_rule.specs.Kinds.{Kind, take, give, load_head, load_next, load_stamp, load_status, mark, point, link_head, link_next, load_read_stamp, decide_by_check, finish, cut, free_place, name, after, turned}
use Rattle.core_rule.specs.Hands.{split_left, split_right, joined_view}
use Rattle.core_rule.specs.Parts.Marked.{AimMarks, SearchMarks, MarksPlace}
use Rattle.core_rule.specs.Parts.Marked as part
use Rattle.core_rule.specs.Parts.Linking.{AimOk, IsLinking}
use Rattle.core_rule.proofs.EachView.{SomeView-set, SomeView-own, SomeView-push, SomeView-join, joined}
use Rattle.core_rule.proofs.Step.{Step, at_cases}
use Rattle.core_rule.proofs.Making.{Split, Join}

marked_one : (a b : ℕ) → marked a ≡ marked b → a ≡ b
marked_one a b e = cc

-- a search that rests marks nothing
pub rests_not : (p : ℕ) (x : Search) → Rests x → SearchMarks p x → ⊥
rests_not p still rests h = h
rests_not p (marks u) rests h = rests
rests_not p (stands s look) rests h = by_aim s.aim rests h where
  by_aim : (aim : Aim) → Rests (stands record s { aim = aim } look) → AimMarks p aim → ⊥
  by_aim reads r k = k
  by_aim (links j) r k = r
  by_aim (again d) r k = k
  by_aim (checks u) r k = k

-- it goes on with the same version
still_aims : (p q : ℕ) (aim : Aim) → AimMarks p aim → AimMarks p (moved aim q)
still_aims p q reads h = h
still_aims p q (links j) h = h
still_aims p q (again d) h = h
still_aims p q (checks u) h = h

begins_aims : (p r : ℕ) (aim : Aim) (w : Work) → Begins aim r w → SearchMarks p w.search → AimMarks p aim
begins_aims p r reads w b h = absurd (rests_not p w.search b h)
begins_aims p r (links j) w b h = subst (SearchMarks p) b.0 h
begins_aims p r (again d) w b h = absurd (rests_not p w.search b.0 h)
begins_aims p r (checks u) w b h = absurd (rests_not p w.search b.0 h)

asks_not : (p : ℕ) (aim : Aim) → AsksStatus aim → AimMarks p aim → ⊥
asks_not p reads asks h = h
asks_not p (links j) asks h = asks
asks_not p (again d) asks h = h
asks_not p (checks u) asks h = h

-- nothing is marked where no stamp is in flight
none_resting : (z : Size) (owner : ℕ → Owner) (lists : ℕ → List ℕ) (w : Stored) (number : ℕ) (flight : Flight) (done : List Write) (q : ℕ) (x : Search) → IsLinking z owner lists w number flight done x → flight ≡ resting → SearchMarks q x → ⊥
none_resting z owner lists w number flight done q still ok rests h = h
none_resting z owner lists w number flight done q (marks u) ok rests h = absurd (let e = sym rests ∙ ok.in_flight in cc)
none_resting z owner lists w number flight done q (stands s look) ok rests h = by_aim s.aim ok h where
  by_aim : (aim : Aim) → AimOk z owner lists w number flight done s aim → AimMarks q aim → ⊥
  by_aim reads ok h = h
  by_aim (links j) ok h = absurd (let e = sym rests ∙ ok.mark.in_flight in cc)
  by_aim (again d) ok h = h
  by_aim (checks u) ok h = h

module _ (kept : State → Type 0) (z : Size) (g : World) (m : Memory) (vs : List View) (id : ℕ) (v : View) where
  -- the own search goes on with each place that is still marked
  framed : (k : Kind) → Step kept z g m vs id v k → (owner' : ℕ → Owner) (u : View) → u.spent ≡ v.spent → u.number ≡ v.number → ((q n : ℕ) → owner' q ≡ marked n → g.owner q ≡ marked n)
      → ((q n : ℕ) → owner' q ≡ marked n → SearchMarks q v.work.search → SearchMarks q u.work.search) → part.Marked z owner' (set vs id u)
  framed k s owner' u spent number was goes = record {
    marker = λ q n inside is. SomeView-set (MarksPlace n q) (MarksPlace n q) vs id v u s.at (spent ∙ s.allowed.is_open) (λ h. record { number = number ∙ h.number; aims = goes q n is h.aims }) (λ x h. h)
        (s.rule.marked.marker q n inside (was q n is));
  }

  -- nothing was marked
  rested : {k : Kind} → Step kept z g m vs id v k → (u : View) → u.spent ≡ v.spent → u.number ≡ v.number → Rests v.work.search → part.Marked z g.owner (set vs id u)
  rested {k} s u spent number rests = framed k s g.owner u spent number (λ q n is. is) (λ q n is h. absurd (rests_not q v.work.search rests h))

  -- the same search
  same_search : {k : Kind} → Step kept z g m vs id v k → (owner' : ℕ → Owner) (u : View) → u.spent ≡ v.spent → u.number ≡ v.number → u.work.search ≡ v.work.search → ((q n : ℕ) → owner' q ≡ marked n → g.owner q ≡ marked n)
      → part.Marked z owner' (set vs id u)
  same_search {k} s owner' u spent number search was = framed k s owner' u spent number was (λ q n is h. subst (SearchMarks q) (sym search) h)

  -- a search that stands goes on
  moves : {k : Kind} → Step kept z g m vs id v k → (p : Stand) (look : Look) → v.work.search ≡ stands p look → (u : View) → u.spent ≡ v.spent → u.number ≡ v.number → ((q : ℕ) → AimMarks q p.aim → SearchMarks q u.work.search)
      → part.Marked z g.owner (set vs id u)
  moves {k} s p look at u spent number goes = framed k s g.owner u spent number (λ q n is. is) (λ q n is h. goes q (subst (SearchMarks q) at h))

  -- a version is linked, or its search goes on
  links_it : {k : Kind} → Step kept z g m vs id v k → (p q : Stand) (j j' : Joint) (w r : ℕ) → v.work.search ≡ stands p (stamped w) → p.aim ≡ links j → q.aim ≡ links j' → j'.write ≡ j.write → (b : Bool) (u : View) → u.spent ≡ v.spent → u.number ≡ v.number
      → u.work.search ≡ cond b still (stands q blank) → part.Marked z (cond b (at_number g.owner j.write.place (linked r)) g.owner) (set vs id u)
  links_it {k} s p q j j' w r at aim_is aim_then same true u spent number search = framed k s _ u spent number
      (λ x n. at_cases g.owner j.write.place (linked r) x (λ o. o ≡ marked n → g.owner x ≡ marked n) (λ e is. absurd cc) (λ ne is. is))
      (λ x n. at_cases g.owner j.write.place (linked r) x (λ o. o ≡ marked n → SearchMarks x v.work.search → SearchMarks x u.work.search) (λ e is h. absurd cc)
      (λ ne is h. absurd (ne (subst (AimMarks x) aim_is (subst (SearchMarks x) at h)))))
  links_it {k} s p q j j' w r at aim_is aim_then same false u spent number search = framed k s g.owner u spent number (λ x n is. is)
      (λ x n is h. subst (SearchMarks x) (sym search) (subst (AimMarks x) (sym aim_then) (ap (λ (y : Write). y.place) same ∙ subst (AimMarks x) aim_is (subst (SearchMarks x) at h))))

  pub marked_kept : (k : Kind) → Step kept z g m vs id v k → part.Marked z (turned k v (m (name k v)) g).owner (set vs id (after k v (m (name k v))))
  marked_kept (take p) s = same_search s _ _ refl refl refl
      (λ q n. at_cases g.owner p (cond (eqb (m (status p)) 0) (held v.number) (g.owner p)) q (λ o. o ≡ marked n → g.owner q ≡ marked n) (λ e. taken e (eqb (m (status p)) 0)) (λ ne is. is)) where
        taken : {q n : ℕ} → p ≡ q → (b : Bool) → cond b (held v.number) (g.owner p) ≡ marked n → g.owner q ≡ marked n
        taken {q} {n} e true is = absurd cc
        taken {q} {n} e false is = ap g.owner (sym e) ∙ is
  marked_kept (give p) s = same_search s _ _ refl refl refl (λ q n. at_cases g.owner p free q (λ o. o ≡ marked n → g.owner q ≡ marked n) (λ e is. absurd cc) (λ ne is. is))
  marked_kept (load_head aim r) s = framed _ s g.owner _ refl refl (λ q n is. is) (λ q n is h. begins_aims q r aim v.work s.allowed.can.2 h)
  marked_kept (load_next p look) s = moves s p look s.allowed.can.0 _ refl refl (λ q h. still_aims q p.place p.aim h)
  marked_kept (load_stamp p) s = moves s p blank s.allowed.can _ refl refl (λ q h. h)
  marked_kept (load_status p w) s = moves s p (stamped w) s.allowed.can.0 _ refl refl (λ q h. absurd (asks_not q p.aim s.allowed.can.2 h))
  marked_kept (mark r f) s = record {
    marker = λ q n inside. at_cases g.owner f.place (marked v.number) q (λ o. o ≡ marked n → SomeView (MarksPlace n q) (set vs id (after (mark r f) v (m (status f.place)))))
        (λ same is. SomeView-own (MarksPlace n q) vs id v _ s.at s.allowed.is_open record { number = marked_one v.number n is; aims = same })
        (λ ne is. SomeView-set (MarksPlace n q) (MarksPlace n q) vs id v _ s.at s.allowed.is_open (λ h. absurd (rests_not q v.work.search s.allowed.can.4 h.aims)) (λ x h. h) (s.rule.marked.marker q n inside is));
  }
  marked_kept (point p j w) s = moves s p (stamped w) s.allowed.can.0 _ refl refl (λ q h. subst (AimMarks q) s.allowed.can.1 h)
  marked_kept (link_head p j w) s = links_it s p record p { aim = links record j { least = suc w; stored = false }; place = m (head p.record_number) - 1 } j record j { least = suc w; stored = false } w p.record_number s.allowed.can.0 s.allowed.can.1 refl refl
      (eqb (m (head p.record_number)) (suc p.place)) _ refl refl refl
  marked_kept (link_next p j a w) s = links_it s p record p { aim = links record j { least = suc w; stored = false }; place = m (next_word a) - 1 } j record j { least = suc w; stored = false } w p.record_number s.allowed.can.0 s.allowed.can.1 refl refl
      (eqb (m (next_word a)) (suc p.place)) _ refl refl refl
  marked_kept (load_read_stamp p u w n) s = moves s p (shown w n) s.allowed.can.0 _ refl refl (λ q h. absurd (subst (AimMarks q) s.allowed.can.1 h))
  marked_kept (decide_by_check p u w n) s = moves s p (shown w n) s.allowed.can.0 _ refl refl (λ q h. absurd (subst (AimMarks q) s.allowed.can.1 h))
  marked_kept (finish ds) s = framed _ s g.owner _ refl refl (λ q n is. is)
      (λ q n is h. absurd (none_resting z g.owner g.lists (stored m) v.number v.flight v.work.linked q v.work.search (s.rule.linking id v s.at s.allowed.is_open) s.allowed.can.0 h))
  marked_kept (cut r c p) s = same_search s _ _ refl refl refl (λ q n. by_test (is_in q (from_behind p (g.lists r)))) where
    by_test : {q n : ℕ} (b : Bool) → cond b (cut_by v.number) (g.owner q) ≡ marked n → g.owner q ≡ marked n
    by_test {q} {n} true is = absurd cc
    by_test {q} {n} false is = is
  marked_kept (free_place r c to p) s = same_search s _ _ refl refl refl (λ q n. at_cases g.owner p free q (λ o. o ≡ marked n → g.owner q ≡ marked n) (λ e is. absurd cc) (λ ne is. is))
  marked_kept k s = search (rested s, same_search s g.owner, s.allowed.can)

module _ (kept : State → Type 0) (z : Size) (g : World) (m : Memory) (vs : List View) (id : ℕ) (v : View) (s : Split kept z g m vs id v) where
  pub marked_split : part.Marked z g.owner (set vs id (split_left v) ++ split_right v ∷ [])
  marked_split = record {
    marker = λ p seat inside e. SomeView-push (MarksPlace seat p) (set vs id (split_left v)) (split_right v)
        (SomeView-set (MarksPlace seat p) (MarksPlace seat p) vs id v (split_left v) s.at s.is_open (λ h. absurd (rests_not p v.work.search s.ends.rests h.aims)) (λ u h. h) (s.rule.marked.marker p seat inside e));
  }

module _ (kept : State → Type 0) (z : Size) (g : World) (m : Memory) (vs : List View) (id other : ℕ) (v w : View) (s : Join kept z g m vs id other v w) where
  pub marked_joined : part.Marked z g.owner (joined vs (joined_view v w) id other)
  marked_joined = record {
    marker = λ p seat inside e. SomeView-join (MarksPlace seat p) vs id other v w (joined_view v w) s.at s.at_other s.apart s.is_open (λ h. absurd (rests_not p v.work.search s.ends.rests h.aims))
        (λ h. rests_not p w.work.search s.other_ends.rests h.aims) (s.rule.marked.marker p seat inside e);
  }

pub marked_start : (z : Size) → IsSize z → part.Marked z (first_world z).owner (first_view z ∷ [])
marked_start z h = record { marker = λ p seat inside e. absurd (unmarked p seat (nat_lt p z.records) e) } where
  unmarked : (p seat : ℕ) (b : Bool) → cond b (linked p) free ≡ marked seat → ⊥
  unmarked p seat true e = cc
  unmarked p seat false e = cc
