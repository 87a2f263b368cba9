-- Linking: a marked place is its seat's alone, and both places that a search to link stands between stay linked.
use Rattle.std.proofs.Common.{◌≡◌, ◌≢◌, ℕ, suc, ◌-◌, ◌<◌, ◌≤◌, true, false, Bool, cond, eqb, List, [], ◌∷◌, ◌++◌, set, refl, sym, ap, ◌∙◌, subst, arith, eqb-true, ne_eqb, Option, Some, None}
use Rattle.plain_data.specs.State.{State}
use prog.Atomic.{either}
use Rattle.word_layout.specs.Size.{Size, places}
use Rattle.word_layout.specs.Name.{head, status, next as next_word}
use Rattle.stamp_base.specs.Limits.{end_of_stamps}
use Rattle.core_rule.specs.Memory.{Memory, Stored, stored}
use Rattle.core_rule.specs.World.{World, Owner, free, held, marked, linked, at_number, behind, up_to, from_behind, cut_from}
use Rattle.core_rule.specs.View.{View, Flight, writing, Write, Joint, Aim, reads, links, again, checks, Stand, Look, blank, stamped, shown, Search, still, marks, stands}
use Rattle.core_rule.specs.Views.{At, Has}
use Rattle.core_rule.specs.Holding.{filled_place}
use Rattle.core_rule.specs.Searching.{limit_of, IsPassed, IsLate, stamp_seen, ends, moved, Begins, IsNotLinked, HasWrite, FitsPlace}
use Rattle.core_rule.specs.Rule.{status_words}
use Rattle.core_rule.specs.Kinds.{Kind, take, fill_stamp, fill_reset, fill_cell, give, load_head, load_next, load_stamp, load_status, mark, point, link_head, link_next, raise_read_stamp, cut, free_place, name, after, turned, changed}
use Rattle.core_rule.specs.Parts.Filled.{IsReset}
use Rattle.core_rule.specs.Parts.Searches.{SearchOk}
use Rattle.core_rule.specs.Parts.Linking.{MarkOk, IsAbove, IsLeast, JointOk, AimOk, IsLinking, LinkingOk}
use Rattle.core_rule.specs.Parts.Linking as part
use Rattle.core_rule.proofs.EachView.{Each-set, AllOf-Has}
use Rattle.core_rule.proofs.Step.{Step, at_number-other, at_number-same, at_cases, differs}
use Rattle.core_rule.proofs.Listed.{one_place, grown_head, grown_behind, top, below}
use Rattle.core_rule.proofs.Touched.{quiet, linked_owner}
use Rattle.core_rule.proofs.Cutting.{cut_work, cut_version, shrunk, flight_high, tail_linked}
use Rattle.core_rule.proofs.Tails.{cut_same}
use Rattle.core_rule.proofs.Parts.PlacesKept.{freed_owner}
use Rattle.core_rule.proofs.Working.{stand_of, aim_of, joint_of, in_flight_late, filled_held, filled_stands, raised_of}
use Rattle.core_rule.proofs.Parts.FilledKept.{CellsAre-same, front_has}
use Rattle.core_rule.proofs.Parts.SearchesKept.{left_is, next_above}
use Rattle.core_rule.proofs.Parts.PlacesKept.{free_from}
use mathlib.Core.Logic.{dite}
use native.Mathlib.Decide.{dec_lt, ℕ_discrete}
use Rattle.core_rule.proofs.Without.{ne_from_test}

-- the words of one place are the same
record SameAt (w w' : Stored) (q : ℕ) : Type 0 where
  stamp : w'.stamps q ≡ w.stamps q
  read : w'.reads q ≡ w.reads q
  link : w'.links q ≡ w.links q
  cell : (i : ℕ) → w'.cells q i ≡ w.cells q i

-- the step is one with this marked place
abbrev Joins : Kind → ℕ → Type 0
Joins (point s j w) q = j.write.place ≡ q
Joins (link_head s j w) q = j.write.place ≡ q
Joins (link_next s j above w) q = j.write.place ≡ q
Joins _ q = ⊥

marked_one : (a b : ℕ) → marked a ≡ marked b → a ≡ b
marked_one a b e = cc

pub not_linked : (r p : ℕ) (us : List Write) → IsNotLinked r us → HasWrite r p us → ⊥
not_linked r p us h k = h k.0 k.1 k.2

-- lists that lose nothing, and stamps of linked places that stay
record Around (z : Size) (lists lists' : ℕ → List ℕ) (stamps stamps' : ℕ → ℕ) : Type 0 where
  old : (r q : ℕ) → Has q (lists r) → Has q (lists' r)
  same : (r q : ℕ) → r < z.records → Has q (lists r) → stamps' q ≡ stamps q

module _ (z : Size) (owner owner' : ℕ → Owner) (w w' : Stored) (number : ℕ) (flight : Flight) (done : List Write) (at : (q : ℕ) → owner q ≡ marked number → SameAt w w' q × (owner' q ≡ marked number)) where
  MarkOk-at : (u : Write) → MarkOk z owner w number flight done u → MarkOk z owner' w' number flight done u
  MarkOk-at u h = let a = at u.place h.owned in record {
    within = h.within;
    owned = a.1;
    fits = h.fits;
    in_flight = h.in_flight;
    only = h.only;
    stamp = a.0.stamp ∙ h.stamp;
    reset = a.0.read ∙ h.reset;
    cells = CellsAre-same (w.cells u.place) (w'.cells u.place) 0 u.cells a.0.cell h.cells;
    whole = h.whole;
  }

module _ (z : Size) (owner owner' : ℕ → Owner) (lists lists' : ℕ → List ℕ) (w w' : Stored) (number : ℕ) (flight : Flight) (done : List Write) (around : Around z lists lists' w.stamps w'.stamps)
    (at : (q : ℕ) → owner q ≡ marked number → SameAt w w' q × (owner' q ≡ marked number)) where
  MarkOk-same : (u : Write) → MarkOk z owner w number flight done u → MarkOk z owner' w' number flight done u
  MarkOk-same = MarkOk-at z owner owner' w w' number flight done at

  IsAbove-same : (r t under : ℕ) (o : Option ℕ) → r < z.records → IsAbove (lists r) w.stamps t under o → IsAbove (lists' r) w'.stamps t under o
  IsAbove-same r t under None lt h = h
  IsAbove-same r t under (Some a) lt h = let e = around.same r a lt h.0 in let l = h.1 in (around.old r a h.0, omega arith, e ∙ h.2)

  JointOk-same : (s : Stand) (j : Joint) → Has s.place (lists s.record_number) → JointOk z owner lists w number flight done s j → JointOk z owner' lists' w' number flight done s j
  JointOk-same s j there h =
      let lt : s.record_number < z.records = rw h.same_record h.mark.fits.0 in
      let here = around.same s.record_number s.place lt there in
      let a = at j.write.place h.mark.owned in record {
        mark = MarkOk-same j.write h.mark;
        same_record = h.same_record;
        above = IsAbove-same s.record_number j.write.stamp s.under j.above lt h.above;
        least = let l = h.least in let e = around.same s.record_number l.place lt l.there in let early = l.early in let bound = l.bound in
            record { place = l.place; there = around.old s.record_number l.place l.there; early = omega arith; bound = omega arith };
        low = let l = h.low in omega arith;
        stored = λ yes. let l = h.stored yes in let low = l.1 in (a.0.link ∙ l.0, omega arith);
      }

  IsLinking-same : (limit settled : ℕ) (statuses : ℕ → ℕ) (search : Search) → SearchOk z lists w.stamps statuses limit settled search → IsLinking z owner lists w number flight done search → IsLinking z owner' lists' w' number flight done search
  IsLinking-same limit settled statuses still ok h = tt
  IsLinking-same limit settled statuses (marks u) ok h = MarkOk-same u h
  IsLinking-same limit settled statuses (stands s look) ok h = by_aim s.aim h where
    by_aim : (aim : Aim) → AimOk z owner lists w number flight done s aim → AimOk z owner' lists' w' number flight done s aim
    by_aim reads h = tt
    by_aim (links j) h = JointOk-same s j ok.kept.there h
    by_aim (again d) h = tt
    by_aim (checks u) h = tt

module _ (kept : State → Type 0) (z : Size) (g : World) (m : Memory) (vs : List View) (id : ℕ) (v : View) where
  -- a place that is marked is not one that the view holds
  marked_apart : (k : Kind) → Step kept z g m vs id v k → (p q n : ℕ) → Has p v.places.held → g.owner q ≡ marked n → p ≢ q
  marked_apart k s p q n has is same = absurd (let own = (AllOf-Has (λ x. (x < places z) × (g.owner x ≡ held v.number)) p v.places.held (s.rule.places.each id v s.at s.allowed.is_open).owned has).1 in
      let e = sym own ∙ ap g.owner same ∙ is in cc)

  -- the words of a marked place
  same_at : (k : Kind) → Step kept z g m vs id v k → (q n : ℕ) → g.owner q ≡ marked n → (Joins k q → ⊥) → SameAt (stored m) (stored (changed k v m)) q
  same_at (fill_stamp p t) s q n is not = record { stamp = at_number-other (stored m).stamps p q t (marked_apart _ s p q n s.allowed.can is); read = refl; link = refl; cell = λ i. refl }
  same_at fill_reset s q n is not =
      let has = front_has (stored m) v.places.held v.places.fills s.allowed.can (s.rule.filled id v s.at s.allowed.is_open) in
      record { stamp = refl; read = at_number-other (stored m).reads (filled_place v.places.fills) q 0 (marked_apart _ s (filled_place v.places.fills) q n has is); link = refl; cell = λ i. refl }
  same_at (fill_cell x) s q n is not =
      let has = front_has (stored m) v.places.held v.places.fills s.allowed.can.0 (s.rule.filled id v s.at s.allowed.is_open) in
      record { stamp = refl; read = refl; link = refl; cell = λ i. rw (ne_eqb (filled_place v.places.fills) q (marked_apart _ s (filled_place v.places.fills) q n has is)) }
  same_at (point p j w) s q n is not = record { stamp = refl; read = refl; link = at_number-other (stored m).links j.write.place q _ not; cell = λ i. refl }
  same_at (link_next p j a w) s q n is not =
      let o = joint_of kept z g m vs id v _ s p j w s.allowed.can.0 s.allowed.can.1 in
      let there = (subst (IsAbove (g.lists p.record_number) (stored m).stamps j.write.stamp p.under) s.allowed.can.3 o.above).0 in
      let own = (linked_owner kept z g m vs id v _ s p.record_number a (stand_of kept z g m vs id v _ s p (stamped w) s.allowed.can.0).kept.on_record there).1 in
      record { stamp = refl; read = refl; link = at_number-other (stored m).links a q _ (λ same. absurd (let e = sym own ∙ ap g.owner same ∙ is in cc)); cell = λ i. refl }
  same_at (raise_read_stamp d) s q n is not =
      let o = raised_of kept z g m vs id v d s in
      let own = ((s.rule.lists.each d.record_number o.kept.on_record).owned d.place o.kept.there).1 in
      record { stamp = refl; read = at_number-other (stored m).reads d.place q _ (λ same. absurd (let e = sym own ∙ ap g.owner same ∙ is in cc)); link = refl; cell = λ i. refl }
  same_at (cut r c p) s q n is not =
      let own = (linked_owner kept z g m vs id v _ s r p (cut_work kept z g m vs id v r c p s).on_record (cut_version kept z g m vs id v r c p s).there).1 in
      record { stamp = refl; read = refl; link = at_number-other (stored m).links p q 0 (λ same. absurd (let e = sym own ∙ ap g.owner same ∙ is in cc)); cell = λ i. refl }
  same_at k s q n is not = record { stamp = refl; read = refl; link = refl; cell = λ i. refl }

  -- the owner of a marked place
  owner_at : (k : Kind) → Step kept z g m vs id v k → (q n : ℕ) → g.owner q ≡ marked n → (Joins k q → ⊥) → (turned k v (m (name k v)) g).owner q ≡ marked n
  owner_at (take p) s q n is not = at_cases g.owner p (cond (eqb (m (status p)) 0) (held v.number) (g.owner p)) q (λ o. o ≡ marked n)
      (λ e. taken e (eqb (m (status p)) 0) refl) (λ ne. is) where
        taken : p ≡ q → (b : Bool) → eqb (m (status p)) 0 ≡ b → cond b (held v.number) (g.owner p) ≡ marked n
        taken e false t = ap g.owner e ∙ is
        taken e true t = absurd (let f = free_from (g.owner p) (m (status p)) (s.rule.places.shows p (rw (← (s.rule.seats.each id v s.at s.allowed.is_open).size) s.allowed.can)) (eqb-true (m (status p)) 0 t) in
            let c = sym f ∙ ap g.owner e ∙ is in cc)
  owner_at (give p) s q n is not = at_number-other g.owner p q free (marked_apart _ s p q n s.allowed.can is) ∙ is
  owner_at (mark r f) s q n is not =
      at_number-other g.owner f.place q (marked v.number) (marked_apart _ s f.place q n (filled_held (stored m) v.places.held f v.places.fills s.allowed.can.0 (s.rule.filled id v s.at s.allowed.is_open)) is) ∙ is
  owner_at (link_head p j w) s q n is not = by_test (eqb (m (head p.record_number)) (suc p.place)) where
    by_test : (b : Bool) → cond b (at_number g.owner j.write.place (linked p.record_number)) g.owner q ≡ marked n
    by_test true = at_number-other g.owner j.write.place q (linked p.record_number) not ∙ is
    by_test false = is
  owner_at (link_next p j a w) s q n is not = by_test (eqb (m (next_word a)) (suc p.place)) where
    by_test : (b : Bool) → cond b (at_number g.owner j.write.place (linked p.record_number)) g.owner q ≡ marked n
    by_test true = at_number-other g.owner j.write.place q (linked p.record_number) not ∙ is
    by_test false = is
  owner_at (cut r c p) s q n is not = cut_same v.number (from_behind p (g.lists r)) g.owner q (λ has. absurd (let e = sym (tail_linked kept z g m vs id v r c p s q has).1 ∙ is in cc)) ∙ is
  owner_at (free_place r c to p) s q n is not = at_number-other g.owner p q free (λ same. absurd (let e = sym (freed_owner kept z g m vs id v r c to p s) ∙ ap g.owner same ∙ is in cc)) ∙ is
  owner_at k s q n is not = is

  -- the place that a seat joins to a list is its own
  joins_own : (k : Kind) → Step kept z g m vs id v k → (q n : ℕ) → g.owner q ≡ marked n → Joins k q → n ≡ v.number
  joins_own (point p j w) s q n is same = marked_one n v.number (sym is ∙ ap g.owner (sym same) ∙ (joint_of kept z g m vs id v _ s p j w s.allowed.can.0 s.allowed.can.1).mark.owned)
  joins_own (link_head p j w) s q n is same = marked_one n v.number (sym is ∙ ap g.owner (sym same) ∙ (joint_of kept z g m vs id v _ s p j w s.allowed.can.0 s.allowed.can.1).mark.owned)
  joins_own (link_next p j a w) s q n is same = marked_one n v.number (sym is ∙ ap g.owner (sym same) ∙ (joint_of kept z g m vs id v _ s p j w s.allowed.can.0 s.allowed.can.1).mark.owned)
  joins_own k s q n is same = absurd same

  -- lists lose something where they are cut
  abbrev Adds : Kind → Type 0
  Adds (cut r c p) = ⊥
  Adds _ = Unit {0}

  around : (k : Kind) → Step kept z g m vs id v k → Adds k → Around z g.lists (turned k v (m (name k v)) g).lists (stored m).stamps (stored (changed k v m)).stamps
  around (fill_stamp p t) s adds = let u = quiet kept z g m vs id v _ s tt in record { old = λ r q h. h; same = u.stamps }
  around (link_head p j w) s adds = record { old = λ r q h. by_test r q (eqb (m (head p.record_number)) (suc p.place)) h; same = λ r q lt h. refl } where
    by_test : (r q : ℕ) (b : Bool) → Has q (g.lists r) → Has q (cond b (at_number g.lists p.record_number (j.write.place ∷ g.lists p.record_number)) g.lists r)
    by_test r q true h = (grown_head g.lists p.record_number j.write.place).old r q h
    by_test r q false h = h
  around (link_next p j a w) s adds = record { old = λ r q h. by_test r q (eqb (m (next_word a)) (suc p.place)) h; same = λ r q lt h. refl } where
    there : Has a (g.lists p.record_number)
    there = (subst (IsAbove (g.lists p.record_number) (stored m).stamps j.write.stamp p.under) s.allowed.can.3 (joint_of kept z g m vs id v _ s p j w s.allowed.can.0 s.allowed.can.1).above).0

    by_test : (r q : ℕ) (b : Bool) → Has q (g.lists r) → Has q (cond b (at_number g.lists p.record_number (behind a j.write.place (g.lists p.record_number))) g.lists r)
    by_test r q true h = (grown_behind g.lists p.record_number j.write.place a there).old r q h
    by_test r q false h = h
  around (cut r c p) s adds = absurd adds
  around k s adds = record { old = λ r q h. h; same = λ r q lt h. refl }

  -- other views, and the own view where the step joins nothing
  same_for : (k : Kind) (s : Step kept z g m vs id v k) → Adds k → (i : ℕ) (x : View) → At vs i x → x.spent ≡ false → ((q : ℕ) → g.owner q ≡ marked x.number → Joins k q → ⊥)
      → LinkingOk z g.owner g.lists (stored m) x → LinkingOk z (turned k v (m (name k v)) g).owner (turned k v (m (name k v)) g).lists (stored (changed k v m)) x
  same_for k s adds i x at live not h = IsLinking-same z g.owner (turned k v (m (name k v)) g).owner g.lists (turned k v (m (name k v)) g).lists (stored m) (stored (changed k v m)) x.number x.flight x.work.linked (around k s adds)
      (λ q is. (same_at k s q x.number is (not q is), owner_at k s q x.number is (not q is))) (limit_of x.flight x.published.read) x.published.read (status_words m) x.work.search (s.rule.searches i x at live) h

  framed : (k : Kind) (s : Step kept z g m vs id v k) → Adds k → (u : View) → LinkingOk z (turned k v (m (name k v)) g).owner (turned k v (m (name k v)) g).lists (stored (changed k v m)) u
      → part.Linking z (turned k v (m (name k v)) g).owner (turned k v (m (name k v)) g).lists (stored (changed k v m)) (set vs id u)
  framed k s adds u mine = Each-set (LinkingOk z g.owner g.lists (stored m)) (LinkingOk z (turned k v (m (name k v)) g).owner (turned k v (m (name k v)) g).lists (stored (changed k v m))) vs u id
      (λ i x ne at live h. same_for k s adds i x at live (λ q is joins. differs kept z g m vs id v k s i x ne at live (sym (joins_own k s q x.number is joins))) h) (λ live. mine) s.rule.linking

  abbrev Mine : Stand → Aim → Type 0
  Mine s aim = AimOk z g.owner g.lists (stored m) v.number v.flight v.work.linked s aim

  abbrev S : ℕ → ℕ
  S = (stored m).stamps

  module _ (k : Kind) (s : Step kept z g m vs id v k) where
    begins_ok : (r : ℕ) → r < z.records → (p : Stand) → p.record_number ≡ r → p.under ≡ end_of_stamps → (aim : Aim) → Begins aim r v.work → Mine p aim
    begins_ok r lt p on under_end reads b = tt
    begins_ok r lt p on under_end (again d) b = tt
    begins_ok r lt p on under_end (checks u) b = tt
    begins_ok r lt p on under_end (links j) b =
        let mark : MarkOk z g.owner (stored m) v.number v.flight v.work.linked j.write = subst (IsLinking z g.owner g.lists (stored m) v.number v.flight v.work.linked) b.0 (s.rule.linking id v s.at s.allowed.is_open) in
        let l = s.rule.lists.each r lt in let base = l.base in let floor_is = base.stamp in let settled = l.settled in
        let late = in_flight_late kept z g m vs id v k s j.write.stamp mark.in_flight in let below_min = s.rule.minima.reads_below in
        let zero_is = b.3 in record {
          mark = mark;
          same_record = on ∙ sym b.1;
          above = subst (IsAbove (g.lists p.record_number) S j.write.stamp p.under) (sym b.2) under_end;
          least = record { place = base.place; there = rw on base.there; early = omega arith; bound = omega arith };
          low = omega arith;
          stored = λ yes. absurd (let no = b.4 in cc);
        }

    moves_ok : (p q : Stand) (look : Look) → v.work.search ≡ stands p look → IsPassed (limit_of v.flight v.published.read) look → q.record_number ≡ p.record_number → q.place ≡ m (next_word p.place) - 1 → q.under ≡ stamp_seen look
        → (aim : Aim) → IsLate aim look → Mine p aim → Mine q (moved aim p.place)
    moves_ok p q look is passed same_record at_next under_seen reads late h = tt
    moves_ok p q look is passed same_record at_next under_seen (again d) late h = tt
    moves_ok p q look is passed same_record at_next under_seen (checks u) late h = tt
    moves_ok p q look is passed same_record at_next under_seen (links j) late h =
        let o = stand_of kept z g m vs id v k s p look is in
        let l = s.rule.lists.each p.record_number o.kept.on_record in
        let seen = (left_is (limit_of v.flight v.published.read) (S p.place) (m (status p.place)) look passed o.seen).1 in
        let differs_here : S p.place ≢ j.write.stamp = λ same. not_linked p.record_number p.place v.work.linked (rw h.same_record h.mark.only)
        ((s.rule.versions.views id v s.at s.allowed.is_open).own j.write.stamp p.record_number p.place h.mark.in_flight o.kept.on_record o.kept.there same) in
        let least = h.least in let early = least.early in let bound = least.bound in
        let f = below S (stored m).links (g.lists p.record_number) (m (head p.record_number)) p.place least.place l.spelled l.falls o.kept.there least.there (omega arith) in
        let over = f.meets.over in let same : S q.place ≡ S (m (next_word p.place) - 1) = ap S at_next in record {
          mark = h.mark;
          same_record = same_record ∙ h.same_record;
          above = (rw same_record o.kept.there, omega arith, sym seen ∙ sym under_seen);
          least = record { place = least.place; there = rw same_record least.there; early = early; bound = omega arith };
          low = omega arith;
          stored = λ yes. absurd (let f : false ≡ true = yes in cc);
        }

    -- the link of what is marked does not matter for these
    with_links : (l : ℕ → ℕ) (u : Write) → MarkOk z g.owner (stored m) v.number v.flight v.work.linked u → MarkOk z g.owner (record (stored m) { links = l }) v.number v.flight v.work.linked u
    with_links l u h = record { within = h.within; owned = h.owned; fits = h.fits; in_flight = h.in_flight; only = h.only; stamp = h.stamp; reset = h.reset; cells = h.cells; whole = h.whole }

    points_ok : (p : Stand) (j : Joint) (w : ℕ) → v.work.search ≡ stands p (stamped w) → p.aim ≡ links j → w < j.write.stamp
        → JointOk z g.owner g.lists (record (stored m) { links = at_number (stored m).links j.write.place (suc p.place) }) v.number v.flight v.work.linked (record p { aim = links record j { stored = true } }) (record j { stored = true })
    points_ok p j w is aim_is early =
        let h = joint_of kept z g m vs id v k s p j w is aim_is in
        let seen : S p.place ≡ w = (stand_of kept z g m vs id v k s p (stamped w) is).seen in record {
          mark = with_links (at_number (stored m).links j.write.place (suc p.place)) j.write h.mark;
          same_record = h.same_record;
          above = h.above;
          least = h.least;
          low = h.low;
          stored = λ yes. (at_number-same (stored m).links j.write.place (suc p.place), omega arith);
        }

    -- what is found in place of the place below stands above it
    loses_ok : (l : ℕ → ℕ) (p : Stand) (j : Joint) (w n : ℕ) → v.work.search ≡ stands p (stamped w) → p.aim ≡ links j → j.stored ≡ true → n ≢ suc p.place → 0 < n → Has (n - 1) (g.lists p.record_number) → S p.place ≤ S (n - 1)
        → (q : Stand) → q.record_number ≡ p.record_number → q.place ≡ n - 1 → q.under ≡ p.under
        → JointOk z g.owner g.lists (record (stored m) { links = l }) v.number v.flight v.work.linked q (record j { least = suc w; stored = false })
    loses_ok l p j w n is aim_is is_stored ne pos has over q same_record at_found same_under =
        let h = joint_of kept z g m vs id v k s p j w is aim_is in
        let o = stand_of kept z g m vs id v k s p (stamped w) is in
        let seen : S p.place ≡ w = o.seen in let early = (h.stored is_stored).1 in
        let falls = (s.rule.lists.each p.record_number o.kept.on_record).falls in
        let apart : S p.place ≢ S (n - 1) = λ e. absurd (let e' = one_place S (g.lists p.record_number) p.place (n - 1) falls o.kept.there has e in ne (omega arith)) in
        let same : S q.place ≡ S (n - 1) = ap S at_found in record {
          mark = with_links l j.write h.mark;
          same_record = same_record ∙ h.same_record;
          above = rw (same_record, same_under) h.above;
          least = record { place = p.place; there = rw same_record o.kept.there; early = early; bound = omega arith };
          low = omega arith;
          stored = λ yes. absurd (let f : false ≡ true = yes in cc);
        }

    won_or_lost : (owner' : ℕ → Owner) (lists' : ℕ → List ℕ) (l : ℕ → ℕ) (done' : List Write) (q : Stand) (j : Joint) (n x : ℕ) (b : Bool) → eqb n x ≡ b → q.aim ≡ links j
        → (n ≢ x → JointOk z g.owner g.lists (record (stored m) { links = l }) v.number v.flight v.work.linked q j)
        → IsLinking z (cond b owner' g.owner) (cond b lists' g.lists) (record (stored m) { links = l }) v.number v.flight (cond b done' v.work.linked) (cond b still (stands q blank))
    won_or_lost owner' lists' l done' q j n x true e is lost = tt
    won_or_lost owner' lists' l done' q j n x false e is lost = subst (AimOk z g.owner g.lists (record (stored m) { links = l }) v.number v.flight v.work.linked q) (sym is) (lost (ne_from_test n x e))

  -- both places that a search to link stands between stay; the version that it keeps below may be cut off, then the one that is
  -- collected serves
  module _ (r c p : ℕ) (s : Step kept z g m vs id v (cut r c p)) (i : ℕ) (x : View) (at : At vs i x) (live : x.spent ≡ false) where
    abbrev lists' : ℕ → List ℕ
    lists' = at_number g.lists r (up_to p (g.lists r))

    abbrev w' : Stored
    w' = record (stored m) { links = at_number (stored m).links p 0 }

    marked_at : (q : ℕ) → g.owner q ≡ marked x.number → SameAt (stored m) w' q × (cut_from v.number (from_behind p (g.lists r)) g.owner q ≡ marked x.number)
    marked_at q is = (same_at (cut r c p) s q x.number is (λ h. h), owner_at (cut r c p) s q x.number is (λ h. h))

    mark_cut : (u : Write) → MarkOk z g.owner (stored m) x.number x.flight x.work.linked u → MarkOk z (cut_from v.number (from_behind p (g.lists r)) g.owner) w' x.number x.flight x.work.linked u
    mark_cut = MarkOk-at z g.owner (cut_from v.number (from_behind p (g.lists r)) g.owner) (stored m) w' x.number x.flight x.work.linked marked_at

    above_cut : (q t under : ℕ) (o : Option ℕ) → x.flight ≡ writing t → IsAbove (g.lists q) S t under o → IsAbove (lists' q) S t under o
    above_cut q t under None f h = h
    above_cut q t under (Some a) f h = let high = flight_high kept z g m vs id v r c p s i x at live t f in let l = h.1 in
        ((shrunk kept z g m vs id v r c p s).stays q a h.0 (λ same. omega arith), h.1, h.2)

    least_cut : (q t least : ℕ) → x.flight ≡ writing t → IsLeast (g.lists q) S t least → IsLeast (lists' q) S t least
    least_cut q t least f h = dite (ℕ_discrete r q)
        (λ same. dite (dec_lt (S h.place) c)
        (λ low. let n = cut_version kept z g m vs id v r c p s in let is = n.stamp_is in let high = flight_high kept z g m vs id v r c p s i x at live t f in let b = h.bound in record {
          place = p;
          there = subst (λ (y : ℕ). Has p (lists' y)) same ((shrunk kept z g m vs id v r c p s).stays r p n.there (λ e. omega arith));
          early = omega arith;
          bound = omega arith;
        })
        (λ high. record { place = h.place; there = (shrunk kept z g m vs id v r c p s).stays q h.place h.there (λ e. omega arith); early = h.early; bound = h.bound }))
        (λ ne. record { place = h.place; there = (shrunk kept z g m vs id v r c p s).stays q h.place h.there (λ e. absurd (ne e)); early = h.early; bound = h.bound })

    cut_aim : (q : Stand) (aim : Aim) → AimOk z g.owner g.lists (stored m) x.number x.flight x.work.linked q aim → AimOk z (cut_from v.number (from_behind p (g.lists r)) g.owner) lists' w' x.number x.flight x.work.linked q aim
    cut_aim q reads h = tt
    cut_aim q (again d) h = tt
    cut_aim q (checks u) h = tt
    cut_aim q (links j) h = record {
      mark = mark_cut j.write h.mark;
      same_record = h.same_record;
      above = above_cut q.record_number j.write.stamp q.under j.above h.mark.in_flight h.above;
      least = least_cut q.record_number j.write.stamp j.least h.mark.in_flight h.least;
      low = h.low;
      stored = λ yes. let l = h.stored yes in ((marked_at j.write.place h.mark.owned).0.link ∙ l.0, l.1);
    }

    cut_off : (search : Search) → SearchOk z g.lists S (status_words m) (limit_of x.flight x.published.read) x.published.read search → IsLinking z g.owner g.lists (stored m) x.number x.flight x.work.linked search
        → IsLinking z (cut_from v.number (from_behind p (g.lists r)) g.owner) lists' w' x.number x.flight x.work.linked search
    cut_off still ok h = tt
    cut_off (marks u) ok h = mark_cut u h
    cut_off (stands q look) ok h = cut_aim q q.aim h

  pub linking_kept : (k : Kind) → Step kept z g m vs id v k → part.Linking z (turned k v (m (name k v)) g).owner (turned k v (m (name k v)) g).lists (stored (changed k v m)) (set vs id (after k v (m (name k v))))
  linking_kept (load_head aim r) s = framed _ s tt _ (begins_ok _ s r (rw (← (s.rule.seats.each id v s.at s.allowed.is_open).size) s.allowed.can.0) record { aim = aim; record_number = r; place = m (head r) - 1; under = end_of_stamps } refl refl aim s.allowed.can.2)
  linking_kept (load_next p look) s = framed _ s tt _
      (moves_ok _ s p record p { aim = moved p.aim p.place; place = m (next_word p.place) - 1; under = stamp_seen look } look s.allowed.can.0 s.allowed.can.1 refl refl refl p.aim s.allowed.can.2 (aim_of kept z g m vs id v _ s p look s.allowed.can.0))
  linking_kept (load_stamp p) s = framed _ s tt _ (aim_of kept z g m vs id v _ s p blank s.allowed.can)
  linking_kept (load_status p w) s = framed _ s tt _ (by_test (ends p.aim w (m (status p.place)))) where
    by_test : (b : Bool) → IsLinking z g.owner g.lists (stored m) v.number v.flight v.work.linked (cond b still (stands p (shown w (m (status p.place)))))
    by_test true = tt
    by_test false = aim_of kept z g m vs id v _ s p (stamped w) s.allowed.can.0
  linking_kept (mark r f) s = framed _ s tt _ (
      let ok = s.rule.filled id v s.at s.allowed.is_open in
      let has = filled_held (stored m) v.places.held f v.places.fills s.allowed.can.0 ok in
      let stands_there = filled_stands (stored m) v.places.held f v.places.fills s.allowed.can.0 ok in record {
        within = (AllOf-Has (λ x. (x < places z) × (g.owner x ≡ held v.number)) f.place v.places.held (s.rule.places.each id v s.at s.allowed.is_open).owned has).0;
        owned = at_number-same g.owner f.place (marked v.number);
        fits = subst (λ (x : Size). FitsPlace x r f.place) (s.rule.seats.each id v s.at s.allowed.is_open).size s.allowed.can.3;
        in_flight = s.allowed.can.1;
        only = s.allowed.can.5;
        stamp = stands_there.stamp;
        reset = subst (IsReset ((stored m).reads f.place)) s.allowed.can.2 stands_there.reset;
        cells = stands_there.cells;
        whole = s.allowed.can.6;
      })
  linking_kept (point p j w) s = framed _ s tt _ (points_ok _ s p j w s.allowed.can.0 s.allowed.can.1 s.allowed.can.2)
  linking_kept (link_head p j w) s =
      let o = stand_of kept z g m vs id v _ s p (stamped w) s.allowed.can.0 in
      let l = s.rule.lists.each p.record_number o.kept.on_record in
      let n = m (head p.record_number) in
      let t = top S (stored m).links (g.lists p.record_number) n p.place l.spelled l.falls o.kept.there in
      let j' : Joint = record j { least = suc w; stored = false } in
      let q : Stand = record p { aim = links j'; place = n - 1 } in
      framed _ s tt _ (won_or_lost _ s (at_number g.owner j.write.place (linked p.record_number)) (at_number g.lists p.record_number (j.write.place ∷ g.lists p.record_number)) (stored m).links (v.work.linked ++ j.write ∷ []) q j' n (suc p.place) (eqb n (suc p.place)) refl refl
      (λ ne. loses_ok _ s (stored m).links p j w n s.allowed.can.0 s.allowed.can.1 s.allowed.can.2 ne t.positive t.there t.over q refl refl refl))
  linking_kept (link_next p j a w) s =
      let o = stand_of kept z g m vs id v _ s p (stamped w) s.allowed.can.0 in
      let h = joint_of kept z g m vs id v _ s p j w s.allowed.can.0 s.allowed.can.1 in
      let n = m (next_word a) in
      let t = (next_above kept z g m vs id v _ s p j a o.kept.on_record h s.allowed.can.2 s.allowed.can.3 o.kept.there).0.meets in
      let links' = at_number (stored m).links a (either (eqb n (suc p.place)) (suc j.write.place) n) in
      let j' : Joint = record j { least = suc w; stored = false } in
      let q : Stand = record p { aim = links j'; place = n - 1 } in
      framed _ s tt _ (won_or_lost _ s (at_number g.owner j.write.place (linked p.record_number)) (at_number g.lists p.record_number (behind a j.write.place (g.lists p.record_number))) links' (v.work.linked ++ j.write ∷ []) q j' n (suc p.place) (eqb n (suc p.place)) refl refl
      (λ ne. loses_ok _ s links' p j w n s.allowed.can.0 s.allowed.can.1 s.allowed.can.2 ne t.positive t.there t.over q refl refl refl))
  linking_kept (cut r c p) s = Each-set (LinkingOk z g.owner g.lists (stored m)) (LinkingOk z (cut_from v.number (from_behind p (g.lists r)) g.owner) (at_number g.lists r (up_to p (g.lists r))) (stored (changed (cut r c p) v m))) vs _ id
      (λ i x ne at live h. cut_off r c p s i x at live x.work.search (s.rule.searches i x at live) h)
      (λ live. cut_off r c p s id v s.at s.allowed.is_open v.work.search (s.rule.searches id v s.at s.allowed.is_open) (s.rule.linking id v s.at s.allowed.is_open)) s.rule.linking
  linking_kept k s = framed k s tt _ (search (tt, same_for k s tt id v s.at s.allowed.is_open (λ q is joins. joins) (s.rule.linking id v s.at s.allowed.is_open)))
