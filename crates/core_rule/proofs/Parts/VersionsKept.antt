-- Versions: what is linked is pending at the stamp in flight of its seat, and no other transaction has that stamp.
use Rattle.std.proofs.Common.{◌≡◌, ◌≢◌, ◌⊎◌, ℕ, suc, ◌<◌, ◌≤◌, true, false, Bool, cond, eqb, List, [], ◌∷◌, ◌++◌, set, refl, sym, ap, ◌∙◌, subst, arith, inl, inr, ⊎_elim}
use Rattle.std.specs.Prelude.{nat_lt}
use Rattle.plain_data.specs.State.{State}
use Rattle.word_layout.specs.Size.{Size, IsSize, places}
use Rattle.word_layout.specs.Name.{head, status, wts, next as next_word}
use Rattle.stamp_base.specs.Stamp.{stamp_of, seat_of, IsStamp}
use Rattle.core_rule.specs.Memory.{Memory, Stored, stored, start}
use Rattle.core_rule.specs.World.{World, Owner, linked, at_number, behind, up_to, first_world, nothing_drawn}
use Rattle.core_rule.specs.View.{View, Flight, resting, writing, Write, Joint, Stand, stamped, first_view}
use Rattle.core_rule.specs.Views.{At, Has, Among, SomeView}
use Rattle.core_rule.specs.Searching.{HasWrite, Ends, shown_at}
use Rattle.core_rule.specs.Rule.{status_words}
use Rattle.core_rule.specs.Kinds.{Kind, publish_stamp, link_head, link_next, decide_by_check, decide_bare, store_status, finish, cut, name, after, turned, changed}
use Rattle.core_rule.specs.Hands.{split_left, split_right, joined_view}
use Rattle.core_rule.specs.Parts.Clocks.{IsDrawn, InFlight}
use Rattle.core_rule.specs.Parts.Places.{Shows}
use Rattle.core_rule.specs.Parts.Linking.{JointOk, IsAbove}
use Rattle.core_rule.specs.Parts.Versions.{HasLinked, VersionOk, LinkedOk, OwnStamps, DoneOk, WritesOk}
use Rattle.core_rule.specs.Parts.Versions as part
use Rattle.core_rule.proofs.EachView.{Each-set, Each-own, Each-push, Each-join, Each-one, SomeView-set, SomeView-own, SomeView-push, SomeView-join, joined}
use Rattle.core_rule.proofs.Step.{Step, at_cases, at_number-other, at_number-same, differs, ltb-true_from}
use Rattle.core_rule.proofs.Making.{Split, Join}
use Rattle.core_rule.proofs.Listed.{Grown, grown_head, grown_behind}
use Rattle.core_rule.proofs.Touched.{Untouched, Quiet, quiet, Steady, steady}
use Rattle.core_rule.proofs.Cutting.{shrunk, flight_high}
use Rattle.core_rule.proofs.Working.{stand_of, joint_of, stored_of, shown_at-last}
use Rattle.core_rule.proofs.Among.{Among-left, Among-last, Among-either}
use Rattle.core_rule.proofs.Parts.FilledKept.{CellsAre-same}

HasWrite-more : (r p : ℕ) (w : Write) (us : List Write) → HasWrite r p us → HasWrite r p (us ++ w ∷ [])
HasWrite-more r p w us h = (h.0, Among-left h.0 us (w ∷ []) h.1, h.2, h.3)

HasWrite-new : (w : Write) (us : List Write) → HasWrite w.record_number w.place (us ++ w ∷ [])
HasWrite-new w us = (w, Among-last w us, refl, refl)

linked_one : (a b : ℕ) → linked a ≡ linked b → a ≡ b
linked_one a b e = cc

-- the words of linked places are the same
module _ (z : Size) (lists : ℕ → List ℕ) (w w' : Stored) (s s' : ℕ → ℕ) (t : Untouched z lists w w' s s') (steady_at : (r q : ℕ) → r < z.records → Has q (lists r) → s' q ≡ s q) where
  DoneOk-same : (flight : Flight) (done : List Write) (settled : List ℕ) (decided : Bool) → DoneOk z lists w.stamps w.cells s flight done settled decided → DoneOk z lists w'.stamps w'.cells s' flight done settled decided
  DoneOk-same flight done settled decided h = record {
    linked = λ u k. let o = h.linked u k in record {
      on_record = o.on_record;
      there = o.there;
      in_flight = o.in_flight;
      stamp = t.stamps u.record_number u.place o.on_record o.there ∙ o.stamp;
      pending = λ no. steady_at u.record_number u.place o.on_record o.there ∙ o.pending no;
      stored = λ yes. steady_at u.record_number u.place o.on_record o.there ∙ o.stored yes;
      value = CellsAre-same (w.cells u.place) (w'.cells u.place) 0 u.cells (λ i. t.cells u.record_number u.place i o.on_record o.there) o.value;
      whole = o.whole;
    };
    once = h.once;
    own = λ x r p is lt has at. h.own x r p is lt has (sym (t.stamps r p lt has) ∙ at);
  }

module _ (kept : State → Type 0) (z : Size) (g : World) (m : Memory) (vs : List View) (id : ℕ) (v : View) where
  abbrev S : ℕ → ℕ
  S = (stored m).stamps

  abbrev C : ℕ → ℕ → ℕ
  C = (stored m).cells

  abbrev T : ℕ → ℕ
  T = status_words m

  framed : (k : Kind) → Step kept z g m vs id v k → Quiet k → Steady k → (u : View) → u.spent ≡ v.spent → (drawn : ℕ → ℕ) → ((seat : ℕ) → g.drawn seat ≤ drawn seat)
      → ((r p t : ℕ) → m (status p) ≡ 2 → HasLinked r p t v → HasLinked r p t u) → WritesOk z g.lists S C T u
      → part.Versions z drawn g.lists (stored (changed k v m)).stamps (stored (changed k v m)).cells (status_words (changed k v m)) (set vs id u)
  framed k s h h' u spent drawn rises still mine =
      let t = quiet kept z g m vs id v k s h in
      let steady_at = λ (r q : ℕ) (lt : r < z.records) (has : Has q (g.lists r)). steady kept z g m vs id v k s h' r q lt has in
      let w' = stored (changed k v m) in let T' = status_words (changed k v m) in record {
        each = λ r p lt has.
            let o = s.rule.versions.each r p lt has in let a = t.stamps r p lt has in let b = steady_at r p lt has in let known = o.known in let early = o.early in record {
              early = omega arith;
              within = subst (λ (x : ℕ). seat_of x < z.seats) (sym a) o.within;
              not_above_drawn = subst (λ (x : ℕ). x ≤ drawn (seat_of x)) (sym a) (let d = o.not_above_drawn in let up = rises (seat_of (S p)) in omega arith);
              known = (omega arith, omega arith);
              base = λ e. b ∙ o.base (sym a ∙ e);
              pending = λ e. subst (λ (x : ℕ). SomeView (HasLinked r p x) (set vs id u)) (sym a)
                  (SomeView-set (HasLinked r p (S p)) (HasLinked r p (S p)) vs id v u s.at (spent ∙ s.allowed.is_open) (still r p (S p) (sym b ∙ e)) (λ x h. h) (o.pending (sym b ∙ e)));
            };
        views = Each-set (WritesOk z g.lists S C T) (WritesOk z g.lists w'.stamps w'.cells T') vs u id
            (λ i x ne at live h. DoneOk-same z g.lists (stored m) w' T T' t steady_at x.flight x.work.linked x.work.settled x.work.decided h)
            (λ live. DoneOk-same z g.lists (stored m) w' T T' t steady_at u.flight u.work.linked u.work.settled u.work.decided mine) s.rule.versions.views;
      }

  -- what was linked is not pending any more
  ended : (i : ℕ) (x : View) → WritesOk z g.lists S C T x → Ends x.work → (r p t : ℕ) → m (status p) ≡ 2 → HasLinked r p t x → ⊥
  ended i x ok ends r p t two h =
      let u = h.write.0 in
      let o = ok.linked u h.write.1 in
      let st = o.stored (ends.settled u h.write.1) in let last = shown_at-last x.work.decided u.cells in
      let same : m (status u.place) ≡ m (status p) = ap (λ (y : ℕ). m (status y)) h.write.3 in omega arith

  ends_all : (k : Kind) → Step kept z g m vs id v k → Ends v.work → (u : View) → (r p t : ℕ) → m (status p) ≡ 2 → HasLinked r p t v → HasLinked r p t u
  ends_all k s ends u r p t two h = absurd (ended id v (s.rule.versions.views id v s.at s.allowed.is_open) ends r p t two h)

  rests : DoneOk z g.lists S C T resting [] [] false
  rests = record { linked = λ u k. absurd k; once = λ u x k l. absurd k; own = λ t r p is lt has at. absurd cc }

  -- a stamp in flight carries the seat's number
  pub flight_seat : (k : Kind) → Step kept z g m vs id v k → (i : ℕ) (u : View) → At vs i u → u.spent ≡ false → (t : ℕ) → u.flight ≡ writing t → (0 < t) × (seat_of t ≡ u.number) × (t ≡ u.clock.drawn) × IsStamp t
  flight_seat k s i u at live t e =
      let c = s.rule.clocks i u at live in
      let p = subst (InFlight u.clock u.published) e c.in_flight in
      let low = (s.rule.minima.each i u at live).writes in let pos = s.rule.minima.reads_below in let is = p.1 in let drawn = p.0 in
      let range = c.in_range in let inside = (s.rule.seats.each i u at live).within in let size = s.rule.sized.seats_in_range in
      let positive : 0 < t = omega arith in
      by_drawn positive c.carries drawn range inside size where
        by_drawn : 0 < t → IsDrawn u.number u.clock.clock u.clock.drawn → t ≡ u.clock.drawn → u.clock.clock ≤ 72057594037927934 → u.number < z.seats → z.seats ≤ 64 → (0 < t) × (seat_of t ≡ u.number) × (t ≡ u.clock.drawn) × IsStamp t
        by_drawn pos (inl zero_is) d range inside size = absurd (omega arith)
        by_drawn pos (inr h) d range inside size = let le = h.1 in let is = h.2 in (pos, omega arith, d, record { clock_in_range = omega arith; seat_in_range = omega arith })

  pub stamps_apart : (k : Kind) → Step kept z g m vs id v k → (i : ℕ) (u : View) → i ≢ id → At vs i u → u.spent ≡ false → (t : ℕ) → v.flight ≡ writing t → u.flight ≡ writing t → ⊥
  stamps_apart k s i u ne at live t e f =
      differs kept z g m vs id v k s i u ne at live (sym (flight_seat k s id v s.at s.allowed.is_open t e).1 ∙ (flight_seat k s i u at live t f).1)

  -- a stamp that is drawn stands nowhere yet
  new_stamp : (clock : ℕ) → Step kept z g m vs id v (publish_stamp clock) → (r p : ℕ) → r < z.records → Has p (g.lists r) → S p ≢ stamp_of clock v.number
  new_stamp clock s r p lt has same =
      let c = s.rule.clocks id v s.at s.allowed.is_open in
      let inside = (s.rule.seats.each id v s.at s.allowed.is_open).within in let size = s.rule.sized.seats_in_range in
      let d = (s.rule.versions.each r p lt has).not_above_drawn in
      let seat : seat_of (S p) ≡ v.number = omega arith in
      let d' : S p ≤ g.drawn v.number = subst (λ (x : ℕ). S p ≤ g.drawn x) seat d in
      let last = c.last in let later = s.allowed.can.0 in
      by_drawn c.carries d' last later same where
        by_drawn : IsDrawn v.number v.clock.clock v.clock.drawn → S p ≤ g.drawn v.number → g.drawn v.number ≡ v.clock.drawn → v.clock.clock < clock → S p ≡ stamp_of clock v.number → ⊥
        by_drawn (inl zero_is) d last later same = omega arith
        by_drawn (inr h) d last later same = let le = h.1 in let is = h.2 in omega arith

  pub draws_later : (clock : ℕ) → Step kept z g m vs id v (publish_stamp clock) → (seat : ℕ) → g.drawn seat ≤ at_number g.drawn v.number (stamp_of clock v.number) seat
  draws_later clock s seat = at_cases g.drawn v.number (stamp_of clock v.number) seat (λ x. g.drawn seat ≤ x)
      (λ e. let c = s.rule.clocks id v s.at s.allowed.is_open in let later = s.allowed.can.0 in let same : g.drawn v.number ≡ g.drawn seat = ap g.drawn e in by_drawn c.carries c.last later same) (λ ne. omega arith) where
        by_drawn : IsDrawn v.number v.clock.clock v.clock.drawn → g.drawn v.number ≡ v.clock.drawn → v.clock.clock < clock → g.drawn v.number ≡ g.drawn seat → g.drawn seat ≤ stamp_of clock v.number
        by_drawn (inl zero_is) last later same = omega arith
        by_drawn (inr h) last later same = let le = h.1 in let is = h.2 in omega arith

  module _ (k : Kind) (s : Step kept z g m vs id v k) (p : Stand) (j : Joint) (lists' : ℕ → List ℕ) (grew : Grown p.record_number j.write.place g.lists lists') (on_record : p.record_number < z.records)
      (o : JointOk z g.owner g.lists (stored m) v.number v.flight v.work.linked p j) where
    abbrev new : ℕ
    new = j.write.place

    abbrev t : ℕ
    t = j.write.stamp

    new_pending : m (status new) ≡ 2
    new_pending = subst (λ (x : Owner). Shows x (m (status new))) o.mark.owned (s.rule.places.shows new o.mark.within)

    new_version : (u : View) → u.spent ≡ v.spent → u.flight ≡ v.flight → u.work.linked ≡ v.work.linked ++ j.write ∷ [] → VersionOk z g.drawn S T (set vs id u) p.record_number new
    new_version u spent flight done =
        let f = flight_seat k s id v s.at s.allowed.is_open t o.mark.in_flight in let st = o.mark.stamp in let pos = f.0 in let in_range = f.3.clock_in_range in
        let last = (s.rule.clocks id v s.at s.allowed.is_open).last in let drawn = f.2 in record {
          early = omega arith;
          within = subst (λ (x : ℕ). seat_of x < z.seats) (sym st) (subst (λ (x : ℕ). x < z.seats) (sym f.1) (s.rule.seats.each id v s.at s.allowed.is_open).within);
          not_above_drawn = subst (λ (x : ℕ). x ≤ g.drawn (seat_of x)) (sym st) (subst (λ (x : ℕ). t ≤ g.drawn x) (sym f.1) (omega arith));
          known = (let n = new_pending in omega arith, let n = new_pending in omega arith);
          base = λ e. absurd (omega arith);
          pending = λ e. SomeView-own (HasLinked p.record_number new (S new)) vs id v u s.at (spent ∙ s.allowed.is_open)
              record { in_flight = flight ∙ o.mark.in_flight ∙ ap writing (sym st); write = rw (done, o.same_record) (HasWrite-new j.write v.work.linked) };
        }

    old_version : (u : View) → u.spent ≡ v.spent → u.flight ≡ v.flight → u.work.linked ≡ v.work.linked ++ j.write ∷ [] → (r q : ℕ) → VersionOk z g.drawn S T vs r q → VersionOk z g.drawn S T (set vs id u) r q
    old_version u spent flight done r q h = record {
      early = h.early;
      within = h.within;
      not_above_drawn = h.not_above_drawn;
      known = h.known;
      base = h.base;
      pending = λ e. SomeView-set (HasLinked r q (S q)) (HasLinked r q (S q)) vs id v u s.at (spent ∙ s.allowed.is_open) (λ x. record { in_flight = flight ∙ x.in_flight; write = rw done (HasWrite-more r q j.write v.work.linked x.write) }) (λ y x. x) (h.pending e);
    }

    version_either : (u : View) → u.spent ≡ v.spent → u.flight ≡ v.flight → u.work.linked ≡ v.work.linked ++ j.write ∷ [] → (r q : ℕ) → r < z.records → ((p.record_number ≡ r) × (new ≡ q)) ⊎ Has q (g.lists r)
        → VersionOk z g.drawn S T (set vs id u) r q
    version_either u spent flight done r q lt (inl e) =
        subst (λ (x : ℕ). VersionOk z g.drawn S T (set vs id u) x q) e.0 (subst (VersionOk z g.drawn S T (set vs id u) p.record_number) e.1 (new_version u spent flight done))
    version_either u spent flight done r q lt (inr has) = old_version u spent flight done r q (s.rule.versions.each r q lt has)

    linked_more : (flight : Flight) (settled : List ℕ) (decided : Bool) (x : Write) → LinkedOk z g.lists S C T flight settled decided x → LinkedOk z lists' S C T flight settled decided x
    linked_more flight settled decided x h = record {
      on_record = h.on_record;
      there = grew.old x.record_number x.place h.there;
      in_flight = h.in_flight;
      stamp = h.stamp;
      pending = h.pending;
      stored = h.stored;
      value = h.value;
      whole = h.whole;
    }

    others_own : (i : ℕ) (x : View) → i ≢ id → At vs i x → x.spent ≡ false → OwnStamps z g.lists S x.flight x.work.linked → OwnStamps z lists' S x.flight x.work.linked
    others_own i x ne at live h y r q is lt has same = by_case (grew.only r q has) where
      by_case : ((p.record_number ≡ r) × (new ≡ q)) ⊎ Has q (g.lists r) → HasWrite r q x.work.linked
      by_case (inl e) = absurd (stamps_apart k s i x ne at live t o.mark.in_flight (is ∙ ap writing (sym same ∙ ap S (sym e.1) ∙ o.mark.stamp)))
      by_case (inr old) = h y r q is lt old same

    mine_own : OwnStamps z g.lists S v.flight v.work.linked → OwnStamps z lists' S v.flight (v.work.linked ++ j.write ∷ [])
    mine_own h y r q is lt has same = by_case (grew.only r q has) where
      by_case : ((p.record_number ≡ r) × (new ≡ q)) ⊎ Has q (g.lists r) → HasWrite r q (v.work.linked ++ j.write ∷ [])
      by_case (inl e) = rw (← e.0, ← e.1, o.same_record) (HasWrite-new j.write v.work.linked)
      by_case (inr old) = HasWrite-more r q j.write v.work.linked (h y r q is lt old same)

    -- the record of what is linked was not linked, so nothing of it was settled
    new_unsettled : Has j.write.record_number v.work.settled → ⊥
    new_unsettled has = let x = (s.rule.txns id v s.at s.allowed.is_open).settled j.write.record_number has in o.mark.only x.0 x.1 x.2

    new_linked : LinkedOk z lists' S C T v.flight v.work.settled v.work.decided j.write
    new_linked = record {
      on_record = o.mark.fits.0;
      there = subst (λ (x : ℕ). Has new (lists' x)) o.same_record grew.new;
      in_flight = o.mark.in_flight;
      stamp = o.mark.stamp;
      pending = λ no. new_pending;
      stored = λ yes. absurd (new_unsettled yes);
      value = o.mark.cells;
      whole = o.mark.whole;
    }

    mine_done : DoneOk z g.lists S C T v.flight v.work.linked v.work.settled v.work.decided → DoneOk z lists' S C T v.flight (v.work.linked ++ j.write ∷ []) v.work.settled v.work.decided
    mine_done h = record {
      linked = λ x k. ⊎_elim (λ old. linked_more v.flight v.work.settled v.work.decided x (h.linked x old)) (λ (e : j.write ≡ x). subst (LinkedOk z lists' S C T v.flight v.work.settled v.work.decided) e new_linked)
          (Among-either x j.write v.work.linked k);
      once = λ x y k l same. one x y same (Among-either x j.write v.work.linked k) (Among-either y j.write v.work.linked l);
      own = mine_own h.own;
    } where
      one : (x y : Write) → x.record_number ≡ y.record_number → Among x v.work.linked ⊎ (j.write ≡ x) → Among y v.work.linked ⊎ (j.write ≡ y) → x ≡ y
      one x y same (inl a) (inl b) = h.once x y a b same
      one x y same (inl a) (inr b) = absurd (o.mark.only x a (same ∙ ap (λ (u : Write). u.record_number) (sym b)))
      one x y same (inr a) (inl b) = absurd (o.mark.only y b (sym same ∙ ap (λ (u : Write). u.record_number) (sym a)))
      one x y same (inr a) (inr b) = sym a ∙ b

    links_kept : (b : Bool) (u : View) → u.spent ≡ v.spent → u.flight ≡ v.flight → u.work.linked ≡ cond b (v.work.linked ++ j.write ∷ []) v.work.linked → u.work.settled ≡ v.work.settled → u.work.decided ≡ v.work.decided → part.Versions z g.drawn (cond b lists' g.lists) S C T (set vs id u)
    links_kept false u spent flight done settled decided = record {
      each = λ r q lt has. let h = s.rule.versions.each r q lt has in record {
        early = h.early;
        within = h.within;
        not_above_drawn = h.not_above_drawn;
        known = h.known;
        base = h.base;
        pending = λ e. SomeView-set (HasLinked r q (S q)) (HasLinked r q (S q)) vs id v u s.at (spent ∙ s.allowed.is_open) (λ x. record { in_flight = flight ∙ x.in_flight; write = rw done x.write }) (λ y x. x) (h.pending e);
      };
      views = Each-own (WritesOk z g.lists S C T) vs id v u s.rule.versions.views s.at s.allowed.is_open (λ h. rw (flight, done, settled, decided) h);
    }
    links_kept true u spent flight done settled decided = record {
      each = λ r q lt has. version_either u spent flight done r q lt (grew.only r q has);
      views = Each-set (WritesOk z g.lists S C T) (WritesOk z lists' S C T) vs u id
          (λ i x ne at live h. record { linked = λ y k. linked_more x.flight x.work.settled x.work.decided y (h.linked y k); once = h.once; own = others_own i x ne at live h.own })
          (λ live. rw (flight, done, settled, decided) (mine_done (s.rule.versions.views id v s.at s.allowed.is_open)))
          s.rule.versions.views;
    }

  -- nothing is settled where it is decided
  decides : (b : Bool) → v.work.settled ≡ [] → WritesOk z g.lists S C T v → DoneOk z g.lists S C T v.flight v.work.linked v.work.settled b
  decides b none h = record {
    linked = λ u k. let o = h.linked u k in record {
      on_record = o.on_record;
      there = o.there;
      in_flight = o.in_flight;
      stamp = o.stamp;
      pending = o.pending;
      stored = λ yes. absurd (subst (Has u.record_number) none yes);
      value = o.value;
      whole = o.whole;
    };
    once = h.once;
    own = h.own;
  }

  -- a last status is stored
  module _ (u : Write) (s : Step kept z g m vs id v (store_status u)) where
    abbrev last : ℕ
    last = shown_at v.work.decided u.cells

    abbrev T' : ℕ → ℕ
    T' = at_number T u.place last

    o : LinkedOk z g.lists S C T v.flight v.work.settled v.work.decided u
    o = stored_of kept z g m vs id v u s

    one_record : (r q p : ℕ) → r < z.records → q < z.records → Has p (g.lists r) → Has p (g.lists q) → r ≡ q
    one_record r q p lt lt' a b = linked_one r q (sym ((s.rule.lists.each r lt).owned p a).1 ∙ ((s.rule.lists.each q lt').owned p b).1)

    elsewhere : (q : ℕ) → u.place ≢ q → T' q ≡ T q
    elsewhere q ne = at_number-other T u.place q last ne

    -- of the own versions only this one changes
    own_apart : (x : Write) → LinkedOk z g.lists S C T v.flight v.work.settled v.work.decided x → x.record_number ≢ u.record_number → u.place ≢ x.place
    own_apart x h ne same = ne (one_record x.record_number u.record_number x.place h.on_record o.on_record h.there (subst (λ (y : ℕ). Has y (g.lists u.record_number)) same o.there))

    other_apart : (i : ℕ) (x : View) (y : Write) → i ≢ id → At vs i x → x.spent ≡ false → LinkedOk z g.lists S C T x.flight x.work.settled x.work.decided y → u.place ≢ y.place
    other_apart i x y ne at live h same = stamps_apart (store_status u) s i x ne at live u.stamp o.in_flight (h.in_flight ∙ ap writing (sym h.stamp ∙ ap S (sym same) ∙ o.stamp))

    mine_linked : (x : Write) → Among x v.work.linked → LinkedOk z g.lists S C T' v.flight (u.record_number ∷ v.work.settled) v.work.decided x
    mine_linked x k =
        let ok = s.rule.versions.views id v s.at s.allowed.is_open in let h = ok.linked x k in record {
          on_record = h.on_record;
          there = h.there;
          in_flight = h.in_flight;
          stamp = h.stamp;
          pending = λ no. elsewhere x.place (own_apart x h (λ e. no (inl (sym e)))) ∙ h.pending (λ yes. no (inr yes));
          stored = λ yes. by_case ok h yes;
          value = h.value;
          whole = h.whole;
        } where
          by_case : WritesOk z g.lists S C T v → LinkedOk z g.lists S C T v.flight v.work.settled v.work.decided x → Has x.record_number (u.record_number ∷ v.work.settled) → T' x.place ≡ shown_at v.work.decided x.cells
          by_case ok h (inl e) = subst (λ (y : Write). T' y.place ≡ shown_at v.work.decided y.cells) (ok.once u x s.allowed.can.1 k e) (at_number-same T u.place last)
          by_case ok h (inr has) = elsewhere x.place (own_apart x h (λ e. s.allowed.can.2 (subst (λ (y : ℕ). Has y v.work.settled) e has))) ∙ h.stored has

    other_linked : (i : ℕ) (x : View) → i ≢ id → At vs i x → x.spent ≡ false → (y : Write) → LinkedOk z g.lists S C T x.flight x.work.settled x.work.decided y → LinkedOk z g.lists S C T' x.flight x.work.settled x.work.decided y
    other_linked i x ne at live y h = let away = elsewhere y.place (other_apart i x y ne at live h) in record {
      on_record = h.on_record;
      there = h.there;
      in_flight = h.in_flight;
      stamp = h.stamp;
      pending = λ no. away ∙ h.pending no;
      stored = λ yes. away ∙ h.stored yes;
      value = h.value;
      whole = h.whole;
    }

    pub settles : (w : View) → w.spent ≡ v.spent → w.flight ≡ v.flight → w.work.linked ≡ v.work.linked → w.work.settled ≡ u.record_number ∷ v.work.settled → w.work.decided ≡ v.work.decided
        → part.Versions z g.drawn g.lists S C T' (set vs id w)
    settles w spent flight done settled decided = record {
      each = λ r p lt has. let h = s.rule.versions.each r p lt has in record {
        early = h.early;
        within = h.within;
        not_above_drawn = h.not_above_drawn;
        known = at_cases T u.place last p (λ n. (2 ≤ n) × (n ≤ 5)) (λ e. let l = shown_at-last v.work.decided u.cells in (omega arith, omega arith)) (λ ne. h.known);
        base = λ zero_is. at_cases T u.place last p (λ n. n ≡ 4)
            (λ e. absurd (let f = flight_seat (store_status u) s id v s.at s.allowed.is_open u.stamp o.in_flight in let pos = f.0 in let st = o.stamp in let same : S u.place ≡ S p = ap S e in omega arith)) (λ ne. h.base zero_is);
        pending = λ two. SomeView-set (HasLinked r p (S p)) (HasLinked r p (S p)) vs id v w s.at (spent ∙ s.allowed.is_open) (λ x. record { in_flight = flight ∙ x.in_flight; write = rw done x.write }) (λ y x. x)
            (h.pending (at_cases T u.place last p (λ n. n ≡ 2 → T p ≡ 2) (λ e two'. absurd (let l = shown_at-last v.work.decided u.cells in omega arith)) (λ ne two'. two') two));
      };
      views = Each-set (WritesOk z g.lists S C T) (WritesOk z g.lists S C T') vs w id
          (λ i x ne at live h. record { linked = λ y k. other_linked i x ne at live y (h.linked y k); once = h.once; own = h.own })
          (λ live. let h = s.rule.versions.views id v s.at s.allowed.is_open in rw (flight, done, settled, decided) record { linked = mine_linked; once = h.once; own = h.own })
          s.rule.versions.views;
    }

  -- what a transaction in flight has linked stays
  cut_off : (r c p : ℕ) (s : Step kept z g m vs id v (cut r c p)) (i : ℕ) (x : View) → At vs i x → x.spent ≡ false → WritesOk z g.lists S C T x → WritesOk z (at_number g.lists r (up_to p (g.lists r))) S C T x
  cut_off r c p s i x at live h = record {
    linked = λ u k. let o = h.linked u k in record {
      on_record = o.on_record;
      there = (shrunk kept z g m vs id v r c p s).stays u.record_number u.place o.there (λ same. let high = flight_high kept z g m vs id v r c p s i x at live u.stamp o.in_flight in let st = o.stamp in omega arith);
      in_flight = o.in_flight;
      stamp = o.stamp;
      pending = o.pending;
      stored = o.stored;
      value = o.value;
      whole = o.whole;
    };
    once = h.once;
    own = λ t q y is lt has. h.own t q y is lt ((shrunk kept z g m vs id v r c p s).fewer q y has);
  }

  pub versions_kept : (k : Kind) → Step kept z g m vs id v k → part.Versions z (turned k v (m (name k v)) g).drawn (turned k v (m (name k v)) g).lists (stored (changed k v m)).stamps (stored (changed k v m)).cells (status_words (changed k v m)) (set vs id (after k v (m (name k v))))
  versions_kept (publish_stamp clock) s = framed _ s tt tt _ refl _ (draws_later clock s) (ends_all _ s s.allowed.can.3 _)
      record { linked = λ u k. absurd k; once = λ u x k l. absurd k; own = λ t r p is lt has at. absurd (new_stamp clock s r p lt has (at ∙ writing_one t (stamp_of clock v.number) (sym is))) } where
        writing_one : (a b : ℕ) → writing a ≡ writing b → a ≡ b
        writing_one a b e = cc
  versions_kept (link_head p j w) s =
      let o = joint_of kept z g m vs id v _ s p j w s.allowed.can.0 s.allowed.can.1 in
      links_kept _ s p j (at_number g.lists p.record_number (j.write.place ∷ g.lists p.record_number)) (grown_head g.lists p.record_number j.write.place) (stand_of kept z g m vs id v _ s p (stamped w) s.allowed.can.0).kept.on_record o
      (eqb (m (head p.record_number)) (suc p.place)) _ refl refl refl refl refl
  versions_kept (link_next p j a w) s =
      let o = joint_of kept z g m vs id v _ s p j w s.allowed.can.0 s.allowed.can.1 in
      let there = (subst (IsAbove (g.lists p.record_number) S j.write.stamp p.under) s.allowed.can.3 o.above).0 in
      links_kept _ s p j (at_number g.lists p.record_number (behind a j.write.place (g.lists p.record_number))) (grown_behind g.lists p.record_number j.write.place a there)
      (stand_of kept z g m vs id v _ s p (stamped w) s.allowed.can.0).kept.on_record o (eqb (m (next_word a)) (suc p.place)) _ refl refl refl refl refl
  versions_kept (decide_by_check p u w n) s = framed _ s tt tt _ refl g.drawn (λ seat. omega arith) (λ r p t two h. record { in_flight = h.in_flight; write = h.write })
      (decides _ s.allowed.can.5.unsettled (s.rule.versions.views id v s.at s.allowed.is_open))
  versions_kept decide_bare s = framed _ s tt tt _ refl g.drawn (λ seat. omega arith) (λ r p t two h. record { in_flight = h.in_flight; write = h.write })
      (decides _ s.allowed.can.4.unsettled (s.rule.versions.views id v s.at s.allowed.is_open))
  versions_kept (store_status u) s = settles u s _ refl refl refl refl refl
  versions_kept (finish ds) s = framed _ s tt tt _ refl g.drawn (λ seat. omega arith) (λ r p t two h. absurd (let e = sym s.allowed.can.0 ∙ h.in_flight in cc))
      (rw s.allowed.can.0 rests)
  versions_kept (cut r c p) s = record {
    each = λ q x lt has. let h = s.rule.versions.each q x lt ((shrunk kept z g m vs id v r c p s).fewer q x has) in record {
      early = h.early;
      within = h.within;
      not_above_drawn = h.not_above_drawn;
      known = h.known;
      base = h.base;
      pending = λ e. SomeView-set (HasLinked q x (S x)) (HasLinked q x (S x)) vs id v _ s.at s.allowed.is_open (λ y. record { in_flight = y.in_flight; write = y.write }) (λ y k. k) (h.pending e);
    };
    views = Each-set (WritesOk z g.lists S C T) (WritesOk z (at_number g.lists r (up_to p (g.lists r))) S C T) vs _ id (λ i x ne at live h. cut_off r c p s i x at live h)
        (λ live. cut_off r c p s id v s.at s.allowed.is_open (s.rule.versions.views id v s.at s.allowed.is_open)) s.rule.versions.views;
  }
  versions_kept k s = framed k s tt tt _ refl g.drawn (λ seat. omega arith) (λ r p t two h. search (ends_all k s, s.allowed.can, two, h)) (search (rests, s.rule.versions.views id v s.at s.allowed.is_open))

module _ (kept : State → Type 0) (z : Size) (g : World) (m : Memory) (vs : List View) (id : ℕ) (v : View) (s : Split kept z g m vs id v) where
  pub versions_split : part.Versions z g.drawn g.lists (stored m).stamps (stored m).cells (status_words m) (set vs id (split_left v) ++ split_right v ∷ [])
  versions_split = record {
    each = λ r p lt has. let h = s.rule.versions.each r p lt has in record {
      early = h.early;
      within = h.within;
      not_above_drawn = h.not_above_drawn;
      known = h.known;
      base = h.base;
      pending = λ e. SomeView-push (HasLinked r p (m (wts p))) (set vs id (split_left v)) (split_right v)
          (SomeView-set (HasLinked r p (m (wts p))) (HasLinked r p (m (wts p))) vs id v (split_left v) s.at s.is_open (λ x. absurd (ended kept z g m vs id v id v (s.rule.versions.views id v s.at s.is_open) s.ends r p (m (wts p)) e x)) (λ y x. x) (h.pending e));
    };
    views = Each-push (WritesOk z g.lists (stored m).stamps (stored m).cells (status_words m)) (WritesOk z g.lists (stored m).stamps (stored m).cells (status_words m)) (set vs id (split_left v)) (split_right v) (λ i u at live p. p)
        (λ live. rests kept z g m vs id v) (Each-own (WritesOk z g.lists (stored m).stamps (stored m).cells (status_words m)) vs id v _ s.rule.versions.views s.at s.is_open (λ p. rests kept z g m vs id v));
  }

module _ (kept : State → Type 0) (z : Size) (g : World) (m : Memory) (vs : List View) (id other : ℕ) (v w : View) (s : Join kept z g m vs id other v w) where
  pub versions_joined : part.Versions z g.drawn g.lists (stored m).stamps (stored m).cells (status_words m) (joined vs (joined_view v w) id other)
  versions_joined = record {
    each = λ r p lt has. let h = s.rule.versions.each r p lt has in record {
      early = h.early;
      within = h.within;
      not_above_drawn = h.not_above_drawn;
      known = h.known;
      base = h.base;
      pending = λ e. SomeView-join (HasLinked r p (m (wts p))) vs id other v w (joined_view v w) s.at s.at_other s.apart s.is_open (λ x. absurd (ended kept z g m vs id v id v (s.rule.versions.views id v s.at s.is_open) s.ends r p (m (wts p)) e x))
          (λ x. ended kept z g m vs id v other w (s.rule.versions.views other w s.at_other s.other_open) s.other_ends r p (m (wts p)) e x) (h.pending e);
    };
    views = Each-join vs _ id other (WritesOk z g.lists (stored m).stamps (stored m).cells (status_words m)) (WritesOk z g.lists (stored m).stamps (stored m).cells (status_words m)) (λ i u h live p. p)
        (λ live. rests kept z g m vs id v) s.rule.versions.views;
  }

pub versions_start : (z : Size) → IsSize z → part.Versions z (first_world z).drawn (first_world z).lists (stored (start z)).stamps (stored (start z)).cells (status_words (start z)) (first_view z ∷ [])
versions_start z h = record {
  each = λ r p lt has. by_case r p lt has;
  views = Each-one (WritesOk z (first_world z).lists (stored (start z)).stamps (stored (start z)).cells (status_words (start z))) (first_view z) record { linked = λ u k. absurd k; once = λ u x k l. absurd k; own = λ t r p is lt has at. absurd cc };
} where
  no_stamp : (b : Bool) → cond {A = ℕ} b 0 0 ≡ 0
  no_stamp true = refl
  no_stamp false = refl

  at_base : (r : ℕ) → r < z.records → VersionOk z nothing_drawn (stored (start z)).stamps (status_words (start z)) (first_view z ∷ []) r r
  at_base r lt =
      let zero_is : (stored (start z)).stamps r ≡ 0 = no_stamp (nat_lt r (places z)) in
      let deleted : status_words (start z) r ≡ 4 = rw (ltb-true_from r (places z) (omega arith), ltb-true_from r z.records lt) in record {
        early = omega arith;
        within = let some_seat = h.has_seat in omega arith;
        not_above_drawn = omega arith;
        known = (omega arith, omega arith);
        base = λ e. deleted;
        pending = λ e. absurd (omega arith);
      }

  by_case : (r p : ℕ) → r < z.records → Has p (r ∷ []) → VersionOk z nothing_drawn (stored (start z)).stamps (status_words (start z)) (first_view z ∷ []) r p
  by_case r p lt (inl e) = subst (VersionOk z nothing_drawn (stored (start z)).stamps (status_words (start z)) (first_view z ∷ []) r) e (at_base r lt)
  by_case r p lt (inr has) = absurd has
