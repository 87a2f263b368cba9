-- Values: a transaction that decides has linked what it writes, and a last status shows what its entry says.
use Rattle.std.proofs.Common.{◌≡◌, ◌≢◌, ◌⊎◌, ℕ, suc, ◌<◌, ◌≤◌, Bool, true, false, cond, eqb, nat_le, List, [], ◌∷◌, ◌++◌, set, refl, sym, ap, ◌∙◌, subst, inl, inr, ⊎_elim, arith, append-nil}
use mathlib.Core.Logic.{dite}
use native.Mathlib.Decide.{ℕ_discrete}
use Rattle.std.specs.Prelude.{nat_lt}
use Rattle.atomic_table.proofs.Lists.{set_else}
use Rattle.plain_data.specs.State.{State}
use Rattle.word_layout.specs.Size.{Size, IsSize, places}
use Rattle.word_layout.specs.Name.{head, status, rts, next as next_word}
use Rattle.core_rule.specs.Memory.{Memory, stored, start}
use Rattle.core_rule.specs.World.{World, Owner, linked, at_number, behind, first_world}
use Rattle.core_rule.specs.View.{View, writing, Read, Write, Stand, Joint, Logged, first_view}
use Rattle.core_rule.specs.Views.{Has, Among, SomeView}
use Rattle.core_rule.specs.Rule.{status_words, floor_words}
use Rattle.core_rule.specs.Searching.{IsFinal, shown_at, Ends}
use Rattle.core_rule.specs.Deciding.{stamp_in, commit_of, snapshot_of, IsUndecided}
use Rattle.core_rule.specs.Entries.{InLog, Wrote}
use Rattle.core_rule.specs.Kinds.{Kind, link_head, link_next, decide_by_check, decide_bare, store_status, finish, name, after, turned, changed}
use Rattle.core_rule.specs.Hands.{split_left, split_right, joined_view}
use Rattle.core_rule.specs.Parts.Places.{Shows}
use Rattle.core_rule.specs.Parts.Linking.{JointOk, IsAbove}
use Rattle.core_rule.specs.Parts.Versions.{LinkedOk}
use Rattle.core_rule.specs.Parts.Values.{WrittenBy, Publishes, IsInstalled}
use Rattle.core_rule.specs.Parts.Values as part
use Rattle.core_rule.proofs.EachView.{Each-one, SomeView-set, SomeView-own, SomeView-push, SomeView-join, same_view, joined}
use Rattle.core_rule.proofs.Step.{Step, at_cases, at_number-other, at_number-same}
use Rattle.core_rule.proofs.Making.{Split, Join}
use Rattle.core_rule.proofs.Among.{Among-left, Among-either, if_more}
use Rattle.core_rule.proofs.Listed.{Grown, one_place, grown_head, grown_behind}
use Rattle.core_rule.proofs.Fresh.{fresh}
use Rattle.core_rule.proofs.Proper.{shown_true}
use Rattle.core_rule.proofs.Logs.{Wrote-more, InLog-set, InLog-unset, InLog-still, InLog-push, InLog-unpush, InLog-join, InLog-unjoin}
use Rattle.core_rule.proofs.Touched.{Quiet, quiet, Steady, steady}
use Rattle.core_rule.specs.Kinds.{raise_floor, cut}
use Rattle.core_rule.specs.World.{up_to}
use Rattle.core_rule.specs.View.{Work, found}
use native.Mathlib.Decide.{dec_lt}
use Rattle.core_rule.proofs.Collected.{work_of}
use Rattle.core_rule.proofs.Cutting.{cut_work, shrunk}
use Rattle.core_rule.proofs.Working.{joint_of, stored_of, was_pending, linked_in_flight}
use Rattle.core_rule.proofs.Parts.FilledKept.{CellsAre-same}
use Rattle.core_rule.proofs.Parts.VersionsKept.{stamps_apart}

linked_one : (a b : ℕ) → linked a ≡ linked b → a ≡ b
linked_one a b e = cc

-- the words of one place are the same
module _ (S S' : ℕ → ℕ) (C C' : ℕ → ℕ → ℕ) (T T' : ℕ → ℕ) (vs vs' : List View) where
  WrittenBy-same : (r p : ℕ) → S' p ≡ S p → ((i : ℕ) → C' p i ≡ C p i) → T' p ≡ T p → ((e : Logged) → InLog vs e → InLog vs' e) → WrittenBy S C T vs r p → WrittenBy S' C' T' vs' r p
  WrittenBy-same r p stamp cells shows there h = record {
    entry = h.entry;
    write = h.write;
    wrote = Wrote-more vs vs' there r h.entry h.write h.wrote;
    place = h.place;
    stamp = h.stamp ∙ sym stamp;
    value = CellsAre-same (C p) (C' p) 0 h.write.cells cells h.value;
    whole = h.whole;
    shows = shows ∙ h.shows;
  }

  IsInstalled-same : (lists lists' : ℕ → List ℕ) (w : ℕ) (x : Write) → (Has x.place (lists x.record_number) → Has x.place (lists' x.record_number)) → S' x.place ≡ S x.place → ((i : ℕ) → C' x.place i ≡ C x.place i)
      → T' x.place ≡ T x.place → (SomeView (Publishes w x) vs → SomeView (Publishes w x) vs') → IsInstalled lists S C T vs w x → IsInstalled lists' S' C' T' vs' w x
  IsInstalled-same lists lists' w x there stamp cells shows still h = record {
    there = there h.there;
    stamp = stamp ∙ h.stamp;
    value = CellsAre-same (C x.place) (C' x.place) 0 x.cells cells h.value;
    shows = ⊎_elim (λ (e : T x.place ≡ shown_at true x.cells). inl (shows ∙ e)) (λ (e : (T x.place ≡ 2) × SomeView (Publishes w x) vs). inr (shows ∙ e.0, still e.1)) h.shows;
  }

-- nothing is left to be published
published : (w : ℕ) (x : Write) (v u : View) → Ends v.work → Publishes w x v → Publishes w x u
published w x v u ends h = absurd (h.unsettled (ends.settled x h.linked))

-- the same writes stand in the logs, and the same views publish
same_writes : (z : Size) (lists : ℕ → List ℕ) (floors S : ℕ → ℕ) (C : ℕ → ℕ → ℕ) (T : ℕ → ℕ) (vs vs' : List View) → ((e : Logged) → InLog vs e → InLog vs' e) → ((e : Logged) → InLog vs' e → InLog vs e)
    → ((w : ℕ) (x : Write) → SomeView (Publishes w x) vs → SomeView (Publishes w x) vs') → part.Values z lists floors S C T vs → part.Values z lists floors S C T vs'
same_writes z lists floors S C T vs vs' there back still h = record {
  each = λ r p lt has final pos. WrittenBy-same S S C C T T vs vs' r p refl (λ i. refl) refl there (h.each r p lt has final pos);
  installed = λ r e x w. let i = h.installed r e x (Wrote-more vs' vs back r e x w) in
      (i.0, ⊎_elim (λ (low : e.stamp < floors r). inl low) (λ (k : IsInstalled lists S C T vs e.stamp x). inr (IsInstalled-same S S C C T T vs vs' lists lists e.stamp x (λ y. y) refl (λ n. refl) refl (still e.stamp x) k)) i.1);
  aborted = λ r p lt has five e x w. h.aborted r p lt has five e x (Wrote-more vs' vs back r e x w);
}

-- fewer versions, and higher floors: what was installed stands there, or is below the floor
lessened : (z : Size) (lists lists' : ℕ → List ℕ) (floors floors' S : ℕ → ℕ) (C : ℕ → ℕ → ℕ) (T : ℕ → ℕ) (vs : List View) → ((r p : ℕ) → Has p (lists' r) → Has p (lists r)) → ((r : ℕ) → r < z.records → floors r ≤ floors' r)
    → ((r p : ℕ) → r < z.records → Has p (lists r) → floors' r ≤ S p → Has p (lists' r)) → part.Values z lists floors S C T vs → part.Values z lists' floors' S C T vs
lessened z lists lists' floors floors' S C T vs fewer rises stays h = record {
  each = λ r p lt has. h.each r p lt (fewer r p has);
  installed = λ r e x w. let i = h.installed r e x w in (
    i.0,
    ⊎_elim (λ (low : e.stamp < floors r). inl (let up = rises r i.0 in omega arith))
        (λ (k : IsInstalled lists S C T vs e.stamp x). dite (dec_lt e.stamp (floors' r)) (λ low. inl low)
        (λ high. let st = k.stamp in let same = w.of_record in
        let high' : floors' x.record_number ≤ S x.place = rw same (omega arith) in
        inr record { there = stays x.record_number x.place (rw same i.0) k.there high'; stamp = k.stamp; value = k.value; shows = k.shows })) i.1,
  );
  aborted = λ r p lt has. h.aborted r p lt (fewer r p has);
}

module _ (kept : State → Type 0) (z : Size) (g : World) (m : Memory) (vs : List View) (id : ℕ) (v : View) where
  abbrev S : ℕ → ℕ
  S = (stored m).stamps

  abbrev C : ℕ → ℕ → ℕ
  C = (stored m).cells

  abbrev T : ℕ → ℕ
  T = status_words m

  -- a write that was logged before, or one that is linked
  abbrev IsOld : View → ℕ → Logged → Write → Type 0
  IsOld u r e x = Wrote vs r e x ⊎ ((r < z.records) × IsInstalled g.lists S C T (set vs id u) e.stamp x)

  framed : (k : Kind) → Step kept z g m vs id v k → Quiet k → Steady k → (u : View) → u.spent ≡ v.spent → ((e : Logged) → Among e v.log → Among e u.log)
      → ((r : ℕ) (e : Logged) (x : Write) → Wrote (set vs id u) r e x → IsOld u r e x) → ((w : ℕ) (x : Write) → Publishes w x v → Publishes w x u)
      → part.Values z g.lists (floor_words m) (stored (changed k v m)).stamps (stored (changed k v m)).cells (status_words (changed k v m)) (set vs id u)
  framed k s h h' u spent more old still =
      let q = quiet kept z g m vs id v k s h in
      let S' = (stored (changed k v m)).stamps in let C' = (stored (changed k v m)).cells in let T' = status_words (changed k v m) in
      let alive : u.spent ≡ false = spent ∙ s.allowed.is_open in record {
        each = λ r p lt has final pos.
            let a = q.stamps r p lt has in let b = steady kept z g m vs id v k s h' r p lt has in
            WrittenBy-same S S' C C' T T' vs (set vs id u) r p a (λ i. q.cells r p i lt has) b (InLog-set vs id v u s.at s.allowed.is_open alive more)
            (s.rule.values.each r p lt has (omega arith, omega arith) (omega arith));
        installed = λ r e x w. ⊎_elim
            (λ (o : Wrote vs r e x). let i = s.rule.values.installed r e x o in (
              i.0,
              ⊎_elim (λ (low : e.stamp < floor_words m r). inl low)
                  (λ (k' : IsInstalled g.lists S C T vs e.stamp x). let lt : x.record_number < z.records = rw w.of_record i.0 in
                  inr (IsInstalled-same S S' C C' T T' vs (set vs id u) g.lists g.lists e.stamp x (λ y. y) (q.stamps x.record_number x.place lt k'.there) (λ j. q.cells x.record_number x.place j lt k'.there)
                  (steady kept z g m vs id v k s h' x.record_number x.place lt k'.there)
                  (SomeView-set (Publishes e.stamp x) (Publishes e.stamp x) vs id v u s.at alive (still e.stamp x) (λ y p. p)) k')) i.1,
            ))
            (λ (o : (r < z.records) × IsInstalled g.lists S C T (set vs id u) e.stamp x). let lt : x.record_number < z.records = rw w.of_record o.0 in let k' = o.1 in (
              o.0,
              inr (IsInstalled-same S S' C C' T T' (set vs id u) (set vs id u) g.lists g.lists e.stamp x (λ y. y) (q.stamps x.record_number x.place lt k'.there) (λ j. q.cells x.record_number x.place j lt k'.there)
                  (steady kept z g m vs id v k s h' x.record_number x.place lt k'.there) (λ y. y) k'),
            ))
            (old r e x w);
        aborted = λ r p lt has five e x w. by_old r p lt has (sym (steady kept z g m vs id v k s h' r p lt has) ∙ five) e x w (old r e x w) (q.stamps r p lt has);
      } where
        by_old : (r p : ℕ) → r < z.records → Has p (g.lists r) → T p ≡ 5 → (e : Logged) (x : Write) → Wrote (set vs id u) r e x → IsOld u r e x → (stored (changed k v m)).stamps p ≡ S p → e.stamp ≢ (stored (changed k v m)).stamps p
        by_old r p lt has five e x w (inl o) at same = s.rule.values.aborted r p lt has five e x o (same ∙ at)
        by_old r p lt has five e x w (inr o) at same =
            let i = o.1 in
            let there : Has x.place (g.lists r) = subst (λ (y : ℕ). Has x.place (g.lists y)) w.of_record i.there in
            let here : x.place ≡ p = one_place S (g.lists r) x.place p (s.rule.lists.each r lt).falls there has (i.stamp ∙ same ∙ at) in
            let is : T x.place ≡ 5 = ap T here ∙ five in let last = shown_true x.cells in
            ⊎_elim (λ (f : T x.place ≡ shown_at true x.cells). absurd (omega arith)) (λ (f : (T x.place ≡ 2) × SomeView (Publishes e.stamp x) (set vs id u)). let two = f.0 in absurd (omega arith)) i.shows

  -- no commit entry is added
  module _ (k : Kind) (s : Step kept z g m vs id v k) (u : View) (alive : u.spent ≡ false) where
    was : ((e : Logged) → Among e u.log → e.snapshot ≡ false → Among e v.log) → (r : ℕ) (e : Logged) (x : Write) → Wrote (set vs id u) r e x → Wrote vs r e x
    was back r e x w = record {
      logged = ⊎_elim (λ (a : Among e u.log). record { index = id; view = v; here = s.at; is_open = s.allowed.is_open; among = back e a w.commit }) (λ (l : InLog vs e). l) (InLog-unset vs id v u s.at s.allowed.is_open alive e w.logged);
      commit = w.commit;
      among = w.among;
      of_record = w.of_record;
    }

  -- the log is the same
  same_log : (k : Kind) → Step kept z g m vs id v k → Quiet k → Steady k → (u : View) → u.spent ≡ v.spent → u.log ≡ v.log → ((w : ℕ) (x : Write) → Publishes w x v → Publishes w x u)
      → part.Values z g.lists (floor_words m) (stored (changed k v m)).stamps (stored (changed k v m)).cells (status_words (changed k v m)) (set vs id u)
  same_log k s h h' u spent log still =
      framed k s h h' u spent (λ e a. subst (Among e) (sym log) a) (λ r e x w. inl (was k s u (spent ∙ s.allowed.is_open) (λ f a commit. subst (Among f) log a) r e x w)) still

  -- a version is linked
  module _ (k : Kind) (s : Step kept z g m vs id v k) (p : Stand) (j : Joint) (lists' : ℕ → List ℕ) (grew : Grown p.record_number j.write.place g.lists lists') (o : JointOk z g.owner g.lists (stored m) v.number v.flight v.work.linked p j) where
    new_pending : m (status j.write.place) ≡ 2
    new_pending = subst (λ (x : Owner). Shows x (m (status j.write.place))) o.mark.owned (s.rule.places.shows j.write.place o.mark.within)

    links_kept : (b : Bool) (u : View) → u.spent ≡ v.spent → u.log ≡ v.log → ((w : ℕ) (x : Write) → Publishes w x v → Publishes w x u) → part.Values z (cond b lists' g.lists) (floor_words m) S C T (set vs id u)
    links_kept b u spent log still = record { each = by_each b; installed = λ r e x w. by_installed b r e x (was k s u alive (λ f a commit. subst (Among f) log a) r e x w); aborted = λ r q lt has five e x w. s.rule.values.aborted r q lt (by_aborted b r q has five) five e x (was k s u alive (λ f a commit. subst (Among f) log a) r e x w) } where
      alive : u.spent ≡ false
      alive = spent ∙ s.allowed.is_open

      there : (e : Logged) → InLog vs e → InLog (set vs id u) e
      there = InLog-set vs id v u s.at s.allowed.is_open alive (λ e a. subst (Among e) (sym log) a)

      old_each : (r q : ℕ) → r < z.records → Has q (g.lists r) → IsFinal (T q) → 0 < S q → WrittenBy S C T (set vs id u) r q
      old_each r q lt has final pos = WrittenBy-same S S C C T T vs (set vs id u) r q refl (λ i. refl) refl there (s.rule.values.each r q lt has final pos)

      by_each : (b : Bool) (r q : ℕ) → r < z.records → Has q (cond b lists' g.lists r) → IsFinal (T q) → 0 < S q → WrittenBy S C T (set vs id u) r q
      by_each false r q lt has final pos = old_each r q lt has final pos
      by_each true r q lt has final pos = ⊎_elim
          (λ (e : (p.record_number ≡ r) × (j.write.place ≡ q)). absurd (let two = new_pending in let same : T j.write.place ≡ T q = ap T e.1 in let low = final.0 in omega arith))
          (λ (e : Has q (g.lists r)). old_each r q lt e final pos)
          (grew.only r q has)

      by_aborted : (b : Bool) (r q : ℕ) → Has q (cond b lists' g.lists r) → T q ≡ 5 → Has q (g.lists r)
      by_aborted false r q has five = has
      by_aborted true r q has five = ⊎_elim
          (λ (e : (p.record_number ≡ r) × (j.write.place ≡ q)). absurd (let two = new_pending in let same : T j.write.place ≡ T q = ap T e.1 in omega arith))
          (λ (e : Has q (g.lists r)). e)
          (grew.only r q has)

      grown_or_same : (b : Bool) (r q : ℕ) → Has q (g.lists r) → Has q (cond b lists' g.lists r)
      grown_or_same false r q has = has
      grown_or_same true r q has = grew.old r q has

      by_installed : (b : Bool) (r : ℕ) (e : Logged) (x : Write) → Wrote vs r e x → (r < z.records) × ((e.stamp < floor_words m r) ⊎ IsInstalled (cond b lists' g.lists) S C T (set vs id u) e.stamp x)
      by_installed b r e x w = let i = s.rule.values.installed r e x w in (
        i.0,
        ⊎_elim (λ (low : e.stamp < floor_words m r). inl low)
            (λ (k' : IsInstalled g.lists S C T vs e.stamp x). inr (IsInstalled-same S S C C T T vs (set vs id u) g.lists (cond b lists' g.lists) e.stamp x (grown_or_same b x.record_number x.place) refl (λ n. refl) refl
            (SomeView-set (Publishes e.stamp x) (Publishes e.stamp x) vs id v u s.at alive (still e.stamp x) (λ y q. q)) k')) i.1,
      )

  still_links : (b : Bool) (j : Joint) (u : View) → u.flight ≡ v.flight → u.work.linked ≡ cond b (v.work.linked ++ j.write ∷ []) v.work.linked → u.work.settled ≡ v.work.settled → u.work.decided ≡ v.work.decided
      → (w : ℕ) (x : Write) → Publishes w x v → Publishes w x u
  still_links b j u flight done settled decided w x h = record {
    in_flight = flight ∙ h.in_flight;
    decided = decided ∙ h.decided;
    linked = subst (Among x) (sym done) (more b);
    unsettled = λ yes. h.unsettled (subst (Has x.record_number) settled yes);
  } where
    more : (b : Bool) → Among x (cond b (v.work.linked ++ j.write ∷ []) v.work.linked)
    more false = h.linked
    more true = Among-left x v.work.linked (j.write ∷ []) h.linked

  -- the transaction in flight commits: its writes are linked, and pending
  module _ (k : Kind) (s : Step kept z g m vs id v k) (ds : List Read) (undecided : IsUndecided v.work) where
    not_yet : (u : View) (w : ℕ) (x : Write) → Publishes w x v → Publishes w x u
    not_yet u w x h = absurd (let e : true ≡ false = sym h.decided ∙ undecided.undecided in cc)

    abbrev e : Logged
    e = commit_of v.flight ds v.work.linked

    module _ (u : View) (alive : u.spent ≡ false) (flight : u.flight ≡ v.flight) (done : u.work.linked ≡ v.work.linked) (settled : u.work.settled ≡ v.work.settled) (decided : u.work.decided ≡ true) where
      installs : (r : ℕ) (x : Write) → Among x v.work.linked → x.record_number ≡ r → (r < z.records) × IsInstalled g.lists S C T (set vs id u) (stamp_in v.flight) x
      installs r x mine of_record =
          let o = (s.rule.versions.views id v s.at s.allowed.is_open).linked x mine in
          let is : stamp_in v.flight ≡ x.stamp = ap stamp_in o.in_flight in
          let unsettled : Has x.record_number v.work.settled → ⊥ = λ yes. subst (Has x.record_number) undecided.unsettled yes in (
            subst (λ (y : ℕ). y < z.records) of_record o.on_record,
            record {
              there = o.there;
              stamp = o.stamp ∙ sym is;
              value = o.value;
              shows = inr (
                o.pending unsettled,
                SomeView-own (Publishes (stamp_in v.flight) x) vs id v u s.at alive record {
                  in_flight = flight ∙ o.in_flight ∙ ap writing (sym is);
                  decided = decided;
                  linked = subst (Among x) (sym done) mine;
                  unsettled = λ yes. unsettled (subst (Has x.record_number) settled yes);
                },
              );
            },
          )

      commits : u.log ≡ v.log ++ e ∷ [] → (r : ℕ) (f : Logged) (x : Write) → Wrote (set vs id u) r f x → IsOld u r f x
      commits grows r f x w = ⊎_elim
          (λ (a : Among f u.log). ⊎_elim
          (λ (old : Among f v.log). inl record { logged = record { index = id; view = v; here = s.at; is_open = s.allowed.is_open; among = old }; commit = w.commit; among = w.among; of_record = w.of_record })
          (λ (same : e ≡ f). inr (subst (λ (y : Logged). (r < z.records) × IsInstalled g.lists S C T (set vs id u) y.stamp x) same (installs r x (subst (λ (y : Logged). Among x y.writes) (sym same) w.among) w.of_record)))
          (Among-either f e v.log (subst (Among f) grows a)))
          (λ (l : InLog vs f). inl record { logged = l; commit = w.commit; among = w.among; of_record = w.of_record })
          (InLog-unset vs id v u s.at s.allowed.is_open alive f w.logged)

    -- where it was found that it may
    decides : Quiet k → Steady k → (b : Bool) (u : View) → u.spent ≡ v.spent → u.flight ≡ v.flight → u.work.linked ≡ v.work.linked → u.work.settled ≡ v.work.settled → u.work.decided ≡ b
        → u.log ≡ v.log ++ cond b (e ∷ []) []
        → part.Values z g.lists (floor_words m) (stored (changed k v m)).stamps (stored (changed k v m)).cells (status_words (changed k v m)) (set vs id u)
    decides h h' true u spent flight done settled decided grows = framed k s h h' u spent (λ f a. subst (Among f) (sym grows) (Among-left f v.log (e ∷ []) a))
        (commits u (spent ∙ s.allowed.is_open) flight done settled decided grows) (not_yet u)
    decides h h' false u spent flight done settled decided grows = same_log k s h h' u spent (grows ∙ append-nil v.log) (not_yet u)

  -- a last status is stored
  module _ (u : Write) (s : Step kept z g m vs id v (store_status u)) where
    abbrev last : ℕ
    last = shown_at v.work.decided u.cells

    abbrev T' : ℕ → ℕ
    T' = at_number T u.place last

    o : LinkedOk z g.lists S C T v.flight v.work.settled v.work.decided u
    o = stored_of kept z g m vs id v u s

    two : T u.place ≡ 2
    two = was_pending kept z g m vs id v u s

    one_record : (r q p : ℕ) → r < z.records → q < z.records → Has p (g.lists r) → Has p (g.lists q) → r ≡ q
    one_record r q p lt lt' a b = linked_one r q (sym ((s.rule.lists.each r lt).owned p a).1 ∙ ((s.rule.lists.each q lt').owned p b).1)

    elsewhere : (q : ℕ) → u.place ≢ q → T' q ≡ T q
    elsewhere q ne = at_number-other T u.place q last ne

    module _ (w : View) (spent : w.spent ≡ v.spent) (log : w.log ≡ v.log) (flight : w.flight ≡ v.flight) (done : w.work.linked ≡ v.work.linked) (settled : w.work.settled ≡ u.record_number ∷ v.work.settled) (decided : w.work.decided ≡ v.work.decided) where
      alive : w.spent ≡ false
      alive = spent ∙ s.allowed.is_open

      there : (e : Logged) → InLog vs e → InLog (set vs id w) e
      there = InLog-set vs id v w s.at s.allowed.is_open alive (λ e a. subst (Among e) (sym log) a)

      final_decided : (b : Bool) (xs : List ℕ) → IsFinal (shown_at b xs) → b ≡ true
      final_decided true xs h = refl
      final_decided false [] h = absurd (let low = h.1 in omega arith)
      final_decided false (x ∷ xs) h = absurd (let low = h.1 in omega arith)

      -- what is shown as final was decided
      here : (r : ℕ) → r < z.records → Has u.place (g.lists r) → IsFinal last → WrittenBy S C T' (set vs id w) r u.place
      here r lt has final =
          let yes = final_decided v.work.decided u.cells final in
          let entered = ((s.rule.txns id v s.at s.allowed.is_open).decided yes).1.entered in record {
            entry = commit_of v.flight v.work.finished v.work.linked;
            write = u;
            wrote = record {
              logged = there (commit_of v.flight v.work.finished v.work.linked) record { index = id; view = v; here = s.at; is_open = s.allowed.is_open; among = entered };
              commit = refl;
              among = s.allowed.can.1;
              of_record = one_record u.record_number r u.place o.on_record lt o.there has;
            };
            place = refl;
            stamp = ap stamp_in o.in_flight ∙ sym o.stamp;
            value = o.value;
            whole = o.whole;
            shows = at_number-same T u.place last ∙ ap (λ (b : Bool). shown_at b u.cells) yes;
          }

      each_kept : (r p : ℕ) → r < z.records → Has p (g.lists r) → IsFinal (T' p) → 0 < S p → WrittenBy S C T' (set vs id w) r p
      each_kept r p lt has final pos = dite (ℕ_discrete u.place p)
          (λ same. subst (WrittenBy S C T' (set vs id w) r) same (here r lt (subst (λ (y : ℕ). Has y (g.lists r)) (sym same) has)
          (let a : T' p ≡ last = subst (λ (y : ℕ). T' y ≡ last) same (at_number-same T u.place last) in subst IsFinal a final)))
          (λ ne. let a = elsewhere p ne in WrittenBy-same S S C C T T' vs (set vs id w) r p refl (λ i. refl) a there (s.rule.values.each r p lt has (subst IsFinal a final) pos))

      settles : (r : ℕ) (e : Logged) (x : Write) → r < z.records → x.record_number ≡ r → IsInstalled g.lists S C T vs e.stamp x → IsInstalled g.lists S C T' (set vs id w) e.stamp x
      settles r e x lt of_record h = record {
        there = h.there;
        stamp = h.stamp;
        value = h.value;
        shows = ⊎_elim
            (λ (f : T x.place ≡ shown_at true x.cells). inl (elsewhere x.place (λ same. not_pending x.cells (sym f ∙ ap T (sym same) ∙ two)) ∙ f))
            (λ (f : (T x.place ≡ 2) × SomeView (Publishes e.stamp x) vs). pending f.0 f.1) h.shows;
      } where
        not_pending : (xs : List ℕ) → shown_at true xs ≡ 2 → ⊥
        not_pending [] e = absurd (omega arith)
        not_pending (x ∷ xs) e = absurd (omega arith)

        -- by the own transaction
        mine : T x.place ≡ 2 → Publishes e.stamp x v → (T' x.place ≡ shown_at true x.cells) ⊎ ((T' x.place ≡ 2) × SomeView (Publishes e.stamp x) (set vs id w))
        mine is y = dite (ℕ_discrete u.record_number x.record_number)
            (λ same. let one = (s.rule.versions.views id v s.at s.allowed.is_open).once u x s.allowed.can.1 y.linked same in
            inl (subst (λ (a : Write). T' a.place ≡ shown_at true a.cells) one (at_number-same T u.place last ∙ ap (λ (b : Bool). shown_at b u.cells) y.decided)))
            (λ ne.
            let apart : u.place ≢ x.place = λ same. ne (one_record u.record_number x.record_number x.place o.on_record (rw of_record lt) (subst (λ (a : ℕ). Has a (g.lists u.record_number)) same o.there) h.there) in
            inr (
              elsewhere x.place apart ∙ is,
              SomeView-own (Publishes e.stamp x) vs id v w s.at alive record {
                in_flight = flight ∙ y.in_flight;
                decided = decided ∙ y.decided;
                linked = subst (Among x) (sym done) y.linked;
                unsettled = λ yes. ⊎_elim (λ (a : u.record_number ≡ x.record_number). ne a) (λ (a : Has x.record_number v.work.settled). y.unsettled a) (subst (Has x.record_number) settled yes);
              },
            ))

        pending : T x.place ≡ 2 → SomeView (Publishes e.stamp x) vs → (T' x.place ≡ shown_at true x.cells) ⊎ ((T' x.place ≡ 2) × SomeView (Publishes e.stamp x) (set vs id w))
        pending is y = dite (ℕ_discrete y.index id)
            (λ same. mine is (subst (Publishes e.stamp x) (sym (same_view vs y.index id v y.view s.at same y.here)) y.holds))
            (λ ne.
            let apart : u.place ≢ x.place = λ same. stamps_apart kept z g m vs id v _ s y.index y.view ne y.here y.is_open e.stamp (o.in_flight ∙ ap writing (sym o.stamp ∙ ap S same ∙ h.stamp)) y.holds.in_flight in
            inr (elsewhere x.place apart ∙ is, record { index = y.index; view = y.view; here = set_else vs id y.index w ne ∙ y.here; is_open = y.is_open; holds = y.holds }))

      pub stores_kept : part.Values z g.lists (floor_words m) S C T' (set vs id w)
      stores_kept = record {
        each = each_kept;
        installed = λ r e x k. let i = s.rule.values.installed r e x (was _ s w alive (λ f a commit. subst (Among f) log a) r e x k) in
            (i.0, ⊎_elim (λ (low : e.stamp < floor_words m r). inl low) (λ (h : IsInstalled g.lists S C T vs e.stamp x). inr (settles r e x i.0 k.of_record h)) i.1);
        aborted = λ r p lt has five e x k. not_entered r p lt has five e x (was _ s w alive (λ f a commit. subst (Among f) log a) r e x k);
      } where
        undecided : (b : Bool) (xs : List ℕ) → shown_at b xs ≡ 5 → b ≡ false
        undecided true xs five = absurd (let low = shown_true xs in omega arith)
        undecided false xs five = refl

        -- what is aborted was not decided
        not_entered : (r p : ℕ) → r < z.records → Has p (g.lists r) → T' p ≡ 5 → (e : Logged) (x : Write) → Wrote vs r e x → e.stamp ≢ S p
        not_entered r p lt has five e x k same = dite (ℕ_discrete u.place p)
            (λ here.
            let last_five : last ≡ 5 = sym (at_number-same T u.place last) ∙ ap T' here ∙ five in
            let at = o.stamp in let st : S u.place ≡ S p = ap S here in
            fresh kept z g m vs id v _ s (linked_in_flight kept z g m vs id v _ s u s.allowed.can.1) (undecided v.work.decided u.cells last_five) e k.logged k.commit (ap stamp_in o.in_flight ∙ sym at ∙ st ∙ sym same))
            (λ ne. s.rule.values.aborted r p lt has (sym (elsewhere p ne) ∙ five) e x k same)

  -- the own transaction and log are the same
  collecting : (k : Kind) → Step kept z g m vs id v k → (u : View) → u.spent ≡ v.spent → u.log ≡ v.log → u.flight ≡ v.flight → record u.work { item = v.work.item } ≡ v.work → part.Values z g.lists (floor_words m) S C T (set vs id u)
  collecting k s u spent log flight work = same_writes z g.lists (floor_words m) S C T vs (set vs id u)
      (InLog-set vs id v u s.at s.allowed.is_open (spent ∙ s.allowed.is_open) (λ e a. subst (Among e) (sym log) a))
      (InLog-still vs id v u s.at s.allowed.is_open (spent ∙ s.allowed.is_open) log)
      (λ w x. SomeView-set (Publishes w x) (Publishes w x) vs id v u s.at (spent ∙ s.allowed.is_open) (λ h. record {
        in_flight = flight ∙ h.in_flight;
        decided = ap (λ (y : Work). y.decided) work ∙ h.decided;
        linked = subst (Among x) (sym (ap (λ (y : Work). y.linked) work)) h.linked;
        unsettled = λ has. h.unsettled (subst (Has x.record_number) (ap (λ (y : Work). y.settled) work) has);
      }) (λ y h. h))
      s.rule.values

  pub values_kept : (k : Kind) → Step kept z g m vs id v k → part.Values z (turned k v (m (name k v)) g).lists (floor_words (changed k v m)) (stored (changed k v m)).stamps (stored (changed k v m)).cells (status_words (changed k v m)) (set vs id (after k v (m (name k v))))
  values_kept (link_head p j w) s =
      let o = joint_of kept z g m vs id v _ s p j w s.allowed.can.0 s.allowed.can.1 in
      links_kept _ s p j (at_number g.lists p.record_number (j.write.place ∷ g.lists p.record_number)) (grown_head g.lists p.record_number j.write.place) o (eqb (m (head p.record_number)) (suc p.place)) _ refl refl
      (still_links (eqb (m (head p.record_number)) (suc p.place)) j _ refl refl refl refl)
  values_kept (link_next p j a w) s =
      let o = joint_of kept z g m vs id v _ s p j w s.allowed.can.0 s.allowed.can.1 in
      let there = (subst (IsAbove (g.lists p.record_number) S j.write.stamp p.under) s.allowed.can.3 o.above).0 in
      links_kept _ s p j (at_number g.lists p.record_number (behind a j.write.place (g.lists p.record_number))) (grown_behind g.lists p.record_number j.write.place a there) o (eqb (m (next_word a)) (suc p.place)) _ refl refl
      (still_links (eqb (m (next_word a)) (suc p.place)) j _ refl refl refl refl)
  values_kept (decide_by_check p u w n) s = decides _ s v.work.finished s.allowed.can.5 tt tt (nat_le (m (rts p.place)) (stamp_in v.flight)) _ refl refl refl refl refl (if_more (nat_le (m (rts p.place)) (stamp_in v.flight)) (commit_of v.flight v.work.finished v.work.linked) v.log)
  values_kept decide_bare s = decides _ s v.work.finished s.allowed.can.4 tt tt true _ refl refl refl refl refl refl
  values_kept (store_status u) s = stores_kept u s _ refl refl refl refl refl refl
  values_kept (finish ds) s = framed _ s tt tt _ refl (λ e a. Among-left e v.log (snapshot_of v.published.read ds ∷ []) a)
      (λ r e x w. inl (was _ s _ s.allowed.is_open (λ f a commit. ⊎_elim (λ (k : Among f v.log). k) (λ (k : snapshot_of v.published.read ds ≡ f). absurd (let c : true ≡ false = ap (λ (y : Logged). y.snapshot) k ∙ commit in cc)) (Among-either f (snapshot_of v.published.read ds) v.log a)) r e x w))
      (λ w x h. absurd (let e = sym s.allowed.can.0 ∙ h.in_flight in cc))
  values_kept (raise_floor r c p) s =
      let n = work_of kept z g m vs s.rule id v s.at s.allowed.is_open r c (found p) s.allowed.can in
      lessened z g.lists g.lists (floor_words m) (at_number (floor_words m) r c) S C T _ (λ q x has. has)
      (λ q lt. at_cases (floor_words m) r c q (λ y. floor_words m q ≤ y) (λ same. let l = n.at.0 in let e : floor_words m r ≡ floor_words m q = ap (floor_words m) same in omega arith) (λ ne. omega arith))
      (λ q x lt has high. has)
      (collecting _ s _ refl refl refl refl)
  values_kept (cut r c p) s =
      let n = cut_work kept z g m vs id v r c p s in
      lessened z g.lists (at_number g.lists r (up_to p (g.lists r))) (floor_words m) (floor_words m) S C T _ (shrunk kept z g m vs id v r c p s).fewer (λ q lt. omega arith)
      (λ q x lt has high. (shrunk kept z g m vs id v r c p s).stays q x has (λ same. let at_floor = n.at.0 in let e : floor_words m r ≡ floor_words m q = ap (floor_words m) same in omega arith))
      (collecting _ s _ refl refl refl refl)
  values_kept k s = same_log k s tt tt _ refl refl (λ w x h. search (published w x v, s.allowed.can, h))

module _ (kept : State → Type 0) (z : Size) (g : World) (m : Memory) (vs : List View) (id : ℕ) (v : View) (s : Split kept z g m vs id v) where
  abbrev left : List View
  left = set vs id (split_left v)

  pub values_split : part.Values z g.lists (floor_words m) (stored m).stamps (stored m).cells (status_words m) (set vs id (split_left v) ++ split_right v ∷ [])
  values_split = same_writes z g.lists (floor_words m) (stored m).stamps (stored m).cells (status_words m) vs (left ++ split_right v ∷ [])
      (λ e l. InLog-push left (split_right v) e (InLog-set vs id v (split_left v) s.at s.is_open s.is_open (λ f a. a) e l))
      (λ e l. InLog-still vs id v (split_left v) s.at s.is_open s.is_open refl e (InLog-unpush left (split_right v) refl e l))
      (λ w x y. SomeView-push (Publishes w x) left (split_right v) (SomeView-set (Publishes w x) (Publishes w x) vs id v (split_left v) s.at s.is_open (published w x v (split_left v) s.ends) (λ u p. p) y))
      s.rule.values

module _ (kept : State → Type 0) (z : Size) (g : World) (m : Memory) (vs : List View) (id other : ℕ) (v w : View) (s : Join kept z g m vs id other v w) where
  pub values_joined : part.Values z g.lists (floor_words m) (stored m).stamps (stored m).cells (status_words m) (joined vs (joined_view v w) id other)
  values_joined = same_writes z g.lists (floor_words m) (stored m).stamps (stored m).cells (status_words m) vs (joined vs (joined_view v w) id other)
      (InLog-join vs id other v w s.at s.at_other s.apart s.is_open s.other_open) (InLog-unjoin vs id other v w s.at s.at_other s.apart s.is_open s.other_open)
      (λ t x. SomeView-join (Publishes t x) vs id other v w (joined_view v w) s.at s.at_other s.apart s.is_open (published t x v (joined_view v w) s.ends) (λ p. p.unsettled (s.other_ends.settled x p.linked)))
      s.rule.values

pub values_start : (z : Size) → IsSize z → part.Values z (first_world z).lists (floor_words (start z)) (stored (start z)).stamps (stored (start z)).cells (status_words (start z)) (first_view z ∷ [])
values_start z h = record {
  each = λ r p lt has final pos. absurd (let none = no_stamp (nat_lt p (places z)) in omega arith);
  installed = λ r e x w. absurd (none e w.logged);
  aborted = λ r p lt has five e x w. absurd (none e w.logged);
} where
  no_stamp : (b : Bool) → cond {A = ℕ} b 0 0 ≡ 0
  no_stamp true = refl
  no_stamp false = refl

  none : (e : Logged) → InLog (first_view z ∷ []) e → ⊥
  none e l = Each-one (λ x. Among e x.log → ⊥) (first_view z) (λ k. k) l.index l.view l.here l.is_open l.among
