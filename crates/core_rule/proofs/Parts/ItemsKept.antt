-- Items: what is collected stays linked under its lock, and each step of a collection finds what the next one needs.
use Rattle.std.proofs.Common.{◌≡◌, ◌≢◌, ℕ, suc, ◌-◌, ◌<◌, ◌≤◌, max, Bool, true, false, cond, eqb, List, ◌∷◌, set, refl, sym, ap, ◌∙◌, subst, ⊎_elim, arith, eqb-true, Some, None}
use Rattle.std.specs.Prelude.{nat_le}
use Rattle.std.proofs.lemmas.Bool.{leb-true}
use Rattle.plain_data.specs.State.{State}
use Rattle.word_layout.specs.Size.{Size}
use Rattle.word_layout.specs.Name.{min_read, head, rts, next as next_word}
use Rattle.core_rule.specs.Memory.{Memory, Stored, stored}
use Rattle.core_rule.specs.World.{World, linked, at_number, behind, up_to}
use Rattle.core_rule.specs.View.{View, Logged, Joint, Stand, Stage, locked, above_floor, seeks, passes, found, floored, cut_off, freeing, Item, no_item, collects}
use Rattle.core_rule.specs.Views.{At, Has, Among}
use Rattle.core_rule.specs.Rule.{status_words, floor_words, lock_words}
use Rattle.core_rule.specs.Searching.{IsFinal}
use Rattle.core_rule.specs.Deciding.{stamp_in, commit_of}
use Rattle.core_rule.specs.Collecting.{HasEntry, HasLock}
use Rattle.core_rule.specs.Kinds.{Kind, raise_min_read, link_head, link_next, decide_by_check, decide_bare, take_lock, load_floor, seek_head, seek_stamp, seek_next, raise_floor, cut, unlock, drop, follow, free_place, name, after, turned, changed}
use Rattle.core_rule.specs.Parts.Linking.{JointOk, IsAbove}
use Rattle.core_rule.specs.Parts.Items.{IsLast, IsVersion, IsAt, InWork, IsItem, ItemOk}
use Rattle.core_rule.specs.Parts.Items as part
use Rattle.core_rule.proofs.Among.{Among-left, Among-if}
use Rattle.core_rule.proofs.EachView.{Each-set}
use Rattle.core_rule.proofs.Step.{Step, differs, at_number-other, at_number-same}
use Rattle.core_rule.proofs.Listed.{Grown, one_place, top, grown_head, grown_behind}
use Rattle.core_rule.proofs.Touched.{Quiet, quiet, linked_owner}
use Rattle.core_rule.proofs.Working.{joint_of, in_flight_late}
use Rattle.core_rule.proofs.Collected.{work_of, lock_of}
use Rattle.core_rule.proofs.Cutting.{cut_work, cut_version, shrunk}
use Rattle.core_rule.proofs.Sought.{stood, sought_next}
use Rattle.core_rule.proofs.Without.{ne_from_test}

linked_one : (a b : ℕ) → linked a ≡ linked b → a ≡ b
linked_one a b e = cc

-- what a list keeps for a collector that has its lock
record Keeps (xs xs' : List ℕ) (f : ℕ) (w w' : Stored) (T T' : ℕ → ℕ) : Type 0 where
  more : (p : ℕ) → Has p xs → Has p xs'
  stamps : (p : ℕ) → Has p xs → w'.stamps p ≡ w.stamps p
  final : (p : ℕ) → Has p xs → IsFinal (T p) → IsFinal (T' p)
  last : IsLast xs f w → IsLast xs' f w'

module _ (xs xs' : List ℕ) (f : ℕ) (w w' : Stored) (T T' : ℕ → ℕ) (c : ℕ) where
  version_kept : (p : ℕ) → Keeps xs xs' f w w' T T' → IsVersion xs w.stamps T c p → IsVersion xs' w'.stamps T' c p
  version_kept p k h = record { there = k.more p h.there; stamp_is = k.stamps p h.there ∙ h.stamp_is; final = k.final p h.there h.final }

  at_kept : (stage : Stage) → (HasLock stage → Keeps xs xs' f w w' T T') → IsAt xs f w T c stage → IsAt xs' f w' T' c stage
  at_kept locked k h = (k tt).last h
  at_kept above_floor k h = h
  at_kept (seeks p u) k h = let e = (k tt).stamps p h.1 in let a = h.2 in let b = h.3 in (h.0, (k tt).more p h.1, omega arith, omega arith)
  at_kept (passes p u) k h = let e = (k tt).stamps p h.1 in (h.0, (k tt).more p h.1, h.2, e ∙ h.3)
  at_kept (found p) k h = (h.0, version_kept p (k tt) h.1)
  at_kept (floored p) k h = (h.0, version_kept p (k tt) h.1)
  at_kept (cut_off to) k h = (k tt).last h
  at_kept (freeing to left) k h = tt

HasEntry-more : (r c : ℕ) (xs ys : List Logged) → ((e : Logged) → Among e xs → Among e ys) → HasEntry r c xs → HasEntry r c ys
HasEntry-more r c xs ys more h = record { entry = h.entry; among = more h.entry h.among; commit = h.commit; at = h.at; write = h.write; writes = h.writes; of_record = h.of_record }

-- another list, floor, and words
module _ (z : Size) (lists lists' : ℕ → List ℕ) (floors floors' : ℕ → ℕ) (w w' : Stored) (T T' : ℕ → ℕ) (least least' : ℕ) (rises : least ≤ least') where
  ItemOk-same : (x : View) → ((r c : ℕ) (stage : Stage) → r < z.records → x.work.item ≡ collects r c stage → HasLock stage → (floors' r ≡ floors r) × Keeps (lists r) (lists' r) (floors r) w w' T T')
      → ItemOk z lists floors w T least x → ItemOk z lists' floors' w' T' least' x
  ItemOk-same x keeps h = record { reached = let l = h.reached in omega arith; item = by_item x.work.item refl h.item } where
    by_lock : (r c : ℕ) (stage : Stage) → (HasLock stage → (floors' r ≡ floors r) × Keeps (lists r) (lists' r) (floors r) w w' T T') → IsAt (lists r) (floors r) w T c stage → IsAt (lists' r) (floors' r) w' T' c stage
    by_lock r c (freeing to left) k h = tt
    by_lock r c locked k h = subst (λ (y : ℕ). IsAt (lists' r) y w' T' c locked) (sym (k tt).0) (at_kept (lists r) (lists' r) (floors r) w w' T T' c locked (λ l. (k l).1) h)
    by_lock r c above_floor k h = subst (λ (y : ℕ). IsAt (lists' r) y w' T' c above_floor) (sym (k tt).0) (at_kept (lists r) (lists' r) (floors r) w w' T T' c above_floor (λ l. (k l).1) h)
    by_lock r c (seeks p u) k h = subst (λ (y : ℕ). IsAt (lists' r) y w' T' c (seeks p u)) (sym (k tt).0) (at_kept (lists r) (lists' r) (floors r) w w' T T' c (seeks p u) (λ l. (k l).1) h)
    by_lock r c (passes p u) k h = subst (λ (y : ℕ). IsAt (lists' r) y w' T' c (passes p u)) (sym (k tt).0) (at_kept (lists r) (lists' r) (floors r) w w' T T' c (passes p u) (λ l. (k l).1) h)
    by_lock r c (found p) k h = subst (λ (y : ℕ). IsAt (lists' r) y w' T' c (found p)) (sym (k tt).0) (at_kept (lists r) (lists' r) (floors r) w w' T T' c (found p) (λ l. (k l).1) h)
    by_lock r c (floored p) k h = subst (λ (y : ℕ). IsAt (lists' r) y w' T' c (floored p)) (sym (k tt).0) (at_kept (lists r) (lists' r) (floors r) w w' T T' c (floored p) (λ l. (k l).1) h)
    by_lock r c (cut_off to) k h = subst (λ (y : ℕ). IsAt (lists' r) y w' T' c (cut_off to)) (sym (k tt).0) (at_kept (lists r) (lists' r) (floors r) w w' T T' c (cut_off to) (λ l. (k l).1) h)

    by_item : (it : Item) → x.work.item ≡ it → IsItem z lists floors w T x.reached x.log it → IsItem z lists' floors' w' T' x.reached x.log it
    by_item no_item e h = tt
    by_item (collects r c stage) e h = record { on_record = h.on_record; early = h.early; entered = h.entered; at = by_lock r c stage (keeps r c stage h.on_record e) h.at }

module _ (kept : State → Type 0) (z : Size) (g : World) (m : Memory) (vs : List View) (id : ℕ) (v : View) where
  abbrev S : ℕ → ℕ
  S = (stored m).stamps

  abbrev T : ℕ → ℕ
  T = status_words m

  abbrev F : ℕ → ℕ
  F = floor_words m

  abbrev Ok : View → Type 0
  Ok = ItemOk z g.lists F (stored m) T (m min_read)

  -- after a step that changes no list
  abbrev After : Kind → View → Type 0
  After k = ItemOk z g.lists F (stored (changed k v m)) (status_words (changed k v m)) (m min_read)

  keeps : (k : Kind) → Step kept z g m vs id v k → Quiet k → (r : ℕ) → r < z.records → Keeps (g.lists r) (g.lists r) (F r) (stored m) (stored (changed k v m)) T (status_words (changed k v m))
  keeps k s h r lt = let t = quiet kept z g m vs id v k s h in record {
    more = λ p has. has;
    stamps = λ p has. t.stamps r p lt has;
    final = λ p has f. subst IsFinal (sym (t.statuses r p lt has (λ two. absurd (omega arith)))) f;
    last = λ is p has at. t.links r p lt has ∙ is p has (sym (t.stamps r p lt has) ∙ at);
  }

  same : (k : Kind) → Step kept z g m vs id v k → Quiet k → (x : View) → Ok x → After k x
  same k s h x = ItemOk-same z g.lists g.lists F F (stored m) (stored (changed k v m)) T (status_words (changed k v m)) (m min_read) (m min_read) (omega arith) x (λ r c stage lt e l. (refl, keeps k s h r lt))

  framed : (k : Kind) → Step kept z g m vs id v k → Quiet k → (u : View) → After k u → part.Items z g.lists F (stored (changed k v m)) (status_words (changed k v m)) (m min_read) (set vs id u)
  framed k s h u mine = Each-set Ok (After k) vs u id (λ i x ne at live o. same k s h x o) (λ live. mine) s.rule.items

  mine_ok : (k : Kind) → Step kept z g m vs id v k → Ok v
  mine_ok k s = s.rule.items id v s.at s.allowed.is_open

  -- the own item is the same, the log may have grown
  still : (u : View) → u.reached ≡ v.reached → u.work.item ≡ v.work.item → ((e : Logged) → Among e v.log → Among e u.log) → {lists' : ℕ → List ℕ} {F' : ℕ → ℕ} {w' : Stored} {T' : ℕ → ℕ} {least : ℕ}
      → ItemOk z lists' F' w' T' least v → ItemOk z lists' F' w' T' least u
  still u reached item more {lists'} {F'} {w'} {T'} {least} h = record {
    reached = let l = h.reached in omega arith;
    item = subst (λ (it : Item). IsItem z lists' F' w' T' u.reached u.log it) (sym item) (subst (λ (y : ℕ). IsItem z lists' F' w' T' y u.log v.work.item) (sym reached) (by_item v.work.item h.item));
  } where
    by_item : (it : Item) → IsItem z lists' F' w' T' v.reached v.log it → IsItem z lists' F' w' T' v.reached u.log it
    by_item no_item h = tt
    by_item (collects r c stage) h = record { on_record = h.on_record; early = h.early; entered = HasEntry-more r c v.log u.log more h.entered; at = h.at }

  -- nothing is collected
  resting_ok : (k : Kind) → Step kept z g m vs id v k → (u : View) → u.reached ≡ v.reached → u.work.item ≡ no_item → {lists' : ℕ → List ℕ} {F' : ℕ → ℕ} {w' : Stored} {T' : ℕ → ℕ} → ItemOk z lists' F' w' T' (m min_read) u
  resting_ok k s u reached none {lists'} {F'} {w'} {T'} = record {
    reached = let l = (mine_ok k s).reached in omega arith;
    item = subst (λ (it : Item). IsItem z lists' F' w' T' u.reached u.log it) (sym none) tt;
  }

  -- a collection comes to another stage, with lists, floors and words that may be others
  staged : (k : Kind) → Step kept z g m vs id v k → (u : View) → u.reached ≡ v.reached → u.log ≡ v.log → (r c : ℕ) (old new : Stage) → v.work.item ≡ collects r c old → u.work.item ≡ collects r c new
      → {lists' : ℕ → List ℕ} {F' : ℕ → ℕ} {w' : Stored} {T' : ℕ → ℕ} → IsAt (lists' r) (F' r) w' T' c new → ItemOk z lists' F' w' T' (m min_read) u
  staged k s u reached log r c old new e e' {lists'} {F'} {w'} {T'} at =
      let o = work_of kept z g m vs s.rule id v s.at s.allowed.is_open r c old e in record {
        reached = let l = (mine_ok k s).reached in omega arith;
        item = subst (λ (it : Item). IsItem z lists' F' w' T' u.reached u.log it) (sym e') record {
          on_record = o.on_record;
          early = let l = o.early in omega arith;
          entered = subst (HasEntry r c) (sym log) o.entered;
          at = at;
        };
      }

  -- the place where it was found, or nothing is left
  rested : (k : Kind) → Step kept z g m vs id v k → (u : View) → u.reached ≡ v.reached → u.log ≡ v.log → (r c to : ℕ) (old : Stage) → v.work.item ≡ collects r c old → (b : Bool) → u.work.item ≡ cond b no_item (collects r c (freeing to None))
      → {lists' : ℕ → List ℕ} {F' : ℕ → ℕ} {w' : Stored} {T' : ℕ → ℕ} → ItemOk z lists' F' w' T' (m min_read) u
  rested k s u reached log r c to old e true e' = resting_ok k s u reached e'
  rested k s u reached log r c to old e false e' = staged k s u reached log r c old (freeing to None) e e' tt

  -- the version at the floor of a record that is not locked is the last
  last_free : (k : Kind) → Step kept z g m vs id v k → (r : ℕ) → r < z.records → lock_words m r ≡ 0 → IsLast (g.lists r) (F r) (stored m)
  last_free k s r lt zero_is p has at =
      let l = s.rule.lists.each r lt in let b = l.base in
      let same_place = one_place S (g.lists r) p b.place l.falls has b.there (at ∙ sym b.stamp) in ap (stored m).links same_place ∙ b.last zero_is

  taken : (r c : ℕ) (s : Step kept z g m vs id v (take_lock r c)) (b : Bool) → eqb (lock_words m r) 0 ≡ b → (u : View) → u.reached ≡ v.reached → u.log ≡ v.log → u.work.item ≡ cond b (collects r c locked) no_item → Ok u
  taken r c s false e u reached log is = resting_ok _ s u reached is
  taken r c s true e u reached log is =
      let lt : r < z.records = rw (← (s.rule.seats.each id v s.at s.allowed.is_open).size) s.allowed.can.0 in
      let early = s.allowed.can.2 in record {
        reached = let l = (mine_ok _ s).reached in omega arith;
        item = subst (λ (it : Item). IsItem z g.lists F (stored m) T u.reached u.log it) (sym is) record {
          on_record = lt;
          early = omega arith;
          entered = subst (HasEntry r c) (sym log) s.allowed.can.3;
          at = last_free _ s r lt (eqb-true (lock_words m r) 0 e);
        };
      }

  floor_at : (r c : ℕ) → IsLast (g.lists r) (F r) (stored m) → (b : Bool) → nat_le (F r) c ≡ b → IsAt (g.lists r) (F r) (stored m) T c (cond b above_floor locked)
  floor_at r c last true e = leb-true (F r) c e
  floor_at r c last false e = last

  sought_at : (r c p u : ℕ) (s : Step kept z g m vs id v (seek_stamp r c p u)) (b : Bool) → eqb (S p) c ≡ b → IsAt (g.lists r) (F r) (stored m) T c (cond b (found p) (passes p (S p)))
  sought_at r c p u s true e =
      let w = work_of kept z g m vs s.rule id v s.at s.allowed.is_open r c (seeks p u) s.allowed.can in
      let n = stood kept z g m vs id v _ s r c (seeks p u) w w.at.0 in
      let here = eqb-true (S p) c e in
      let same_place = one_place S (g.lists r) p n.place (s.rule.lists.each r w.on_record).falls w.at.1 n.version.there (here ∙ sym n.version.stamp_is) in
      (w.at.0, record { there = w.at.1; stamp_is = here; final = subst (λ (y : ℕ). IsFinal (T y)) (sym same_place) n.version.final })
  sought_at r c p u s false e =
      let w = work_of kept z g m vs s.rule id v s.at s.allowed.is_open r c (seeks p u) s.allowed.can in
      let ne = ne_from_test (S p) c e in let le = w.at.2 in (w.at.0, w.at.1, omega arith, refl)

  -- two seats do not work under one lock
  locks_apart : (k : Kind) → Step kept z g m vs id v k → (r c : ℕ) (stage : Stage) → v.work.item ≡ collects r c stage → HasLock stage → (i : ℕ) (x : View) → i ≢ id → At vs i x → x.spent ≡ false → (q d : ℕ) (other : Stage) → x.work.item ≡ collects q d other → HasLock other
      → r ≢ q
  locks_apart k s r c stage e has i x ne at live q d other f has' same_record =
      let mine = lock_of kept z g m vs s.rule id v s.at s.allowed.is_open r c stage has e in
      let theirs = lock_of kept z g m vs s.rule i x at live q d other has' f in
      let is : lock_words m r ≡ lock_words m q = ap (lock_words m) same_record in differs kept z g m vs id v k s i x ne at live (omega arith)

  -- a version is linked: it is not at the floor, nor is the place above it
  links_keep : (k : Kind) (s : Step kept z g m vs id v k) (p : Stand) (j : Joint) (lists' : ℕ → List ℕ) → Grown p.record_number j.write.place g.lists lists' → JointOk z g.owner g.lists (stored m) v.number v.flight v.work.linked p j
      → (links' : ℕ → ℕ) → ((r q : ℕ) → r < z.records → Has q (g.lists r) → S q ≡ F r → links' q ≡ (stored m).links q) → (r : ℕ) → r < z.records → Keeps (g.lists r) (lists' r) (F r) (stored m) (record (stored m) { links = links' }) T T
  links_keep k s p j lists' grew o links' same_links r lt = record {
    more = grew.old r;
    stamps = λ q has. refl;
    final = λ q has f. f;
    last = λ is q has at. ⊎_elim
        (λ (new : (p.record_number ≡ r) × (j.write.place ≡ q)). absurd (
        let st = o.mark.stamp in let e : S j.write.place ≡ S q = ap S new.1 in let late = in_flight_late kept z g m vs id v k s j.write.stamp o.mark.in_flight in
        let b = s.rule.minima.reads_below in let low = (s.rule.lists.each r lt).settled in omega arith))
        (λ (old : Has q (g.lists r)). same_links r q lt old at ∙ is q old at) (grew.only r q has);
  }

  linked_ok : (k : Kind) (s : Step kept z g m vs id v k) (p : Stand) (j : Joint) (lists' : ℕ → List ℕ) → Grown p.record_number j.write.place g.lists lists' → JointOk z g.owner g.lists (stored m) v.number v.flight v.work.linked p j
      → (links' : ℕ → ℕ) → ((r q : ℕ) → r < z.records → Has q (g.lists r) → S q ≡ F r → links' q ≡ (stored m).links q) → (b : Bool) → (u : View) → u.reached ≡ v.reached → u.work.item ≡ v.work.item → u.log ≡ v.log
      → part.Items z (cond b lists' g.lists) F (record (stored m) { links = links' }) T (m min_read) (set vs id u)
  linked_ok k s p j lists' grew o links' same_links b u reached item log =
      let w' = record (stored m) { links = links' } in
      let go : (x : View) → Ok x → ItemOk z (cond b lists' g.lists) F w' T (m min_read) x = λ x.
      ItemOk-same z g.lists (cond b lists' g.lists) F F (stored m) w' T T (m min_read) (m min_read) (omega arith) x (λ r c stage lt e l. (refl, by_test b r lt)) in
      Each-set Ok (ItemOk z (cond b lists' g.lists) F w' T (m min_read)) vs u id (λ i x ne at live h. go x h)
      (λ live. still u reached item (λ e a. subst (Among e) (sym log) a) (go v (mine_ok k s))) s.rule.items where
        by_test : (b : Bool) (r : ℕ) → r < z.records → Keeps (g.lists r) (cond b lists' g.lists r) (F r) (stored m) (record (stored m) { links = links' }) T T
        by_test true r lt = links_keep k s p j lists' grew o links' same_links r lt
        by_test false r lt = record { more = λ q has. has; stamps = λ q has. refl; final = λ q has f. f; last = λ is q has at. same_links r q lt has at ∙ is q has at }

  pub items_kept : (k : Kind) → Step kept z g m vs id v k → part.Items z (turned k v (m (name k v)) g).lists (floor_words (changed k v m)) (stored (changed k v m)) (status_words (changed k v m)) ((changed k v m) min_read) (set vs id (after k v (m (name k v))))
  items_kept (decide_by_check p u w n) s = framed _ s tt _ (still _ refl refl (λ e a. Among-if (nat_le (m (rts p.place)) (stamp_in v.flight)) e (commit_of v.flight v.work.finished v.work.linked) v.log a) (same _ s tt v (mine_ok _ s)))
  items_kept decide_bare s = framed _ s tt _ (still _ refl refl (λ e a. Among-left e v.log _ a) (same _ s tt v (mine_ok _ s)))
  items_kept raise_min_read s =
      let least' = max (m min_read) v.raises.reads.least in
      let go : (x : View) → Ok x → ItemOk z g.lists F (stored m) T least' x = λ x.
      ItemOk-same z g.lists g.lists F F (stored m) (stored m) T T (m min_read) least' (omega arith) x (λ r c stage lt e l. (refl, record { more = λ q has. has; stamps = λ q has. refl; final = λ q has f. f; last = λ is. is })) in
      Each-set Ok (ItemOk z g.lists F (stored m) T least') vs _ id (λ i x ne at live h. go x h) (λ live. raised v.work.item (mine_ok _ s)) s.rule.items where
        raised : (it : Item) → Ok v → ItemOk z g.lists F (stored m) T (max (m min_read) v.raises.reads.least) (after raise_min_read v (m (name raise_min_read v)))
        raised it h = record { reached = omega arith; item = by_item v.work.item h.reached h.item } where
          by_item : (it : Item) → v.reached ≤ m min_read → IsItem z g.lists F (stored m) T v.reached v.log it → IsItem z g.lists F (stored m) T (max (m min_read) v.raises.reads.least) v.log it
          by_item no_item low h = tt
          by_item (collects r c stage) low h = record { on_record = h.on_record; early = let e = h.early in omega arith; entered = h.entered; at = h.at }
  items_kept (link_head p j w) s =
      linked_ok _ s p j (at_number g.lists p.record_number (j.write.place ∷ g.lists p.record_number)) (grown_head g.lists p.record_number j.write.place) (joint_of kept z g m vs id v _ s p j w s.allowed.can.0 s.allowed.can.1)
      (stored m).links (λ r q lt has at. refl) (eqb (m (head p.record_number)) (suc p.place)) _ refl refl refl
  items_kept (link_next p j a w) s =
      let o = joint_of kept z g m vs id v _ s p j w s.allowed.can.0 s.allowed.can.1 in
      let up = subst (IsAbove (g.lists p.record_number) S j.write.stamp p.under) s.allowed.can.3 o.above in
      let late = in_flight_late kept z g m vs id v _ s j.write.stamp o.mark.in_flight in let b = s.rule.minima.reads_below in let high = up.1 in
      linked_ok _ s p j (at_number g.lists p.record_number (behind a j.write.place (g.lists p.record_number))) (grown_behind g.lists p.record_number j.write.place a up.0) o
      ((stored (changed (link_next p j a w) v m)).links)
      (λ r q lt has at. at_number-other (stored m).links a q _ (λ same_place. absurd (let low = (s.rule.lists.each r lt).settled in let e : S a ≡ S q = ap S same_place in omega arith)))
      (eqb (m (next_word a)) (suc p.place)) _ refl refl refl
  items_kept (take_lock r c) s = framed _ s tt _ (taken r c s (eqb (lock_words m r) 0) refl _ refl refl refl)
  items_kept (load_floor r c) s = framed _ s tt _ (staged _ s _ refl refl r c locked _ s.allowed.can refl (floor_at r c (work_of kept z g m vs s.rule id v s.at s.allowed.is_open r c locked s.allowed.can).at (nat_le (F r) c) refl))
  items_kept (seek_head r c) s =
      let w = work_of kept z g m vs s.rule id v s.at s.allowed.is_open r c above_floor s.allowed.can in
      let n = stood kept z g m vs id v _ s r c above_floor w w.at in
      let l = s.rule.lists.each r w.on_record in
      let t = top S (stored m).links (g.lists r) (m (head r)) n.place l.spelled l.falls n.version.there in
      let over = t.over in let is = n.version.stamp_is in
      framed _ s tt _ (staged _ s _ refl refl r c above_floor _ s.allowed.can refl (w.at, t.there, omega arith, (s.rule.versions.each r (m (head r) - 1) w.on_record t.there).early))
  items_kept (seek_stamp r c p u) s = framed _ s tt _ (staged _ s _ refl refl r c (seeks p u) _ s.allowed.can refl (sought_at r c p u s (eqb (S p) c) refl))
  items_kept (seek_next r c p w) s =
      let o = work_of kept z g m vs s.rule id v s.at s.allowed.is_open r c (passes p w) s.allowed.can in
      let n = stood kept z g m vs id v (seek_next r c p w) s r c (passes p w) o o.at.0 in
      let f = sought_next kept z g m vs id v r c p w s in
      let over = f.meets.over in let is = n.version.stamp_is in let strict = f.strict in let at = o.at.3 in
      framed _ s tt _ (staged _ s _ refl refl r c (passes p w) _ s.allowed.can refl (o.at.0, f.meets.there, omega arith, omega arith))
  items_kept (raise_floor r c p) s =
      let w = work_of kept z g m vs s.rule id v s.at s.allowed.is_open r c (found p) s.allowed.can in
      Each-set Ok (ItemOk z g.lists (at_number F r c) (stored m) T (m min_read)) vs _ id
      (λ i x ne at live h. ItemOk-same z g.lists g.lists F (at_number F r c) (stored m) (stored m) T T (m min_read) (m min_read) (omega arith) x
      (λ q d stage lt e l. (at_number-other F r q c (locks_apart _ s r c (found p) s.allowed.can tt i x ne at live q d stage e l), record { more = λ y has. has; stamps = λ y has. refl; final = λ y has f. f; last = λ is. is })) h)
      (λ live. staged _ s _ refl refl r c (found p) _ s.allowed.can refl (at_number-same F r c, w.at.1)) s.rule.items
  items_kept (cut r c p) s =
      let w = cut_work kept z g m vs id v r c p s in let n = cut_version kept z g m vs id v r c p s in
      let lists' = at_number g.lists r (up_to p (g.lists r)) in let w' = record (stored m) { links = at_number (stored m).links p 0 } in
      Each-set Ok (ItemOk z lists' F w' T (m min_read)) vs _ id
      (λ i x ne at live h. ItemOk-same z g.lists lists' F F (stored m) w' T T (m min_read) (m min_read) (omega arith) x
      (λ q d stage lt e l. let ne' = locks_apart _ s r c (floored p) s.allowed.can tt i x ne at live q d stage e l in (
        refl,
        subst (λ (xs : List ℕ). Keeps (g.lists q) xs (F q) (stored m) w' T T) (sym (at_number-other g.lists r q (up_to p (g.lists r)) ne')) record {
          more = λ y has. has;
          stamps = λ y has. refl;
          final = λ y has f. f;
          last = λ is y has at'. at_number-other (stored m).links p y 0 (λ same_place. absurd (ne' (linked_one r q
              (sym (linked_owner kept z g m vs id v (cut r c p) s r p w.on_record n.there).1 ∙ ap g.owner same_place ∙ (linked_owner kept z g m vs id v (cut r c p) s q y lt has).1)))) ∙ is y has at';
        },
      )) h)
      (λ live. staged _ s _ refl refl r c (floored p) _ s.allowed.can refl (λ q has at.
      let old = (shrunk kept z g m vs id v r c p s).fewer r q has in
      let same_place = one_place S (g.lists r) p q (s.rule.lists.each r w.on_record).falls n.there old (n.stamp_is ∙ sym w.at.0 ∙ sym at) in
      subst (λ (y : ℕ). at_number (stored m).links p 0 y ≡ 0) same_place (at_number-same (stored m).links p 0))) s.rule.items
  items_kept (unlock r c to) s = framed _ s tt _ (rested _ s _ refl refl r c to (cut_off to) s.allowed.can (eqb to 0) refl)
  items_kept (drop r c) s = framed _ s tt _ (resting_ok _ s _ refl refl)
  items_kept (follow r c to) s = framed _ s tt _ (staged _ s _ refl refl r c (freeing to None) _ s.allowed.can.0 refl tt)
  items_kept (free_place r c to p) s = framed _ s tt _ (rested _ s _ refl refl r c to (freeing to (Some p)) s.allowed.can (eqb to 0) refl)
  items_kept k s = framed k s tt _ (search (resting_ok k s, still, same k s tt v (mine_ok k s)))
