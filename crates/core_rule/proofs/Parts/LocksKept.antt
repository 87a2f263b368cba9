-- Locks: a lock is taken where it is free, and given back by the seat that works under it.
use Rattle.std.proofs.Common.{◌≡◌, ◌⊎◌, ℕ, suc, Bool, true, false, cond, eqb, List, [], ◌∷◌, ◌++◌, set, refl, sym, ap, ◌∙◌, subst, inl, inr, ⊎_elim, arith, eqb-true, None}
use Rattle.std.specs.Prelude.{nat_lt, nat_le}
use prog.Atomic.{either}
use Rattle.plain_data.specs.State.{State}
use Rattle.word_layout.specs.Size.{Size, IsSize}
use Rattle.word_layout.specs.Name.{floor, wts}
use Rattle.core_rule.specs.Memory.{Memory, start}
use Rattle.core_rule.specs.World.{World, at_number}
use Rattle.core_rule.specs.View.{View, Stage, locked, above_floor, seeks, passes, found, floored, cut_off, freeing, Item, no_item, collects, first_view}
use Rattle.core_rule.specs.Views.{SomeView}
use Rattle.core_rule.specs.Rule.{lock_words}
use Rattle.core_rule.specs.Collecting.{HasLock, Locking, rests_at}
use Rattle.core_rule.specs.Kinds.{Kind, take_lock, load_floor, seek_head, seek_stamp, seek_next, raise_floor, cut, unlock, drop, follow, free_place, name, after, changed}
use Rattle.core_rule.specs.Hands.{split_left, split_right, joined_view}
use Rattle.core_rule.specs.Parts.Locks.{LockOk, LocksAt}
use Rattle.core_rule.specs.Parts.Locks as part
use Rattle.core_rule.proofs.EachView.{Each-set, Each-own, Each-push, Each-join, Each-one, SomeView-set, SomeView-own, SomeView-push, SomeView-join, joined}
use Rattle.core_rule.proofs.Step.{Step, differs, at_number-same, at_number-stays, at_cases}
use Rattle.core_rule.proofs.Making.{Split, Join}
use Rattle.core_rule.proofs.Collected.{lock_of}

-- nothing is locked
unlocking : (r : ℕ) (i : Item) → i ≡ no_item → Locking r i → ⊥
unlocking r i e h = subst (Locking r) e h

rests_unlocked : (r q c to : ℕ) → Locking r (rests_at q c to) → ⊥
rests_unlocked r q c to h = by_test (eqb to 0) h where
  by_test : (b : Bool) → Locking r (cond b no_item (collects q c (freeing to None))) → ⊥
  by_test true h = h
  by_test false h = h.1

module _ (kept : State → Type 0) (z : Size) (g : World) (m : Memory) (vs : List View) (id : ℕ) (v : View) where
  abbrev L : ℕ → ℕ
  L = lock_words m

  -- the view works under the same lock as before, or under none
  framed : (k : Kind) → Step kept z g m vs id v k → (u : View) → u.spent ≡ v.spent → u.number ≡ v.number → ((r : ℕ) → Locking r u.work.item → Locking r v.work.item) → ((r : ℕ) → Locking r v.work.item → Locking r u.work.item)
      → part.Locks z L (set vs id u)
  framed k s u spent number was still = record {
    each = Each-own (LockOk L) vs id v u s.rule.locks.each s.at s.allowed.is_open (λ h r l. h r (was r l) ∙ ap suc (sym number));
    named = λ r lt. ⊎_elim (λ (e : L r ≡ 0). inl e)
        (λ (y : SomeView (LocksAt r (L r)) vs). inr (SomeView-set (LocksAt r (L r)) (LocksAt r (L r)) vs id v u s.at (spent ∙ s.allowed.is_open)
        (λ h. record { names = h.names ∙ ap suc (sym number); locking = still r h.locking }) (λ x h. h) y)) (s.rule.locks.named r lt);
  }

  -- the same record goes on
  goes_on : (k : Kind) → Step kept z g m vs id v k → (r c : ℕ) (old new : Stage) → v.work.item ≡ collects r c old → HasLock old → HasLock new → (u : View) → u.spent ≡ v.spent → u.number ≡ v.number → u.work.item ≡ collects r c new
      → part.Locks z L (set vs id u)
  goes_on k s r c old new e has has' u spent number e' = framed k s u spent number
      (λ q l. subst (Locking q) (sym e) ((subst (Locking q) e' l).0, has)) (λ q l. subst (Locking q) (sym e') ((subst (Locking q) e l).0, has'))

  unlocked_stays : (k : Kind) → Step kept z g m vs id v k → (u : View) → u.spent ≡ v.spent → u.number ≡ v.number → ((r : ℕ) → Locking r u.work.item → ⊥) → ((r : ℕ) → Locking r v.work.item → ⊥) → part.Locks z L (set vs id u)
  unlocked_stays k s u spent number none none' = framed k s u spent number (λ r l. absurd (none r l)) (λ r l. absurd (none' r l))

  -- the lock is given back
  releases : (k : Kind) → Step kept z g m vs id v k → (r c : ℕ) (stage : Stage) → v.work.item ≡ collects r c stage → HasLock stage → (u : View) → u.spent ≡ v.spent → ((q : ℕ) → Locking q u.work.item → ⊥)
      → part.Locks z (at_number L r 0) (set vs id u)
  releases k s r c stage e has u spent none = record {
    each = Each-set (LockOk L) (LockOk (at_number L r 0)) vs u id
        (λ i x ne at live h q l. at_cases L r 0 q (λ y. y ≡ suc x.number)
        (λ same. absurd (let mine = lock_of kept z g m vs s.rule id v s.at s.allowed.is_open r c stage has e in let other = h q l in
        let is : L r ≡ L q = ap L same in differs kept z g m vs id v k s i x ne at live (omega arith)))
        (λ away. h q l))
        (λ live q l. absurd (none q l)) s.rule.locks.each;
    named = λ q lt. at_cases L r 0 q (λ y. (y ≡ 0) ⊎ SomeView (LocksAt q y) (set vs id u)) (λ same. inl refl)
        (λ away. ⊎_elim (λ (is : L q ≡ 0). inl is)
        (λ (y : SomeView (LocksAt q (L q)) vs). inr (SomeView-set (LocksAt q (L q)) (LocksAt q (L q)) vs id v u s.at (spent ∙ s.allowed.is_open)
        (λ h. absurd (away (subst (Locking q) e h.locking).0)) (λ x h. h) y)) (s.rule.locks.named q lt));
  }

  -- it is taken, or met taken
  takes : (r c : ℕ) (s : Step kept z g m vs id v (take_lock r c)) (b : Bool) → eqb (L r) 0 ≡ b → (u : View) → u.spent ≡ v.spent → u.number ≡ v.number → u.work.item ≡ cond b (collects r c locked) no_item
      → part.Locks z (at_number L r (either b (suc v.number) (L r))) (set vs id u)
  takes r c s false e u spent number is = subst (λ (x : ℕ → ℕ). part.Locks z x (set vs id u)) (λ i q. sym (at_number-stays L r q) i)
      (unlocked_stays _ s u spent number (λ q l. unlocking q u.work.item is l) (λ q l. unlocking q v.work.item s.allowed.can.1 l))
  takes r c s true e u spent number is = let zero_is = eqb-true (L r) 0 e in record {
    each = Each-set (LockOk L) (LockOk (at_number L r (suc v.number))) vs u id
        (λ i x ne at live h q l. at_cases L r (suc v.number) q (λ y. y ≡ suc x.number)
        (λ same. absurd (let other = h q l in let here : L r ≡ L q = ap L same in omega arith))
        (λ away. h q l))
        (λ live q l. let same = (subst (Locking q) is l).0 in subst (λ (y : ℕ). at_number L r (suc v.number) y ≡ suc u.number) same (at_number-same L r (suc v.number) ∙ ap suc (sym number))) s.rule.locks.each;
    named = λ q lt. at_cases L r (suc v.number) q (λ y. (y ≡ 0) ⊎ SomeView (LocksAt q y) (set vs id u))
        (λ same. inr (SomeView-own (LocksAt q (suc v.number)) vs id v u s.at (spent ∙ s.allowed.is_open) record { names = ap suc (sym number); locking = subst (Locking q) (sym is) (same, tt) }))
        (λ away. ⊎_elim (λ (is : L q ≡ 0). inl is)
        (λ (y : SomeView (LocksAt q (L q)) vs). inr (SomeView-set (LocksAt q (L q)) (LocksAt q (L q)) vs id v u s.at (spent ∙ s.allowed.is_open)
        (λ h. absurd (unlocking q v.work.item s.allowed.can.1 h.locking)) (λ x h. h) y)) (s.rule.locks.named q lt));
  }

  floor_stage : (b : Bool) → HasLock (cond b above_floor locked)
  floor_stage true = tt
  floor_stage false = tt

  sought_stage : (p n : ℕ) (b : Bool) → HasLock (cond b (found p) (passes p n))
  sought_stage p n true = tt
  sought_stage p n false = tt

  pub locks_kept : (k : Kind) → Step kept z g m vs id v k → part.Locks z (lock_words (changed k v m)) (set vs id (after k v (m (name k v))))
  locks_kept (take_lock r c) s = takes r c s (eqb (L r) 0) refl _ refl refl refl
  locks_kept (load_floor r c) s = goes_on _ s r c locked _ s.allowed.can tt (floor_stage (nat_le (m (floor r)) c)) _ refl refl refl
  locks_kept (seek_head r c) s = goes_on _ s r c above_floor _ s.allowed.can tt tt _ refl refl refl
  locks_kept (seek_stamp r c p u) s = goes_on _ s r c (seeks p u) _ s.allowed.can tt (sought_stage p (m (wts p)) (eqb (m (wts p)) c)) _ refl refl refl
  locks_kept (seek_next r c p w) s = goes_on _ s r c (passes p w) _ s.allowed.can tt tt _ refl refl refl
  locks_kept (raise_floor r c p) s = goes_on _ s r c (found p) _ s.allowed.can tt tt _ refl refl refl
  locks_kept (cut r c p) s = goes_on _ s r c (floored p) _ s.allowed.can tt tt _ refl refl refl
  locks_kept (unlock r c to) s = releases _ s r c (cut_off to) s.allowed.can tt _ refl (λ q. rests_unlocked q r c to)
  locks_kept (drop r c) s = releases _ s r c locked s.allowed.can tt _ refl (λ q l. l)
  locks_kept (follow r c to) s = unlocked_stays _ s _ refl refl (λ q l. l.1) (λ q l. (subst (Locking q) s.allowed.can.0 l).1)
  locks_kept (free_place r c to p) s = unlocked_stays _ s _ refl refl (λ q. rests_unlocked q r c to) (λ q l. (subst (Locking q) s.allowed.can l).1)
  locks_kept k s = framed k s _ refl refl (λ r l. search l) (λ r l. search (l, unlocking r v.work.item, s.allowed.can))

module _ (kept : State → Type 0) (z : Size) (g : World) (m : Memory) (vs : List View) (id : ℕ) (v : View) (s : Split kept z g m vs id v) where
  pub locks_split : part.Locks z (lock_words m) (set vs id (split_left v) ++ split_right v ∷ [])
  locks_split = record {
    each = Each-push (LockOk (lock_words m)) (LockOk (lock_words m)) (set vs id (split_left v)) (split_right v) (λ i u at live h. h) (λ live r l. absurd l)
        (Each-own (LockOk (lock_words m)) vs id v (split_left v) s.rule.locks.each s.at s.is_open (λ h r l. absurd l));
    named = λ r lt. ⊎_elim (λ (e : lock_words m r ≡ 0). inl e)
        (λ (y : SomeView (LocksAt r (lock_words m r)) vs). inr (SomeView-push (LocksAt r (lock_words m r)) (set vs id (split_left v)) (split_right v)
        (SomeView-set (LocksAt r (lock_words m r)) (LocksAt r (lock_words m r)) vs id v (split_left v) s.at s.is_open (λ h. absurd (unlocking r v.work.item s.ends.collected h.locking)) (λ x h. h) y))) (s.rule.locks.named r lt);
  }

module _ (kept : State → Type 0) (z : Size) (g : World) (m : Memory) (vs : List View) (id other : ℕ) (v w : View) (s : Join kept z g m vs id other v w) where
  pub locks_joined : part.Locks z (lock_words m) (joined vs (joined_view v w) id other)
  locks_joined = record {
    each = Each-join vs (joined_view v w) id other (LockOk (lock_words m)) (LockOk (lock_words m)) (λ i u third live h. h) (λ live r l. absurd l) s.rule.locks.each;
    named = λ r lt. ⊎_elim (λ (e : lock_words m r ≡ 0). inl e)
        (λ (y : SomeView (LocksAt r (lock_words m r)) vs). inr (SomeView-join (LocksAt r (lock_words m r)) vs id other v w (joined_view v w) s.at s.at_other s.apart s.is_open
        (λ h. absurd (unlocking r v.work.item s.ends.collected h.locking)) (λ h. unlocking r w.work.item s.other_ends.collected h.locking) y)) (s.rule.locks.named r lt);
  }

pub locks_start : (z : Size) → IsSize z → part.Locks z (lock_words (start z)) (first_view z ∷ [])
locks_start z h = record {
  each = Each-one (LockOk (lock_words (start z))) (first_view z) (λ r l. absurd l);
  named = λ r lt. inl (no_lock (nat_lt r z.records));
} where
  no_lock : (b : Bool) → cond {A = ℕ} b 0 0 ≡ 0
  no_lock true = refl
  no_lock false = refl
