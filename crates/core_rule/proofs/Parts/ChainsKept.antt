-- Chains: nobody but the seat that cut a place off changes it, and it follows the links that it cut.
use Rattle.std.proofs.Common.{◌≡◌, ◌≢◌, ℕ, suc, ◌-◌, ◌<◌, ◌≤◌, Bool, true, false, cond, eqb, List, [], ◌∷◌, ◌++◌, set, refl, sym, ap, ◌∙◌, subst, inl, inr, ⊎_elim, arith, eqb-true, Some, None}
use mathlib.Core.Logic.{dite}
use native.Mathlib.Decide.{ℕ_discrete}
use Rattle.std.specs.Prelude.{nat_le, nat_lt}
use Rattle.plain_data.specs.State.{State}
use Rattle.word_layout.specs.Size.{Size, IsSize, places}
use Rattle.word_layout.specs.Name.{min_write, min_read, head, lock, floor, status, wts, rts, next as next_word}
use Rattle.core_rule.specs.Memory.{Memory, stored, start}
use Rattle.core_rule.specs.World.{World, Owner, free, held, marked, linked, cut_by, at_number, from_behind, all_but_first, first_world}
use Rattle.core_rule.specs.View.{View, Logged, stamped, Stage, locked, above_floor, seeks, passes, found, floored, cut_off, freeing, Item, no_item, collects, first_view}
use Rattle.core_rule.specs.Views.{At, Has, Among, SomeView}
use Rattle.core_rule.specs.Rule.{head_words}
use Rattle.core_rule.specs.Deciding.{stamp_in, commit_of}
use Rattle.core_rule.specs.Collecting.{HasEntry, HasChain, Frees}
use Rattle.core_rule.specs.Kinds.{Kind, take, fill_stamp, give, mark, point, link_head, link_next, decide_by_check, decide_bare, take_lock, load_floor, seek_head, seek_stamp, seek_next, raise_floor, cut, unlock, drop, follow, free_place, name, after, turned, changed}
use Rattle.core_rule.specs.Hands.{split_left, split_right, joined_view}
use Rattle.core_rule.specs.Parts.Lists.{Spells, Falls}
use Rattle.core_rule.specs.Parts.Linking.{IsAbove}
use Rattle.core_rule.specs.Parts.Minima.{Minima}
use Rattle.core_rule.specs.Visible.{OutOfReach}
use Rattle.core_rule.specs.Parts.Chains.{SpellsBehind, Reaches, ChainOk, IsChain, InChain}
use Rattle.core_rule.specs.Parts.Chains as part
use Rattle.core_rule.proofs.Among.{Among-left, Among-if}
use Rattle.core_rule.proofs.EachView.{Each-set, Each-push, Each-join, Each-one, SomeView-set, SomeView-own, SomeView-push, SomeView-join, AllOf-Has, same_view, joined}
use Rattle.core_rule.proofs.Step.{Step, differs, at_number-other, at_number-same, at_cases}
use Rattle.core_rule.proofs.Making.{Split, Join}
use Rattle.core_rule.proofs.Listed.{Spells-same, Falls-same}
use Rattle.core_rule.proofs.Touched.{linked_owner}
use Rattle.core_rule.proofs.Working.{joint_of, stand_of, filled_held}
use Rattle.core_rule.proofs.Collected.{work_of, chain_of}
use Rattle.core_rule.proofs.Cutting.{cut_work, cut_version, cut_low, tail_linked, tail_low}
use Rattle.core_rule.proofs.Tails.{spells_from, falls_from, cut_same, cut_here, cut_or}
use Rattle.core_rule.proofs.Parts.PlacesKept.{free_from, freed_owner}
use Rattle.core_rule.proofs.Parts.MinimaKept.{minima_kept, minima_split, minima_joined}
use Rattle.core_rule.proofs.Parts.AnchoredKept.{least_rises}

cut_one : (a b : ℕ) → cut_by a ≡ cut_by b → a ≡ b
cut_one a b e = cc

HasEntry-more : (r c : ℕ) (xs ys : List Logged) → ((e : Logged) → Among e xs → Among e ys) → HasEntry r c xs → HasEntry r c ys
HasEntry-more r c xs ys more h = record { entry = h.entry; among = more h.entry h.among; commit = h.commit; at = h.at; write = h.write; writes = h.writes; of_record = h.of_record }

-- links that are the same
Reaches-same : (links links' : ℕ → ℕ) (stage : Stage) (xs : List ℕ) → ((q : ℕ) → Has q xs → links' q ≡ links q) → Reaches links stage xs → Reaches links' stage xs
Reaches-same links links' locked xs same h = tt
Reaches-same links links' above_floor xs same h = tt
Reaches-same links links' (seeks p u) xs same h = tt
Reaches-same links links' (passes p u) xs same h = tt
Reaches-same links links' (found p) xs same h = tt
Reaches-same links links' (floored p) xs same h = tt
Reaches-same links links' (cut_off to) xs same h = Spells-same links links' to xs same h
Reaches-same links links' (freeing to None) xs same h = Spells-same links links' to xs same h
Reaches-same links links' (freeing to (Some p)) [] same h = absurd h
Reaches-same links links' (freeing to (Some p)) (x ∷ xs) same h = (h.0, Spells-same links links' to xs (λ q has. same q (inr has)) h.1)

-- below every published word
module _ (least_write least_read : ℕ) (vs : List View) (minima : Minima least_write least_read vs) where
  gone_at : (stamps : ℕ → ℕ) (log : List Logged) (r c p : ℕ) → HasEntry r c log → stamps p < c → c ≤ least_read → OutOfReach stamps vs log r c p
  gone_at stamps log r c p entry below low = record {
    entered = entry;
    below = below;
    reads = λ i u at live. let h = (minima.each i u at live).reads in omega arith;
    writes = λ i u at live. let h = (minima.each i u at live).writes in let b = minima.reads_below in omega arith;
  }

  -- the places, with other words and owners of the rest
  ChainOk-same : (z : Size) (owner owner' : ℕ → Owner) (links links' stamps stamps' : ℕ → ℕ) (vs0 : List View) (n : ℕ) (log log' : List Logged) (r c : ℕ) (old new : Stage) (xs : List ℕ)
      → ((q : ℕ) → Has q xs → (stamps' q ≡ stamps q) × (owner' q ≡ cut_by n)) → ((e : Logged) → Among e log → Among e log') → c ≤ least_read → Reaches links' new xs
      → ChainOk z owner links stamps vs0 n log r c old xs → ChainOk z owner' links' stamps' vs n log' r c new xs
  ChainOk-same z owner owner' links links' stamps stamps' vs0 n log log' r c old new xs same more low reaches h = record {
    reaches = reaches;
    falls = Falls-same stamps stamps' xs (λ q has. (same q has).0) h.falls;
    owned = λ q has. ((h.owned q has).0, (same q has).1);
    gone = λ q has. let o = h.gone q has in let e = (same q has).0 in let b = o.below in gone_at stamps' log' r c q (HasEntry-more r c log log' more o.entered) (omega arith) low;
  }

module _ (kept : State → Type 0) (z : Size) (g : World) (m : Memory) (vs : List View) (id : ℕ) (v : View) where
  abbrev S : ℕ → ℕ
  S = (stored m).stamps

  abbrev L : ℕ → ℕ
  L = (stored m).links

  abbrev S' : Kind → ℕ → ℕ
  S' k = (stored (changed k v m)).stamps

  abbrev L' : Kind → ℕ → ℕ
  L' k = (stored (changed k v m)).links

  abbrev O' : Kind → ℕ → Owner
  O' k = (turned k v (m (name k v)) g).owner

  -- a place that was cut off is not one that the view holds
  held_apart : (k : Kind) → Step kept z g m vs id v k → (p q n : ℕ) → Has p v.places.held → g.owner q ≡ cut_by n → p ≢ q
  held_apart k s p q n has is same = absurd (let own = (AllOf-Has (λ x. (x < places z) × (g.owner x ≡ held v.number)) p v.places.held (s.rule.places.each id v s.at s.allowed.is_open).owned has).1 in
      let e = sym own ∙ ap g.owner same ∙ is in cc)

  -- the step frees this place
  abbrev Lets : Kind → ℕ → Type 0
  Lets (free_place r c to p) q = p ≡ q
  Lets _ q = ⊥

  links_at : (k : Kind) → Step kept z g m vs id v k → (q n : ℕ) → g.owner q ≡ cut_by n → L' k q ≡ L q
  links_at (point p j w) s q n is =
      at_number-other L j.write.place q _ (λ same. absurd (let e = sym (joint_of kept z g m vs id v _ s p j w s.allowed.can.0 s.allowed.can.1).mark.owned ∙ ap g.owner same ∙ is in cc))
  links_at (link_next p j a w) s q n is =
      let o = joint_of kept z g m vs id v _ s p j w s.allowed.can.0 s.allowed.can.1 in
      let there = (subst (IsAbove (g.lists p.record_number) S j.write.stamp p.under) s.allowed.can.3 o.above).0 in
      let own = (linked_owner kept z g m vs id v _ s p.record_number a (stand_of kept z g m vs id v _ s p (stamped w) s.allowed.can.0).kept.on_record there).1 in
      at_number-other L a q _ (λ same. absurd (let e = sym own ∙ ap g.owner same ∙ is in cc))
  links_at (cut r c p) s q n is =
      let own = (linked_owner kept z g m vs id v _ s r p (cut_work kept z g m vs id v r c p s).on_record (cut_version kept z g m vs id v r c p s).there).1 in
      at_number-other L p q 0 (λ same. absurd (let e = sym own ∙ ap g.owner same ∙ is in cc))
  links_at k s q n is = refl

  stamps_at : (k : Kind) → Step kept z g m vs id v k → (q n : ℕ) → g.owner q ≡ cut_by n → S' k q ≡ S q
  stamps_at (fill_stamp p t) s q n is = at_number-other S p q t (held_apart _ s p q n s.allowed.can is)
  stamps_at k s q n is = refl

  owner_at : (k : Kind) → Step kept z g m vs id v k → (q n : ℕ) → g.owner q ≡ cut_by n → (Lets k q → ⊥) → O' k q ≡ cut_by n
  owner_at (take p) s q n is not = at_cases g.owner p (cond (eqb (m (status p)) 0) (held v.number) (g.owner p)) q (λ o. o ≡ cut_by n)
      (λ e. taken e (eqb (m (status p)) 0) refl) (λ ne. is) where
        taken : p ≡ q → (b : Bool) → eqb (m (status p)) 0 ≡ b → cond b (held v.number) (g.owner p) ≡ cut_by n
        taken e false t = ap g.owner e ∙ is
        taken e true t = absurd (let f = free_from (g.owner p) (m (status p)) (s.rule.places.shows p (rw (← (s.rule.seats.each id v s.at s.allowed.is_open).size) s.allowed.can)) (eqb-true (m (status p)) 0 t) in
            let c = sym f ∙ ap g.owner e ∙ is in cc)
  owner_at (give p) s q n is not = at_number-other g.owner p q free (held_apart _ s p q n s.allowed.can is) ∙ is
  owner_at (mark r f) s q n is not =
      at_number-other g.owner f.place q (marked v.number) (held_apart _ s f.place q n (filled_held (stored m) v.places.held f v.places.fills s.allowed.can.0 (s.rule.filled id v s.at s.allowed.is_open)) is) ∙ is
  owner_at (link_head p j w) s q n is not = by_test (eqb (m (head p.record_number)) (suc p.place)) where
    by_test : (b : Bool) → cond b (at_number g.owner j.write.place (linked p.record_number)) g.owner q ≡ cut_by n
    by_test true = at_number-other g.owner j.write.place q (linked p.record_number)
        (λ same. absurd (let e = sym (joint_of kept z g m vs id v _ s p j w s.allowed.can.0 s.allowed.can.1).mark.owned ∙ ap g.owner same ∙ is in cc)) ∙ is
    by_test false = is
  owner_at (link_next p j a w) s q n is not = by_test (eqb (m (next_word a)) (suc p.place)) where
    by_test : (b : Bool) → cond b (at_number g.owner j.write.place (linked p.record_number)) g.owner q ≡ cut_by n
    by_test true = at_number-other g.owner j.write.place q (linked p.record_number)
        (λ same. absurd (let e = sym (joint_of kept z g m vs id v _ s p j w s.allowed.can.0 s.allowed.can.1).mark.owned ∙ ap g.owner same ∙ is in cc)) ∙ is
    by_test false = is
  owner_at (cut r c p) s q n is not = cut_same v.number (from_behind p (g.lists r)) g.owner q (λ has. absurd (let e = sym (tail_linked kept z g m vs id v r c p s q has).1 ∙ is in cc)) ∙ is
  owner_at (free_place r c to p) s q n is not = at_number-other g.owner p q free not ∙ is
  owner_at k s q n is not = is

  -- what is cut off was so before, but for the cut
  abbrev Cuts : Kind → Type 0
  Cuts (cut r c p) = ⊥
  Cuts _ = Unit {0}

  owner_was : (k : Kind) → Step kept z g m vs id v k → Cuts k → (q n : ℕ) → O' k q ≡ cut_by n → (g.owner q ≡ cut_by n) × (Lets k q → ⊥)
  owner_was (take p) s cuts q n = at_cases g.owner p (cond (eqb (m (status p)) 0) (held v.number) (g.owner p)) q (λ o. o ≡ cut_by n → (g.owner q ≡ cut_by n) × (⊥ → ⊥))
      (λ e. taken e (eqb (m (status p)) 0)) (λ ne is. (is, λ h. h)) where
        taken : p ≡ q → (b : Bool) → cond b (held v.number) (g.owner p) ≡ cut_by n → (g.owner q ≡ cut_by n) × (⊥ → ⊥)
        taken e true is = absurd cc
        taken e false is = (ap g.owner (sym e) ∙ is, λ h. h)
  owner_was (give p) s cuts q n = at_cases g.owner p free q (λ o. o ≡ cut_by n → (g.owner q ≡ cut_by n) × (⊥ → ⊥)) (λ e is. absurd cc) (λ ne is. (is, λ h. h))
  owner_was (mark r f) s cuts q n = at_cases g.owner f.place (marked v.number) q (λ o. o ≡ cut_by n → (g.owner q ≡ cut_by n) × (⊥ → ⊥)) (λ e is. absurd cc) (λ ne is. (is, λ h. h))
  owner_was (link_head p j w) s cuts q n = by_test (eqb (m (head p.record_number)) (suc p.place)) where
    by_test : (b : Bool) → cond b (at_number g.owner j.write.place (linked p.record_number)) g.owner q ≡ cut_by n → (g.owner q ≡ cut_by n) × (⊥ → ⊥)
    by_test true = at_cases g.owner j.write.place (linked p.record_number) q (λ o. o ≡ cut_by n → (g.owner q ≡ cut_by n) × (⊥ → ⊥)) (λ e is. absurd cc) (λ ne is. (is, λ h. h))
    by_test false = λ is. (is, λ h. h)
  owner_was (link_next p j a w) s cuts q n = by_test (eqb (m (next_word a)) (suc p.place)) where
    by_test : (b : Bool) → cond b (at_number g.owner j.write.place (linked p.record_number)) g.owner q ≡ cut_by n → (g.owner q ≡ cut_by n) × (⊥ → ⊥)
    by_test true = at_cases g.owner j.write.place (linked p.record_number) q (λ o. o ≡ cut_by n → (g.owner q ≡ cut_by n) × (⊥ → ⊥)) (λ e is. absurd cc) (λ ne is. (is, λ h. h))
    by_test false = λ is. (is, λ h. h)
  owner_was (cut r c p) s cuts q n = absurd cuts
  owner_was (free_place r c to p) s cuts q n = at_cases g.owner p free q (λ o. o ≡ cut_by n → (g.owner q ≡ cut_by n) × (p ≡ q → ⊥)) (λ e is. absurd cc) (λ ne is. (is, ne))
  owner_was k s cuts q n = λ is. (is, λ h. h)

  abbrev Before : View → List ℕ → Type 0
  Before x xs = IsChain z g.owner L S vs x.number x.log xs x.work.item

  module _ (k : Kind) (s : Step kept z g m vs id v k) (u : View) (minima : Minima (changed k v m min_write) (changed k v m min_read) (set vs id u)) where
    abbrev vs' : List View
    vs' = set vs id u

    low_of : (i : ℕ) (x : View) → At vs i x → x.spent ≡ false → (r c : ℕ) (stage : Stage) → x.work.item ≡ collects r c stage → c ≤ changed k v m min_read
    low_of i x at live r c stage e =
        let w = (work_of kept z g m vs s.rule i x at live r c stage e).early in let h = (s.rule.items i x at live).reached in let up = least_rises kept z g m vs id v k s in omega arith

    -- a chain that this step does not shorten
    chain_same : (i : ℕ) (x : View) → At vs i x → x.spent ≡ false → ((q : ℕ) → Has q (g.chains x.number) → Lets k q → ⊥) → (r c : ℕ) (old new : Stage) → x.work.item ≡ collects r c old → HasChain old
        → (log : List Logged) → ((e : Logged) → Among e x.log → Among e log) → Reaches (L' k) new (g.chains x.number) → ChainOk z (O' k) (L' k) (S' k) vs' x.number log r c new (g.chains x.number)
    chain_same i x at live not r c old new e has log more reaches =
        let h = chain_of kept z g m vs s.rule i x at live r c old has e in
        ChainOk-same (changed k v m min_write) (changed k v m min_read) vs' minima z g.owner (O' k) L (L' k) S (S' k) vs x.number x.log log r c old new (g.chains x.number)
        (λ q there. let is = (h.owned q there).1 in (stamps_at k s q x.number is, owner_at k s q x.number is (not q there))) more (low_of i x at live r c old e) reaches h

    still_reaches : (i : ℕ) (x : View) → At vs i x → x.spent ≡ false → (r c : ℕ) (old new : Stage) → x.work.item ≡ collects r c old → HasChain old → Reaches L new (g.chains x.number) → Reaches (L' k) new (g.chains x.number)
    still_reaches i x at live r c old new e has =
        let h = chain_of kept z g m vs s.rule i x at live r c old has e in Reaches-same L (L' k) new (g.chains x.number) (λ q there. links_at k s q x.number (h.owned q there).1)

    -- the same item, and perhaps more entries
    item_same : (i : ℕ) (x : View) → At vs i x → x.spent ≡ false → ((q : ℕ) → Has q (g.chains x.number) → Lets k q → ⊥) → (log : List Logged) → ((e : Logged) → Among e x.log → Among e log)
        → IsChain z (O' k) (L' k) (S' k) vs' x.number log (g.chains x.number) x.work.item
    item_same i x at live not log more = by_item x.work.item refl where
      by_item : (it : Item) → x.work.item ≡ it → IsChain z (O' k) (L' k) (S' k) vs' x.number log (g.chains x.number) it
      by_item no_item e = tt
      by_item (collects r c stage) e = λ has. chain_same i x at live not r c stage stage e has log more (still_reaches i x at live r c stage stage e has (chain_of kept z g m vs s.rule i x at live r c stage has e).reaches)

    -- another view
    others : (chains' : ℕ → List ℕ) → ((n : ℕ) → v.number ≢ n → chains' n ≡ g.chains n) → (i : ℕ) (x : View) → i ≢ id → At vs i x → x.spent ≡ false → ((q : ℕ) → g.owner q ≡ cut_by x.number → Lets k q → ⊥)
        → IsChain z (O' k) (L' k) (S' k) vs' x.number x.log (chains' x.number) x.work.item
    others chains' same i x ne at live not = subst (λ (xs : List ℕ). IsChain z (O' k) (L' k) (S' k) vs' x.number x.log xs x.work.item) (sym (same x.number (differs kept z g m vs id v k s i x ne at live)))
        (by_item x.work.item refl) where
          by_item : (it : Item) → x.work.item ≡ it → IsChain z (O' k) (L' k) (S' k) vs' x.number x.log (g.chains x.number) it
          by_item no_item e = tt
          by_item (collects r c stage) e = λ has.
              let h = chain_of kept z g m vs s.rule i x at live r c stage has e in
              chain_same i x at live (λ q there. not q (h.owned q there).1) r c stage stage e has x.log (λ f a. a) (still_reaches i x at live r c stage stage e has h.reaches)

    -- the place is in the chain of the view that cut it off
    own_chain : (seat q : ℕ) → SomeView (InChain g.chains seat q) vs → v.number ≡ seat → InChain g.chains seat q v
    own_chain seat q y e =
        let here = s.rule.seats.apart y.index id y.view v y.here s.at y.is_open s.allowed.is_open (y.holds.number ∙ sym e) in
        subst (InChain g.chains seat q) (sym (same_view vs y.index id v y.view s.at here y.here)) y.holds

    holder_set : u.spent ≡ v.spent → (chains' : ℕ → List ℕ) → ((n : ℕ) → v.number ≢ n → chains' n ≡ g.chains n) → (seat q : ℕ) → (v.number ≡ seat → InChain g.chains seat q v → InChain chains' seat q u)
        → SomeView (InChain g.chains seat q) vs → SomeView (InChain chains' seat q) vs'
    holder_set spent chains' same seat q own y = dite (ℕ_discrete v.number seat)
        (λ e. SomeView-own (InChain chains' seat q) vs id v u s.at (spent ∙ s.allowed.is_open) (own e (own_chain seat q y e)))
        (λ ne. SomeView-set (InChain g.chains seat q) (InChain chains' seat q) vs id v u s.at (spent ∙ s.allowed.is_open) (λ h. absurd (ne h.number))
        (λ x h. record { number = h.number; frees = h.frees; there = subst (Has q) (sym (same seat ne)) h.there }) y)

    -- chains stay as they are
    framed : Cuts k → ((q : ℕ) → Lets k q → ⊥) → u.spent ≡ v.spent → IsChain z (O' k) (L' k) (S' k) vs' u.number u.log (g.chains u.number) u.work.item
        → ((seat q : ℕ) → v.number ≡ seat → InChain g.chains seat q v → InChain g.chains seat q u) → part.Chains z (O' k) g.chains (L' k) (S' k) vs'
    framed cuts lets spent mine own = record {
      each = Each-set (λ x. Before x (g.chains x.number)) (λ x. IsChain z (O' k) (L' k) (S' k) vs' x.number x.log (g.chains x.number) x.work.item) vs u id
          (λ i x ne at live h. others g.chains (λ n away. refl) i x ne at live (λ q is. lets q)) (λ live. mine) s.rule.chains.each;
      holder = λ q seat inside is. holder_set spent g.chains (λ n away. refl) seat q (own seat q) (s.rule.chains.holder q seat inside (owner_was k s cuts q seat is).0);
    }

    -- nothing was cut off, and nothing is
    quiet_item : Cuts k → ((q : ℕ) → Lets k q → ⊥) → u.spent ≡ v.spent → (Frees u.work.item → ⊥) → (Frees v.work.item → ⊥) → part.Chains z (O' k) g.chains (L' k) (S' k) vs'
    quiet_item cuts lets spent none was = framed cuts lets spent (by_item u.work.item none) (λ seat q e h. absurd (was h.frees)) where
      by_item : (it : Item) → (Frees it → ⊥) → IsChain z (O' k) (L' k) (S' k) vs' u.number u.log (g.chains u.number) it
      by_item no_item none = tt
      by_item (collects r c stage) none = λ has. absurd (none has)

  -- what is said of another number, log and item
  IsChain-at : (owner : ℕ → Owner) (links stamps : ℕ → ℕ) (ys : List View) (chains : ℕ → List ℕ) (n : ℕ) (log : List Logged) (it : Item) (x : View) → x.number ≡ n → x.log ≡ log → x.work.item ≡ it
      → IsChain z owner links stamps ys n log (chains n) it → IsChain z owner links stamps ys x.number x.log (chains x.number) x.work.item
  IsChain-at owner links stamps ys chains n log it x number same_log item h =
      subst (λ (y : Item). IsChain z owner links stamps ys x.number x.log (chains x.number) y) (sym item)
      (subst (λ (y : List Logged). IsChain z owner links stamps ys x.number y (chains x.number) it) (sym same_log)
      (subst (λ (y : ℕ). IsChain z owner links stamps ys y log (chains y) it) (sym number) h))

  none_frees : (it : Item) → it ≡ no_item → Frees it → ⊥
  none_frees it e h = subst Frees e h

  stage_frees : (r c : ℕ) (stage : Stage) → v.work.item ≡ collects r c stage → (HasChain stage → ⊥) → Frees v.work.item → ⊥
  stage_frees r c stage e not h = not (subst Frees e h)

  floor_stage : (b : Bool) → HasChain (cond b above_floor locked) → ⊥
  floor_stage true h = h
  floor_stage false h = h

  sought_stage : (p n : ℕ) (b : Bool) → HasChain (cond b (found p) (passes p n)) → ⊥
  sought_stage p n true h = h
  sought_stage p n false h = h

  locked_stage : (r c : ℕ) (b : Bool) → Frees (cond b (collects r c locked) no_item) → ⊥
  locked_stage r c true h = h
  locked_stage r c false h = h

  -- a link that is 0 spells nothing
  spells_none : (to q : ℕ) (xs : List ℕ) → to ≡ 0 → Spells L to xs → Has q xs → ⊥
  spells_none to q [] zero_is sp has = has
  spells_none to q (x ∷ xs) zero_is sp has = absurd (let e = sp.0 in omega arith)

  module _ (r c p : ℕ) (s : Step kept z g m vs id v (cut r c p)) where
    abbrev tail : List ℕ
    tail = from_behind p (g.lists r)

    abbrev after_cut : View
    after_cut = after (cut r c p) v (m (name (cut r c p) v))

    abbrev chains' : ℕ → List ℕ
    chains' = at_number g.chains v.number tail

    new_chain : ChainOk z (O' (cut r c p)) (L' (cut r c p)) S (set vs id after_cut) v.number v.log r c (cut_off (m (next_word p))) tail
    new_chain =
        let w = cut_work kept z g m vs id v r c p s in let n = cut_version kept z g m vs id v r c p s in let is = n.stamp_is in
        let l = s.rule.lists.each r w.on_record in
        let low : (q : ℕ) → Has q tail → S q < c = tail_low kept z g m vs id v r c p s in record {
          reaches = Spells-same L (L' (cut r c p)) (m (next_word p)) tail (λ q has. at_number-other L p q 0 (λ same. absurd (let b = low q has in let e : S p ≡ S q = ap S same in omega arith)))
              (spells_from p S L (g.lists r) (head_words m r) l.spelled n.there);
          falls = falls_from p S (g.lists r) l.falls;
          owned = λ q has. ((tail_linked kept z g m vs id v r c p s q has).0, cut_here v.number tail g.owner q has);
          gone = λ q has. gone_at (m min_write) (m min_read) (set vs id after_cut) (minima_kept kept z g m vs id v (cut r c p) s) S v.log r c q w.entered (low q has) (cut_low kept z g m vs id v r c p s);
        }

    cuts_off : part.Chains z (O' (cut r c p)) chains' (L' (cut r c p)) S (set vs id after_cut)
    cuts_off = record {
      each = Each-set (λ x. Before x (g.chains x.number)) (λ x. IsChain z (O' (cut r c p)) (L' (cut r c p)) S (set vs id after_cut) x.number x.log (chains' x.number) x.work.item) vs after_cut id
          (λ i x ne at live h. others (cut r c p) s after_cut (minima_kept kept z g m vs id v (cut r c p) s) chains' (λ n away. at_number-other g.chains v.number n tail away) i x ne at live (λ q is l. l))
          (λ live has. subst (ChainOk z (O' (cut r c p)) (L' (cut r c p)) S (set vs id after_cut) v.number v.log r c (cut_off (m (next_word p)))) (sym (at_number-same g.chains v.number tail)) new_chain)
          s.rule.chains.each;
      holder = λ q seat inside is. ⊎_elim
          (λ (h : Has q tail × (cut_by v.number ≡ cut_by seat)). let e = cut_one v.number seat h.1 in
          SomeView-own (InChain chains' seat q) vs id v after_cut s.at s.allowed.is_open record { number = e; frees = tt; there = subst (λ (n : ℕ). Has q (chains' n)) e (subst (Has q) (sym (at_number-same g.chains v.number tail)) h.0) })
          (λ (h : (Has q tail → ⊥) × (g.owner q ≡ cut_by seat)). holder_set (cut r c p) s after_cut (minima_kept kept z g m vs id v (cut r c p) s) refl chains' (λ n away. at_number-other g.chains v.number n tail away) seat q
          (λ e k. absurd (stage_frees r c (floored p) s.allowed.can (λ f. f) k.frees)) (s.rule.chains.holder q seat inside h.1))
          (cut_or v.number tail g.owner q (cut_by seat) is);
    }

  module _ (r c to : ℕ) (s : Step kept z g m vs id v (unlock r c to)) where
    abbrev k1 : Kind
    k1 = unlock r c to

    unlocks : (b : Bool) → eqb to 0 ≡ b → (u : View) → Minima (m min_write) (m min_read) (set vs id u) → u.spent ≡ v.spent → u.number ≡ v.number → u.log ≡ v.log → u.work.item ≡ cond b no_item (collects r c (freeing to None)) → part.Chains z g.owner g.chains L S (set vs id u)
    unlocks true e u minima spent number log is = framed k1 s u minima tt (λ q l. l) spent (IsChain-at (O' k1) (L' k1) (S' k1) (set vs id u) g.chains v.number v.log no_item u number log is tt)
        (λ seat q same h. absurd (spells_none to q (g.chains v.number) (eqb-true to 0 e) (chain_of kept z g m vs s.rule id v s.at s.allowed.is_open r c (cut_off to) tt s.allowed.can).reaches (subst (λ (n : ℕ). Has q (g.chains n)) (sym same) h.there)))
    unlocks false e u minima spent number log is = framed k1 s u minima tt (λ q l. l) spent
        (IsChain-at (O' k1) (L' k1) (S' k1) (set vs id u) g.chains v.number v.log (collects r c (freeing to None)) u number log is (λ has. chain_same k1 s u minima id v s.at s.allowed.is_open (λ q there l. l) r c (cut_off to) (freeing to None) s.allowed.can tt v.log (λ f a. a)
        (chain_of kept z g m vs s.rule id v s.at s.allowed.is_open r c (cut_off to) tt s.allowed.can).reaches))
        (λ seat q same h. record { number = number ∙ h.number; frees = subst Frees (sym is) tt; there = h.there })

  module _ (r c to : ℕ) (s : Step kept z g m vs id v (follow r c to)) where
    abbrev k2 : Kind
    k2 = follow r c to

    follows_at : (xs : List ℕ) → 0 < to → Spells L to xs → SpellsBehind L (m (next_word (to - 1))) (to - 1) xs
    follows_at [] pos sp = absurd (omega arith)
    follows_at (x ∷ xs) pos sp = let here : x ≡ to - 1 = (let e = sp.0 in omega arith) in (here, subst (λ (y : ℕ). Spells L (L y) xs) here sp.1)

    follows : part.Chains z g.owner g.chains L S (set vs id (after k2 v (m (name k2 v))))
    follows = let mm = minima_kept kept z g m vs id v k2 s in let u = after k2 v (m (name k2 v)) in
        framed k2 s u mm tt (λ q l. l) refl
        (λ has. chain_same k2 s u mm id v s.at s.allowed.is_open (λ q there l. l) r c (freeing to None) (freeing (m (next_word (to - 1))) (Some (to - 1))) s.allowed.can.0 tt v.log (λ f a. a)
        (follows_at (g.chains v.number) s.allowed.can.1 (chain_of kept z g m vs s.rule id v s.at s.allowed.is_open r c (freeing to None) tt s.allowed.can.0).reaches))
        (λ seat q same h. record { number = h.number; frees = tt; there = h.there })

  module _ (r c to p : ℕ) (s : Step kept z g m vs id v (free_place r c to p)) where
    abbrev k3 : Kind
    k3 = free_place r c to p

    abbrev rest : List ℕ
    rest = all_but_first (g.chains v.number)

    abbrev chains3 : ℕ → List ℕ
    chains3 = at_number g.chains v.number rest

    -- what is left of the chain
    rest_of : (xs : List ℕ) → ChainOk z g.owner L S vs v.number v.log r c (freeing to (Some p)) xs → ChainOk z g.owner L S vs v.number v.log r c (freeing to None) (all_but_first xs)
    rest_of [] h = absurd h.reaches
    rest_of (x ∷ xs) h = record { reaches = h.reaches.1; falls = h.falls.1; owned = λ q has. h.owned q (inr has); gone = λ q has. h.gone q (inr has) }

    rest_apart : (xs : List ℕ) → Falls S xs → SpellsBehind L to p xs → (q : ℕ) → Has q (all_but_first xs) → p ≢ q
    rest_apart [] f h q has = absurd h
    rest_apart (x ∷ xs) f h q has = λ same. absurd (let l = f.0 q has in let e : S x ≡ S p = ap S h.0 in let d : S p ≡ S q = ap S same in omega arith)

    rest_has : (xs : List ℕ) → SpellsBehind L to p xs → (q : ℕ) → p ≢ q → Has q xs → Has q (all_but_first xs)
    rest_has [] h q ne has = absurd h
    rest_has (x ∷ xs) h q ne (inl e) = absurd (ne (sym h.0 ∙ e))
    rest_has (x ∷ xs) h q ne (inr has) = has

    old : ChainOk z g.owner L S vs v.number v.log r c (freeing to (Some p)) (g.chains v.number)
    old = chain_of kept z g m vs s.rule id v s.at s.allowed.is_open r c (freeing to (Some p)) tt s.allowed.can

    new3 : (u : View) → Minima (m min_write) (m min_read) (set vs id u) → ChainOk z (O' k3) L S (set vs id u) v.number v.log r c (freeing to None) rest
    new3 u minima = let h = rest_of (g.chains v.number) old in
        ChainOk-same (m min_write) (m min_read) (set vs id u) minima z g.owner (O' k3) L L S S vs v.number v.log v.log r c (freeing to None) (freeing to None) rest
        (λ q has. (refl, at_number-other g.owner p q free (rest_apart (g.chains v.number) old.falls old.reaches q has) ∙ (h.owned q has).1)) (λ e a. a)
        (low_of k3 s u minima id v s.at s.allowed.is_open r c (freeing to (Some p)) s.allowed.can) h.reaches h

    frees : (b : Bool) → eqb to 0 ≡ b → (u : View) → Minima (m min_write) (m min_read) (set vs id u) → u.spent ≡ v.spent → u.number ≡ v.number → u.log ≡ v.log → u.work.item ≡ cond b no_item (collects r c (freeing to None)) → part.Chains z (O' k3) chains3 L S (set vs id u)
    frees b e u minima spent number log is = record {
      each = Each-set (λ x. Before x (g.chains x.number)) (λ x. IsChain z (O' k3) L S (set vs id u) x.number x.log (chains3 x.number) x.work.item) vs u id
          (λ i x ne at live h. others k3 s u minima chains3 (λ n away. at_number-other g.chains v.number n rest away) i x ne at live
          (λ q mine same. differs kept z g m vs id v k3 s i x ne at live (cut_one v.number x.number (sym (freed_owner kept z g m vs id v r c to p s) ∙ ap g.owner same ∙ mine))))
          (λ live. IsChain-at (O' k3) L S (set vs id u) chains3 v.number v.log (cond b no_item (collects r c (freeing to None))) u number log is (by_test b)) s.rule.chains.each;
      holder = λ q seat inside h. let o = owner_was k3 s tt q seat h in
          holder_set k3 s u minima spent chains3 (λ n away. at_number-other g.chains v.number n rest away) seat q (λ same k. record {
            number = number ∙ k.number;
            frees = subst Frees (sym is) (still b e q (rest_has (g.chains v.number) old.reaches q o.1 (subst (λ (n : ℕ). Has q (g.chains n)) (sym same) k.there)));
            there = subst (λ (n : ℕ). Has q (chains3 n)) same (subst (Has q) (sym (at_number-same g.chains v.number rest)) (rest_has (g.chains v.number) old.reaches q o.1 (subst (λ (n : ℕ). Has q (g.chains n)) (sym same) k.there)));
          }) (s.rule.chains.holder q seat inside o.0);
    } where
      by_test : (b : Bool) → IsChain z (O' k3) L S (set vs id u) v.number v.log (chains3 v.number) (cond b no_item (collects r c (freeing to None)))
      by_test true = tt
      by_test false = λ has. subst (ChainOk z (O' k3) L S (set vs id u) v.number v.log r c (freeing to None)) (sym (at_number-same g.chains v.number rest)) (new3 u minima)

      still : (b : Bool) → eqb to 0 ≡ b → (q : ℕ) → Has q rest → Frees (cond b no_item (collects r c (freeing to None)))
      still true e q has = spells_none to q rest (eqb-true to 0 e) (rest_of (g.chains v.number) old).reaches has
      still false e q has = tt

  pub chains_kept : (k : Kind) → Step kept z g m vs id v k → part.Chains z (turned k v (m (name k v)) g).owner (turned k v (m (name k v)) g).chains (stored (changed k v m)).links (stored (changed k v m)).stamps (set vs id (after k v (m (name k v))))
  chains_kept (decide_by_check p u w n) s = framed _ s _ (minima_kept kept z g m vs id v _ s) tt (λ q l. l) refl
      (item_same _ s _ (minima_kept kept z g m vs id v _ s) id v s.at s.allowed.is_open (λ q there l. l) _ (λ e a. Among-if (nat_le (m (rts p.place)) (stamp_in v.flight)) e (commit_of v.flight v.work.finished v.work.linked) v.log a)) (λ seat q e h. record { number = h.number; frees = h.frees; there = h.there })
  chains_kept decide_bare s = framed _ s _ (minima_kept kept z g m vs id v _ s) tt (λ q l. l) refl
      (item_same _ s _ (minima_kept kept z g m vs id v _ s) id v s.at s.allowed.is_open (λ q there l. l) _ (λ e a. Among-left e v.log _ a)) (λ seat q e h. record { number = h.number; frees = h.frees; there = h.there })
  chains_kept (take_lock r c) s = quiet_item _ s _ (minima_kept kept z g m vs id v _ s) tt (λ q l. l) refl (locked_stage r c (eqb (m (lock r)) 0)) (none_frees v.work.item s.allowed.can.1)
  chains_kept (load_floor r c) s = quiet_item _ s _ (minima_kept kept z g m vs id v _ s) tt (λ q l. l) refl (floor_stage (nat_le (m (floor r)) c)) (stage_frees r c locked s.allowed.can (λ f. f))
  chains_kept (seek_head r c) s = quiet_item _ s _ (minima_kept kept z g m vs id v _ s) tt (λ q l. l) refl (λ f. f) (stage_frees r c above_floor s.allowed.can (λ f. f))
  chains_kept (seek_stamp r c p u) s = quiet_item _ s _ (minima_kept kept z g m vs id v _ s) tt (λ q l. l) refl (sought_stage p (m (wts p)) (eqb (m (wts p)) c)) (stage_frees r c (seeks p u) s.allowed.can (λ f. f))
  chains_kept (seek_next r c p w) s = quiet_item _ s _ (minima_kept kept z g m vs id v _ s) tt (λ q l. l) refl (λ f. f) (stage_frees r c (passes p w) s.allowed.can (λ f. f))
  chains_kept (raise_floor r c p) s = quiet_item _ s _ (minima_kept kept z g m vs id v _ s) tt (λ q l. l) refl (λ f. f) (stage_frees r c (found p) s.allowed.can (λ f. f))
  chains_kept (drop r c) s = quiet_item _ s _ (minima_kept kept z g m vs id v _ s) tt (λ q l. l) refl (λ f. f) (stage_frees r c locked s.allowed.can (λ f. f))
  chains_kept (cut r c p) s = cuts_off r c p s
  chains_kept (unlock r c to) s = unlocks r c to s (eqb to 0) refl _ (minima_kept kept z g m vs id v _ s) refl refl refl refl
  chains_kept (follow r c to) s = follows r c to s
  chains_kept (free_place r c to p) s = frees r c to p s (eqb to 0) refl _ (minima_kept kept z g m vs id v _ s) refl refl refl refl
  chains_kept k s = framed k s _ (minima_kept kept z g m vs id v k s) tt (λ q l. l) refl
      (search (tt, item_same k s _ (minima_kept kept z g m vs id v k s) id v s.at s.allowed.is_open (λ q there l. l) v.log (λ e a. a))) (λ seat q e h. search (h, none_frees v.work.item, s.allowed.can))

-- the same words, and other views
module _ (least_write least_read : ℕ) (vs vs' : List View) (minima : Minima least_write least_read vs') (z : Size) (owner : ℕ → Owner) (links stamps : ℕ → ℕ) where
  IsChain-views : (n : ℕ) (log log' : List Logged) (xs : List ℕ) (it : Item) → ((r c : ℕ) (stage : Stage) → it ≡ collects r c stage → c ≤ least_read) → ((e : Logged) → Among e log → Among e log')
      → IsChain z owner links stamps vs n log xs it → IsChain z owner links stamps vs' n log' xs it
  IsChain-views n log log' xs no_item low more h = tt
  IsChain-views n log log' xs (collects r c stage) low more h = λ has. let o = h has in
      ChainOk-same least_write least_read vs' minima z owner owner links links stamps stamps vs n log log' r c stage stage xs (λ q there. (refl, (o.owned q there).1)) more (low r c stage refl) o.reaches o

module _ (kept : State → Type 0) (z : Size) (g : World) (m : Memory) (vs : List View) (id : ℕ) (v : View) (s : Split kept z g m vs id v) where
  low_split : (i : ℕ) (x : View) → At vs i x → x.spent ≡ false → (r c : ℕ) (stage : Stage) → x.work.item ≡ collects r c stage → c ≤ m min_read
  low_split i x at live r c stage e = let w = (work_of kept z g m vs s.rule i x at live r c stage e).early in let h = (s.rule.items i x at live).reached in omega arith

  pub chains_split : part.Chains z g.owner g.chains (stored m).links (stored m).stamps (set vs id (split_left v) ++ split_right v ∷ [])
  chains_split = let vs' = set vs id (split_left v) ++ split_right v ∷ [] in
      let P : View → Type 0 = λ x. IsChain z g.owner (stored m).links (stored m).stamps vs x.number x.log (g.chains x.number) x.work.item in
      let Q : View → Type 0 = λ x. IsChain z g.owner (stored m).links (stored m).stamps vs' x.number x.log (g.chains x.number) x.work.item in record {
        each = Each-push Q Q (set vs id (split_left v)) (split_right v) (λ i u at live h. h) (λ live. tt)
            (Each-set P Q vs (split_left v) id
            (λ i x ne at live h. IsChain-views (m min_write) (m min_read) vs vs' (minima_split kept z g m vs id v s) z g.owner (stored m).links (stored m).stamps x.number x.log x.log (g.chains x.number) x.work.item (low_split i x at live) (λ e a. a) h)
            (λ live. tt) s.rule.chains.each);
        holder = λ q seat inside is. SomeView-push (InChain g.chains seat q) (set vs id (split_left v)) (split_right v)
            (SomeView-set (InChain g.chains seat q) (InChain g.chains seat q) vs id v (split_left v) s.at s.is_open (λ h. absurd (subst Frees s.ends.collected h.frees)) (λ x h. h) (s.rule.chains.holder q seat inside is));
      }

module _ (kept : State → Type 0) (z : Size) (g : World) (m : Memory) (vs : List View) (id other : ℕ) (v w : View) (s : Join kept z g m vs id other v w) where
  low_joined : (i : ℕ) (x : View) → At vs i x → x.spent ≡ false → (r c : ℕ) (stage : Stage) → x.work.item ≡ collects r c stage → c ≤ m min_read
  low_joined i x at live r c stage e = let w = (work_of kept z g m vs s.rule i x at live r c stage e).early in let h = (s.rule.items i x at live).reached in omega arith

  pub chains_joined : part.Chains z g.owner g.chains (stored m).links (stored m).stamps (joined vs (joined_view v w) id other)
  chains_joined = let vs' = joined vs (joined_view v w) id other in record {
    each = Each-join vs (joined_view v w) id other (λ x. IsChain z g.owner (stored m).links (stored m).stamps vs x.number x.log (g.chains x.number) x.work.item)
        (λ x. IsChain z g.owner (stored m).links (stored m).stamps vs' x.number x.log (g.chains x.number) x.work.item)
        (λ i x third live h. IsChain-views (m min_write) (m min_read) vs vs' (minima_joined kept z g m vs id other v w s) z g.owner (stored m).links (stored m).stamps x.number x.log x.log (g.chains x.number) x.work.item (low_joined i x third.2 live) (λ e a. a) h)
        (λ live. tt) s.rule.chains.each;
    holder = λ q seat inside is. SomeView-join (InChain g.chains seat q) vs id other v w (joined_view v w) s.at s.at_other s.apart s.is_open (λ h. absurd (subst Frees s.ends.collected h.frees)) (λ h. subst Frees s.other_ends.collected h.frees)
        (s.rule.chains.holder q seat inside is);
  }

pub chains_start : (z : Size) → IsSize z → part.Chains z (first_world z).owner (first_world z).chains (stored (start z)).links (stored (start z)).stamps (first_view z ∷ [])
chains_start z h = record {
  each = Each-one (λ x. IsChain z (first_world z).owner (stored (start z)).links (stored (start z)).stamps (first_view z ∷ []) x.number x.log [] x.work.item) (first_view z) tt;
  holder = λ q seat inside is. absurd (not_cut q seat (nat_lt q z.records) is);
} where
  not_cut : (q seat : ℕ) (b : Bool) → cond b (linked q) free ≡ cut_by seat → ⊥
  not_cut q seat true e = cc
  not_cut q seat false e = cc
