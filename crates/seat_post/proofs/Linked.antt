-- What is known of lists after the versions of a transaction were linked.
use Rattle.std.proofs.Common.{◌≡◌, ◌≢◌, ℕ, ◌+◌, zero, suc, ◌<◌, ◌≤◌, true, false, Bool, cond, eqb, List, [], ◌∷◌, ◌++◌, Option, None, Some, refl, sym, ap, ◌∙◌, subst, inl, inr, arith, take, length, eq-eqb}
use Rattle.std.specs.Prelude.{IsSome, nat_lt}
use Rattle.std.proofs.lemmas.Bool.Decides.{eqb_tells}
use Rattle.word_layout.specs.Size.{Size, usable_places}
use Rattle.core_rule.specs.View.{View, Write, Bound, Counted, Top}
use Rattle.core_rule.specs.Views.{Among, IsAlone}
use Rattle.core_rule.specs.Searching.{known_of, one_more, counted_more, newest_stamp}
use Rattle.core_rule.specs.Deciding.{written_values, value_of}
use Rattle.core_rule.specs.Reckoning.{total, IsWithin, AtMost}
use Rattle.record_store.specs.Meaning.{value_at}
use Rattle.validate_core.specs.Sets.{SetsView, Once}
use Rattle.validate_core.specs.Installing.{LinksEach, FindsNoPlace, IsFullFor}
use Rattle.validate_core.specs.OneByOne.{none_yet, one_more as one_more_linked}
use Rattle.validate_core.proofs.Placing.{one_view}
use Rattle.seat_post.specs.Seats.{Bounds}
use Rattle.seat_post.specs.Lists.{HasOutside, IsOneMore, AreLinked, IsRoomyAt, IsFullAt}
use Rattle.seat_post.proofs.Listed.{written_values-append, unheld, eqb_not, known_tail}
use Rattle.core_rule.proofs.Among.{Among-last, Among-left}

-- what a view knows of lists
abbrev pub bounds_by : View → Bounds
bounds_by v = record { counts = v.counts; tops = v.tops }

abbrev pub number_of : Write → ℕ
number_of u = u.record_number

-- ---- no record twice

pub once_front : (us : List Write) (u : Write) → Once number_of (us ++ u ∷ []) → Once number_of us
once_front [] u once = tt
once_front (w ∷ us) u once = ((λ y among. once.0 y (Among-left y us (u ∷ []) among)), once_front us u once.1)

pub once_end : (us : List Write) (u : Write) → Once number_of (us ++ u ∷ []) → (y : Write) → Among y us → y.record_number ≢ u.record_number
once_end [] u once y among = absurd among
once_end (w ∷ us) u once y (inl same) = λ e. once.0 u (Among-last u us) (sym e ∙ ap number_of (sym same))
once_end (w ∷ us) u once y (inr among) = once_end us u once.1 y among

among_take : (n : ℕ) (us : List Write) (u : Write) → Among u (take n us) → Among u us
among_take zero us u among = absurd among
among_take (suc n) [] u among = absurd among
among_take (suc n) (w ∷ us) u (inl same) = inl same
among_take (suc n) (w ∷ us) u (inr among) = inr (among_take n us u among)

pub once_take : (n : ℕ) (us : List Write) → Once number_of us → Once number_of (take n us)
once_take zero us once = tt
once_take (suc n) [] once = tt
once_take (suc n) (w ∷ us) once = ((λ y among. once.0 y (among_take n us y among)), once_take n us once.1)

pub written_values-take : (n : ℕ) (us : List Write) → written_values (take n us) ≡ take n (written_values us)
written_values-take zero us = refl
written_values-take (suc n) [] = refl
written_values-take (suc n) (w ∷ us) = ap (λ vs. (w.record_number, value_of w.cells) ∷ vs) (written_values-take n us)

pub not_written : (us : List Write) (r : ℕ) → ((u : Write) → Among u us → u.record_number ≢ r) → value_at (written_values us) r ≡ None
not_written [] r none = refl
not_written (w ∷ us) r none =
    unheld (eqb r w.record_number) (value_of w.cells) (value_at (written_values us) r) (eqb_not r w.record_number (λ e. none w (inl refl) (sym e))) (not_written us r (λ u among. none u (inr among)))

-- ---- one version more

outside_more : (b : Bool) (n : ℕ) → cond b n (suc n) ≤ suc n
outside_more true n = omega arith
outside_more false n = omega arith

bounds_more : (z : Size) (p : ℕ) (o : Option Bound) → IsOneMore o (one_more z p o)
bounds_more z p None = refl
bounds_more z p (Some b) = (omega arith, outside_more (nat_lt p z.records) b.outside)

pub known_here : (z : Size) (rid t p : ℕ) (k : Counted) (r : ℕ) → r ≡ rid → known_of (counted_more z rid t p k) r ≡ one_more z p (known_of k rid)
known_here z rid t p k r same = ap (λ (b : Bool). cond b (one_more z p (known_of k rid)) (known_of k r)) (eq-eqb rid r (sym same))

pub known_there : (z : Size) (rid t p : ℕ) (k : Counted) (r : ℕ) → (r ≡ rid → ⊥) → known_of (counted_more z rid t p k) r ≡ known_of k r
known_there z rid t p k r apart = ap (λ (b : Bool). cond b (one_more z p (known_of k rid)) (known_of k r)) (eqb_not rid r (λ e. apart (sym e)))

newest_here : (t : Top) (ts : List Top) (r : ℕ) → r ≡ t.record_number → newest_stamp (t ∷ ts) r ≡ Some t.stamp
newest_here t ts r same = ap (λ (b : Bool). cond b (Some t.stamp) (newest_stamp ts r)) (eq-eqb t.record_number r (sym same))

newest_there : (t : Top) (ts : List Top) (r : ℕ) → (r ≡ t.record_number → ⊥) → newest_stamp (t ∷ ts) r ≡ newest_stamp ts r
newest_there t ts r apart = ap (λ (b : Bool). cond b (Some t.stamp) (newest_stamp ts r)) (eqb_not t.record_number r (λ e. apart (sym e)))

-- what a write at the end of a list says of a record
at_end : (ws : List (ℕ × Option (List ℕ))) (w : ℕ × Option (List ℕ)) (r : ℕ) → (r ≡ w.0 → ⊥) → value_at (ws ++ w ∷ []) r ≡ value_at ws r
at_end [] w r apart = unheld (eqb r w.0) w.1 None (eqb_not r w.0 apart) refl
at_end (v ∷ ws) w r apart = ap (λ found. cond (eqb r v.0) (Some v.1) found) (at_end ws w r apart)

some_end : (ws : List (ℕ × Option (List ℕ))) (w : ℕ × Option (List ℕ)) → value_at (ws ++ w ∷ []) w.0 ≡ None → ⊥
some_end [] w none = let h = ap (λ (b : Bool). cond b (Some w.1) None) (eq-eqb w.0 w.0 refl) in let e : Some w.1 ≡ None = sym h ∙ none in cc
some_end (v ∷ ws) w none = some_end ws w (known_tail (eqb w.0 v.0) v.1 (value_at (ws ++ w ∷ []) w.0) none)

-- a version was linked of one more record
pub linked_more : (z : Size) (stamp : ℕ) (ws : List (ℕ × Option (List ℕ))) (value : Option (List ℕ)) (u : Write) (before mid after' : Bounds) → AreLinked ws stamp before mid → value_at ws u.record_number ≡ None → after'.counts ≡ counted_more z u.record_number u.stamp u.place mid.counts → after'.tops ≡ record { record_number = u.record_number; stamp = u.stamp } ∷ mid.tops → u.stamp ≡ stamp → AreLinked (ws ++ (u.record_number, value) ∷ []) stamp before after'
linked_more z stamp ws value u before mid after' are new counts tops at =
    let rid = u.record_number in
    let counted : (r : ℕ) → known_of after'.counts r ≡ known_of (counted_more z rid u.stamp u.place mid.counts) r = λ r. ap (λ (k : Counted). known_of k r) counts in
    let topped : (r : ℕ) → newest_stamp after'.tops r ≡ newest_stamp (record { record_number = rid; stamp = u.stamp } ∷ mid.tops) r = λ r. ap (λ (ts : List Top). newest_stamp ts r) tops in
    record {
      written = λ r some. elim (eqb_tells r rid) as (λ _. IsOneMore (known_of before.counts r) (known_of after'.counts r) × (newest_stamp after'.tops r ≡ Some stamp)) [
        | inl t ↦ (
            let known : known_of after'.counts r ≡ one_more z u.place (known_of before.counts r) = counted r ∙ known_here z rid u.stamp u.place mid.counts r t.1 ∙ ap (λ o. one_more z u.place o) ((are.others rid new).0 ∙ ap (λ n. known_of before.counts n) (sym t.1)) in
            (subst (λ o. IsOneMore (known_of before.counts r) o) (sym known) (bounds_more z u.place (known_of before.counts r)), topped r ∙ newest_here (record { record_number = rid; stamp = u.stamp }) mid.tops r t.1 ∙ ap (λ n. Some n) at))
        | inr t ↦ (
            let was = are.written r (subst (λ found. IsSome found) (at_end ws (rid, value) r t.1) some) in
            (subst (λ o. IsOneMore (known_of before.counts r) o) (sym (counted r ∙ known_there z rid u.stamp u.place mid.counts r t.1)) was.0, topped r ∙ newest_there (record { record_number = rid; stamp = u.stamp }) mid.tops r t.1 ∙ was.1))
      ];
      others = λ r none. elim (eqb_tells r rid) as (λ _. (known_of after'.counts r ≡ known_of before.counts r) × (newest_stamp after'.tops r ≡ newest_stamp before.tops r)) [
        | inl t ↦ absurd (some_end ws (rid, value) (ap (λ n. value_at (ws ++ (rid, value) ∷ []) n) (sym t.1) ∙ none))
        | inr t ↦ (
            let was = are.others r (sym (at_end ws (rid, value) r t.1) ∙ none) in
            (counted r ∙ known_there z rid u.stamp u.place mid.counts r t.1 ∙ was.0, topped r ∙ newest_there (record { record_number = rid; stamp = u.stamp }) mid.tops r t.1 ∙ was.1))
      ];
    }

-- ---- all of them

pub none_linked : (stamp : ℕ) (k : Bounds) → AreLinked [] stamp k k
none_linked stamp k = record { written = λ r some. (let e : false ≡ true = some in cc); others = λ r none. (refl, refl) }

pub each_linked : (z : Size) (stamp : ℕ) (us : List Write) (v w : View) → LinksEach z stamp us v w → Once number_of us → AreLinked (written_values us) stamp (bounds_by v) (bounds_by w)
each_linked z stamp _ _ _ (none_yet v) once = none_linked stamp (bounds_by v)
each_linked z stamp _ _ _ (one_more_linked us u v w x each l) once =
    let before = each_linked z stamp us v w each (once_front us u once) in
    let new = not_written us u.record_number (once_end us u once) in
    let seen = one_view z stamp u w x l in
    subst (λ ws. AreLinked ws stamp (bounds_by v) (bounds_by x)) (sym (written_values-append us u))
    (linked_more w.size stamp (written_values us) (value_of u.cells) u (bounds_by v) (bounds_by w) (bounds_by x) before new (ap (λ (y : View). y.counts) seen) (ap (λ (y : View). y.tops) seen) l.at)

-- ---- at a post

-- the writes of a post are linked
pub post_linked : (z : Size) (stamp : ℕ) (us : List Write) (v w : View) (writes : List (ℕ × Option (List ℕ))) (at : ℕ) (before : Bounds) → LinksEach z stamp us v w → Once number_of us → written_values us ≡ writes → stamp ≡ at → bounds_by v ≡ before → AreLinked writes at before (bounds_by w)
post_linked z stamp us v w writes at before each once values same known =
    subst (λ k. AreLinked writes at k (bounds_by w)) known
    (subst (λ n. AreLinked writes n (bounds_by v) (bounds_by w)) same (subst (λ ws. AreLinked ws stamp (bounds_by v) (bounds_by w)) values (each_linked z stamp us v w each once)))

-- the first few of them are, where there was no place for one more
pub post_stuck : (z : Size) (s : SetsView) (v w : View) (writes : List (ℕ × Option (List ℕ))) (at : ℕ) (before : Bounds) → Once number_of s.writes → written_values s.writes ≡ writes → v.published.write ≡ at → bounds_by v ≡ before → (stuck : FindsNoPlace z s v w) → AreLinked (take stuck.number writes) at before (bounds_by w)
post_stuck z s v w writes at before once values same known stuck =
    let searched : bounds_by stuck.searched ≡ bounds_by stuck.installed = ap bounds_by stuck.none.view in
    let over : bounds_by w ≡ bounds_by stuck.searched = ap bounds_by stuck.works.only in
    let linked = post_linked z v.published.write (take stuck.number s.writes) v stuck.installed (take stuck.number writes) at before stuck.each (once_take stuck.number s.writes once) (written_values-take stuck.number s.writes ∙ ap (take stuck.number) values) same known in
    subst (λ k. AreLinked (take stuck.number writes) at before k) (sym (over ∙ searched)) linked

-- ---- where no place is free

ones : (k : ℕ) → total (λ r. 1) k ≤ k
ones zero = omega arith
ones (suc k) = let h = ones k in omega arith

outside_within : (o : Option Bound) → HasOutside 1 o → IsWithin o 1
outside_within None h = h
outside_within (Some b) h = h

pub most_roomy : (size : Size) (known : Bounds) → IsRoomyAt size known → AtMost size.records (known_of known.counts) size.records
most_roomy size known roomy = record { bounds = λ r. 1; within = λ r lt. outside_within (known_of known.counts r) (roomy r (omega arith)); sum = ones size.records }

pub post_full : (size : Size) (v : View) (known : Bounds) (writes n : ℕ) → IsFullFor size n v → IsAlone v → v.places.held ≡ [] → n ≡ writes → bounds_by v ≡ known → IsFullAt size known writes
post_full size v known writes n full alone held same is =
    let few : (m : ℕ) → AtMost size.records (known_of known.counts) m → usable_places size < m + writes =
    λ m most. let h = full alone m (subst (λ (k : Bounds). AtMost size.records (known_of k.counts) m) (sym is) most) in let none = ap length held in omega arith in
    record { by_bounds = few; roomy = λ roomy. let h = few size.records (most_roomy size known roomy) in omega arith }
