-- What is known of lists, after versions were linked.
use Rattle.std.proofs.Common.{◌≡◌, ◌≢◌, ℕ, zero, suc, ◌+◌, ◌<◌, ◌≤◌, true, false, Bool, cond, eqb, List, [], ◌∷◌, ◌++◌, length, take, refl, sym, ap, subst, arith, eqb-true, eq-eqb, ne_eqb, Option, Some, None}
use Rattle.std.specs.Prelude.{nat_lt}
use Rattle.std.proofs.lemmas.List.{length-append}
use mathlib.Core.Logic.{dite}
use native.Mathlib.Decide.{ℕ_discrete}
use Rattle.word_layout.specs.Size.{Size}
use Rattle.core_rule.specs.World.{at_number}
use Rattle.core_rule.specs.View.{View, Write, Bound, Counted}
use Rattle.core_rule.specs.Views.{IsAlone}
use Rattle.core_rule.specs.Hands.{Shared, Seated}
use Rattle.core_rule.specs.Searching.{known_of, one_more, counted_more}
use Rattle.core_rule.specs.Reckoning.{total, IsWithin, AtMost}
use Rattle.version_pool.specs.Takes.{IsFull}
use Rattle.validate_core.specs.Sets.{SetsView}
use Rattle.validate_core.specs.Installing.{IsBegun, LinksOne, LinksEach, IsFullFor}
use Rattle.validate_core.specs.OneByOne.{none_yet, one_more as one_more_linked}
use Rattle.validate_core.proofs.Placing.{one_view, Placing, placing_collected}

-- ---- one bound more

module _ (f : ℕ → ℕ) (r a : ℕ) where
  number_same : (k : ℕ) → r ≡ k → at_number f r a k ≡ a
  number_same k e = ap (λ (b : Bool). cond b a (f k)) (eq-eqb r k e)

  number_other : (k : ℕ) → r ≢ k → at_number f r a k ≡ f k
  number_other k ne = ap (λ (b : Bool). cond b a (f k)) (ne_eqb r k ne)

  total_else : (k : ℕ) → k ≤ r → total (at_number f r a) k ≡ total f k
  total_else zero le = omega arith
  total_else (suc k) le = let rest = total_else k (omega arith) in let here = number_other k (λ e. absurd (omega arith)) in omega arith

total_more : (f : ℕ → ℕ) (r k : ℕ) → total (at_number f r (suc (f r))) k ≤ suc (total f k)
total_more f r zero = omega arith
total_more f r (suc k) = dite (ℕ_discrete r k)
    (λ e. let here = number_same f r (suc (f r)) k e in let rest = total_else f r (suc (f r)) k (omega arith) in let same : f r ≡ f k = ap f e in omega arith)
    (λ ne. let here = number_other f r (suc (f r)) k ne in let rest = total_more f r k in omega arith)

outside_more : (b : Bool) (n m : ℕ) → n ≤ m → cond b n (suc n) ≤ suc m
outside_more true n m le = omega arith
outside_more false n m le = omega arith

within_more : (z : Size) (p : ℕ) (o : Option Bound) (m : ℕ) → IsWithin o m → IsWithin (one_more z p o) (suc m)
within_more z p None m h = absurd h
within_more z p (Some b) m h = outside_more (nat_lt p z.records) b.outside m h

within_case : (z : Size) (r p q : ℕ) (k : Counted) (bounds : ℕ → ℕ) (b : Bool) → eqb r q ≡ b → IsWithin (known_of k q) (bounds q)
    → IsWithin (cond b (one_more z p (known_of k r)) (known_of k q)) (cond b (suc (bounds r)) (bounds q))
within_case z r p q k bounds true e h = within_more z p (known_of k r) (bounds r) (subst (λ (x : ℕ). IsWithin (known_of k x) (bounds x)) (sym (eqb-true r q e)) h)
within_case z r p q k bounds false e h = h

pub most_more : (records : ℕ) (z : Size) (r t p n : ℕ) (k : Counted) → AtMost records (known_of k) n → AtMost records (known_of (counted_more z r t p k)) (suc n)
most_more records z r t p n k h = record {
  bounds = at_number h.bounds r (suc (h.bounds r));
  within = λ q lt. within_case z r p q k h.bounds (eqb r q) refl (h.within q lt);
  sum = let more = total_more h.bounds r records in let had = h.sum in omega arith;
}

-- ---- versions linked one after another

module _ (records : ℕ) (z : Size) (stamp : ℕ) where
  one_counts : (u : Write) (v w : View) → LinksOne z stamp u v w → w.counts ≡ counted_more v.size u.record_number u.stamp u.place v.counts
  one_counts u v w l = ap (λ (x : View). x.counts) (one_view z stamp u v w l)

  pub most_linked : (us : List Write) (v w : View) → LinksEach z stamp us v w → (n : ℕ) → AtMost records (known_of v.counts) n → AtMost records (known_of w.counts) (n + length us)
  most_linked _ _ _ (none_yet v) n h = subst (AtMost records (known_of v.counts)) (omega arith) h
  most_linked _ _ _ (one_more_linked us u v w x each l) n h =
      let long = length-append us (u ∷ []) in
      let sum : suc (n + length us) ≡ n + length (us ++ u ∷ []) = omega arith in
      subst (AtMost records (known_of x.counts)) sum
      (subst (λ (k : Counted). AtMost records (known_of k) (suc (n + length us))) (sym (one_counts u w x l)) (most_more records w.size u.record_number u.stamp u.place (n + length us) w.counts (most_linked us v w each n h)))

take_short : (i : ℕ) (xs : List Write) → length (take i xs) ≤ i
take_short zero xs = omega arith
take_short (suc i) [] = omega arith
take_short (suc i) (x ∷ xs) = let rest = take_short i xs in omega arith

-- no place for the next one
pub none_full : (core : Shared) (before : Seated) (s0 : SetsView) (i : ℕ) (s : SetsView) (now : Seated) → Placing core before s0 i s now → IsBegun core.size s0 before.view → i < length s0.writes → IsFull core.size now.view
    → IsFullFor core.size (length s0.writes) before.view
none_full core before s0 i s now p begun lt full = λ alone n most.
    let short = take_short i s.writes in
    let held : length now.view.places.held ≡ length before.view.places.held = ap (λ (ps : List ℕ). length ps) p.held in
    let item = placing_collected core before s0 i s now p begun in
    let known = most_linked core.size.records core.size before.view.published.write (take i s.writes) before.view now.view p.each n most in
    let all = full (subst IsAlone (sym p.only) alone) p.rests item (n + length (take i s.writes)) known in omega arith
