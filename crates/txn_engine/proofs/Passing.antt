-- The numbers of a spare list that were passed.
use Rattle.std.proofs.Common.{◌≡◌, ◌⊎◌, ℕ, ◌<◌, ◌≤◌, ◌+◌, zero, suc, Bool, true, false, cond, eqb, eqb-true, List, [], ◌∷◌, ◌++◌, Option, None, Some, refl, sym, ap, subst, ◌∙◌, inl, inr, arith, length, take, drop, remove, append-nil}
use Rattle.std.specs.Prelude.{IsSome, is_some, slice_get}
use Rattle.std.proofs.lemmas.Bool.{or_cases}
use Rattle.std.proofs.lemmas.Option.{slice_get_within}
use Rattle.std.proofs.lemmas.List.{take_all, drop_all, take-append-drop}
use Rattle.std.proofs.lemmas.List.Elements.{filter-append}
use Rattle.std.proofs.lemmas.List.Folds.{list_any-append}
use Rattle.record_store.specs.Meaning.{value_at}
use Rattle.seat_post.specs.Leaves.{IsPresent}
use Rattle.seat_post.specs.Observing.{Grows}
use Rattle.seat_post.specs.Seats.{Observed}
use Rattle.seat_post.proofs.Growing.{grows_none, grows_both}
use Rattle.spare_numbers.specs.Spare.{is_on, written_of, struck_before}
use Rattle.spare_numbers.proofs.Shares.{drop_at}
use Rattle.txn_engine.specs.Pass.{PassView, IsAlone, observing}
use Rattle.txn_engine.specs.Fresh.{IsMetPresent, PassesOver, none_yet, one_stays, one_leaves, Asks}
use Rattle.txn_engine.proofs.Asking.{past}
use Rattle.txn_engine.proofs.Growing.{present_grows}

-- ---- lists

take_at : (xs : List ℕ) (i r : ℕ) → slice_get xs i ≡ Some r → take (suc i) xs ≡ take i xs ++ r ∷ []
take_at [] i r at = cc
take_at (x ∷ xs) zero r at = let same : x ≡ r = cc in ap (λ (y : ℕ). y ∷ []) same
take_at (x ∷ xs) (suc i) r at = ap (λ (ys : List ℕ). x ∷ ys) (take_at xs i r at)

take_more_at : (xs : List ℕ) (i r : ℕ) → slice_get xs i ≡ Some r → take (i + 1) xs ≡ take i xs ++ r ∷ []
take_more_at xs i r at = let next : i + 1 ≡ suc i = omega arith in ap (λ n. take n xs) next ∙ take_at xs i r at

-- a number between those before it and those behind
pub split_at : (xs : List ℕ) (i r : ℕ) → slice_get xs i ≡ Some r → xs ≡ take i xs ++ r ∷ drop (i + 1) xs
split_at xs i r at = sym (take-append-drop i xs) ∙ ap (λ (ys : List ℕ). take i xs ++ ys) (drop_at xs i r at)

pub take_removed : (xs : List ℕ) (i : ℕ) → take i (remove xs i) ≡ take i xs
take_removed [] zero = refl
take_removed [] (suc i) = refl
take_removed (x ∷ xs) zero = refl
take_removed (x ∷ xs) (suc i) = ap (λ (ys : List ℕ). x ∷ ys) (take_removed xs i)

drop_suc_removed : (xs : List ℕ) (i : ℕ) → drop i (remove xs i) ≡ drop (suc i) xs
drop_suc_removed [] zero = refl
drop_suc_removed [] (suc i) = refl
drop_suc_removed (x ∷ xs) zero = refl
drop_suc_removed (x ∷ xs) (suc i) = drop_suc_removed xs i

pub drop_removed : (xs : List ℕ) (i : ℕ) → drop i (remove xs i) ≡ drop (i + 1) xs
drop_removed xs i = let next : suc i ≡ i + 1 = omega arith in drop_suc_removed xs i ∙ ap (λ n. drop n xs) next

-- a number that stays is written
kept_at : (b : Bool) (x : ℕ) (xs : List ℕ) (k r : ℕ) → slice_get (cond b (x ∷ xs) xs) k ≡ Some r → ((b ≡ true) × (x ≡ r)) ⊎ ((j : ℕ) × (slice_get xs j ≡ Some r))
kept_at false x xs k r at = inr (k, at)
kept_at true x xs zero r at = let same : x ≡ r = cc in inl (refl, same)
kept_at true x xs (suc k) r at = inr (k, at)

pub stays_written : (writes : List (ℕ × Option (List ℕ))) (xs : List ℕ) (k r : ℕ) → slice_get (written_of writes xs) k ≡ Some r → IsSome (value_at writes r)
stays_written writes [] k r at = cc
stays_written writes (x ∷ xs) k r at = elim (kept_at (is_some (value_at writes x)) x (written_of writes xs) k r at) as (λ _. IsSome (value_at writes r)) [
  | inl here ↦ subst (λ (n : ℕ). IsSome (value_at writes n)) here.1 here.0
  | inr behind ↦ stays_written writes xs behind.0 r behind.1
]

-- the whole list was gone through
pub struck_all : (writes : List (ℕ × Option (List ℕ))) (xs : List ℕ) (i : ℕ) → length xs ≤ i → struck_before writes i xs ≡ written_of writes xs
struck_all writes xs i over = ap (λ (ys : List ℕ). written_of writes ys ++ drop i xs) (take_all i xs over) ∙ ap (λ (ys : List ℕ). written_of writes xs ++ ys) (drop_all i xs over) ∙ append-nil (written_of writes xs)

-- ---- passing them

-- The numbers before place i of the list were asked for: each is written, or was met present. All is as it was but what was loaded.
pub record HasAsked (i : ℕ) (p q : PassView) : Type 0 where
  pub same : q ≡ observing p q.observed
  pub grows : Grows p.observed q.observed
  pub within : i ≤ length p.spare
  pub over : PassesOver p (take i p.spare) (written_of p.writes (take i p.spare)) p.observed q.observed
  pub held : IsAlone p → (r : ℕ) → is_on (take i p.spare) r ≡ true → IsSome (value_at p.writes r) ⊎ IsPresent p.log r

pub none_asked : (p q : PassView) → q ≡ p → HasAsked 0 p q
none_asked p q same = subst (λ (x : PassView). HasAsked 0 p x) (sym same) (record {
  same = refl;
  grows = grows_none p.observed;
  within = omega arith;
  over = none_yet p.observed;
  held = λ alone r on. (cc);
})

-- one more number on the list that was passed
module _ (p : PassView) (i rid : ℕ) (at : slice_get p.spare i ≡ Some rid) where
  longer : take (i + 1) p.spare ≡ take i p.spare ++ rid ∷ []
  longer = take_more_at p.spare i rid at

  kept : (b : Bool) → is_some (value_at p.writes rid) ≡ b → written_of p.writes (take (i + 1) p.spare) ≡ written_of p.writes (take i p.spare) ++ cond b (rid ∷ []) []
  kept b is =
      ap (λ (xs : List ℕ). written_of p.writes xs) longer
      ∙ filter-append (λ n. is_some (value_at p.writes n)) (take i p.spare) (rid ∷ [])
      ∙ ap (λ (c : Bool). written_of p.writes (take i p.spare) ++ cond c (rid ∷ []) []) is

  held_more : (IsAlone p → (r : ℕ) → is_on (take i p.spare) r ≡ true → IsSome (value_at p.writes r) ⊎ IsPresent p.log r) → (IsAlone p → IsSome (value_at p.writes rid) ⊎ IsPresent p.log rid)
      → IsAlone p → (r : ℕ) → is_on (take (i + 1) p.spare) r ≡ true → IsSome (value_at p.writes r) ⊎ IsPresent p.log r
  held_more held here alone r on =
      let parts : (is_on (take i p.spare) r ≡ true) ⊎ (is_on (rid ∷ []) r ≡ true) = or_cases _ _ (sym (ap (λ (xs : List ℕ). is_on xs r) longer ∙ list_any-append (eqb r) (take i p.spare) (rid ∷ [])) ∙ on) in
      elim parts as (λ _. IsSome (value_at p.writes r) ⊎ IsPresent p.log r) [
        | inl before ↦ held alone r before
        | inr last ↦ elim (or_cases (eqb r rid) false last) as (λ _. IsSome (value_at p.writes r) ⊎ IsPresent p.log r) [
          | inl same ↦ subst (λ (n : ℕ). IsSome (value_at p.writes n) ⊎ IsPresent p.log n) (sym (eqb-true r rid same)) (here alone)
          | inr never ↦ (cc)
        ]
      ]

  passed_stays : (o : Observed) → PassesOver p (take i p.spare) (written_of p.writes (take i p.spare)) p.observed o → IsSome (value_at p.writes rid) → PassesOver p (take (i + 1) p.spare) (written_of p.writes (take (i + 1) p.spare)) p.observed o
  passed_stays o over written =
      let step = one_stays (take i p.spare) (written_of p.writes (take i p.spare)) rid p.observed o over written in
      subst (λ (xs : List ℕ). PassesOver p xs (written_of p.writes (take (i + 1) p.spare)) p.observed o) (sym longer) (subst (λ (xs : List ℕ). PassesOver p (take i p.spare ++ rid ∷ []) xs p.observed o) (sym (kept true written)) step)

  passed_leaves : (o u : Observed) → PassesOver p (take i p.spare) (written_of p.writes (take i p.spare)) p.observed o → value_at p.writes rid ≡ None → IsMetPresent p rid o u → PassesOver p (take (i + 1) p.spare) (written_of p.writes (take (i + 1) p.spare)) p.observed u
  passed_leaves o u over unwritten met =
      let step = one_leaves (take i p.spare) (written_of p.writes (take i p.spare)) rid p.observed o u over unwritten met in
      subst (λ (xs : List ℕ). PassesOver p xs (written_of p.writes (take (i + 1) p.spare)) p.observed u) (sym longer) (subst (λ (xs : List ℕ). PassesOver p (take i p.spare ++ rid ∷ []) xs p.observed u) (sym (kept false (ap is_some unwritten) ∙ append-nil (written_of p.writes (take i p.spare)))) step)

  asked_written : (o : Observed) → HasAsked i p (observing p o) → IsSome (value_at p.writes rid) → i < length p.spare → HasAsked (i + 1) p (observing p o)
  asked_written o h written within = record {
    same = refl;
    grows = h.grows;
    within = omega arith;
    over = passed_stays o h.over written;
    held = held_more h.held (λ alone. inl written);
  }

  asked_present : (o u : Observed) → HasAsked i p (observing p o) → value_at p.writes rid ≡ None → IsMetPresent p rid o u → (IsAlone p → IsPresent p.log rid) → i < length p.spare → HasAsked (i + 1) p (observing p u)
  asked_present o u h unwritten met present within = record {
    same = refl;
    grows = grows_both p.observed o u h.grows (present_grows p rid o u met);
    within = omega arith;
    over = passed_leaves o u h.over unwritten met;
    held = held_more h.held (λ alone. inr (present alone));
  }

  asked_more : (o : Observed) (r : PassView) → HasAsked i p (observing p o) → Asks (observing p o) r rid false → i < length p.spare → HasAsked (i + 1) p r
  asked_more o r h (inl stays) within = subst (λ (x : PassView). HasAsked (i + 1) p x) (sym stays.1) (asked_written o h stays.2 within)
  asked_more o r h (inr (unwritten, tells)) within = subst (λ (x : PassView). HasAsked (i + 1) p x) (sym tells.after) (asked_present o r.observed h unwritten (tells.met_present refl) (λ alone. tells.left alone refl) within)

-- what stands at a place stood there before
pub asked_at : (i : ℕ) (p q : PassView) (found : Option ℕ) → HasAsked i p q → slice_get q.spare i ≡ found → slice_get p.spare i ≡ found
asked_at i p q found h at = sym (ap (λ (x : PassView). slice_get x.spare i) h.same) ∙ at

pub one_asked : (p q r : PassView) (i rid : ℕ) → HasAsked i p q → slice_get q.spare i ≡ Some rid → Asks q r rid false → HasAsked (i + 1) p r
one_asked p q r i rid h at asks =
    let here = asked_at i p q (Some rid) h at in
    asked_more p i rid here q.observed r (subst (λ (x : PassView). HasAsked i p x) h.same h) (subst (λ (x : PassView). Asks x r rid false) h.same asks) (slice_get_within p.spare i rid here)

-- ---- the end of the list

pub all_passed : (p q : PassView) (i : ℕ) → HasAsked i p q → slice_get p.spare i ≡ None → PassesOver p p.spare (written_of p.writes p.spare) p.observed q.observed
all_passed p q i h none = subst (λ (xs : List ℕ). PassesOver p xs (written_of p.writes xs) p.observed q.observed) (take_all i p.spare (past p.spare i none)) h.over
