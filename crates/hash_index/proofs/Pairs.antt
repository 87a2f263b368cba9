-- What lists of pairs have beside a key.
use Rattle.std.proofs.Common.{◌≡◌, ◌≢◌, ℕ, ◌+◌, ◌<◌, ◌≤◌, zero, suc, true, false, cond, eqb, ltb, List, [], ◌∷◌, ◌++◌, length, get_or, Option, None, Some, refl, sym, ap, ◌∙◌, arith, inl, inr, eqb-true, eq-eqb, ne_eqb}
use Rattle.std.specs.Prelude.{is_some, position, slice_get}
use Rattle.std.specs.List.{position_or_len}
use Rattle.std.proofs.lemmas.Bool.Decides.{nat_tests}
use Rattle.std.proofs.lemmas.Option.{slice_get-get_or}
use Rattle.std.proofs.lemmas.Bool.{cases_eq}
use Rattle.std.proofs.lemmas.List.Sums.{fails_before_first, position_or_len_is}
use Rattle.std.proofs.lemmas.List.Quantifiers.{position-Some}
use Rattle.hash_index.specs.Chain.{record_at}

-- pairs behind others are asked last
pub record_at-append : (xs ys : List (ℕ × ℕ)) (key : ℕ) → record_at (xs ++ ys) key ≡ cond (is_some (record_at xs key)) (record_at xs key) (record_at ys key)
record_at-append [] ys key = refl
record_at-append (x ∷ xs) ys key =
    let more = record_at-append xs ys key in
    elim (eqb key x.0) as (λ b. cond b (Some x.1) (record_at (xs ++ ys) key) ≡ cond (is_some (cond b (Some x.1) (record_at xs key))) (cond b (Some x.1) (record_at xs key)) (record_at ys key)) [ true ↦ refl | false ↦ more ]

pub record_at-behind : (xs ys : List (ℕ × ℕ)) (key : ℕ) → record_at xs key ≡ None → record_at (xs ++ ys) key ≡ record_at ys key
record_at-behind xs ys key absent = record_at-append xs ys key ∙ rw absent refl

pub record_at-before : (xs ys : List (ℕ × ℕ)) (key rid : ℕ) → record_at xs key ≡ Some rid → record_at (xs ++ ys) key ≡ Some rid
record_at-before xs ys key rid there = record_at-append xs ys key ∙ rw there refl

-- no pair has the key
absent-step : (key first rid : ℕ) (later : Option ℕ) → key ≢ first → later ≡ None → cond (eqb key first) (Some rid) later ≡ None
absent-step key first rid later other absent = rw (ne_eqb key first other) absent

pub record_at-absent : (pairs : List (ℕ × ℕ)) (key : ℕ) → ((k : ℕ) → k < length pairs → key ≢ (get_or pairs k (0, 0)).0) → record_at pairs key ≡ None
record_at-absent [] key other = refl
record_at-absent (x ∷ pairs) key other =
    absent-step key x.0 x.1 (record_at pairs key) (other 0 (omega arith)) (record_at-absent pairs key (λ k below. other (suc k) (omega arith)))

-- the first pair with the key
found-step : (key first rid : ℕ) (later : Option ℕ) (value : Option ℕ) → key ≢ first → later ≡ value → cond (eqb key first) (Some rid) later ≡ value
found-step key first rid later value other there = rw (ne_eqb key first other) there

here-step : (key first rid : ℕ) (later : Option ℕ) → key ≡ first → cond (eqb key first) (Some rid) later ≡ Some rid
here-step key first rid later same = rw (eq-eqb key first same) refl

pub record_at-first : (pairs : List (ℕ × ℕ)) (key index : ℕ) → index < length pairs → key ≡ (get_or pairs index (0, 0)).0 → ((k : ℕ) → k < index → key ≢ (get_or pairs k (0, 0)).0) → record_at pairs key ≡ Some (get_or pairs index (0, 0)).1
record_at-first [] key index within same other = absurd (omega arith)
record_at-first (x ∷ pairs) key zero within same other = here-step key x.0 x.1 (record_at pairs key) same
record_at-first (x ∷ pairs) key (suc index) within same other =
    found-step key x.0 x.1 (record_at pairs key) (Some (get_or pairs index (0, 0)).1) (other 0 (omega arith)) (record_at-first pairs key index (omega arith) same (λ k below. other (suc k) (omega arith)))

-- what a search by position tells
test_fails : (first key : ℕ) → eqb first key ≡ false → key ≢ first
test_fails first key fails = λ same. (let e : eqb first key ≡ true = eq-eqb first key (sym same) in cc)

none_past : (place long : ℕ) → cond (ltb place long) (Some place) None ≡ None → long ≤ place
none_past place long absent = grind (arith, nat_tests)

pub position-absent : (pairs : List (ℕ × ℕ)) (key : ℕ) → position (λ pair. eqb pair.0 key) pairs ≡ None → record_at pairs key ≡ None
position-absent pairs key absent =
    let past = none_past (position_or_len (λ (pair : ℕ × ℕ). eqb pair.0 key) pairs) (length pairs) absent in
    record_at-absent pairs key (λ k below. test_fails (get_or pairs k (0, 0)).0 key (fails_before_first (λ pair. eqb pair.0 key) pairs k (0, 0) (omega arith)))

-- how a search by position goes
pub fails_next : (pairs : List (ℕ × ℕ)) (key i : ℕ) → ((k : ℕ) → k < i → eqb (get_or pairs k (0, 0)).0 key ≡ false) → eqb (get_or pairs i (0, 0)).0 key ≡ false → (k : ℕ) → k < i + 1 → eqb (get_or pairs k (0, 0)).0 key ≡ false
fails_next pairs key i before here k below = elim (cases_eq k i) as (λ _. eqb (get_or pairs k (0, 0)).0 key ≡ false) [
  | inl same ↦ ap (λ n. eqb (get_or pairs n (0, 0)).0 key) same ∙ here
  | inr differs ↦ before k (omega arith)
]

some_below : (place long : ℕ) → place < long → cond (ltb place long) (Some place) None ≡ Some place
some_below place long within = grind (arith, nat_tests)

none_at : (long : ℕ) → cond (ltb long long) (Some long) None ≡ None
none_at long = grind (arith, nat_tests)

pub position_here : (pairs : List (ℕ × ℕ)) (key i : ℕ) → i < length pairs → eqb (get_or pairs i (0, 0)).0 key ≡ true → ((k : ℕ) → k < i → eqb (get_or pairs k (0, 0)).0 key ≡ false) → position (λ pair. eqb pair.0 key) pairs ≡ Some i
position_here pairs key i within here before =
    let at = position_or_len_is (λ (pair : ℕ × ℕ). eqb pair.0 key) pairs i (0, 0) (omega arith) before (λ _. here) in
    ap (λ p. cond (ltb p (length pairs)) (Some p) None) at ∙ some_below i (length pairs) within

pub position_none : (pairs : List (ℕ × ℕ)) (key : ℕ) → ((k : ℕ) → k < length pairs → eqb (get_or pairs k (0, 0)).0 key ≡ false) → position (λ pair. eqb pair.0 key) pairs ≡ None
position_none pairs key before =
    let at = position_or_len_is (λ (pair : ℕ × ℕ). eqb pair.0 key) pairs (length pairs) (0, 0) (omega arith) before (λ low. absurd (omega arith)) in
    ap (λ p. cond (ltb p (length pairs)) (Some p) None) at ∙ none_at (length pairs)

pub record FoundAt (pairs : List (ℕ × ℕ)) (key index : ℕ) : Type 0 where
  pub rid : ℕ
  pub within : index < length pairs
  pub here : slice_get pairs index ≡ Some (key, rid)
  pub at_index : get_or pairs index (0, 0) ≡ (key, rid)
  pub found : record_at pairs key ≡ Some rid

pub position-found : (pairs : List (ℕ × ℕ)) (key index : ℕ) → position (λ pair. eqb pair.0 key) pairs ≡ Some index → FoundAt pairs key index
position-found pairs key index found =
    let at = position-Some (λ (pair : ℕ × ℕ). eqb pair.0 key) pairs index (0, 0) found in
    let pair = get_or pairs index (0, 0) in
    let same : key ≡ pair.0 = sym (eqb-true pair.0 key at.1) in
    record {
      rid = pair.1;
      within = at.0;
      here = slice_get-get_or pairs index (0, 0) at.0 ∙ ap (λ k. Some (k, pair.1)) (sym same);
      at_index = ap (λ k. (k, pair.1)) (sym same);
      found = record_at-first pairs key index at.0 same (λ k below. test_fails (get_or pairs k (0, 0)).0 key (at.2 k below));
    }
