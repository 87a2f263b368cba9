-- Counting: numbers that differ and stand in a list are no more than it is long, and sums over the numbers of a range.
use Rattle.std.proofs.Common.{◌≡◌, ◌≢◌, ℕ, ◌+◌, ◌<◌, ◌≤◌, zero, suc, cond, eqb, List, [], ◌∷◌, ◌++◌, length, get_or, All, AllPairs, Contains, sum_by, refl, sym, ap, ◌∙◌, arith, subst, inl, inr, eq-eqb, ne_eqb}
use Rattle.std.specs.List.{flat_map, range_with_len}
use Rattle.std.proofs.lemmas.Bool.{cases_eq}
use Rattle.std.proofs.lemmas.List.Elements.{All-head}
use Rattle.std.proofs.lemmas.List.Sums.{sum_by-cons}
use Rattle.std.proofs.lemmas.List.Concat.{flat_map-cons}
use Rattle.ordered_index.specs.Tree.{In}

-- ---- lists in which a number stands

pub in_from : (xs : List ℕ) (rid : ℕ) → Contains xs rid → In rid xs
in_from [] rid (k, within, at) = absurd (omega arith)
in_from (x ∷ xs) rid (zero, within, at) = inl at
in_from (x ∷ xs) rid (suc k, within, at) = inr (in_from xs rid (k, omega arith, at))

pub in_left : (xs ys : List ℕ) (rid : ℕ) → In rid xs → In rid (xs ++ ys)
in_left [] ys rid there = absurd there
in_left (x ∷ xs) ys rid there = elim there as (λ _. In rid (x ∷ xs ++ ys)) [ inl same ↦ inl same | inr more ↦ inr (in_left xs ys rid more) ]

pub in_right : (xs ys : List ℕ) (rid : ℕ) → In rid ys → In rid (xs ++ ys)
in_right [] ys rid there = there
in_right (x ∷ xs) ys rid there = inr (in_right xs ys rid there)

-- one of the pieces, each for a number of a range
pub in_piece : (f : ℕ → List ℕ) (a n i rid : ℕ) → a ≤ i → i < a + n → In rid (f i) → In rid (flat_map f (range_with_len a n))
in_piece f a zero i rid low high there = absurd (omega arith)
in_piece f a (suc n) i rid low high there =
    let P : List ℕ → Type 0 = In rid in
    subst P (sym (flat_map-cons f a (range_with_len (a + 1) n))) (elim (cases_eq a i) as (λ _. In rid (f a ++ flat_map f (range_with_len (a + 1) n))) [
      | inl same ↦ in_left (f a) _ rid (rw same there)
      | inr differs ↦ in_right (f a) _ rid (in_piece f (a + 1) n i rid (omega arith) (omega arith) there)
    ])

-- ---- so many numbers that differ stand in no shorter list

-- the list without a number, at the first place where it stands
drop_first : ℕ → List ℕ → List ℕ
drop_first rid [] = []
drop_first rid (x ∷ xs) = cond (eqb x rid) xs (x ∷ drop_first rid xs)

one_less : (rid : ℕ) (xs : List ℕ) → In rid xs → length xs ≡ suc (length (drop_first rid xs))
unfolding drop_first
one_less rid [] there = absurd there
one_less rid (x ∷ xs) there = elim (cases_eq x rid) as (λ _. length (x ∷ xs) ≡ suc (length (drop_first rid (x ∷ xs)))) [
  | inl same ↦ rw (eq-eqb x rid same) refl
  | inr differs ↦ elim there as (λ _. length (x ∷ xs) ≡ suc (length (drop_first rid (x ∷ xs)))) [
    | inl same ↦ absurd (differs same)
    | inr more ↦ rw (ne_eqb x rid differs) (ap suc (one_less rid xs more))
  ]
]

still_in : (rid other : ℕ) (xs : List ℕ) → other ≢ rid → In other xs → In other (drop_first rid xs)
unfolding drop_first
still_in rid other [] differs there = absurd there
still_in rid other (x ∷ xs) differs there = elim (cases_eq x rid) as (λ _. In other (drop_first rid (x ∷ xs))) [
  | inl same ↦ rw (eq-eqb x rid same) (elim there as (λ _. In other xs) [ inl is ↦ absurd (differs (sym is ∙ same)) | inr more ↦ more ])
  | inr not ↦ rw (ne_eqb x rid not) (elim there as (λ _. In other (x ∷ drop_first rid xs)) [ inl is ↦ inl is | inr more ↦ inr (still_in rid other xs differs more) ])
]

pub few_in : (rids xs : List ℕ) → AllPairs (λ a b. a ≢ b) rids → All (λ rid. In rid xs) rids → length rids ≤ length xs
few_in [] xs apart all = omega arith
few_in (rid ∷ rids) xs apart all =
    let here : In rid xs = All-head (λ r. In r xs) rid rids all in
    let rest : All (λ r. In r (drop_first rid xs)) rids = λ k d within.
    still_in rid (get_or rids k d) xs (λ same. apart 0 (suc k) d (omega arith) (omega arith) (sym same)) (all (suc k) d (omega arith)) in
    let more = few_in rids (drop_first rid xs) (λ i j d less within. apart (suc i) (suc j) d (omega arith) (omega arith)) rest in
    omega (arith, more, one_less rid xs here)

-- ---- sums over a range

pub sum_most : (f g : ℕ → ℕ) (a n : ℕ) → ((i : ℕ) → a ≤ i → i < a + n → f i ≤ g i)
    → sum_by f (range_with_len a n) ≤ sum_by g (range_with_len a n)
sum_most f g a zero each = omega arith
sum_most f g a (suc n) each =
    let more = sum_most f g (a + 1) n (λ i low high. each i (omega arith) (omega arith)) in
    let here = each a (omega arith) (omega arith) in
    omega (arith, more, here, sum_by-cons f a (range_with_len (a + 1) n), sum_by-cons g a (range_with_len (a + 1) n))

-- the terms grow at one number alone
pub sum_upper : (f g : ℕ → ℕ) (a n at more : ℕ) → ((i : ℕ) → i ≢ at → i < a + n → g i ≤ f i) → (a ≤ at → at < a + n → g at ≤ f at + more)
    → sum_by g (range_with_len a n) ≤ sum_by f (range_with_len a n) + more
sum_upper f g a zero at more others here = omega arith
sum_upper f g a (suc n) at more others here = elim (cases_eq a at) as (λ _. sum_by g (range_with_len a (suc n)) ≤ sum_by f (range_with_len a (suc n)) + more) [
  | inl same ↦
      let rest = sum_most g f (a + 1) n (λ i low high. others i (λ is. omega arith) (omega arith)) in
      let P : ℕ → Type 0 = λ i. g i ≤ f i + more in
      let first : g a ≤ f a + more = subst P (sym same) (here (omega arith) (omega arith)) in
      omega (arith, rest, first, sum_by-cons f a (range_with_len (a + 1) n), sum_by-cons g a (range_with_len (a + 1) n))
  | inr differs ↦
      let rest = sum_upper f g (a + 1) n at more (λ i not high. others i not (omega arith)) (λ low high. here (omega arith) (omega arith)) in
      let first : g a ≤ f a = others a differs (omega arith) in
      omega (arith, rest, first, sum_by-cons f a (range_with_len (a + 1) n), sum_by-cons g a (range_with_len (a + 1) n))
]

-- or fall short at one number of the range alone
pub sum_lower : (f g : ℕ → ℕ) (a n at more extra : ℕ) → a ≤ at → at < a + n → ((i : ℕ) → i ≢ at → i < a + n → f i ≤ g i)
    → f at + more ≤ g at + extra → sum_by f (range_with_len a n) + more ≤ sum_by g (range_with_len a n) + extra
sum_lower f g a zero at more extra low high others here = absurd (omega arith)
sum_lower f g a (suc n) at more extra low high others here = elim (cases_eq a at) as (λ _. sum_by f (range_with_len a (suc n)) + more ≤ sum_by g (range_with_len a (suc n)) + extra) [
  | inl same ↦
      let rest = sum_most f g (a + 1) n (λ i low high. others i (λ is. omega arith) (omega arith)) in
      let P : ℕ → Type 0 = λ i. f i + more ≤ g i + extra in
      let first : f a + more ≤ g a + extra = subst P (sym same) here in
      omega (arith, rest, first, sum_by-cons f a (range_with_len (a + 1) n), sum_by-cons g a (range_with_len (a + 1) n))
  | inr differs ↦
      let rest = sum_lower f g (a + 1) n at more extra (omega arith) (omega arith) (λ i not high. others i not (omega arith)) here in
      let first : f a ≤ g a = others a differs (omega arith) in
      omega (arith, rest, first, sum_by-cons f a (range_with_len (a + 1) n), sum_by-cons g a (range_with_len (a + 1) n))
]
