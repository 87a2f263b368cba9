-- The six columns of a row among the words of its record.
use Rattle.std.proofs.Common.{◌≡◌, ◌==◌, ℕ, true, Bool, List, [], ◌∷◌, length, take, drop, get_or, refl, sym, ap, ◌∙◌, arith, subst}
use Rattle.std.specs.List.{list_all}
use Rattle.std.proofs.lemmas.Bool.{and_parts, eqb-true}
use Rattle.std.proofs.lemmas.List.{length-append, take_all}
use lib.ListN.{replicate}
use Rattle.stored_tables.specs.Tables.{row_words}

abbrev pub first_six : List ℕ → List ℕ
first_six words = get_or words 0 0 ∷ get_or words 1 0 ∷ get_or words 2 0 ∷ get_or words 3 0 ∷ get_or words 4 0 ∷ get_or words 5 0 ∷ []

six_of : (row : List ℕ) → length row ≡ 6 → first_six (row_words row) ≡ row
six_of [] l = absurd (omega (arith, l))
six_of (a ∷ []) l = absurd (omega (arith, l))
six_of (a ∷ b ∷ []) l = absurd (omega (arith, l))
six_of (a ∷ b ∷ c ∷ []) l = absurd (omega (arith, l))
six_of (a ∷ b ∷ c ∷ d ∷ []) l = absurd (omega (arith, l))
six_of (a ∷ b ∷ c ∷ d ∷ e ∷ []) l = absurd (omega (arith, l))
six_of (a ∷ b ∷ c ∷ d ∷ e ∷ f ∷ []) l = refl
six_of (a ∷ b ∷ c ∷ d ∷ e ∷ f ∷ h ∷ more) l = absurd (omega (arith, l))

pub columns_of : (words row : List ℕ) → length words ≡ 32 → words ≡ row_words row → first_six words ≡ row
columns_of words row l is =
    let six : length row ≡ 6 = (let e = ap length is in let n = length-append row (replicate 26 0) in omega (arith, e, n, l)) in
    ap first_six is ∙ six_of row six

-- zeros alone stand behind them
zeros_alone : (xs : List ℕ) → list_all (λ w. w == 0) xs ≡ true → xs ≡ replicate (length xs) 0
zeros_alone [] all = refl
zeros_alone (x ∷ xs) all =
    let both = and_parts (x == 0) (list_all (λ w. w == 0) xs) all in
    let first : x ≡ 0 = eqb-true x 0 both.0 in
    ap (λ y. y ∷ xs) first ∙ ap (λ ys. 0 ∷ ys) (zeros_alone xs both.1)

-- what stands behind six words
abbrev pub ends_in_zeros : List ℕ → Bool
ends_in_zeros words = list_all (λ w. w == 0) (take 26 (drop 6 words))

pub row_of : (words : List ℕ) → length words ≡ 32 → ends_in_zeros words ≡ true → words ≡ row_words (first_six words)
row_of [] l all = absurd (omega (arith, l))
row_of (a ∷ []) l all = absurd (omega (arith, l))
row_of (a ∷ b ∷ []) l all = absurd (omega (arith, l))
row_of (a ∷ b ∷ c ∷ []) l all = absurd (omega (arith, l))
row_of (a ∷ b ∷ c ∷ d ∷ []) l all = absurd (omega (arith, l))
row_of (a ∷ b ∷ c ∷ d ∷ e ∷ []) l all = absurd (omega (arith, l))
row_of (a ∷ b ∷ c ∷ d ∷ e ∷ f ∷ more) l all =
    let long : length more ≡ 26 = omega (arith, l) in
    let zeros : list_all (λ w. w == 0) more ≡ true = ap (λ xs. list_all (λ w. w == 0) xs) (sym (take_all 26 more (omega (arith, long)))) ∙ all in
    ap (λ xs. a ∷ b ∷ c ∷ d ∷ e ∷ f ∷ xs) (subst (λ n. more ≡ replicate n 0) long (zeros_alone more zeros))

pub row_ends : (words row : List ℕ) → length words ≡ 32 → words ≡ row_words row → ends_in_zeros words ≡ true
row_ends words row l is = ap ends_in_zeros (is ∙ ap row_words (sym (columns_of words row l is)))
