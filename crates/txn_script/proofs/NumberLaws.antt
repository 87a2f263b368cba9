-- The numbers of a line, word by word.
use Rattle.std.proofs.Common.{◌≡◌, ℕ, ◌+◌, ◌<◌, ◌≤◌, Bool, true, false, cond, leb, eqb, List, [], ◌∷◌, ◌++◌, length, map, All, Option, Some, None, refl, sym, ap, subst, ◌∙◌, append_assoc, arith}
use Rattle.std.specs.Prelude.{decimal}
use Rattle.std.proofs.lemmas.Bool.{lt-leb, eq-eqb}
use Rattle.std.proofs.lemmas.List.{append-nil, length-append}
use Rattle.std.proofs.lemmas.List.Elements.{All-nil, All-cons, All-head, All-tail}
use Rattle.std.proofs.lemmas.Option.{none-some}
use Rattle.txn_script.specs.Line.{IsNumber}
use Rattle.txn_script.specs.LineReading.{◌>>=◌, number_of, number_at, with_number, more_numbers}
use Rattle.txn_script.proofs.WordLaws.{number_of-some, number_of-decimal}

bind_some : {A B : Type 0} (o : Option A) (f : A → Option B) (y : B) → (o >>= f) ≡ Some y → (x : A) × (o ≡ Some x) × (f x ≡ Some y)
bind_some (Some x) f y e = (x, refl, e)
bind_some None f y e = absurd cc

some_is : {A : Type 0} (x y : A) → Some x ≡ Some y → x ≡ y
some_is x y e = cc

-- ---- one word more

pub no_word : (words : List (List ℕ)) → (length words ≡ 0 → ⊥) → number_at words ≡ None → (numbers : List ℕ) → more_numbers numbers words ≡ None
unfolding number_at
no_word [] some e numbers = absurd (some refl)
no_word (word ∷ words) some e numbers =
    elim (number_of word) as (λ o. ◌>>=◌ {B = ℕ × List (List ℕ)} o (λ n. Some (n, words)) ≡ None → (o >>= λ n. with_number numbers n >>= λ longer. more_numbers longer words) ≡ None) [
      | None ↦ λ _. refl
      | Some n ↦ λ found. absurd (none-some (n, words) (sym found))
    ] e

pub one_word : (words : List (List ℕ)) (n : ℕ) (rest : List (List ℕ)) → number_at words ≡ Some (n, rest) → (numbers : List ℕ) → more_numbers numbers words ≡ (with_number numbers n >>= λ longer. more_numbers longer rest)
unfolding number_at
one_word [] n rest e numbers = absurd cc
one_word (word ∷ words) n rest e numbers =
    let b = bind_some (number_of word) (λ m. Some (m, words)) (n, rest) e in
    let same : ◌≡◌ {A = ℕ × List (List ℕ)} (b.0, words) (n, rest) = some_is (b.0, words) (n, rest) b.2 in
    ap (λ (o : Option ℕ). o >>= λ m. with_number numbers m >>= λ longer. more_numbers longer words) b.1
    ∙ ap (λ (x : ℕ × List (List ℕ)). with_number numbers x.0 >>= λ longer. more_numbers longer x.1) same

pub left_is_shorter : (words : List (List ℕ)) (n : ℕ) (rest : List (List ℕ)) → number_at words ≡ Some (n, rest) → length rest < length words
unfolding number_at
left_is_shorter [] n rest e = absurd cc
left_is_shorter (word ∷ words) n rest e =
    let b = bind_some (number_of word) (λ m. Some (m, words)) (n, rest) e in
    let same : ◌≡◌ {A = ℕ × List (List ℕ)} (b.0, words) (n, rest) = some_is (b.0, words) (n, rest) b.2 in
    subst (λ (x : ℕ × List (List ℕ)). length x.1 < length (word ∷ words)) same (omega arith)

-- ---- all words

with_number-some : (numbers : List ℕ) (n : ℕ) (longer : List ℕ) → with_number numbers n ≡ Some longer → longer ≡ numbers ++ n ∷ []
with_number-some numbers n longer e =
    elim (leb 7 (length numbers)) as (λ b. cond b None (Some (numbers ++ n ∷ [])) ≡ Some longer → longer ≡ numbers ++ n ∷ []) [
      | true ↦ λ found. absurd cc
      | false ↦ λ found. sym (some_is _ _ found)
    ] e

-- the words are those of numbers, which stand behind the ones before them, at most seven in all
pub more_numbers-some : (words : List (List ℕ)) (numbers all : List ℕ) → more_numbers numbers words ≡ Some all → (more : List ℕ) × (words ≡ map decimal more) × All IsNumber more × (all ≡ numbers ++ more)
more_numbers-some [] numbers all e = ([], refl, All-nil IsNumber, sym (append-nil numbers ∙ some_is numbers all e))
more_numbers-some (word ∷ words) numbers all e =
    let b = bind_some (number_of word) (λ n. with_number numbers n >>= λ longer. more_numbers longer words) all e in
    let c = bind_some (with_number numbers b.0) (λ longer. more_numbers longer words) all b.2 in
    let is = number_of-some word b.0 b.1 in
    let longer = with_number-some numbers b.0 c.0 c.1 in
    let rest = more_numbers-some words c.0 all c.2 in (
      b.0 ∷ rest.0,
      (λ j. is.0 j ∷ rest.1 j),
      All-cons IsNumber b.0 rest.0 is.1 rest.2,
      rest.3 ∙ ap (λ (ns : List ℕ). ns ++ rest.0) longer ∙ append_assoc numbers (b.0 ∷ []) rest.0,
    )

pub more_numbers-decimal : (more numbers : List ℕ) → All IsNumber more → length numbers + length more ≤ 7 → more_numbers numbers (map decimal more) ≡ Some (numbers ++ more)
more_numbers-decimal [] numbers are few = ap (λ (ns : List ℕ). Some ns) (sym (append-nil numbers))
more_numbers-decimal (n ∷ more) numbers are few =
    let room : length numbers < 7 = omega arith in
    let longer : length (numbers ++ n ∷ []) + length more ≤ 7 = omega (arith, length-append numbers (n ∷ [])) in
    rw (number_of-decimal n (All-head IsNumber n more are), lt-leb 7 (length numbers) room) (more_numbers-decimal more (numbers ++ n ∷ []) (All-tail IsNumber n more are) longer ∙ ap (λ (ns : List ℕ). Some ns) (append_assoc numbers (n ∷ []) more))

different : (b : Bool) → b ≡ true → b ≡ false → ⊥
different true t f = absurd cc
different false t f = absurd cc

pub some_words : (words : List (List ℕ)) (r : Bool) → r ≡ eqb (length words) 0 → r ≡ false → length words ≡ 0 → ⊥
some_words words r is not_zero e = let yes : r ≡ true = is ∙ eq-eqb (length words) 0 e in absurd (different r yes not_zero)
