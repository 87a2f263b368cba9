-- Digits read one behind another, and numbers without a leading zero.
use Rattle.std.proofs.Common.{◌≡◌, ◌≢◌, ℕ, ◌+◌, ◌*◌, ◌-◌, ◌^◌, ◌<◌, ◌≤◌, true, false, leb, ltb, eqb, List, [], ◌∷◌, length, get_or, Option, Some, None, refl, sym, ap, subst, ◌∙◌, arith, ⊎_elim}
use Rattle.std.specs.Prelude.{◌&&◌, option_and_then, decimal}
use Rattle.std.specs.Char.{is_ascii_digit, digit_value}
use Rattle.std.specs.Int.{IsInRange}
use Rattle.std.specs.Str.Parse.{AllDigits, digits_value, digits_value_after}
use Rattle.std.proofs.lemmas.Bool.{lt-ltb, le-ltb, le-leb, leb-true, ltb-true, eqb-true, eq-eqb, cases_lt}
use Rattle.std.proofs.lemmas.Option.{cond_some, none-some, same_Some}
use Rattle.std.proofs.lemmas.Fmt.{digits_value-decimal, decimal-digits_value, decimal_digit, first_decimal, decimal_nonempty, digits_decimal}
use Rattle.std.proofs.lemmas.Str.Parse.{digit_from_value}
use Rattle.txn_script.specs.LineReading.{digit_behind, digits_behind, starts_no_number, number_of}
use Rattle.txn_script.proofs.WordLaws.{own, and_parts, false_from, number_of-is, number_of-none}

bind_some : {A B : Type 0} (o : Option A) (f : A → Option B) (y : B) → option_and_then f o ≡ Some y → (x : A) × (o ≡ Some x) × (f x ≡ Some y)
bind_some (Some x) f y e = (x, refl, e)
bind_some None f y e = absurd cc

-- ---- digits

pub in_range : (c : ℕ) → is_ascii_digit c ≡ true → IsInRange 48 57 c
in_range c e = let parts = and_parts (leb 48 c) (leb c 57) e in (leb-true 48 c parts.0, leb-true c 57 parts.1)

is_digit : (c : ℕ) → IsInRange 48 57 c → is_ascii_digit c ≡ true
is_digit c r = rw (le-leb 48 c r.0, le-leb c 57 r.1) refl

digit_value-is : (c : ℕ) → IsInRange 48 57 c → digit_value c ≡ c - 48
digit_value-is c r = rw (le-ltb c 48 r.0, lt-ltb c 58 (omega (arith, r.1))) refl

-- the value so far never falls
not_less : (bytes : List ℕ) (n : ℕ) → n ≤ digits_value_after 10 n bytes
not_less [] n = omega arith
not_less (c ∷ bytes) n = let rest = not_less bytes (n * 10 + digit_value c) in omega (arith, rest)

digits_behind-some : (bytes : List ℕ) (n v : ℕ) → n < 2 ^ 64 → digits_behind n bytes ≡ Some v → AllDigits 10 bytes × (digits_value_after 10 n bytes ≡ v) × (v < 2 ^ 64)
digits_behind-some [] n v fits e = let same = same_Some n v e in (tt, same, subst (λ (m : ℕ). m < 2 ^ 64) same fits)
digits_behind-some (c ∷ bytes) n v fits e =
    let bound = bind_some (digit_behind n c) (λ m. digits_behind m bytes) v e in
    let given = cond_some (is_ascii_digit c && ltb (n * 10 + (c - 48)) (2 ^ 64)) (n * 10 + (c - 48)) bound.0 bound.1 in
    let tests = and_parts (is_ascii_digit c) (ltb (n * 10 + (c - 48)) (2 ^ 64)) given.0 in
    let range = in_range c tests.0 in
    let is = digit_value-is c range in
    let rest = digits_behind-some bytes bound.0 v (subst (λ (m : ℕ). m < 2 ^ 64) given.1 (ltb-true _ _ tests.1)) bound.2 in
    ((omega (arith, is, range.1), rest.0), ap (λ (m : ℕ). digits_value_after 10 m bytes) (ap (λ (d : ℕ). n * 10 + d) is ∙ given.1) ∙ rest.1, rest.2)

digits_behind-is : (bytes : List ℕ) (n : ℕ) → AllDigits 10 bytes → digits_value_after 10 n bytes < 2 ^ 64 → digits_behind n bytes ≡ Some (digits_value_after 10 n bytes)
digits_behind-is [] n all fits = refl
digits_behind-is (c ∷ bytes) n all fits =
    let range = digit_from_value c all.0 in
    let is = digit_value-is c range in
    let small : n * 10 + (c - 48) < 2 ^ 64 = omega (arith, not_less bytes (n * 10 + digit_value c), fits, is) in
    let one : digit_behind n c ≡ Some (n * 10 + (c - 48)) = rw (is_digit c range, lt-ltb (n * 10 + (c - 48)) (2 ^ 64) small) refl in
    ap (option_and_then (λ m. digits_behind m bytes)) one ∙ ap (λ (d : ℕ). digits_behind (n * 10 + d) bytes) (sym is) ∙ digits_behind-is bytes (n * 10 + digit_value c) all.1 fits

-- ---- numbers

-- a number's text begins with a zero only where it is that alone
starts_no_number-decimal : (n : ℕ) → n < 2 ^ 64 → starts_no_number (decimal n) ≡ false
starts_no_number-decimal n fits =
    begins (decimal n) (decimal_nonempty n fits) (λ long zeroes. ⊎_elim
    (λ (none : n < 1). let zero : n ≡ 0 = omega arith in let one = ap length (ap decimal zero ∙ decimal_digit 0 (omega arith)) in absurd (omega (arith, long, one)))
    (λ (some : 1 ≤ n). absurd (omega (arith, first_decimal n (omega arith) fits, zeroes)))
    (cases_lt n 1))
  where
    begins : (word : List ℕ) → 0 < length word → (1 < length word → get_or word 0 0 ≢ 48) → starts_no_number word ≡ false
    begins [] some not_zero = absurd (omega arith)
    begins (first ∷ []) some not_zero = refl
    begins (first ∷ next ∷ rest) some not_zero = false_from (eqb first 48) (λ e. not_zero (omega arith) (eqb-true first 48 e))

pub number_of-starts_no_number : (word : List ℕ) → starts_no_number word ≡ true → number_of word ≡ None
number_of-starts_no_number word zeroes = number_of-none word (λ n fits e. let none = starts_no_number-decimal n fits in let is = ap starts_no_number e in let yes : true ≡ false = sym zeroes ∙ is ∙ none in absurd cc)

single : (word : List ℕ) → starts_no_number word ≡ false → get_or word 0 0 ≡ 48 → length word ≡ 1
single [] plain e = absurd cc
single (first ∷ []) plain e = refl
single (first ∷ next ∷ rest) plain e = let yes : true ≡ false = sym (eq-eqb first 48 e) ∙ plain in absurd cc

not_empty : (word : List ℕ) → starts_no_number word ≡ false → 0 < length word
not_empty [] plain = absurd cc
not_empty (first ∷ rest) plain = omega arith

pub number_of-digits : (word : List ℕ) → starts_no_number word ≡ false → digits_behind 0 word ≡ number_of word
number_of-digits word plain =
    elim (digits_behind 0 word) as (λ o. digits_behind 0 word ≡ o → o ≡ number_of word) [
      | Some v ↦ λ e.
          let is = digits_behind-some word 0 v (omega arith) e in
          let fits : digits_value 10 word < 2 ^ 64 = subst (λ (m : ℕ). m < 2 ^ 64) (sym is.1) is.2 in
          let written = decimal-digits_value own word is.0 (not_empty word plain) (single word plain) fits in
          sym (number_of-is word v is.2 (sym written ∙ ap decimal is.1))
      | None ↦ λ e. sym (number_of-none word (λ n fits written.
          let digits : AllDigits 10 word = subst (AllDigits 10) (sym written) (digits_decimal own n fits) in
          let value : digits_value 10 word ≡ n = ap (digits_value 10) written ∙ digits_value-decimal own n fits in
          none-some (digits_value 10 word) (sym e ∙ digits_behind-is word 0 digits (subst (λ (m : ℕ). m < 2 ^ 64) (sym value) fits))))
    ] refl
