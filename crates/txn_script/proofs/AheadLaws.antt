-- A word read byte by byte.
use Rattle.std.proofs.Common.{◌≡◌, ℕ, Bool, true, false, cond, eqb, List, [], ◌∷◌, ◌++◌, Option, Some, None, refl, sym, ap, ◌∙◌}
use Rattle.std.specs.Prelude.{◌&&◌}
use Rattle.std.specs.Char.{is_ascii_lowercase}
use Rattle.std.specs.List.{onto_first, list_all}
use Rattle.std.proofs.lemmas.Bool.{eqb-true}
use Rattle.std.proofs.lemmas.List.{append-nil}
use Rattle.std.proofs.lemmas.List.Folds.{list_all-append}
use Rattle.txn_script.specs.LineReading.{◌>>=◌, name_at, number_at, starts_no_number, digit_behind}
use Rattle.txn_script.specs.Ahead.{words_ahead, words_behind, number_with, number_before, is_short, BeginsWithNoLetter}
use Rattle.txn_script.proofs.WordLaws.{and_parts, false_from}
use Rattle.txn_script.proofs.DigitLaws.{number_of-starts_no_number, number_of-digits}

-- ---- words byte by byte

pub some_ahead : (bytes : List ℕ) → (word : List ℕ) × (words : List (List ℕ)) × (words_ahead bytes ≡ word ∷ words)
some_ahead [] = ([], [], refl)
some_ahead (c ∷ bytes) =
    elim (eqb c 32) as (λ b. (word : List ℕ) × (words : List (List ℕ)) × (cond b ([] ∷ words_ahead bytes) (onto_first c (words_ahead bytes)) ≡ word ∷ words)) [
      | true ↦ ([], words_ahead bytes, refl)
      | false ↦ let rest = some_ahead bytes in (c ∷ rest.0, rest.1, ap (onto_first c) rest.2)
    ]

-- a byte is a space, or stands before the first word of the rest
pub ahead-space : (c : ℕ) (bytes : List ℕ) → eqb c 32 ≡ true → words_ahead (c ∷ bytes) ≡ [] ∷ words_ahead bytes
ahead-space c bytes e = rw e refl

pub ahead-more : (c : ℕ) (bytes word : List ℕ) (words : List (List ℕ)) → eqb c 32 ≡ false → words_ahead bytes ≡ word ∷ words → words_ahead (c ∷ bytes) ≡ (c ∷ word) ∷ words
ahead-more c bytes word words e rest = rw e (ap (onto_first c) rest)

-- ---- a number that goes on, or ends

no_digit : (value : ℕ) → digit_behind value 32 ≡ None
no_digit value = refl

pub number_with-stop : (value c : ℕ) (bytes : List ℕ) → digit_behind value c ≡ None → number_with value (words_ahead (c ∷ bytes)) ≡ number_before value (c ∷ bytes)
number_with-stop value c bytes none =
    elim (eqb c 32) as (λ b. eqb c 32 ≡ b → number_with value (words_ahead (c ∷ bytes)) ≡ number_before value (c ∷ bytes)) [
      | true ↦ λ e. rw e refl
      | false ↦ λ e.
          let rest = some_ahead bytes in
          ap (number_with value) (ahead-more c bytes rest.0 rest.1 e rest.2) ∙ rw (none, e) refl
    ] refl

pub number_with-more : (value c longer : ℕ) (bytes : List ℕ) → digit_behind value c ≡ Some longer → number_with value (words_ahead (c ∷ bytes)) ≡ number_with longer (words_ahead bytes)
number_with-more value c longer bytes some =
    elim (eqb c 32) as (λ b. eqb c 32 ≡ b → number_with value (words_ahead (c ∷ bytes)) ≡ number_with longer (words_ahead bytes)) [
      | true ↦ λ e. let none = ap (digit_behind value) (eqb-true c 32 e) ∙ no_digit value in absurd cc
      | false ↦ λ e.
          let rest = some_ahead bytes in
          ap (number_with value) (ahead-more c bytes rest.0 rest.1 e rest.2) ∙ rw (some, rest.2) refl
    ] refl

-- ---- how a number begins

number_at-is : (word : List ℕ) (words : List (List ℕ)) → starts_no_number word ≡ false → number_at (word ∷ words) ≡ number_with 0 (word ∷ words)
unfolding number_at
number_at-is word words plain = ap (λ (o : Option ℕ). o >>= λ n. Some (n, words)) (sym (number_of-digits word plain))

number_at-not : (word : List ℕ) (words : List (List ℕ)) → starts_no_number word ≡ true → number_at (word ∷ words) ≡ None
unfolding number_at
number_at-not word words zeroes = ap (λ (o : Option ℕ). o >>= λ n. Some (n, words)) (number_of-starts_no_number word zeroes)

pub number_at-nil : number_at (words_ahead []) ≡ None
number_at-nil = number_at-not [] [] refl

pub number_at-none : (c : ℕ) (bytes : List ℕ) → digit_behind 0 c ≡ None → number_at (words_ahead (c ∷ bytes)) ≡ None
number_at-none c bytes none =
    elim (eqb c 32) as (λ b. eqb c 32 ≡ b → number_at (words_ahead (c ∷ bytes)) ≡ None) [
      | true ↦ λ e. ap number_at (ahead-space c bytes e) ∙ number_at-not [] (words_ahead bytes) refl
      | false ↦ λ e.
          let rest = some_ahead bytes in
          ap number_at (ahead-more c bytes rest.0 rest.1 e rest.2) ∙ elim (starts_no_number (c ∷ rest.0)) as (λ b. starts_no_number (c ∷ rest.0) ≡ b → number_at ((c ∷ rest.0) ∷ rest.1) ≡ None) [
            | true ↦ λ zeroes. number_at-not (c ∷ rest.0) rest.1 zeroes
            | false ↦ λ plain. number_at-is (c ∷ rest.0) rest.1 plain ∙ rw none refl
          ] refl
    ] refl

pub number_at-zero : (c : ℕ) (bytes : List ℕ) → c ≡ 48 → number_at (words_ahead (c ∷ bytes)) ≡ number_before 0 bytes
number_at-zero c bytes e = ap (λ (d : ℕ). number_at (words_ahead (d ∷ bytes))) e ∙ alone bytes
  where
    alone : (bytes : List ℕ) → number_at (words_ahead (48 ∷ bytes)) ≡ number_before 0 bytes
    alone [] = number_at-is (48 ∷ []) [] refl
    alone (c ∷ bytes) =
        elim (eqb c 32) as (λ b. eqb c 32 ≡ b → number_at (words_ahead (48 ∷ c ∷ bytes)) ≡ number_before 0 (c ∷ bytes)) [
          | true ↦ λ e. ap (λ (ws : List (List ℕ)). number_at (onto_first 48 ws)) (ahead-space c bytes e) ∙ number_at-is (48 ∷ []) (words_ahead bytes) refl ∙ rw e refl
          | false ↦ λ e.
              let rest = some_ahead bytes in
              ap (λ (ws : List (List ℕ)). number_at (onto_first 48 ws)) (ahead-more c bytes rest.0 rest.1 e rest.2) ∙ number_at-not (48 ∷ c ∷ rest.0) rest.1 refl ∙ rw e refl
        ] refl

pub number_at-more : (c value : ℕ) (bytes : List ℕ) → digit_behind 0 c ≡ Some value → (c ≡ 48 → ⊥) → number_at (words_ahead (c ∷ bytes)) ≡ number_with value (words_ahead bytes)
number_at-more c value bytes e other =
    elim (eqb c 32) as (λ b. eqb c 32 ≡ b → number_at (words_ahead (c ∷ bytes)) ≡ number_with value (words_ahead bytes)) [
      | true ↦ λ space. let none = ap (digit_behind 0) (eqb-true c 32 space) ∙ no_digit 0 in absurd cc
      | false ↦ λ space.
          let rest = some_ahead bytes in
          let is = ahead-more c bytes rest.0 rest.1 space rest.2 in
          ap number_at is ∙ number_at-is (c ∷ rest.0) rest.1 (plain rest.0) ∙ sym (ap (number_with 0) is) ∙ number_with-more 0 c value bytes e
    ] refl
  where
    plain : (word : List ℕ) → starts_no_number (c ∷ word) ≡ false
    plain [] = refl
    plain (next ∷ word) = false_from (eqb c 48) (λ t. other (eqb-true c 48 t))

-- ---- names

lowercase_is_no_space : (c : ℕ) → is_ascii_lowercase c ≡ true → eqb c 32 ≡ false
lowercase_is_no_space c e = false_from (eqb c 32) (λ t. let none = ap is_ascii_lowercase (eqb-true c 32 t) in absurd cc)

-- letters stand before the first word of the rest
letters_ahead : (front rest word : List ℕ) (words : List (List ℕ)) → list_all is_ascii_lowercase front ≡ true → words_ahead rest ≡ word ∷ words → words_ahead (front ++ rest) ≡ (front ++ word) ∷ words
letters_ahead [] rest word words letters e = e
letters_ahead (c ∷ front) rest word words letters e =
    let parts = and_parts (is_ascii_lowercase c) (list_all is_ascii_lowercase front) letters in
    ahead-more c (front ++ rest) (front ++ word) words (lowercase_is_no_space c parts.0) (letters_ahead front rest word words parts.1 e)

name_at-letters : (front : List ℕ) (words : List (List ℕ)) → list_all is_ascii_lowercase front ≡ true → name_at (front ∷ words) ≡ cond (is_short front) (Some (front, words)) None
unfolding name_at
name_at-letters front words letters = rw letters (elim (is_short front) as (λ b. cond {A = Option (List ℕ × List (List ℕ))} (b && true) (Some (front, words)) None ≡ cond {A = Option (List ℕ × List (List ℕ))} b (Some (front, words)) None) [ true ↦ refl | false ↦ refl ])

name_at-other : (word : List ℕ) (words : List (List ℕ)) → list_all is_ascii_lowercase word ≡ false → name_at (word ∷ words) ≡ None
unfolding name_at
name_at-other word words other = rw other (elim (is_short word) as (λ b. cond {A = Option (List ℕ × List (List ℕ))} (b && false) (Some (word, words)) None ≡ None) [ true ↦ refl | false ↦ refl ])

never : (b : Bool) → cond {A = Option (List ℕ × List (List ℕ))} b None None ≡ None
never true = refl
never false = refl

-- letters, and then no letter
split : (front rest : List ℕ) → list_all is_ascii_lowercase front ≡ true → BeginsWithNoLetter rest → name_at (words_ahead (front ++ rest)) ≡ cond (is_short front) (words_behind rest >>= λ words. Some (front, words)) None
split front [] letters stops = ap name_at (letters_ahead front [] [] [] letters refl) ∙ ap (λ (w : List ℕ). name_at (w ∷ [])) (append-nil front) ∙ name_at-letters front [] letters
split front (c ∷ rest) letters stops =
    elim (eqb c 32) as (λ b. eqb c 32 ≡ b → name_at (words_ahead (front ++ c ∷ rest)) ≡ cond (is_short front) (words_behind (c ∷ rest) >>= λ words. Some (front, words)) None) [
      | true ↦ λ space. ap name_at (letters_ahead front (c ∷ rest) [] (words_ahead rest) letters (ahead-space c rest space)) ∙ ap (λ (w : List ℕ). name_at (w ∷ words_ahead rest)) (append-nil front) ∙ name_at-letters front (words_ahead rest) letters ∙ rw space refl
      | false ↦ λ space.
          let r = some_ahead rest in
          let is = letters_ahead front (c ∷ rest) (c ∷ r.0) r.1 letters (ahead-more c rest r.0 r.1 space r.2) in
          let other : list_all is_ascii_lowercase (front ++ c ∷ r.0) ≡ false = rw (list_all-append, letters, stops) refl in
          ap name_at is ∙ name_at-other (front ++ c ∷ r.0) r.1 other ∙ rw space (sym (never (is_short front)))
    ] refl

pub name_at-split : (bytes front rest : List ℕ) → front ++ rest ≡ bytes → list_all is_ascii_lowercase front ≡ true → BeginsWithNoLetter rest → name_at (words_ahead bytes) ≡ cond (is_short front) (words_behind rest >>= λ words. Some (front, words)) None
name_at-split bytes front rest whole letters stops = ap (λ (b : List ℕ). name_at (words_ahead b)) (sym whole) ∙ split front rest letters stops
