-- What the command makes of the values of its options.
use Rattle.std.proofs.Common.{◌≡◌, ◌∙◌, ℕ, ◌^◌, ◌<◌, ◌≤◌, Bool, true, false, cond, eqb, leb, List, [], ◌∷◌, drop, Option, Some, None, Result, Ok, Err, codes, refl, sym, ap, ap₂, subst, arith}
use Rattle.std.specs.Prelude.{◌&&◌, decimal, option_and_then, unwrap_or}
use Rattle.std.specs.Str.Parse.{IsNumeral, ParsesUnsigned, digits_value, without_leading_plus}
use Rattle.std.specs.Char.{digit_value}
use Rattle.std.proofs.lemmas.Bool.{ne_eqb, and_parts, leb-true, le-leb}
use Rattle.std.proofs.lemmas.Fmt.{decimal_is_IsNumeral}
use Rattle.std.proofs.lemmas.Str.Parse.{digit_from_value}
use Rattle.std.specs.Str.{bytes_eq}
use Rattle.clap.specs.Lexer.{strip_byte}
use Rattle.clap.specs.Matches.{ReadsOne}
use Rattle.clap.specs.Faults.{is_simple_and_free}
use Rattle.clap.specs.Simple.{is_simple}
use Rattle.clap.specs.ValueTests.{accepts}
use Rattle.clap.specs.Words.{Row, Text, first_of, first_value, matches_of, one_of, one_text, rows_of}
use Rattle.clap.specs.declared.builder.value_parser.ValueParser.TheVariants.{Unsigned}
use Rattle.clap.specs.declared.parser.matches.Found.{Found}
use Rattle.clap.proofs.WalkLemmas.{first_value-rows, one_text-rows}
use Rattle.clap.proofs.ValueTestLemmas.{Accepts-accepts, accepts-Accepts}
use Rattle.program_io.specs.declared.words.Refusal.{Refusal}
use Rattle.program_io.specs.declared.words.Refusal.TheVariants.{Usage, NoMemory}
use Rattle.program_io.specs.Words.{seeds, command, kept, number_in, settings_in, settings_of, settings_read, AreInRange, AreRefused, RefusesFor}

pub command-is_simple : is_simple command ≡ true
command-is_simple = refl

pub command-is_free : is_simple_and_free command ≡ true
command-is_free = refl

-- what the getters read of matches with these rows
module _ (f : Found) (words : List Text) (rows : rows_of f ≡ matches_of command words) where
  pub first-is : (name : Text) → first_value f name ≡ first_of name (matches_of command words)
  first-is name = first_value-rows f name ∙ ap (first_of name) rows

  pub one-is : (name : Text) → one_text f name ≡ one_of name (matches_of command words)
  one-is name = one_text-rows f name ∙ ap (one_of name) rows

  pub settings-are : settings_read (first_value f) (one_text f) ≡ settings_of words
  settings-are = λ i. settings_read (λ name. first-is name i) (λ name. one-is name i)

pub refuses : (refusal : Refusal) (words : List Text) → AreRefused words → RefusesFor refusal words
refuses (Usage text) words refused = refused
refuses NoMemory words refused = tt

-- ---- a value that is read as a number

pub differ : (b : Bool) → b ≡ true → b ≡ false → ⊥
differ true t f = absurd cc
differ false t f = absurd cc

module _ (low high : ℕ) where
  number-passed : (t : Text) → accepts false (Unsigned low high) t ≡ true → number_in (Unsigned low high) t ≡ Some (digits_value 10 (without_leading_plus t))
  number-passed t e = ap (λ (b : Bool). cond b (Some (digits_value 10 (without_leading_plus t))) None) e

  number-refused : (t : Text) → accepts false (Unsigned low high) t ≡ false → number_in (Unsigned low high) t ≡ None
  number-refused t e = ap (λ (b : Bool). cond b (Some (digits_value 10 (without_leading_plus t))) None) e

  -- a numeral of k bits that is kept in a range is the number in it that the text spells
  read_within : (E : Type 0) (k : ℕ) (t : Text) (r : Option ℕ) → high < 2 ^ k → high < 2 ^ 64 → ReadsOne {T = ℕ} {E = E} (λ u x. ParsesUnsigned k 10 u x) t r → option_and_then (kept low high) r ≡ number_in (Unsigned low high) t
  read_within E k t (Some v) fits wide read = go (leb low v && leb v high) refl (accepts false (Unsigned low high) t) refl
    where
      go : (inside : Bool) → (leb low v && leb v high) ≡ inside → (passes : Bool) → accepts false (Unsigned low high) t ≡ passes → cond (leb low v && leb v high) (Some v) None ≡ number_in (Unsigned low high) t
      go true i true p = ap (λ (b : Bool). cond b (Some v) None) i ∙ ap Some read.1 ∙ sym (number-passed t p)
      go true i false p =
          let parts = and_parts (leb low v) (leb v high) i in
          let least : low ≤ v = leb-true low v parts.0 in
          let most : v ≤ high = leb-true v high parts.1 in
          absurd (differ (accepts false (Unsigned low high) t) (Accepts-accepts false (Unsigned low high) t (read.0.0, omega (arith, read.1), omega (arith, read.1), omega (arith, read.1))) p)
      go false i true p =
          let is = accepts-Accepts false (Unsigned low high) t p in
          let least : low ≤ v = omega (arith, read.1, is.2) in
          let most : v ≤ high = omega (arith, read.1, is.3) in
          let inside : (leb low v && leb v high) ≡ true = rw (le-leb low v least, le-leb v high most) refl in
          absurd (differ (leb low v && leb v high) inside i)
      go false i false p = ap (λ (b : Bool). cond b (Some v) None) i ∙ sym (number-refused t p)
  read_within E k t None fits wide read = go (accepts false (Unsigned low high) t) refl
    where
      go : (b : Bool) → accepts false (Unsigned low high) t ≡ b → None ≡ number_in (Unsigned low high) t
      go true e = let is = accepts-Accepts false (Unsigned low high) t e in absurd (read.1 (is.0, omega (arith, is.3)))
      go false e = sym (number-refused t e)

  pub count_read : (E : Type 0) (G : List ℕ → Result ℕ E → Type 0) (k : ℕ) (given : Option Text) (r : Option ℕ) → high < 2 ^ k → high < 2 ^ 64
      → ((u : List ℕ) (x : Result ℕ E) → G u x → ParsesUnsigned k 10 u x)
      → (given ≡ None → r ≡ None) → ((t : List ℕ) → given ≡ Some t → ReadsOne G t r) → option_and_then (kept low high) r ≡ option_and_then (number_in (Unsigned low high)) given
  count_read E G k None r fits wide only none value = ap (option_and_then (kept low high)) (none refl)
  count_read E G k (Some t) r fits wide only none value = read_within E k t r fits wide (weaker r (value t refl))
    where
      weaker : (o : Option ℕ) → ReadsOne G t o → ReadsOne {T = ℕ} {E = E} (λ u x. ParsesUnsigned k 10 u x) t o
      weaker (Some v) h = only t (Ok v) h
      weaker None h = (h.0, only t (Err h.0) h.1)

  -- a number that is kept in a range, or one of it in its place, is in the range
  in_range : (given : Option Text) (other : ℕ) → low ≤ other → other ≤ high → (low ≤ unwrap_or (option_and_then (number_in (Unsigned low high)) given) other) × (unwrap_or (option_and_then (number_in (Unsigned low high)) given) other ≤ high)
  in_range None other least most = (least, most)
  in_range (Some t) other least most = go (accepts false (Unsigned low high) t) refl
    where
      go : (b : Bool) → accepts false (Unsigned low high) t ≡ b → (low ≤ unwrap_or (number_in (Unsigned low high) t) other) × (unwrap_or (number_in (Unsigned low high) t) other ≤ high)
      go true e = let is = accepts-Accepts false (Unsigned low high) t e in rw (number-passed t e) (is.2, is.3)
      go false e = rw (number-refused t e) (least, most)

-- each number of 64 bits is kept
pub seed_read : (E : Type 0) (G : List ℕ → Result ℕ E → Type 0) (given : Option Text) (r : Option ℕ)
    → ((u : List ℕ) (x : Result ℕ E) → G u x → ParsesUnsigned 64 10 u x)
    → (given ≡ None → r ≡ None) → ((t : List ℕ) → given ≡ Some t → ReadsOne G t r) → r ≡ option_and_then (number_in seeds) given
seed_read E G None r only none value = none refl
seed_read E G (Some t) r only none value = all r (value t refl) ∙ count_read 0 18446744073709551615 E G 64 (Some t) r (omega arith) (omega arith) only none value
  where
    all : (o : Option ℕ) → ReadsOne G t o → o ≡ option_and_then (kept 0 18446744073709551615) o
    all (Some v) h =
        let read = only t (Ok v) h in
        let small : v ≤ 18446744073709551615 = omega (arith, read.0.1, read.1) in
        sym (ap₂ (λ (a b : Bool). cond (a && b) (Some v) None) (le-leb 0 v (omega arith)) (le-leb v 18446744073709551615 small))
    all None h = refl

pub settings-in_range : (found : List Row) → AreInRange (settings_in found)
settings-in_range found = record {
  workers = in_range 1 64 (one_of (codes "workers") found) 4 (omega arith) (omega arith);
  tries = in_range 1 1000 (one_of (codes "tries") found) 64 (omega arith) (omega arith);
}

-- ---- the word of a number

-- a word that is no option
pub record IsValue (w : Text) : Type 0 where
  pub no_option : strip_byte 45 w ≡ None
  pub no_dashes : bytes_eq w (45 ∷ 45 ∷ []) ≡ false

number_word : (d : ℕ) (ds : List ℕ) → digit_value d < 10 → IsValue (d ∷ ds) × (without_leading_plus (d ∷ ds) ≡ d ∷ ds)
number_word d ds digit =
    let minus : eqb d 45 ≡ false = ne_eqb _ _ (λ e. omega (arith, digit_from_value d digit)) in
    let plus : eqb d 43 ≡ false = ne_eqb _ _ (λ e. omega (arith, digit_from_value d digit)) in
    (record { no_option = rw minus refl; no_dashes = rw minus refl }, ap (λ (b : Bool). drop (cond b 1 0) (d ∷ ds)) plus)

-- a numeral is no option, and begins with no plus
numeral_word : (t : Text) → IsNumeral 10 t → IsValue t × (without_leading_plus t ≡ t)
numeral_word [] h = absurd (omega (arith, h.0))
numeral_word (d ∷ ds) h = number_word d ds h.1.0

pub decimal-value : (n : ℕ) → n < 2 ^ 64 → IsValue (decimal n)
decimal-value n wide = (numeral_word (decimal n) (decimal_is_IsNumeral n wide).0).0

-- a number in a range passes, and is read as itself
pub decimal-passes : (low high n : ℕ) → low ≤ n → n ≤ high → n < 2 ^ 64 → accepts false (Unsigned low high) (decimal n) ≡ true
decimal-passes low high n least most wide =
    let numeral = decimal_is_IsNumeral n wide in
    let word = numeral_word (decimal n) numeral.0 in
    let value : digits_value 10 (without_leading_plus (decimal n)) ≡ n = ap (digits_value 10) word.1 ∙ numeral.1 in
    let is_numeral : IsNumeral 10 (without_leading_plus (decimal n)) = subst (λ (t : Text). IsNumeral 10 t) (sym word.1) numeral.0 in
    Accepts-accepts false (Unsigned low high) (decimal n) (is_numeral, omega (arith, value), omega (arith, value), omega (arith, value))

pub decimal-is : (low high n : ℕ) → low ≤ n → n ≤ high → n < 2 ^ 64 → number_in (Unsigned low high) (decimal n) ≡ Some n
decimal-is low high n least most wide =
    let numeral = decimal_is_IsNumeral n wide in
    number-passed low high (decimal n) (decimal-passes low high n least most wide) ∙ ap Some (ap (digits_value 10) (numeral_word (decimal n) numeral.0).1 ∙ numeral.1)
