-- Bytes cut at line feeds, and texts that begin alike.
use Rattle.std.proofs.Common.{◌≡◌, ◌≢◌, ℕ, ◌+◌, ◌<◌, ◌≤◌, true, false, eqb, List, [], ◌∷◌, ◌++◌, length, take, drop, get_or, Some, None, refl, sym, ap, subst, ◌∙◌, arith}
use Rattle.std.specs.Prelude.{option_map, position}
use Rattle.std.proofs.lemmas.Bool.{eqb-true, eq-eqb}
use Rattle.std.proofs.lemmas.List.{take-append-drop, drop_more, length-drop, length-take-le, get_or-take}
use Rattle.std.proofs.lemmas.List.Elements.{All-head, All-tail}
use Rattle.std.proofs.lemmas.List.Quantifiers.{position-Some}
use Rattle.std.proofs.lemmas.Option.{none-some}
use Rattle.std.proofs.lemmas.List.Sums.{fails_before_first}
use Rattle.txn_script.specs.Grammar.{HasNoLineFeed}
use Rattle.txn_script.specs.LineReading.{cut}
use Rattle.txn_script.proofs.LineLaws.{Avoids, some_is}
use Rattle.txn_script.proofs.KnownLaws.{position-None}

whole_from : (bytes : List ℕ) → Avoids 10 bytes → HasNoLineFeed bytes
whole_from bytes avoids k d lt e =
    let at = avoids k d lt in
    let yes : true ≡ false = sym (eq-eqb (get_or bytes k d) 10 e) ∙ at in
    absurd (cc)

pub HasNoLineFeed-avoids : (bytes : List ℕ) → Avoids 10 bytes → HasNoLineFeed bytes
HasNoLineFeed-avoids bytes avoids = whole_from bytes avoids

-- two ways to end at the first line feed are one
pub first_feed : (a b x y : List ℕ) → HasNoLineFeed a → HasNoLineFeed b → a ++ 10 ∷ x ≡ b ++ 10 ∷ y → (a ≡ b) × (x ≡ y)
first_feed [] [] x y whole_a whole_b e = (refl, cc)
first_feed [] (c ∷ b) x y whole_a whole_b e = let same : 10 ≡ c = cc in absurd (All-head (λ d. d ≢ 10) c b whole_b (sym same))
first_feed (c ∷ a) [] x y whole_a whole_b e = let same : c ≡ 10 = cc in absurd (All-head (λ d. d ≢ 10) c a whole_a same)
first_feed (c ∷ a) (d ∷ b) x y whole_a whole_b e =
    let same : c ≡ d = cc in
    let rest : a ++ 10 ∷ x ≡ b ++ 10 ∷ y = cc in
    let both = first_feed a b x y (All-tail (λ d. d ≢ 10) c a whole_a) (All-tail (λ d. d ≢ 10) d b whole_b) rest in
    (λ i. same i ∷ both.0 i, both.1)

-- where there is a line feed, not all bytes are others
pub no_feed : (a x bytes : List ℕ) → bytes ≡ a ++ 10 ∷ x → HasNoLineFeed bytes → ⊥
no_feed [] x bytes e whole = All-head (λ d. d ≢ 10) 10 x (subst HasNoLineFeed e whole) refl
no_feed (c ∷ a) x bytes e whole = no_feed a x (a ++ 10 ∷ x) refl (All-tail (λ d. d ≢ 10) c (a ++ 10 ∷ x) (subst HasNoLineFeed e whole))

-- ---- what the code cuts

nth_whole : (bytes : List ℕ) (i : ℕ) → i ≤ length bytes → ((k : ℕ) → k < i → (d : ℕ) → eqb (get_or bytes k d) 10 ≡ false) → HasNoLineFeed (take i bytes)
nth_whole bytes i within fails = whole_from (take i bytes) (λ k d lt.
    let below : k < i = omega (arith, length-take-le i bytes within) in
    ap (λ c. eqb c 10) (get_or-take i bytes k d below) ∙ fails k below d)

-- the bytes before the first line feed, and those behind it
pub cut-some : (bytes front behind : List ℕ) → cut 10 bytes ≡ Some (front, behind) → (bytes ≡ front ++ 10 ∷ behind) × HasNoLineFeed front × (length behind < length bytes)
cut-some bytes front behind e =
    elim (position (λ b. eqb b 10) bytes) as (λ o. position (λ b. eqb b 10) bytes ≡ o → option_map {U = List ℕ × List ℕ} (λ at. (take at bytes, drop (at + 1) bytes)) o ≡ Some (front, behind) → (bytes ≡ front ++ 10 ∷ behind) × HasNoLineFeed front × (length behind < length bytes)) [
      | None ↦ λ at found. absurd (none-some (front, behind) found)
      | Some i ↦ λ at found.
          let here = position-Some (λ b. eqb b 10) bytes i 0 at in
          let is : get_or bytes i 0 ≡ 10 = eqb-true (get_or bytes i 0) 10 here.1 in
          let same : ◌≡◌ {A = List ℕ × List ℕ} (take i bytes, drop (i + 1) bytes) (front, behind) = some_is _ _ found in
          let whole : bytes ≡ take i bytes ++ 10 ∷ drop (i + 1) bytes = sym (take-append-drop i bytes) ∙ ap (λ rest. take i bytes ++ rest) (drop_more bytes i 0 here.0 ∙ ap (λ c. c ∷ drop (i + 1) bytes) is) in
          let parts = nth_whole bytes i (omega (arith, here.0)) (λ k lt d. before bytes i k d at lt) in
          subst (λ (p : List ℕ × List ℕ). (bytes ≡ p.0 ++ 10 ∷ p.1) × HasNoLineFeed p.0 × (length p.1 < length bytes)) same (whole, parts, omega (arith, length-drop (i + 1) bytes, here.0))
    ] refl e
  where
    before : (bytes : List ℕ) (i k d : ℕ) → position (λ b. eqb b 10) bytes ≡ Some i → k < i → eqb (get_or bytes k d) 10 ≡ false
    before bytes i k d at lt = (position-Some (λ b. eqb b 10) bytes i d at).2 k lt

-- without a line feed
pub cut-none : (bytes : List ℕ) → cut 10 bytes ≡ None → HasNoLineFeed bytes
cut-none bytes e =
    elim (position (λ b. eqb b 10) bytes) as (λ o. position (λ b. eqb b 10) bytes ≡ o → option_map {U = List ℕ × List ℕ} (λ at. (take at bytes, drop (at + 1) bytes)) o ≡ None → HasNoLineFeed bytes) [
      | Some i ↦ λ at found. absurd (none-some _ (sym found))
      | None ↦ λ at found. whole_from bytes (λ k d lt. fails_before_first (λ b. eqb b 10) bytes k d (omega (arith, position-None (λ b. eqb b 10) bytes at, lt)))
    ] refl e
