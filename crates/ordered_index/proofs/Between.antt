-- The entries of a list with keys between two others.
use Rattle.std.proofs.Common.{◌≡◌, ℕ, ◌+◌, ◌<◌, ◌≤◌, zero, suc, Bool, true, false, cond, List, [], ◌∷◌, ◌++◌, length, get_or, take, drop, refl, sym, ap, ◌∙◌, arith, inl, inr}
use Rattle.std.specs.Prelude.{not, ◌&&◌, All}
use Rattle.std.proofs.Math.Seq.{take-length}
use Rattle.std.proofs.lemmas.List.{append-nil, take_all, take-append-le, take-append-drop}
use Rattle.std.proofs.lemmas.List.Elements.{filter-append, filter_more, All-nil, All-cons, All-head, All-tail}
use Rattle.ordered_index.specs.declared.key.Key.{Key}
use Rattle.ordered_index.specs.Keys.{is_before, Before, NotAfter, Above, Below, Rising, InStore}
use Rattle.ordered_index.specs.Scan.{is_between, between, HasBehind}
use Rattle.ordered_index.proofs.Order.{before_not_after, before_then}
use Rattle.ordered_index.proofs.Entries.{above_weaker}

pub between-append : (lo hi : Key) (xs ys : List (Key × ℕ)) → between lo hi (xs ++ ys) ≡ between lo hi xs ++ between lo hi ys
between-append lo hi xs ys = filter-append (λ entry. is_between lo hi entry.0) xs ys

and_false : (b : Bool) → (b && false) ≡ false
and_false true = refl
and_false false = refl

test_behind : (lo hi key : Key) → Before hi key → is_between lo hi key ≡ false
test_behind lo hi key behind = rw behind (and_false (not (is_before key lo)))

test_before : (lo hi key : Key) → Before key lo → is_between lo hi key ≡ false
test_before lo hi key before = rw before refl

pub test_between : (lo hi key : Key) → NotAfter lo key → NotAfter key hi → is_between lo hi key ≡ true
test_between lo hi key low high = rw (low, high) refl

pub between-above : (lo hi : Key) (xs : List (Key × ℕ)) → Above hi xs → between lo hi xs ≡ []
between-above lo hi [] above = refl
between-above lo hi (x ∷ xs) above = rw (test_behind lo hi x.0 above.0) (between-above lo hi xs above.1)

pub between-below : (lo hi : Key) (xs : List (Key × ℕ)) → Below lo xs → between lo hi xs ≡ []
between-below lo hi [] below = refl
between-below lo hi (x ∷ xs) below = rw (test_before lo hi x.0 below.0) (between-below lo hi xs below.1)

-- nothing lies between two keys of which the second comes first
none_test : (lo hi key : Key) (test : Bool) → is_before key lo ≡ test → Before hi lo → is_between lo hi key ≡ false
none_test lo hi key true before less = test_before lo hi key before
none_test lo hi key false low less = test_behind lo hi key (before_then hi lo key less low)

pub between-none : (lo hi : Key) (xs : List (Key × ℕ)) → Before hi lo → between lo hi xs ≡ []
between-none lo hi [] less = refl
between-none lo hi (x ∷ xs) less = rw (none_test lo hi x.0 (is_before x.0 lo) refl less) (between-none lo hi xs less)

-- one entry more
pub between_skips : (lo hi : Key) (xs : List (Key × ℕ)) (i : ℕ) (d : Key × ℕ) → i < length xs → Before (get_or xs i d).0 lo → between lo hi (take (i + 1) xs) ≡ between lo hi (take i xs)
between_skips lo hi xs i d within before =
    filter_more (λ entry. is_between lo hi entry.0) xs i d within
    ∙ ap (λ b. between lo hi (take i xs) ++ cond b (get_or xs i d ∷ []) []) (test_before lo hi (get_or xs i d).0 before)
    ∙ append-nil (between lo hi (take i xs))

pub between_takes : (lo hi : Key) (xs : List (Key × ℕ)) (i : ℕ) (d : Key × ℕ) → i < length xs → NotAfter lo (get_or xs i d).0 → NotAfter (get_or xs i d).0 hi → between lo hi (take (i + 1) xs) ≡ between lo hi (take i xs) ++ get_or xs i d ∷ []
between_takes lo hi xs i d within low high =
    filter_more (λ entry. is_between lo hi entry.0) xs i d within
    ∙ ap (λ b. between lo hi (take i xs) ++ cond b (get_or xs i d ∷ []) []) (test_between lo hi (get_or xs i d).0 low high)

-- a key behind `hi`, and those that follow it
pub has_behind : (hi : Key) (xs : List (Key × ℕ)) (i : ℕ) (d : Key × ℕ) → i < length xs → Before hi (get_or xs i d).0 → HasBehind hi xs
has_behind hi [] i d within behind = absurd (omega arith)
has_behind hi (x ∷ xs) zero d within behind = inl behind
has_behind hi (x ∷ xs) (suc i) d within behind = inr (has_behind hi xs i d (omega arith) behind)

above_drop : (hi : Key) (xs : List (Key × ℕ)) (i : ℕ) (d : Key × ℕ) → Rising xs → i < length xs → Before hi (get_or xs i d).0 → Above hi (drop i xs)
above_drop hi [] i d rising within behind = absurd (omega arith)
above_drop hi (x ∷ xs) zero d rising within behind = (behind, above_weaker hi x.0 xs (before_not_after hi x.0 behind) rising.0)
above_drop hi (x ∷ xs) (suc i) d rising within behind = above_drop hi xs i d rising.1 (omega arith) behind

between-parts : (lo hi : Key) (xs : List (Key × ℕ)) (i : ℕ) → between lo hi xs ≡ between lo hi (take i xs) ++ between lo hi (drop i xs)
between-parts lo hi xs i = ap (between lo hi) (sym (take-append-drop i xs)) ∙ between-append lo hi (take i xs) (drop i xs)

-- the entries up to one with a key behind `hi` are all
pub between_ends : (lo hi : Key) (xs : List (Key × ℕ)) (i n : ℕ) (d : Key × ℕ) → Rising xs → i < length xs → Before hi (get_or xs i d).0 → length (between lo hi (take i xs)) ≤ n → between lo hi (take i xs) ≡ take n (between lo hi xs)
between_ends lo hi xs i n d rising within behind few =
    let all : between lo hi xs ≡ between lo hi (take i xs) =
    between-parts lo hi xs i
    ∙ ap (λ ys. between lo hi (take i xs) ++ ys) (between-above lo hi (drop i xs) (above_drop hi xs i d rising within behind))
    ∙ append-nil (between lo hi (take i xs)) in
    sym (ap (take n) all ∙ take_all n (between lo hi (take i xs)) few)

-- and those that are so many
pub between_fills : (lo hi : Key) (xs : List (Key × ℕ)) (i n : ℕ) → length (between lo hi (take i xs)) ≡ n → between lo hi (take i xs) ≡ take n (between lo hi xs)
between_fills lo hi xs i n full =
    sym (ap (take n) (between-parts lo hi xs i)
    ∙ take-append-le n (between lo hi (take i xs)) (between lo hi (drop i xs)) (omega (arith, full))
    ∙ take_all n (between lo hi (take i xs)) (omega (arith, full)))

pub between_whole : (lo hi : Key) (xs : List (Key × ℕ)) (n : ℕ) → length (between lo hi (take (length xs) xs)) ≤ n → between lo hi (take (length xs) xs) ≡ take n (between lo hi xs)
between_whole lo hi xs n few = sym (ap (λ ys. take n (between lo hi ys)) (sym (take-length xs)) ∙ take_all n (between lo hi (take (length xs) xs)) few)

-- what is listed of a list
pub between_stored : (lo hi : Key) (size : ℕ) (xs : List (Key × ℕ)) → InStore size xs → InStore size (between lo hi xs)
between_stored lo hi size [] stored = All-nil (λ (e : Key × ℕ). e.1 < size)
between_stored lo hi size (x ∷ xs) stored =
    let P : Key × ℕ → Type 0 = λ e. e.1 < size in
    let more = between_stored lo hi size xs (All-tail P x xs stored) in
    elim (is_between lo hi x.0) as (λ b. All P (cond b (x ∷ between lo hi xs) (between lo hi xs))) [ true ↦ All-cons P x (between lo hi xs) (All-head P x xs stored) more | false ↦ more ]

keys-step : (lo hi : Key) (x : Key × ℕ) (xs : List (Key × ℕ)) (test : Bool) → is_between lo hi x.0 ≡ test → All (λ e. is_between lo hi e.0 ≡ true) (between lo hi xs) → All (λ e. is_between lo hi e.0 ≡ true) (cond test (x ∷ between lo hi xs) (between lo hi xs))
keys-step lo hi x xs true is more = All-cons (λ (e : Key × ℕ). is_between lo hi e.0 ≡ true) x (between lo hi xs) is more
keys-step lo hi x xs false is more = more

pub between_keys : (lo hi : Key) (xs : List (Key × ℕ)) → All (λ e. is_between lo hi e.0 ≡ true) (between lo hi xs)
between_keys lo hi [] = All-nil (λ (e : Key × ℕ). is_between lo hi e.0 ≡ true)
between_keys lo hi (x ∷ xs) = keys-step lo hi x xs (is_between lo hi x.0) refl (between_keys lo hi xs)

-- what is listed rises
above_between : (key lo hi : Key) (xs : List (Key × ℕ)) → Above key xs → Above key (between lo hi xs)
above_between key lo hi [] above = tt
above_between key lo hi (x ∷ xs) above =
    let more = above_between key lo hi xs above.1 in
    elim (is_between lo hi x.0) as (λ b. Above key (cond b (x ∷ between lo hi xs) (between lo hi xs))) [ true ↦ (above.0, more) | false ↦ more ]

pub between_rising : (lo hi : Key) (xs : List (Key × ℕ)) → Rising xs → Rising (between lo hi xs)
between_rising lo hi [] rising = tt
between_rising lo hi (x ∷ xs) rising =
    let more = between_rising lo hi xs rising.1 in
    elim (is_between lo hi x.0) as (λ b. Rising (cond b (x ∷ between lo hi xs) (between lo hi xs))) [ true ↦ (above_between x.0 lo hi xs rising.0, more) | false ↦ more ]

above_take : (key : Key) (n : ℕ) (xs : List (Key × ℕ)) → Above key xs → Above key (take n xs)
above_take key zero xs above = tt
above_take key (suc n) [] above = tt
above_take key (suc n) (x ∷ xs) above = (above.0, above_take key n xs above.1)

pub take_rising : (n : ℕ) (xs : List (Key × ℕ)) → Rising xs → Rising (take n xs)
take_rising zero xs rising = tt
take_rising (suc n) [] rising = tt
take_rising (suc n) (x ∷ xs) rising = (above_take x.0 n xs rising.0, take_rising n xs rising.1)
