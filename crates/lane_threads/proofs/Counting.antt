-- How many transactions of a seat are stamped up to a number.
use Rattle.std.proofs.Common.{◌≡◌, ℕ, zero, suc, ◌+◌, ◌<◌, ◌≤◌, ◌==◌, ◌&&◌, Bool, true, false, not, cond, leb, leb-true, eqb-true, List, [], ◌∷◌, ◌++◌, map, filter, length, All, IsPermutation, refl, sym, ap, ◌∙◌, arith}
use Rattle.std.specs.List.{sum_by}
use Rattle.std.proofs.lemmas.List.Elements.{All-head, All-tail, filter-append}
use Rattle.std.proofs.lemmas.List.Sorted.{sum_by-IsPermutation}
use Rattle.std.proofs.lemmas.List.Sums.{sum_by-cons, sum_by-append, length-filter, count_by-le-length}
use Rattle.stamp_base.specs.Stamp.{seat_of}
use Rattle.replay_model.specs.declared.outcome.Placed.{Placed}
use Rattle.history_replay.specs.Results.{up_to}
use Rattle.lane_threads.specs.Beside.{of_seat}

-- it is a transaction of the seat
abbrev is_of : ℕ → Placed → Bool
is_of seat placed = not placed.snap && (seat_of placed.stamp == seat)

-- 1 where it is one, and stamped up to a number
abbrev one : Bool → ℕ
one b = cond b 1 0

abbrev one_if : ℕ → ℕ → Placed → ℕ
one_if seat stamp placed = cond (is_of seat placed) (one (leb placed.stamp stamp)) 0

abbrev pub count : ℕ → ℕ → List Placed → ℕ
count seat stamp order = length (up_to stamp (of_seat seat order))

kept_one : (b : Bool) (x : Placed) (xs : List Placed) → length (cond b (x ∷ xs) xs) ≡ cond b 1 0 + length xs
kept_one true x xs = omega arith
kept_one false x xs = omega arith

count_is : (seat stamp : ℕ) (order : List Placed) → count seat stamp order ≡ sum_by (one_if seat stamp) order
count_is seat stamp [] = refl
count_is seat stamp (x ∷ order) = by (is_of seat x) ∙ ap (λ (n : ℕ). one_if seat stamp x + n) (count_is seat stamp order) ∙ sym (sum_by-cons (one_if seat stamp) x order) where
  by : (b : Bool) → length (up_to stamp (cond b (x ∷ of_seat seat order) (of_seat seat order))) ≡ cond b (cond (leb x.stamp stamp) 1 0) 0 + count seat stamp order
  by true = kept_one (leb x.stamp stamp) x (up_to stamp (of_seat seat order))
  by false = omega arith

pub count-append : (seat stamp : ℕ) (xs ys : List Placed) → count seat stamp (xs ++ ys) ≡ count seat stamp xs + count seat stamp ys
count-append seat stamp xs ys = count_is seat stamp (xs ++ ys) ∙ sum_by-append (one_if seat stamp) xs ys ∙ (λ i. sym (count_is seat stamp xs) i + sym (count_is seat stamp ys) i)

-- in whatever order
pub count-same : (seat stamp : ℕ) (xs ys : List Placed) → IsPermutation xs ys → count seat stamp ys ≡ count seat stamp xs
count-same seat stamp xs ys moved = count_is seat stamp ys ∙ sum_by-IsPermutation (one_if seat stamp) xs ys moved ∙ sym (count_is seat stamp xs)

-- ---- one more

one_at_most : (a b : Bool) → cond a (cond b 1 0) 0 ≤ 1
one_at_most true true = omega arith
one_at_most true false = omega arith
one_at_most false b = omega arith

pub count_one : (seat stamp : ℕ) (x : Placed) (xs : List Placed) → count seat stamp (x ∷ xs) ≤ 1 + count seat stamp xs
count_one seat stamp x xs =
    let here : one_if seat stamp x ≤ 1 = one_at_most (is_of seat x) (leb x.stamp stamp) in
    omega (arith, here, count_is seat stamp (x ∷ xs), count_is seat stamp xs, sum_by-cons (one_if seat stamp) x xs)

-- it is none of the seat, or stamped above
abbrev pub IsLate : ℕ → ℕ → Placed → Type 0
IsLate seat stamp placed = placed.snap ≡ false → seat_of placed.stamp ≡ seat → stamp < placed.stamp

none_late : (seat stamp : ℕ) (x : Placed) → IsLate seat stamp x → one_if seat stamp x ≡ 0
none_late seat stamp x late = by x.snap refl where
  by_stamp : x.snap ≡ false → seat_of x.stamp ≡ seat → (b : Bool) → leb x.stamp stamp ≡ b → one b ≡ 0
  by_stamp kind same true low = absurd (let above : stamp < x.stamp = late kind same in let below : x.stamp ≤ stamp = leb-true x.stamp stamp low in omega arith)
  by_stamp kind same false low = refl

  by_seat : x.snap ≡ false → (b : Bool) → (seat_of x.stamp == seat) ≡ b → cond (not false && b) (one (leb x.stamp stamp)) 0 ≡ 0
  by_seat kind true same = by_stamp kind (eqb-true (seat_of x.stamp) seat same) (leb x.stamp stamp) refl
  by_seat kind false same = refl

  by : (snap : Bool) → x.snap ≡ snap → cond (not snap && (seat_of x.stamp == seat)) (one (leb x.stamp stamp)) 0 ≡ 0
  by true kind = refl
  by false kind = by_seat kind (seat_of x.stamp == seat) refl

pub count_none : (seat stamp : ℕ) (xs : List Placed) → All (IsLate seat stamp) xs → count seat stamp xs ≡ 0
count_none seat stamp [] late = refl
count_none seat stamp (x ∷ xs) late =
    let here = none_late seat stamp x (All-head (IsLate seat stamp) x xs late) in
    let rest = count_none seat stamp xs (All-tail (IsLate seat stamp) x xs late) in
    omega (arith, here, rest, count_is seat stamp (x ∷ xs), count_is seat stamp xs, sum_by-cons (one_if seat stamp) x xs)

-- ---- no more than there are

fewer : (p : Placed → Bool) (xs : List Placed) → length (filter p xs) ≤ length xs
fewer p xs = omega (arith, length-filter p xs, count_by-le-length p xs)

pub count-few : (seat stamp : ℕ) (order : List Placed) → count seat stamp order ≤ length (of_seat seat order)
count-few seat stamp order = fewer (λ (placed : Placed). leb placed.stamp stamp) (of_seat seat order)

pub length-of_seat : (seat : ℕ) (order : List Placed) → length (of_seat seat order) ≤ length order
length-of_seat seat order = fewer (is_of seat) order

pub of_seat-append : (seat : ℕ) (xs ys : List Placed) → of_seat seat (xs ++ ys) ≡ of_seat seat xs ++ of_seat seat ys
of_seat-append seat xs ys = filter-append (is_of seat) xs ys

-- there is none of the seat where each is of another
abbrev pub IsOfOther : ℕ → Placed → Type 0
IsOfOther seat placed = placed.snap ≡ false → seat_of placed.stamp ≡ seat → ⊥

other_one : (seat : ℕ) (x : Placed) → IsOfOther seat x → is_of seat x ≡ false
other_one seat x other = by x.snap refl where
  by_seat : x.snap ≡ false → (b : Bool) → (seat_of x.stamp == seat) ≡ b → (not false && b) ≡ false
  by_seat kind true same = absurd (other kind (eqb-true (seat_of x.stamp) seat same))
  by_seat kind false same = refl

  by : (snap : Bool) → x.snap ≡ snap → (not snap && (seat_of x.stamp == seat)) ≡ false
  by true kind = refl
  by false kind = by_seat kind (seat_of x.stamp == seat) refl

pub none_of_seat : (seat : ℕ) (xs : List Placed) → All (IsOfOther seat) xs → of_seat seat xs ≡ []
none_of_seat seat [] other = refl
none_of_seat seat (x ∷ xs) other =
    ap (λ (b : Bool). cond b (x ∷ of_seat seat xs) (of_seat seat xs)) (other_one seat x (All-head (IsOfOther seat) x xs other))
    ∙ none_of_seat seat xs (All-tail (IsOfOther seat) x xs other)
