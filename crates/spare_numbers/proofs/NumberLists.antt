-- Lists of numbers of which the first ones are given out.
use Rattle.std.proofs.Common.{◌≡◌, ℕ, ◌<◌, ◌≤◌, ◌+◌, ◌-◌, zero, suc, true, false, Bool, cond, List, [], ◌∷◌, ◌++◌, refl, sym, ap, ◌∙◌, subst, inl, inr, ◌⊎◌, arith, ◌||◌, length, take, drop, get_or, remove, insert, map, eqb, length-take-le, length-drop, length-append, append_assoc, eq-eqb}
use Rattle.std.specs.List.{list_any, IsDistinct, AllByRecursion, range_with_len}
use Rattle.std.specs.List.Sorted.{IsPermutation}
use Rattle.std.proofs.Math.Nat.{sub_self, add-sub_cancel_left}
use Rattle.std.proofs.Math.Seq.{take-append_seam, drop-append_seam}
use Rattle.std.proofs.lemmas.List.{length-map, take-append-drop, get_or-drop, get_or-take}
use Rattle.std.proofs.lemmas.List.Folds.{list_any-append}
use Rattle.std.proofs.lemmas.List.Edits.{remove-append_right, insert-append_right, length-remove, length-insert}
use Rattle.std.proofs.lemmas.List.Sorted.{IsPermutation-remove, IsPermutation-append_right, list_any-IsPermutation}
use Rattle.std.proofs.lemmas.Map.Keys.{IsDistinct-IsPermutation, IsDistinct-head, IsDistinct-tail, IsDistinct-cons, IsDistinct-push, apart_from_distinct}
use Rattle.std.proofs.lemmas.Map.Steps.{length-le_from_distinct_below}
use Rattle.std.proofs.lemmas.Grind.{get_or_default_zero}
use Rattle.std.proofs.lemmas.Cmp.{nat_eq_equiv}
use Rattle.std.proofs.lemmas.Bool.Decides.{eqb_tells}
use Rattle.spare_numbers.specs.Spare.{AreNumbers, NumbersView, is_on, added, taken_in}

flipped : (a b : ℕ) → (eqb a b ≡ false) × (a ≡ b → ⊥) → eqb a b ≡ eqb b a
flipped a b t = elim (eqb_tells b a) as (λ _. eqb a b ≡ eqb b a) [ inl s ↦ absurd (t.1 (sym s.1)) | inr s ↦ t.0 ∙ sym s.0 ]

pub eqb_flips : (a b : ℕ) → eqb a b ≡ eqb b a
eqb_flips a b = elim (eqb_tells a b) as (λ _. eqb a b ≡ eqb b a) [ inl t ↦ t.0 ∙ sym (eq-eqb b a (sym t.1)) | inr t ↦ flipped a b t ]

-- a number behind those that are given out, by its place there
pub at_brought : (xs : List ℕ) (t i rid : ℕ) → t + i < length xs → rid ≡ get_or xs (t + i) rid → rid ≡ get_or (drop t xs) i 0
at_brought xs t i rid within is =
    let long = length-drop t xs in
    let inside : i < length (drop t xs) = omega arith in
    is ∙ sym (get_or-drop t xs i rid) ∙ get_or_default_zero (drop t xs) i rid inside

-- the list without the number at such a place
pub struck : (xs : List ℕ) (t i : ℕ) → t ≤ length xs → remove xs (t + i) ≡ take t xs ++ remove (drop t xs) i
struck xs t i marked =
    let split = take-append-drop t xs in
    ap (λ ys. remove ys (t + i)) (sym split)
    ∙ remove-append_right (take t xs) (drop t xs) t (t + i) (length-take-le t xs marked) (omega arith)
    ∙ ap (λ n. take t xs ++ remove (drop t xs) n) (add-sub_cancel_left t i)

-- a list in two parts, by the length of the first
pub first_part : (gs rest : List ℕ) (t : ℕ) → length gs ≡ t → take t (gs ++ rest) ≡ gs
first_part gs rest t long = rw (← long) (take-append_seam gs rest)

pub second_part : (gs rest : List ℕ) (t : ℕ) → length gs ≡ t → drop t (gs ++ rest) ≡ rest
second_part gs rest t long = rw (← long) (drop-append_seam gs rest)

-- the list after such a number was moved behind those that are given out
pub moved : (xs : List ℕ) (t i rid : ℕ) → t ≤ length xs → insert (remove xs (t + i)) t rid ≡ (take t xs ++ rid ∷ []) ++ remove (drop t xs) i
moved xs t i rid marked =
    ap (λ ys. insert ys t rid) (struck xs t i marked)
    ∙ insert-append_right (take t xs) (remove (drop t xs) i) t t rid (length-take-le t xs marked) (omega arith)
    ∙ ap (λ n. take t xs ++ insert (remove (drop t xs) i) n rid) (sub_self t)
    ∙ sym (append_assoc (take t xs) (rid ∷ []) (remove (drop t xs) i))

brought : (xs ys : List ℕ) (t i rid : ℕ) → t ≤ length xs → ys ≡ insert (remove xs (t + i)) t rid → ys ≡ take t xs ++ rid ∷ remove (drop t xs) i
brought xs ys t i rid marked is = is ∙ moved xs t i rid marked ∙ append_assoc (take t xs) (rid ∷ []) (remove (drop t xs) i)

pub brought_given : (xs ys : List ℕ) (t i rid : ℕ) → t ≤ length xs → ys ≡ insert (remove xs (t + i)) t rid → take t ys ≡ take t xs
brought_given xs ys t i rid marked is = ap (λ zs. take t zs) (brought xs ys t i rid marked is) ∙ first_part (take t xs) (rid ∷ remove (drop t xs) i) t (length-take-le t xs marked)

pub brought_spare : (xs ys : List ℕ) (t i rid : ℕ) → t ≤ length xs → ys ≡ insert (remove xs (t + i)) t rid → drop t ys ≡ rid ∷ remove (drop t xs) i
brought_spare xs ys t i rid marked is = ap (λ zs. drop t zs) (brought xs ys t i rid marked is) ∙ second_part (take t xs) (rid ∷ remove (drop t xs) i) t (length-take-le t xs marked)

pub struck_given : (xs ys : List ℕ) (t i : ℕ) → t ≤ length xs → ys ≡ remove xs (t + i) → take t ys ≡ take t xs
struck_given xs ys t i marked is = ap (λ zs. take t zs) (is ∙ struck xs t i marked) ∙ first_part (take t xs) (remove (drop t xs) i) t (length-take-le t xs marked)

pub struck_spare : (xs ys : List ℕ) (t i : ℕ) → t ≤ length xs → ys ≡ remove xs (t + i) → drop t ys ≡ remove (drop t xs) i
struck_spare xs ys t i marked is = ap (λ zs. drop t zs) (is ∙ struck xs t i marked) ∙ second_part (take t xs) (remove (drop t xs) i) t (length-take-le t xs marked)

pub or_off : (b : Bool) → (b || false) ≡ b
or_off true = refl
or_off false = refl

pub or_true : (b : Bool) → (b || true) ≡ true
or_true true = refl
or_true false = refl

or_assoc : (a b c : Bool) → (a || (b || c)) ≡ ((a || b) || c)
or_assoc true b c = refl
or_assoc false b c = refl

pub on_either : (xs : List ℕ) (y r : ℕ) → is_on (xs ++ y ∷ []) r ≡ (is_on xs r || eqb r y)
on_either [] y r = or_off (eqb r y)
on_either (x ∷ xs) y r = ap (λ (b : Bool). eqb r x || b) (on_either xs y r) ∙ or_assoc (eqb r x) (is_on xs r) (eqb r y)

any_more : (b any : Bool) → any ≡ true → (b || any) ≡ true
any_more true any on = refl
any_more false any on = on

-- ---- what is kept of them

-- the same numbers in another order
pub numbers_moved : (fixed records t t' : ℕ) (xs ys : List ℕ) (room room' : ℕ) → AreNumbers fixed records t xs room → IsPermutation xs ys → t' ≤ length ys → room ≤ room' → AreNumbers fixed records t' ys room'
numbers_moved fixed records t t' xs ys room room' are same marked more = record {
  marked = marked;
  distinct = IsDistinct-IsPermutation eqb eqb_flips xs ys same are.distinct;
  in_range = λ rid on. are.in_range rid (list_any-IsPermutation (eqb rid) xs ys same ∙ on);
  fits = let h = are.fits in omega arith;
}

-- one of them struck off
pub numbers_struck : (fixed records t i rid : ℕ) (xs : List ℕ) (room : ℕ) → AreNumbers fixed records t xs room → t + i < length xs → rid ≡ get_or xs (t + i) rid → AreNumbers fixed records t (remove xs (t + i)) room
numbers_struck fixed records t i rid xs room are within is =
    let same = IsPermutation-remove xs (t + i) rid within is in
    let long = length-remove xs (t + i) within in
    record {
      marked = omega arith;
      distinct = IsDistinct-tail eqb rid (remove xs (t + i)) (IsDistinct-IsPermutation eqb eqb_flips xs (rid ∷ remove xs (t + i)) same are.distinct);
      in_range = λ other on. are.in_range other (list_any-IsPermutation (eqb other) xs (rid ∷ remove xs (t + i)) same ∙ any_more (eqb other rid) (list_any (eqb other) (remove xs (t + i))) on);
      fits = are.fits;
    }

-- a number is moved to the front of those that are not given out
pub same_brought : (t i rid : ℕ) (xs ys : List ℕ) → t ≤ length xs → t + i < length xs → rid ≡ get_or xs (t + i) rid → ys ≡ insert (remove xs (t + i)) t rid → IsPermutation xs ys
same_brought t i rid xs ys marked within is made =
    let long = length-drop t xs in
    let inside : i < length (drop t xs) = omega arith in
    let here : rid ≡ get_or (drop t xs) i rid = is ∙ sym (get_or-drop t xs i rid) in
    let behind = IsPermutation-append_right (take t xs) (drop t xs) (rid ∷ remove (drop t xs) i) (IsPermutation-remove (drop t xs) i rid inside here) in
    let all : IsPermutation xs ((take t xs ++ rid ∷ []) ++ remove (drop t xs) i) = rw (← append_assoc (take t xs) (rid ∷ []) (remove (drop t xs) i)) at (subst (λ zs. IsPermutation zs (take t xs ++ (rid ∷ remove (drop t xs) i))) (take-append-drop t xs) behind) in
    subst (λ zs. IsPermutation xs zs) (sym (made ∙ moved xs t i rid marked)) all

pub numbers_brought : (fixed records t i rid : ℕ) (xs ys : List ℕ) (room room' : ℕ) → AreNumbers fixed records t xs room → t + i < length xs → rid ≡ get_or xs (t + i) rid → ys ≡ insert (remove xs (t + i)) t rid → room ≤ room' → AreNumbers fixed records t ys room'
numbers_brought fixed records t i rid xs ys room room' are within is made more =
    let left = length-insert (remove xs (t + i)) t rid (let h = length-remove xs (t + i) within in let k = are.marked in omega arith) in
    let less = length-remove xs (t + i) within in
    numbers_moved fixed records t t xs ys room room' are (same_brought t i rid xs ys are.marked within is made) (rw made (let k = are.marked in omega arith)) more

-- ---- all numbers from one on

pub range-push : (a n : ℕ) → range_with_len a (suc n) ≡ range_with_len a n ++ (a + n) ∷ []
range-push a zero = let e : a ≡ a + 0 = omega arith in ap (λ x. x ∷ []) e
range-push a (suc n) = let e : a + 1 + n ≡ a + suc n = omega arith in ap (λ xs. a ∷ xs) (range-push (a + 1) n ∙ ap (λ x. range_with_len (a + 1) n ++ x ∷ []) e)

eqb_off : (a b : ℕ) → a < b → eqb a b ≡ false
eqb_off a b less = elim (eqb_tells a b) as (λ _. eqb a b ≡ false) [ inl t ↦ absurd (let e = t.1 in omega arith) | inr t ↦ t.0 ]

range_apart : (a b n : ℕ) → a < b → AllByRecursion (λ y. eqb a y ≡ false) (range_with_len b n)
range_apart a b zero less = tt
range_apart a b (suc n) less = (eqb_off a b less, range_apart a (b + 1) n (omega arith))

range_distinct : (a n : ℕ) → IsDistinct eqb (range_with_len a n)
unfolding IsDistinct
range_distinct a zero = tt
range_distinct a (suc n) = IsDistinct-cons eqb a (range_with_len (a + 1) n) (range_apart a (a + 1) n (omega arith)) (range_distinct (a + 1) n)

in_step : (a n rid : ℕ) (any : Bool) → (any ≡ true → (a + 1 ≤ rid) × (rid < a + 1 + n)) → (eqb rid a || any) ≡ true → (a ≤ rid) × (rid < a + suc n)
in_step a n rid any more on =
    elim (eqb_tells rid a) as (λ _. (a ≤ rid) × (rid < a + suc n)) [
      | inl t ↦ (let e = t.1 in omega arith, let e = t.1 in omega arith)
      | inr t ↦ let rest = more (subst (λ (b : Bool). (b || any) ≡ true) t.0 on) in (let r = rest.0 in omega arith, let r = rest.1 in omega arith)
    ]

range_in : (a n rid : ℕ) → is_on (range_with_len a n) rid ≡ true → (a ≤ rid) × (rid < a + n)
range_in a zero rid on = cc
range_in a (suc n) rid on = in_step a n rid (list_any (eqb rid) (range_with_len (a + 1) n)) (range_in (a + 1) n rid) on

any_at : (xs : List ℕ) (k rid : ℕ) → k < length xs → rid ≡ get_or xs k rid → is_on xs rid ≡ true
any_at [] k rid within is = absurd (omega arith)
any_at (x ∷ xs) zero rid within is = ap (λ (b : Bool). b || list_any (eqb rid) xs) (eq-eqb rid x is)
any_at (x ∷ xs) (suc k) rid within is = any_more (eqb rid x) (list_any (eqb rid) xs) (any_at xs k rid (omega arith) is)

-- a number that is on the list is in its range
pub spare_in_range : (fixed records t i rid : ℕ) (xs : List ℕ) (room : ℕ) → AreNumbers fixed records t xs room → t + i < length xs → rid ≡ get_or xs (t + i) rid → (fixed ≤ rid) × (rid < records)
spare_in_range fixed records t i rid xs room are within is = are.in_range rid (any_at xs (t + i) rid within is)

-- the list of all numbers, with one more at its end
pub range_pushed : (fixed rid : ℕ) (xs : List ℕ) → fixed ≤ rid → xs ≡ range_with_len fixed (rid - fixed) → xs ++ rid ∷ [] ≡ range_with_len fixed (rid + 1 - fixed)
range_pushed fixed rid xs within are =
    let n : rid + 1 - fixed ≡ suc (rid - fixed) = omega arith in
    let r : fixed + (rid - fixed) ≡ rid = omega arith in
    ap (λ ys. ys ++ rid ∷ []) are ∙ sym (ap (λ k. range_with_len fixed k) n ∙ range-push fixed (rid - fixed) ∙ ap (λ x. range_with_len fixed (rid - fixed) ++ x ∷ []) r)

off_past : (fixed rid : ℕ) → fixed ≤ rid → is_on (range_with_len fixed (rid - fixed)) rid ≡ false
off_past fixed rid within = by_test (is_on (range_with_len fixed (rid - fixed)) rid) refl
  where
    by_test : (b : Bool) → is_on (range_with_len fixed (rid - fixed)) rid ≡ b → b ≡ false
    by_test false is = refl
    by_test true is = absurd (let h = (range_in fixed (rid - fixed) rid is).1 in omega arith)

pub range_added : (fixed rid : ℕ) → fixed ≤ rid → added (range_with_len fixed (rid - fixed)) rid ≡ range_with_len fixed (rid + 1 - fixed)
range_added fixed rid within = rw (off_past fixed rid within) (range_pushed fixed rid (range_with_len fixed (rid - fixed)) within refl)

-- a place behind those that are given out lies in the list
pub inside_all : (xs : List ℕ) (t i : ℕ) → t ≤ length xs → i < length (drop t xs) → t + i < length xs
inside_all xs t i marked within = let long = length-drop t xs in omega arith

abbrev pub viewed : (fixed records : ℕ) (spare given : List ℕ) → NumbersView
viewed fixed records spare given = record { fixed = fixed; records = records; spare = spare; given = given }

pub numbers_view : (fixed records : ℕ) (spare spare' given given' : List ℕ) → spare ≡ spare' → given ≡ given' → viewed fixed records spare given ≡ viewed fixed records spare' given'
numbers_view fixed records spare spare' given given' a b = rw (a, b) refl

-- ---- a number is added at the end

apart_bools : true ≡ false → ⊥
apart_bools same = let h : Unit {0} ≡ ⊥ = ap (λ (b : Bool). elim b as (λ _. Type 0) [ true ↦ Unit {0} | false ↦ ⊥ ]) same in subst (λ (A : Type 0). A) h tt

off_or : (b : Bool) → b ≡ false → (b || false) ≡ true → ⊥
off_or true off on = let h : true ≡ false = off in absurd (apart_bools h)
off_or false off on = absurd (apart_bools (sym on))

first_or : (b any more : Bool) (P : Type 0) → (more ≡ true → (any ≡ true) ⊎ P) → (b || more) ≡ true → ((b || any) ≡ true) ⊎ P
first_or true any more P step on = inl refl
first_or false any more P step on = step on

any_last : (xs : List ℕ) (y rid : ℕ) → list_any (eqb rid) (xs ++ y ∷ []) ≡ true → (list_any (eqb rid) xs ≡ true) ⊎ (rid ≡ y)
any_last [] y rid on = elim (eqb_tells rid y) as (λ _. (list_any (eqb rid) [] ≡ true) ⊎ (rid ≡ y)) [ inl t ↦ inr t.1 | inr t ↦ let h : (eqb rid y || false) ≡ true = on in let k = t.0 in absurd (off_or (eqb rid y) k h) ]
any_last (x ∷ xs) y rid on = first_or (eqb rid x) (list_any (eqb rid) xs) (list_any (eqb rid) (xs ++ y ∷ [])) (rid ≡ y) (any_last xs y rid) on

pub numbers_added : (fixed records t rid : ℕ) (xs : List ℕ) (room room' : ℕ) → AreNumbers fixed records t xs room → is_on xs rid ≡ false → fixed ≤ rid → rid < records → room ≤ room' → AreNumbers fixed records t (xs ++ rid ∷ []) room'
numbers_added fixed records t rid xs room room' are off from within more = record {
  marked = let h = are.marked in let k = length-append xs (rid ∷ []) in omega arith;
  distinct = IsDistinct-push nat_eq_equiv xs rid are.distinct off;
  in_range = λ other on. elim (any_last xs rid other on) as (λ _. (fixed ≤ other) × (other < records)) [ inl h ↦ are.in_range other h | inr e ↦ (let e' = e in omega arith, let e' = e in omega arith) ];
  fits = let h = are.fits in omega arith;
}

-- ---- how many there are

-- of two numbers from one on, each with as much less
apart_lower : (fixed x y : ℕ) → fixed ≤ x → fixed ≤ y → eqb x y ≡ false → eqb (x - fixed) (y - fixed) ≡ false
apart_lower fixed x y from from' apart = elim (eqb_tells (x - fixed) (y - fixed)) as (λ _. eqb (x - fixed) (y - fixed) ≡ false) [
  | inl t ↦ (let same : x ≡ y = let e = t.1 in omega arith in absurd (apart_bools (sym (eq-eqb x y same) ∙ apart)))
  | inr t ↦ t.0
]

abbrev lowered : (fixed : ℕ) → List ℕ → List ℕ
lowered fixed xs = map (λ x. x - fixed) xs

all_apart_lower : (fixed x : ℕ) (xs : List ℕ) → fixed ≤ x → ((y : ℕ) → is_on xs y ≡ true → fixed ≤ y) → AllByRecursion (λ y. eqb x y ≡ false) xs → AllByRecursion (λ y. eqb (x - fixed) y ≡ false) (lowered fixed xs)
all_apart_lower fixed x [] from all apart = tt
all_apart_lower fixed x (y ∷ ys) from all apart = (
  apart_lower fixed x y from (all y (ap (λ (b : Bool). b || is_on ys y) (eq-eqb y y refl))) apart.0,
  all_apart_lower fixed x ys from (λ z on. all z (any_more (eqb z y) (is_on ys z) on)) apart.1,
)

lowered_distinct : (fixed : ℕ) (xs : List ℕ) → ((y : ℕ) → is_on xs y ≡ true → fixed ≤ y) → IsDistinct eqb xs → IsDistinct eqb (lowered fixed xs)
lowered_distinct fixed [] all distinct = range_distinct 0 0
lowered_distinct fixed (x ∷ xs) all distinct =
    let more : (y : ℕ) → is_on xs y ≡ true → fixed ≤ y = λ y on. all y (any_more (eqb y x) (is_on xs y) on) in
    let from : fixed ≤ x = all x (ap (λ (b : Bool). b || is_on xs x) (eq-eqb x x refl)) in
    IsDistinct-cons eqb (x - fixed) (lowered fixed xs) (all_apart_lower fixed x xs from more (IsDistinct-head eqb x xs distinct)) (lowered_distinct fixed xs more (IsDistinct-tail eqb x xs distinct))

lowered_step : (fixed records q y : ℕ) (any : Bool) → fixed ≤ y → y < records → (any ≡ true → q < records - fixed) → (eqb q (y - fixed) || any) ≡ true → q < records - fixed
lowered_step fixed records q y any from within more on = elim (eqb_tells q (y - fixed)) as (λ _. q < records - fixed) [
  | inl t ↦ (let e = t.1 in omega arith)
  | inr t ↦ more (subst (λ (b : Bool). (b || any) ≡ true) t.0 on)
]

lowered_below : (fixed records : ℕ) (xs : List ℕ) → ((y : ℕ) → is_on xs y ≡ true → (fixed ≤ y) × (y < records)) → (q : ℕ) → is_on (lowered fixed xs) q ≡ true → q < records - fixed
lowered_below fixed records [] all q on = cc
lowered_below fixed records (x ∷ xs) all q on =
    let here = all x (ap (λ (b : Bool). b || is_on xs x) (eq-eqb x x refl)) in
    lowered_step fixed records q x (is_on (lowered fixed xs) q) here.0 here.1 (lowered_below fixed records xs (λ y more. all y (any_more (eqb y x) (is_on xs y) more)) q) on

-- there are no more of them than may be given out
pub few_numbers : (fixed records t : ℕ) (xs : List ℕ) (room : ℕ) → AreNumbers fixed records t xs room → length xs ≤ records - fixed
few_numbers fixed records t xs room are =
    let few = length-le_from_distinct_below (lowered fixed xs) (records - fixed) (lowered_distinct fixed xs (λ y on. (are.in_range y on).0) are.distinct) (lowered_below fixed records xs are.in_range) in
    let long = length-map xs (λ x. x - fixed) in
    omega arith

-- no numbers
pub numbers_empty : (fixed records : ℕ) (xs : List ℕ) (room : ℕ) → xs ≡ [] → records - fixed ≤ room → AreNumbers fixed records 0 xs room
numbers_empty fixed records xs room none fits = record {
  marked = omega arith;
  distinct = subst (IsDistinct eqb) (sym none) (range_distinct 0 0);
  in_range = λ rid on. let h : is_on [] rid ≡ true = subst (λ (ys : List ℕ). is_on ys rid ≡ true) none on in absurd (apart_bools (sym h));
  fits = fits;
}

-- there is room for it
pub numbers_room : (fixed records t rid : ℕ) (xs : List ℕ) (room : ℕ) → AreNumbers fixed records t xs room → is_on xs rid ≡ false → fixed ≤ rid → rid < records → length xs < room
numbers_room fixed records t rid xs room are off from within =
    let few = few_numbers fixed records t (xs ++ rid ∷ []) room (numbers_added fixed records t rid xs room room are off from within (omega arith)) in
    let long = length-append xs (rid ∷ []) in
    let fits = are.fits in
    omega arith

-- ---- a number is taken in, given out or not

pub on_parts : (xs : List ℕ) (t rid : ℕ) → is_on xs rid ≡ (is_on (take t xs) rid || is_on (drop t xs) rid)
on_parts xs t rid = ap (λ ys. is_on ys rid) (sym (take-append-drop t xs)) ∙ list_any-append (eqb rid) (take t xs) (drop t xs)

kept_where : (given spare : Bool) (xs more : List ℕ) → (given || spare) ≡ true → cond given xs (cond spare xs more) ≡ xs
kept_where true spare xs more on = refl
kept_where false true xs more on = refl
kept_where false false xs more on = absurd (apart_bools (sym on))

added_where : (given spare : Bool) (xs more : List ℕ) → (given || spare) ≡ false → cond given xs (cond spare xs more) ≡ more
added_where true spare xs more off = absurd (apart_bools off)
added_where false true xs more off = absurd (apart_bools off)
added_where false false xs more off = refl

pub added_view : (fixed records t rid : ℕ) (xs ys : List ℕ) → t ≤ length xs → is_on xs rid ≡ false → ys ≡ xs ++ rid ∷ [] → viewed fixed records (drop t ys) (take t ys) ≡ viewed fixed records (taken_in (take t xs) (drop t xs) rid) (take t xs)
added_view fixed records t rid xs ys marked off more =
    let long = length-take-le t xs marked in
    let whole : ys ≡ take t xs ++ (drop t xs ++ rid ∷ []) = more ∙ ap (λ zs. zs ++ rid ∷ []) (sym (take-append-drop t xs)) ∙ append_assoc (take t xs) (drop t xs) (rid ∷ []) in
    numbers_view fixed records _ _ _ _
    (ap (drop t) whole ∙ second_part (take t xs) (drop t xs ++ rid ∷ []) t long ∙ sym (added_where (is_on (take t xs) rid) (is_on (drop t xs) rid) (drop t xs) (drop t xs ++ rid ∷ []) (sym (on_parts xs t rid) ∙ off)))
    (ap (take t) whole ∙ first_part (take t xs) (drop t xs ++ rid ∷ []) t long)

-- a number that is on the list is not added
pub listed_view : (fixed records t rid : ℕ) (xs : List ℕ) → is_on xs rid ≡ true → viewed fixed records (drop t xs) (take t xs) ≡ viewed fixed records (taken_in (take t xs) (drop t xs) rid) (take t xs)
listed_view fixed records t rid xs on =
    ap (λ ys. viewed fixed records ys (take t xs)) (sym (kept_where (is_on (take t xs) rid) (is_on (drop t xs) rid) (drop t xs) (drop t xs ++ rid ∷ []) (sym (on_parts xs t rid) ∙ on)))

-- a number behind those that are given out is none of them
none_equal : (gs : List ℕ) (rid : ℕ) → ((k : ℕ) → k < length gs → eqb (get_or gs k rid) rid ≡ false) → is_on gs rid ≡ false
none_equal [] rid apart = refl
none_equal (x ∷ gs) rid apart = rw (eqb_flips rid x, apart zero (omega arith)) (none_equal gs rid (λ k within. apart (suc k) (omega arith)))

pub not_given : (fixed records t i rid : ℕ) (xs : List ℕ) (room : ℕ) → AreNumbers fixed records t xs room → t + i < length xs → rid ≡ get_or xs (t + i) rid → is_on (take t xs) rid ≡ false
not_given fixed records t i rid xs room are within is =
    let long = length-take-le t xs are.marked in
    none_equal (take t xs) rid (λ k below.
    let low : k < t = omega arith in
    let apart = apart_from_distinct eqb xs k (t + i) rid are.distinct (omega arith) within in
    ap (λ x. eqb x rid) (get_or-take t xs k rid low) ∙ ap (λ y. eqb (get_or xs k rid) y) is ∙ apart)
