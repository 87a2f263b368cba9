-- Lists of numbers that are dealt out.
use Rattle.std.proofs.Common.{◌≡◌, ℕ, zero, suc, ◌+◌, ◌-◌, ◌<◌, length, Bool, true, false, ◌||◌, cond, Option, None, Some, List, [], ◌∷◌, ◌++◌, refl, sym, ap, subst, ◌∙◌, arith, drop, remove, eqb, append_assoc}
use Rattle.std.specs.Prelude.{slice_get}
use Rattle.std.specs.List.{IsDistinct, AllByRecursion, list_any}
use Rattle.std.proofs.lemmas.List.{append-nil, drop-drop}
use Rattle.std.proofs.lemmas.List.Folds.{list_any-append}
use Rattle.std.proofs.lemmas.Map.Keys.{IsDistinct-head, IsDistinct-tail, IsDistinct-cons}
use Rattle.spare_numbers.specs.Spare.{every, is_on, added}
use Rattle.spare_numbers.proofs.NumberLists.{eqb_flips}

-- ---- distinct numbers

pub distinct_drop : (t : ℕ) (xs : List ℕ) → IsDistinct eqb xs → IsDistinct eqb (drop t xs)
distinct_drop zero xs distinct = distinct
distinct_drop (suc t) [] distinct = distinct
distinct_drop (suc t) (x ∷ xs) distinct = distinct_drop t xs (IsDistinct-tail eqb x xs distinct)

every_all : (P : ℕ → Type 0) (step from : ℕ) (xs : List ℕ) → AllByRecursion P xs → AllByRecursion P (every step from xs)
every_all P step from [] all = all
every_all P step zero (x ∷ xs) all = (all.0, every_all P step (step - 1) xs all.1)
every_all P step (suc from) (x ∷ xs) all = every_all P step from xs all.1

pub every_distinct : (step from : ℕ) (xs : List ℕ) → IsDistinct eqb xs → IsDistinct eqb (every step from xs)
every_distinct step from [] distinct = distinct
every_distinct step zero (x ∷ xs) distinct = IsDistinct-cons eqb x (every step (step - 1) xs) (every_all (λ y. eqb x y ≡ false) step (step - 1) xs (IsDistinct-head eqb x xs distinct)) (every_distinct step (step - 1) xs (IsDistinct-tail eqb x xs distinct))
every_distinct step (suc from) (x ∷ xs) distinct = every_distinct step from xs (IsDistinct-tail eqb x xs distinct)

apart_middle : (x y : ℕ) (xs ys : List ℕ) → AllByRecursion (λ z. eqb x z ≡ false) (xs ++ y ∷ ys) → eqb x y ≡ false
apart_middle x y [] ys all = all.0
apart_middle x y (z ∷ xs) ys all = apart_middle x y xs ys all.1

neither : (a b : Bool) → a ≡ false → b ≡ false → (a || b) ≡ false
neither true b off other = cc
neither false b off other = other

-- of distinct numbers none stands before itself
pub not_earlier : (xs ys : List ℕ) (y : ℕ) → IsDistinct eqb (xs ++ y ∷ ys) → is_on xs y ≡ false
not_earlier [] ys y distinct = refl
not_earlier (x ∷ xs) ys y distinct =
    neither (eqb y x) (list_any (eqb y) xs) (eqb_flips y x ∙ apart_middle x y xs ys (IsDistinct-head eqb x (xs ++ y ∷ ys) distinct)) (not_earlier xs ys y (IsDistinct-tail eqb x (xs ++ y ∷ ys) distinct))

-- a list without its last number
pub last_off : (xs : List ℕ) (i rid : ℕ) → i + 1 ≡ length xs → slice_get xs i ≡ Some rid → xs ≡ remove xs i ++ rid ∷ []
last_off [] i rid long at = cc
last_off (x ∷ []) zero rid long at = let same : x ≡ rid = cc in ap (λ y. y ∷ []) same
last_off (x ∷ y ∷ ys) zero rid long at = let no : ⊥ = omega arith in absurd no
last_off (x ∷ xs) (suc i) rid long at = ap (λ ys. x ∷ ys) (last_off xs i rid (omega arith) at)

-- a number that is given out to none, and stands behind all spare ones, is none of these
pub none_of_both : (given spare : List ℕ) (rid : ℕ) → is_on given rid ≡ false → IsDistinct eqb (spare ++ rid ∷ []) → is_on (given ++ spare) rid ≡ false
none_of_both given spare rid off distinct = list_any-append (eqb rid) given spare ∙ neither (is_on given rid) (is_on spare rid) off (not_earlier spare [] rid distinct)

-- ---- every so many-th of a list

pub every_from : (step from : ℕ) (xs : List ℕ) → every step from xs ≡ every step 0 (drop from xs)
every_from step zero xs = refl
every_from step (suc from) [] = refl
every_from step (suc from) (x ∷ xs) = every_from step from xs

one_later : (i : ℕ) → suc (i + 1) ≡ suc i + 1
one_later i = omega arith

pub drop_at : {A : Type 0} (xs : List A) (i : ℕ) (x : A) → slice_get xs i ≡ Some x → drop i xs ≡ x ∷ drop (i + 1) xs
drop_at [] i x at = cc
drop_at (y ∷ xs) zero x at = let same : y ≡ x = cc in ap (λ z. z ∷ xs) same
drop_at (y ∷ xs) (suc i) x at = drop_at xs i x at ∙ ap (λ n. x ∷ drop n (y ∷ xs)) (one_later i)

pub drop_past : (xs : List ℕ) (i : ℕ) → slice_get xs i ≡ None → drop i xs ≡ []
drop_past [] zero none = refl
drop_past [] (suc i) none = refl
drop_past (y ∷ xs) zero none = cc
drop_past (y ∷ xs) (suc i) none = drop_past xs i none

next_at : (i step : ℕ) → 0 < step → i + 1 + (step - 1) ≡ i + step
next_at i step some = omega arith

pub every_at : (step i x : ℕ) (xs : List ℕ) → 0 < step → slice_get xs i ≡ Some x → every step 0 (drop i xs) ≡ x ∷ every step 0 (drop (i + step) xs)
every_at step i x xs some at =
    ap (every step 0) (drop_at xs i x at)
    ∙ ap (λ ys. x ∷ ys) (every_from step (step - 1) (drop (i + 1) xs) ∙ ap (every step 0) (drop-drop (step - 1) (i + 1) xs ∙ ap (λ n. drop n xs) (next_at i step some)))

-- one more is put on the list
pub fill_more : (step first i rid : ℕ) (from spare : List ℕ) → 0 < step → IsDistinct eqb from → slice_get from i ≡ Some rid → spare ++ every step 0 (drop i from) ≡ every step first from → added spare rid ++ every step 0 (drop (i + step) from) ≡ every step first from
fill_more step first i rid from spare some distinct at shared =
    let rest = every step 0 (drop (i + step) from) in
    let next : every step 0 (drop i from) ≡ rid ∷ rest = every_at step i rid from some at in
    let all : spare ++ rid ∷ rest ≡ every step first from = ap (λ ys. spare ++ ys) (sym next) ∙ shared in
    let off : is_on spare rid ≡ false = not_earlier spare rest rid (subst (IsDistinct eqb) (sym all) (every_distinct step first from distinct)) in
    ap (λ (b : Bool). cond b spare (spare ++ rid ∷ []) ++ rest) off ∙ append_assoc spare (rid ∷ []) rest ∙ all

pub fill_done : (step first i : ℕ) (from spare : List ℕ) → slice_get from i ≡ None → spare ++ every step 0 (drop i from) ≡ every step first from → spare ≡ every step first from
fill_done step first i from spare none shared = sym (append-nil spare) ∙ ap (λ ys. spare ++ every step 0 ys) (sym (drop_past from i none)) ∙ shared

pub fill_first : (step first : ℕ) (from spare : List ℕ) → spare ≡ [] → spare ++ every step 0 (drop first from) ≡ every step first from
fill_first step first from spare none = rw none (sym (every_from step first from))

pub none_found : (found : Option ℕ) → ((x : ℕ) → found ≡ Some x → ⊥) → found ≡ None
none_found None none = refl
none_found (Some x) none = absurd (none x refl)

-- ---- every so many-th is kept, and the others are struck off

-- The front of a list was gone through: what is left of it stands in front of what was kept. So many are struck off before the next one that
-- is kept.
pub record KeepsEvery (step left : ℕ) (all rest spare : List ℕ) : Type 0 where
  pub kept : List ℕ
  pub spare_is : spare ≡ rest ++ kept
  pub whole : every step 0 all ≡ kept ++ every step left rest

not_on : (xs : List ℕ) (y : ℕ) → AllByRecursion (λ z. eqb y z ≡ false) xs → is_on xs y ≡ false
not_on [] y apart = refl
not_on (x ∷ xs) y apart = neither (eqb y x) (list_any (eqb y) xs) apart.0 (not_on xs y apart.1)

pub keep_none : (step : ℕ) (all : List ℕ) → KeepsEvery step 0 all all all
keep_none step all = record { kept = []; spare_is = sym (append-nil all); whole = refl }

pub keep_one : (step x : ℕ) (all rest spare : List ℕ) → IsDistinct eqb spare → KeepsEvery step 0 all (x ∷ rest) spare → KeepsEvery step (step - 1) all rest (added (remove spare 0) x)
keep_one step x all rest spare distinct k =
    let struck : remove spare 0 ≡ rest ++ k.kept = ap (λ ys. remove ys 0) k.spare_is in
    let off : is_on (rest ++ k.kept) x ≡ false = not_on (rest ++ k.kept) x (IsDistinct-head eqb x (rest ++ k.kept) (subst (IsDistinct eqb) k.spare_is distinct)) in
    record {
      kept = k.kept ++ x ∷ [];
      spare_is = ap (λ ys. added ys x) struck ∙ ap (λ (b : Bool). cond b (rest ++ k.kept) ((rest ++ k.kept) ++ x ∷ [])) off ∙ append_assoc rest k.kept (x ∷ []);
      whole = k.whole ∙ sym (append_assoc k.kept (x ∷ []) (every step (step - 1) rest));
    }

pub strike_one : (step left x : ℕ) (all rest spare : List ℕ) → KeepsEvery step (suc left) all (x ∷ rest) spare → KeepsEvery step left all rest (remove spare 0)
strike_one step left x all rest spare k = record { kept = k.kept; spare_is = ap (λ ys. remove ys 0) k.spare_is; whole = k.whole }

front : (xs : List ℕ) (n : ℕ) → n < length xs → (y : ℕ) × (drop n xs ≡ y ∷ drop (n + 1) xs)
front [] n within = let no : ⊥ = omega arith in absurd no
front (x ∷ xs) zero within = (x, refl)
front (x ∷ xs) (suc n) within = let f = front xs n (omega arith) in (f.0, f.1 ∙ ap (λ m. f.0 ∷ drop m (x ∷ xs)) (one_later n))

same_front : (x y : ℕ) (xs spare : List ℕ) → spare ≡ x ∷ xs → slice_get spare 0 ≡ Some y → x ≡ y
same_front x y xs spare is at = let told : Some x ≡ Some y = ap (λ ys. slice_get ys 0) (sym is) ∙ at in cc

-- what is left begins with the first number of the list
pub goes_on : (step left n x : ℕ) (all spare : List ℕ) → n < length all → slice_get spare 0 ≡ Some x → KeepsEvery step left all (drop n all) spare → KeepsEvery step left all (x ∷ drop (n + 1) all) spare
goes_on step left n x all spare within at k =
    let f = front all n within in
    let same : f.0 ≡ x = same_front f.0 x (drop (n + 1) all ++ k.kept) spare (k.spare_is ∙ ap (λ ys. ys ++ k.kept) f.1) at in
    subst (λ ys. KeepsEvery step left all ys spare) (f.1 ∙ ap (λ y. y ∷ drop (n + 1) all) same) k

pub keeps_all : (step left : ℕ) (all rest spare : List ℕ) → rest ≡ [] → KeepsEvery step left all rest spare → spare ≡ every step 0 all
keeps_all step left all rest spare none k = k.spare_is ∙ ap (λ ys. ys ++ k.kept) none ∙ sym (append-nil k.kept) ∙ ap (λ ys. k.kept ++ every step left ys) (sym none) ∙ sym k.whole
