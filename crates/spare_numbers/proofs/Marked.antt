-- Marks that tell which numbers from one on are on a list.
use Rattle.std.proofs.Common.{◌≡◌, ℕ, ◌<◌, ◌≤◌, ◌+◌, ◌-◌, Bool, true, false, ◌||◌, List, [], ◌∷◌, ◌++◌, refl, sym, ap, ◌∙◌, arith, length, set, get_or, replicate, length-set, get_or-set_same, get_or-set_other, eqb, inl, inr}
use Rattle.std.specs.List.{IsDistinct, AllByRecursion}
use Rattle.std.specs.List.Sorted.{IsPermutation}
use Rattle.std.proofs.lemmas.List.{length-replicate, get_or-replicate, get_or_default}
use Rattle.std.proofs.lemmas.List.Sorted.{list_any-IsPermutation}
use Rattle.std.proofs.lemmas.Map.Keys.{IsDistinct-head, IsDistinct-IsPermutation}
use Rattle.std.proofs.lemmas.Bool.Decides.{eqb_tells}
use Rattle.spare_numbers.specs.Spare.{AreMarked, is_on}
use Rattle.spare_numbers.proofs.NumberLists.{eqb_flips, or_off, or_true, on_either}

-- none is marked
pub marked_none : (fixed records : ℕ) (items : List ℕ) (marks : List Bool) → items ≡ [] → marks ≡ replicate (records - fixed) false → AreMarked fixed records items marks
marked_none fixed records items marks none are = record {
  long = ap length are ∙ length-replicate (records - fixed) false;
  told = λ k within. rw (none, are) (get_or-replicate (records - fixed) k false false within);
}

-- the same numbers in another order
pub marked_same : (fixed records : ℕ) (xs ys : List ℕ) (marks : List Bool) → AreMarked fixed records xs marks → IsPermutation xs ys → AreMarked fixed records ys marks
marked_same fixed records xs ys marks are same = record {
  long = are.long;
  told = λ k within. are.told k within ∙ list_any-IsPermutation (eqb (fixed + k)) xs ys same;
}

-- one more is marked
pub marked_added : (fixed records rid : ℕ) (xs ys : List ℕ) (marks : List Bool) → AreMarked fixed records xs marks → fixed ≤ rid → rid < records → ys ≡ xs ++ rid ∷ [] → AreMarked fixed records ys (set marks (rid - fixed) true)
marked_added fixed records rid xs ys marks are from within more = record {
  long = length-set marks (rid - fixed) true ∙ are.long;
  told = λ k below. by_number k below ∙ sym (on_either xs rid (fixed + k)) ∙ ap (λ zs. is_on zs (fixed + k)) (sym more);
}
  where
    by_number : (k : ℕ) → k < records - fixed → get_or (set marks (rid - fixed) true) k false ≡ (is_on xs (fixed + k) || eqb (fixed + k) rid)
    by_number k below = elim (eqb_tells (fixed + k) rid) as (λ _. get_or (set marks (rid - fixed) true) k false ≡ (is_on xs (fixed + k) || eqb (fixed + k) rid)) [
      | inl t ↦ (let at : k ≡ rid - fixed = let e = t.1 in omega arith in
          ap (λ n. get_or (set marks (rid - fixed) true) n false) at
          ∙ get_or-set_same marks (rid - fixed) true false (let l = are.long in omega arith)
          ∙ sym (or_true (is_on xs (fixed + k)))
          ∙ ap (λ (b : Bool). is_on xs (fixed + k) || b) (sym t.0))
      | inr t ↦ (get_or-set_other marks (rid - fixed) k true false (λ at. t.1 (let e = at in omega arith))
          ∙ are.told k below
          ∙ sym (or_off (is_on xs (fixed + k)))
          ∙ ap (λ (b : Bool). is_on xs (fixed + k) || b) (sym t.0))
    ]

none_of : (rid : ℕ) (ys : List ℕ) → AllByRecursion (λ y. eqb rid y ≡ false) ys → is_on ys rid ≡ false
none_of rid [] all = refl
none_of rid (y ∷ ys) all = ap (λ (b : Bool). b || is_on ys rid) all.0 ∙ none_of rid ys all.1

-- one is marked no more
pub marked_struck : (fixed records rid : ℕ) (xs ys : List ℕ) (marks : List Bool) → AreMarked fixed records xs marks → IsDistinct eqb xs → fixed ≤ rid → rid < records → IsPermutation xs (rid ∷ ys) → AreMarked fixed records ys (set marks (rid - fixed) false)
marked_struck fixed records rid xs ys marks are distinct from within same = record {
  long = length-set marks (rid - fixed) false ∙ are.long;
  told = by_number;
}
  where
    off : is_on ys rid ≡ false
    off = none_of rid ys (IsDistinct-head eqb rid ys (IsDistinct-IsPermutation eqb eqb_flips xs (rid ∷ ys) same distinct))

    by_number : (k : ℕ) → k < records - fixed → get_or (set marks (rid - fixed) false) k false ≡ is_on ys (fixed + k)
    by_number k below = elim (eqb_tells (fixed + k) rid) as (λ _. get_or (set marks (rid - fixed) false) k false ≡ is_on ys (fixed + k)) [
      | inl t ↦ (let at : k ≡ rid - fixed = let e = t.1 in omega arith in
          ap (λ n. get_or (set marks (rid - fixed) false) n false) at
          ∙ get_or-set_same marks (rid - fixed) false false (let l = are.long in omega arith)
          ∙ sym off
          ∙ ap (λ n. is_on ys n) (sym t.1))
      | inr t ↦ (get_or-set_other marks (rid - fixed) k false false (λ at. t.1 (let e = at in omega arith))
          ∙ are.told k below
          ∙ list_any-IsPermutation (eqb (fixed + k)) xs (rid ∷ ys) same
          ∙ ap (λ (b : Bool). b || is_on ys (fixed + k)) t.0)
    ]

-- the mark of such a number is there
pub mark_within : (fixed records rid : ℕ) (items : List ℕ) (marks : List Bool) → AreMarked fixed records items marks → fixed ≤ rid → rid < records → rid - fixed < length marks
mark_within fixed records rid items marks are from within = let l = are.long in omega arith

-- what a mark tells of its number
pub mark_tells : (fixed records rid : ℕ) (items : List ℕ) (marks : List Bool) (mark : Bool) → AreMarked fixed records items marks → fixed ≤ rid → rid < records → mark ≡ get_or marks (rid - fixed) mark → mark ≡ is_on items rid
mark_tells fixed records rid items marks mark are from within is =
    let at : fixed + (rid - fixed) ≡ rid = omega arith in
    is
    ∙ get_or_default marks (rid - fixed) mark false (mark_within fixed records rid items marks are from within)
    ∙ are.told (rid - fixed) (omega arith)
    ∙ ap (λ n. is_on items n) at
