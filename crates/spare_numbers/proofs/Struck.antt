-- Numbers before a place are struck off a list, one after another.
use Rattle.std.proofs.Common.{◌≡◌, ℕ, ◌+◌, ◌<◌, Bool, true, false, cond, Option, None, Some, List, [], ◌∷◌, ◌++◌, refl, sym, ap, ◌∙◌, arith, length, take, drop, get_or, remove, append_assoc, append-nil, length-append, Bor}
use Rattle.std.specs.Prelude.{is_some, option_copied, slice_get}
use Rattle.std.proofs.lemmas.List.{drop_more}
use Rattle.std.proofs.lemmas.List.Elements.{filter_more}
use Rattle.record_store.specs.Meaning.{value_at}
use Rattle.spare_numbers.specs.Spare.{written_of, struck_before}

-- a number between two lists
at_seam : (xs : List ℕ) (y : ℕ) (ys : List ℕ) → slice_get (xs ++ y ∷ ys) (length xs) ≡ Some y
at_seam [] y ys = refl
at_seam (x ∷ xs) y ys = at_seam xs y ys

removed_seam : (xs : List ℕ) (y : ℕ) (ys : List ℕ) → remove (xs ++ y ∷ ys) (length xs) ≡ xs ++ ys
removed_seam [] y ys = refl
removed_seam (x ∷ xs) y ys = ap (λ zs. x ∷ zs) (removed_seam xs y ys)

-- The numbers before place n of a list were gone through: those of them that are written stay, and are so many.
pub record IsStruck (writes : List (ℕ × Option (List ℕ))) (all : List ℕ) (n stay : ℕ) (spare : List ℕ) : Type 0 where
  pub count : stay ≡ length (written_of writes (take n all))
  pub spare_is : spare ≡ struck_before writes n all

pub none_struck : (writes : List (ℕ × Option (List ℕ))) (all : List ℕ) → IsStruck writes all 0 0 all
none_struck writes all = record { count = refl; spare_is = refl }

module _ (writes : List (ℕ × Option (List ℕ))) (all : List ℕ) (n stay : ℕ) (spare : List ℕ) (within : n < length all) (struck : IsStruck writes all n stay spare) where
  abbrev next : ℕ
  next = get_or all n 0

  abbrev kept : List ℕ
  kept = written_of writes (take n all)

  in_parts : spare ≡ kept ++ next ∷ drop (n + 1) all
  in_parts = struck.spare_is ∙ ap (λ ys. kept ++ ys) (drop_more all n 0 within)

  found : slice_get spare stay ≡ Some next
  found = (λ i. slice_get (in_parts i) (struck.count i)) ∙ at_seam kept next (drop (n + 1) all)

  pub one_found : slice_get spare stay ≡ None → ⊥
  one_found none = let no : Some next ≡ None = sym found ∙ none in cc

  more : (b : Bool) (rid : ℕ) → slice_get spare stay ≡ Some rid → is_some (value_at writes rid) ≡ b → written_of writes (take (n + 1) all) ≡ kept ++ cond b (next ∷ []) []
  more b rid at is =
      let same : rid ≡ next = let told : Some rid ≡ Some next = sym at ∙ found in cc in
      filter_more (λ r. is_some (value_at writes r)) all n 0 within ∙ ap (λ (c : Bool). kept ++ cond c (next ∷ []) []) (ap (λ r. is_some (value_at writes r)) (sym same) ∙ is)

  pub one_stays : (rid : ℕ) → slice_get spare stay ≡ Some rid → is_some (value_at writes rid) ≡ true → IsStruck writes all (n + 1) (stay + 1) spare
  one_stays rid at is =
      let longer : written_of writes (take (n + 1) all) ≡ kept ++ next ∷ [] = more true rid at is in
      record {
        count = let l = ap length longer in let a = length-append kept (next ∷ []) in let k = struck.count in omega arith;
        spare_is = in_parts ∙ sym (append_assoc kept (next ∷ []) (drop (n + 1) all)) ∙ ap (λ ys. ys ++ drop (n + 1) all) (sym longer);
      }

  pub one_leaves : (rid : ℕ) → slice_get spare stay ≡ Some rid → is_some (value_at writes rid) ≡ false → IsStruck writes all (n + 1) stay (remove spare stay)
  one_leaves rid at is =
      let same : written_of writes (take (n + 1) all) ≡ kept = more false rid at is ∙ append-nil kept in
      record {
        count = struck.count ∙ ap length (sym same);
        spare_is = (λ i. remove (in_parts i) (struck.count i)) ∙ removed_seam kept next (drop (n + 1) all) ∙ ap (λ ys. ys ++ drop (n + 1) all) (sym same);
      }

-- whether a reference was found tells whether its value was
pub some_copied : {A : Type 0} (x : Option (Bor A)) (value : Option A) → option_copied x ≡ value → is_some x ≡ is_some value
some_copied None value same = ap is_some same
some_copied (Some a) value same = ap is_some same
