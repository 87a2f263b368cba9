-- Lists: pieces one behind the other, in another order of the pieces, and what holds of each two elements.
use Rattle.std.proofs.Common.{inl, inr, ℕ, zero, suc, ◌<◌, List, [], ◌∷◌, ◌++◌, append_assoc, AllPairs, IsPermutation, length, get_or, set, swap, flat_map, sym, subst, subst₂, arith}
use Rattle.std.proofs.lemmas.List.Elements.{All-contains}
use Rattle.std.proofs.lemmas.List.Kept.{AllPairs-cons}
use Rattle.std.proofs.lemmas.List.Edits.{swap_is}
use Rattle.std.proofs.lemmas.List.Sorted.{IsPermutation-refl, IsPermutation-trans, IsPermutation-append_left, IsPermutation-append_right, IsPermutation-append_comm, IsPermutation-keeps}
use Rattle.core_rule.specs.Views.{Among}
use Rattle.core_rule.proofs.Among.{Among-left, Among-right}
use Rattle.histories.proofs.Lists.{pairs_head, pairs_tail, pairs_nil}
use Rattle.lane_runner.proofs.Elements.{all_among, contains_of}

-- ---- other orders

module _ {X : Type 0} where
  -- the second piece comes first
  pub pieces_turn : (us vs ws : List X) → IsPermutation (us ++ (vs ++ ws)) (vs ++ (us ++ ws))
  pieces_turn us vs ws =
      subst (λ (l : List X). IsPermutation l (vs ++ (us ++ ws))) (append_assoc us vs ws)
      (subst (IsPermutation ((us ++ vs) ++ ws)) (append_assoc vs us ws) (IsPermutation-append_left ws (us ++ vs) (vs ++ us) (IsPermutation-append_comm us vs)))

  -- two lists of two pieces each
  pub pieces_cross : (us vs ws xs : List X) → IsPermutation ((us ++ vs) ++ (ws ++ xs)) ((us ++ ws) ++ (vs ++ xs))
  pieces_cross us vs ws xs =
      subst (λ (l : List X). IsPermutation l ((us ++ ws) ++ (vs ++ xs))) (sym (append_assoc us vs (ws ++ xs)))
      (subst (IsPermutation (us ++ (vs ++ (ws ++ xs)))) (sym (append_assoc us ws (vs ++ xs))) (IsPermutation-append_right us (vs ++ (ws ++ xs)) (ws ++ (vs ++ xs)) (pieces_turn vs ws xs)))

module _ {X A : Type 0} (f : X → List A) where
  -- the first piece and a later one exchanged
  first_exchanged : (x : X) (l : List X) (j : ℕ) (d : X) → j < length l → IsPermutation (flat_map f (x ∷ l)) (flat_map f (get_or l j d ∷ set l j x))
  first_exchanged x [] j d inside = absurd (omega arith)
  first_exchanged x (y ∷ l) zero d inside = pieces_turn (f x) (f y) (flat_map f l)
  first_exchanged x (y ∷ l) (suc j) d inside =
      IsPermutation-trans _ _ _ (pieces_turn (f x) (f y) (flat_map f l))
      (IsPermutation-trans _ _ _ (IsPermutation-append_right (f y) _ _ (first_exchanged x l j d (omega arith)))
      (pieces_turn (f y) (f (get_or l j d)) (flat_map f (set l j x))))

  both_exchanged : (l : List X) (i j : ℕ) (d : X) → i < length l → j < length l → IsPermutation (flat_map f l) (flat_map f (set (set l i (get_or l j d)) j (get_or l i d)))
  both_exchanged [] i j d first second = absurd (omega arith)
  both_exchanged (x ∷ l) zero zero d first second = IsPermutation-refl (flat_map f (x ∷ l))
  both_exchanged (x ∷ l) zero (suc j) d first second = first_exchanged x l j d (omega arith)
  both_exchanged (x ∷ l) (suc i) zero d first second = first_exchanged x l i d (omega arith)
  both_exchanged (x ∷ l) (suc i) (suc j) d first second = IsPermutation-append_right (f x) _ _ (both_exchanged l i j d (omega arith) (omega arith))

  swapped : (l : List X) (i j : ℕ) → i < length l → j < length l → IsPermutation (flat_map f l) (flat_map f (swap l i j))
  swapped [] i j first second = absurd (omega arith)
  swapped (d ∷ l) i j first second = subst (λ (m : List X). IsPermutation (flat_map f (d ∷ l)) (flat_map f m)) (swap_is (d ∷ l) i j d first second) (both_exchanged (d ∷ l) i j d first second)

  pub pieces_moved : (xs ys : List X) → IsPermutation xs ys → IsPermutation (flat_map f xs) (flat_map f ys)
  pieces_moved xs ys moved =
      IsPermutation-keeps xs (λ (l : List X). IsPermutation (flat_map f xs) (flat_map f l)) (IsPermutation-refl (flat_map f xs))
      (λ l i j first second so_far. IsPermutation-trans _ _ _ so_far (swapped l i j first second)) ys moved

-- ---- each two elements

module _ {X : Type 0} where
  pub pairs_weaker : (R S : X → X → Type 0) → ((x y : X) → R x y → S x y) → (xs : List X) → AllPairs R xs → AllPairs S xs
  pairs_weaker R S weaker xs pairs i j d lt inside = weaker _ _ (pairs i j d lt inside)

  pub pairs_first : (R : X → X → Type 0) (xs ys : List X) → AllPairs R (xs ++ ys) → AllPairs R xs
  pairs_first R [] ys pairs = pairs_nil R
  pairs_first R (x ∷ xs) ys pairs =
      AllPairs-cons R x xs
      (all_among (R x) xs (λ y among. All-contains (R x) (xs ++ ys) y (pairs_head R x (xs ++ ys) pairs) (contains_of (xs ++ ys) y (Among-left y xs ys among))))
      (pairs_first R xs ys (pairs_tail R x (xs ++ ys) pairs))

  -- an element of the first piece, and one of the second
  pub pairs_across : (R : X → X → Type 0) (xs ys : List X) → AllPairs R (xs ++ ys) → (x y : X) → Among x xs → Among y ys → R x y
  pairs_across R [] ys pairs x y here there = absurd here
  pairs_across R (z ∷ xs) ys pairs x y (inl same) there = subst (λ (w : X). R w y) same (All-contains (R z) (xs ++ ys) y (pairs_head R z (xs ++ ys) pairs) (contains_of (xs ++ ys) y (Among-right y xs ys there)))
  pairs_across R (z ∷ xs) ys pairs x y (inr here) there = pairs_across R xs ys (pairs_tail R z (xs ++ ys) pairs) x y here there

  -- any two, where it does not matter which of them comes first
  pub pairs_any : (R : X → X → Type 0) → ((x : X) → R x x) → ((x y : X) → R x y → R y x) → (xs : List X) → AllPairs R xs → (x y : X) → Among x xs → Among y xs → R x y
  pairs_any R same turns [] pairs x y first second = absurd first
  pairs_any R same turns (z ∷ xs) pairs x y (inl is) (inl also) = subst₂ R is also (same z)
  pairs_any R same turns (z ∷ xs) pairs x y (inl is) (inr there) = subst (λ (w : X). R w y) is (All-contains (R z) xs y (pairs_head R z xs pairs) (contains_of xs y there))
  pairs_any R same turns (z ∷ xs) pairs x y (inr there) (inl also) = turns y x (subst (λ (w : X). R w x) also (All-contains (R z) xs x (pairs_head R z xs pairs) (contains_of xs x there)))
  pairs_any R same turns (z ∷ xs) pairs x y (inr first) (inr second) = pairs_any R same turns xs (pairs_tail R z xs pairs) x y first second
