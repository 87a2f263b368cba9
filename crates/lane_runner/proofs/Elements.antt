-- The elements of a list, all of them or one.
use Rattle.std.proofs.Common.{◌≡◌, inl, inr, ⊎_elim, ◌||◌, Bool, true, List, [], ◌∷◌, ◌++◌, All, AllPairs, Contains, IsPermutation, refl, sym, ap, subst, ◌∙◌}
use Rattle.std.proofs.Math.Bool.{or-true}
use Rattle.std.specs.List.{list_any}
use Rattle.std.proofs.lemmas.List.Elements.{All-nil, All-cons, All-contains}
use Rattle.std.proofs.lemmas.List.Kept.{AllPairs-cons}
use Rattle.std.proofs.lemmas.List.Sorted.{IsPermutation-sym, Contains-permutation}
use Rattle.core_rule.specs.Views.{Among}
use Rattle.core_rule.proofs.Among.{Among-split}
use Rattle.histories.proofs.Lists.{pairs_head, pairs_tail, Contains-nil, Contains-head, Contains-tail, Contains-cases}

module _ {X : Type 0} where
  pub all_among : (P : X → Type 0) (xs : List X) → ((x : X) → Among x xs → P x) → All P xs
  all_among P [] each = All-nil P
  all_among P (x ∷ xs) each = All-cons P x xs (each x (inl refl)) (all_among P xs (λ y among. each y (inr among)))

  pub contains_of : (xs : List X) (x : X) → Among x xs → Contains xs x
  contains_of [] x among = absurd among
  contains_of (y ∷ xs) x (inl same) = subst (λ (z : X). Contains (y ∷ xs) z) same (Contains-head y xs)
  contains_of (y ∷ xs) x (inr among) = Contains-tail y xs x (contains_of xs x among)

  pub among_of : (xs : List X) (x : X) → Contains xs x → Among x xs
  among_of [] x at = absurd (Contains-nil x at)
  among_of (y ∷ xs) x at = ⊎_elim (λ same. inl same) (λ more. inr (among_of xs x more)) (Contains-cases y xs x at)

  pub among_moved : (xs ys : List X) (x : X) → IsPermutation xs ys → Among x ys → Among x xs
  among_moved xs ys x moved among = among_of xs x (Contains-permutation ys xs x (IsPermutation-sym xs ys moved) (contains_of ys x among))

  pub among_after : (xs ys : List X) (x : X) → IsPermutation xs ys → Among x xs → Among x ys
  among_after xs ys x moved among = among_of ys x (Contains-permutation xs ys x moved (contains_of xs x among))

  pub list_any_among : (p : X → Bool) (xs : List X) (x : X) → Among x xs → p x ≡ true → list_any p xs ≡ true
  list_any_among p [] x among holds = absurd among
  list_any_among p (y ∷ xs) x (inl same) holds = ap (λ (b : Bool). b || list_any p xs) (subst (λ (z : X). p z ≡ true) (sym same) holds)
  list_any_among p (y ∷ xs) x (inr among) holds = ap (λ (b : Bool). p y || b) (list_any_among p xs x among holds) ∙ or-true (p y)

  pub pairs_append : (R : X → X → Type 0) (xs ys : List X) → AllPairs R xs → AllPairs R ys → ((x y : X) → Among x xs → Among y ys → R x y) → AllPairs R (xs ++ ys)
  pairs_append R [] ys first second across = second
  pairs_append R (x ∷ xs) ys first second across =
      AllPairs-cons R x (xs ++ ys)
      (all_among (R x) (xs ++ ys) (λ y among. ⊎_elim (λ here. All-contains (R x) xs y (pairs_head R x xs first) (contains_of xs y here)) (λ there. across x y (inl refl) there) (Among-split y xs ys among)))
      (pairs_append R xs ys (pairs_tail R x xs first) second (λ a b here there. across a b (inr here) there))

  pub pairs_behind : (R : X → X → Type 0) (xs ys : List X) → AllPairs R (xs ++ ys) → AllPairs R ys
  pairs_behind R [] ys pairs = pairs
  pairs_behind R (x ∷ xs) ys pairs = pairs_behind R xs ys (pairs_tail R x (xs ++ ys) pairs)
