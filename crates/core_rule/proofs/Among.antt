-- What is among the entries of a list that has grown at its end.
use Rattle.std.proofs.Common.{◌≡◌, ◌⊎◌, Bool, true, false, cond, List, [], ◌∷◌, ◌++◌, append-nil, refl, sym, inl, inr, ⊎_elim}
use Rattle.core_rule.specs.Views.{Among}

module _ {A : Type 0} (x : A) where
  pub Among-left : (xs ys : List A) → Among x xs → Among x (xs ++ ys)
  Among-left [] ys h = absurd h
  Among-left (y ∷ xs) ys (inl e) = inl e
  Among-left (y ∷ xs) ys (inr h) = inr (Among-left xs ys h)

  pub Among-right : (xs ys : List A) → Among x ys → Among x (xs ++ ys)
  Among-right [] ys h = h
  Among-right (y ∷ xs) ys h = inr (Among-right xs ys h)

  pub Among-last : (xs : List A) → Among x (xs ++ x ∷ [])
  Among-last xs = Among-right xs (x ∷ []) (inl refl)

  pub Among-split : (xs ys : List A) → Among x (xs ++ ys) → Among x xs ⊎ Among x ys
  Among-split [] ys h = inr h
  Among-split (y ∷ xs) ys (inl e) = inl (inl e)
  Among-split (y ∷ xs) ys (inr h) = ⊎_elim (λ k. inl (inr k)) (λ k. inr k) (Among-split xs ys h)

  -- among those before, or the new one
  pub Among-either : (y : A) (xs : List A) → Among x (xs ++ y ∷ []) → Among x xs ⊎ (y ≡ x)
  Among-either y xs h = ⊎_elim (λ k. inl k) (λ k. one k) (Among-split xs (y ∷ []) h) where
    one : Among x (y ∷ []) → Among x xs ⊎ (y ≡ x)
    one (inl e) = inr e
    one (inr k) = absurd k

-- one more at the end, or none
pub if_more : {A : Type 0} (b : Bool) (x : A) (xs : List A) → cond b (xs ++ x ∷ []) xs ≡ xs ++ cond b (x ∷ []) []
if_more true x xs = refl
if_more false x xs = sym (append-nil xs)

pub Among-if : {A : Type 0} (b : Bool) (x y : A) (xs : List A) → Among x xs → Among x (cond b (xs ++ y ∷ []) xs)
Among-if true x y xs h = Among-left x xs (y ∷ []) h
Among-if false x y xs h = h
