-- What stands in a list in its order still does where either list changes at its ends.
use Rattle.std.proofs.Common.{List, [], ◌∷◌, ◌++◌, inl, inr, refl}
use Rattle.lane_queue.specs.declared.lane.Lane.{Lane}
use Rattle.lane_queue.specs.Subsequences.{IsSubsequence}

IsSubsequence-more : (xs : List Lane) (y : Lane) (ys : List Lane) → IsSubsequence xs ys → IsSubsequence xs (y ∷ ys)
IsSubsequence-more [] y ys h = tt
IsSubsequence-more (x ∷ xs) y ys h = inr h

IsSubsequence-tail : (x : Lane) (xs ys : List Lane) → IsSubsequence (x ∷ xs) ys → IsSubsequence xs ys
IsSubsequence-tail x xs [] h = elim h [ ]
IsSubsequence-tail x xs (y ∷ ys) (inl p) = IsSubsequence-more xs y ys p.1
IsSubsequence-tail x xs (y ∷ ys) (inr p) = IsSubsequence-more xs y ys (IsSubsequence-tail x xs ys p)

pub IsSubsequence-without : (a : List Lane) (x : Lane) (b ys : List Lane) → IsSubsequence (a ++ x ∷ b) ys → IsSubsequence (a ++ b) ys
IsSubsequence-without [] x b ys h = IsSubsequence-tail x b ys h
IsSubsequence-without (c ∷ a) x b [] h = elim h [ ]
IsSubsequence-without (c ∷ a) x b (y ∷ ys) (inl p) = inl (p.0, IsSubsequence-without a x b ys p.1)
IsSubsequence-without (c ∷ a) x b (y ∷ ys) (inr p) = inr (IsSubsequence-without (c ∷ a) x b ys p)

pub IsSubsequence-behind : (a b ys : List Lane) → IsSubsequence (a ++ b) ys → IsSubsequence b ys
IsSubsequence-behind [] b ys h = h
IsSubsequence-behind (c ∷ a) b ys h = IsSubsequence-behind a b ys (IsSubsequence-tail c (a ++ b) ys h)

pub IsSubsequence-front : (a b ys : List Lane) → IsSubsequence (a ++ b) ys → IsSubsequence a ys
IsSubsequence-front [] b ys h = tt
IsSubsequence-front (c ∷ a) b [] h = elim h [ ]
IsSubsequence-front (c ∷ a) b (y ∷ ys) (inl p) = inl (p.0, IsSubsequence-front a b ys p.1)
IsSubsequence-front (c ∷ a) b (y ∷ ys) (inr p) = inr (IsSubsequence-front (c ∷ a) b ys p)

pub IsSubsequence-snoc : (xs ys : List Lane) (z : Lane) → IsSubsequence xs ys → IsSubsequence (xs ++ z ∷ []) (ys ++ z ∷ [])
IsSubsequence-snoc [] [] z h = inl (refl, tt)
IsSubsequence-snoc [] (y ∷ ys) z h = inr (IsSubsequence-snoc [] ys z tt)
IsSubsequence-snoc (x ∷ xs) [] z h = elim h [ ]
IsSubsequence-snoc (x ∷ xs) (y ∷ ys) z (inl p) = inl (p.0, IsSubsequence-snoc xs ys z p.1)
IsSubsequence-snoc (x ∷ xs) (y ∷ ys) z (inr p) = inr (IsSubsequence-snoc (x ∷ xs) ys z p)
