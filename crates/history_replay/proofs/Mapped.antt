-- Tests and pairs of the items of a list, from those of the list that it is made of.
use Rattle.std.proofs.Common.{◌≡◌, Bool, List, [], ◌∷◌, map, refl, ap, All, AllPairs}
use Rattle.std.specs.Prelude.{◌||◌}
use Rattle.std.specs.List.{list_any}
use Rattle.std.proofs.lemmas.List.Elements.{All-nil, All-cons, All-head, All-tail}
use Rattle.std.proofs.lemmas.List.Kept.{AllPairs-cons}
use Rattle.histories.proofs.Lists.{pairs_head, pairs_tail, pairs_nil}

pub All-to_map : {X Y : Type 0} (P : Y → Type 0) (f : X → Y) (xs : List X) → All (λ x. P (f x)) xs → All P (map f xs)
All-to_map P f [] h = All-nil P
All-to_map {X} P f (x ∷ xs) h = All-cons P (f x) (map f xs) (All-head (λ (z : X). P (f z)) x xs h) (All-to_map P f xs (All-tail (λ (z : X). P (f z)) x xs h))

pub AllPairs-to_map : {X Y : Type 0} (R : Y → Y → Type 0) (f : X → Y) (xs : List X) → AllPairs (λ a b. R (f a) (f b)) xs → AllPairs R (map f xs)
AllPairs-to_map {X} R f [] h = pairs_nil R
AllPairs-to_map {X} R f (x ∷ xs) h =
    AllPairs-cons R (f x) (map f xs) (All-to_map (R (f x)) f xs (pairs_head (λ (a b : X). R (f a) (f b)) x xs h)) (AllPairs-to_map R f xs (pairs_tail (λ (a b : X). R (f a) (f b)) x xs h))

pub list_any-map : {X Y : Type 0} (p : Y → Bool) (f : X → Y) (xs : List X) → list_any p (map f xs) ≡ list_any (λ x. p (f x)) xs
list_any-map p f [] = refl
list_any-map p f (x ∷ xs) = ap (λ b. p (f x) || b) (list_any-map p f xs)
