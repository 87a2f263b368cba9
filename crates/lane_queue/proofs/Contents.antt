-- What the queue holds, after a lane or an end was put behind it or taken from its front.
use Rattle.std.proofs.Common.{◌≡◌, ℕ, ◌+◌, List, [], ◌∷◌, ◌++◌, length, refl, ap, arith}
use Rattle.std.proofs.lemmas.List.{replicate-append-replicate, length-replicate}
use Rattle.lane_queue.specs.declared.lane.Lane.{Lane}
use Rattle.lane_queue.specs.declared.lane.Item.TheVariants.{Next, End}
use Rattle.lane_queue.specs.Rule.{contents}

pub head_of : {X : Type 0} → (x y : X) (xs ys : List X) → x ∷ xs ≡ y ∷ ys → x ≡ y
head_of {X} x y xs ys e = ap first e
  where
    first : List X → X
    first [] = x
    first (z ∷ zs) = z

pub tail_of : {X : Type 0} → (x y : X) (xs ys : List X) → x ∷ xs ≡ y ∷ ys → xs ≡ ys
tail_of {X} x y xs ys e = ap rest e
  where
    rest : List X → List X
    rest [] = []
    rest (z ∷ zs) = zs

pub contents-lane : (left : List Lane) (lane : Lane) → contents left 0 ++ Next lane ∷ [] ≡ contents (left ++ lane ∷ []) 0
contents-lane [] lane = refl
contents-lane (x ∷ left) lane = ap (λ l. Next x ∷ l) (contents-lane left lane)

pub contents-end : (left : List Lane) (n : ℕ) → contents left n ++ End ∷ [] ≡ contents left (n + 1)
contents-end [] n = replicate-append-replicate n 1 End
contents-end (x ∷ left) n = ap (λ l. Next x ∷ l) (contents-end left n)

pub length-contents : (left : List Lane) (n : ℕ) → length (contents left n) ≡ length left + n
length-contents [] n = let e : length (contents [] n) ≡ n = length-replicate n End in omega (arith, e)
length-contents (x ∷ left) n = let e = length-contents left n in omega (arith, e)
