-- Lists whose elements are put together, one behind the other.
use Rattle.std.proofs.Common.{◌≡◌, suc, ◌≤◌, List, [], ◌∷◌, ◌++◌, append-nil, append_assoc, map, length, sym, ap, ◌∙◌, arith}
use Rattle.std.proofs.lemmas.List.{map-append}

-- one was put behind those that were there
pub put_next : {W X : Type 0} (part : W → X) (ws ws' : List W) (w : W) (xs xs' all : List X) → map part ws ++ xs ≡ all → xs ≡ part w ∷ xs' → ws' ≡ ws ++ w ∷ [] → map part ws' ++ xs' ≡ all
put_next part ws ws' w xs xs' all so_far next pushed =
    ap (λ vs. map part vs ++ xs') pushed ∙ ap (λ ys. ys ++ xs') (map-append part ws (w ∷ [])) ∙ append_assoc (map part ws) (part w ∷ []) xs' ∙ ap (λ ys. map part ws ++ ys) (sym next) ∙ so_far

-- as many are left of both
pub same_left : {X Y : Type 0} (x : X) (y : Y) (xs xs' : List X) (ys ys' : List Y) → length xs ≡ length ys → xs ≡ x ∷ xs' → ys ≡ y ∷ ys' → length xs' ≡ length ys'
same_left x y xs xs' ys ys' same one other =
    let first : length xs ≡ suc (length xs') = ap (λ zs. length zs) one in
    let second : length ys ≡ suc (length ys') = ap (λ zs. length zs) other in
    omega (arith, same, first, second)

-- no fewer are left of the second
pub enough_left : {X Y : Type 0} (x : X) (y : Y) (xs xs' : List X) (ys ys' : List Y) → length xs ≤ length ys → xs ≡ x ∷ xs' → ys ≡ y ∷ ys' → length xs' ≤ length ys'
enough_left x y xs xs' ys ys' enough one other =
    let first : length xs ≡ suc (length xs') = ap (λ zs. length zs) one in
    let second : length ys ≡ suc (length ys') = ap (λ zs. length zs) other in
    omega (arith, enough, first, second)

-- none is left, so all are there
pub put_all : {W X : Type 0} (part : W → X) (ws : List W) (xs all : List X) → map part ws ++ xs ≡ all → length xs ≡ 0 → map part ws ≡ all
put_all part ws [] all so_far none = sym (append-nil (map part ws)) ∙ so_far
put_all part ws (x ∷ xs) all so_far none = absurd (omega (arith, none))
