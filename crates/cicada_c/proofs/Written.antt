-- Lists that are written from the front.
use Rattle.std.proofs.Common.{◌≡◌, ℕ, ◌+◌, ◌<◌, ◌≤◌, zero, suc, List, [], ◌∷◌, length, get_or, set, map, refl, ap, ◌∙◌, arith}
use Rattle.cicada_c.specs.Writing.{written}

-- one more is written
set_written-suc : {A T : Type 0} (f : A → T) (front : List A) (old : List T) (i : ℕ) (d : A) → i < length front → i < length old → set (written i (map f front) old) i (f (get_or front i d)) ≡ written (suc i) (map f front) old
set_written-suc f [] old i d within room = absurd (omega arith)
set_written-suc f (x ∷ front) [] i d within room = absurd (omega arith)
set_written-suc f (x ∷ front) (y ∷ old) zero d within room = refl
set_written-suc f (x ∷ front) (y ∷ old) (suc i) d within room = ap (λ rest. f x ∷ rest) (set_written-suc f front old i d (omega arith) (omega arith))

pub set_written : {A T : Type 0} (f : A → T) (front : List A) (old : List T) (i : ℕ) (d : A) → i < length front → i < length old → set (written i (map f front) old) i (f (get_or front i d)) ≡ written (i + 1) (map f front) old
set_written f front old i d within room = let one : suc i ≡ i + 1 = omega arith in set_written-suc f front old i d within room ∙ ap (λ n. written n (map f front) old) one

-- written lists are as long as before
pub length_written : {A T : Type 0} (f : A → T) (front : List A) (old : List T) (i : ℕ) → i ≤ length front → i ≤ length old → length (written i (map f front) old) ≡ length old
length_written f front old zero within room = refl
length_written f [] old (suc i) within room = absurd (omega arith)
length_written f (x ∷ front) [] (suc i) within room = absurd (omega arith)
length_written f (x ∷ front) (y ∷ old) (suc i) within room = ap suc (length_written f front old i (omega arith) (omega arith))
