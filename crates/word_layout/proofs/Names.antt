-- The tests for one name and for a word of the table, and the facts that they decide.
use Rattle.std.proofs.Common.{◌≡◌, ◌≢◌, true, false, ◌==◌, nat_lt, refl, ap, eqb-true, eq-eqb}
use Rattle.std.specs.Bool.{Decides}
use Rattle.std.proofs.lemmas.Bool.Decides.{Decides-ltb, Decides-and, same_from_decides}
use Rattle.word_layout.specs.Limits.{cells_of_value}
use Rattle.std.proofs.lemmas.Bool.{and_parts, and_from, false_from_ne_true}
use Rattle.word_layout.specs.Size.{Size, places}
use Rattle.word_layout.specs.Name.{Name, published_write, published_read, min_write, min_read, head, lock, floor, status, wts, rts, next, cell, IsNamed, word_of, name_eq, is_named}
use Rattle.word_layout.proofs.Words.{word_of-injective}

pub name_eq-refl : (n : Name) → name_eq n n ≡ true
name_eq-refl (published_write s) = eq-eqb s s refl
name_eq-refl (published_read s) = eq-eqb s s refl
name_eq-refl min_write = refl
name_eq-refl min_read = refl
name_eq-refl (head r) = eq-eqb r r refl
name_eq-refl (lock r) = eq-eqb r r refl
name_eq-refl (floor r) = eq-eqb r r refl
name_eq-refl (status p) = eq-eqb p p refl
name_eq-refl (wts p) = eq-eqb p p refl
name_eq-refl (rts p) = eq-eqb p p refl
name_eq-refl (next p) = eq-eqb p p refl
name_eq-refl (cell p i) = and_from (p == p) (i == i) (eq-eqb p p refl) (eq-eqb i i refl)

pub name_eq-true : (n m : Name) → name_eq n m ≡ true → n ≡ m
name_eq-true (published_write s) (published_write t) e = ap published_write (eqb-true s t e)
name_eq-true (published_read s) (published_read t) e = ap published_read (eqb-true s t e)
name_eq-true min_write min_write e = refl
name_eq-true min_read min_read e = refl
name_eq-true (head r) (head q) e = ap head (eqb-true r q e)
name_eq-true (lock r) (lock q) e = ap lock (eqb-true r q e)
name_eq-true (floor r) (floor q) e = ap floor (eqb-true r q e)
name_eq-true (status p) (status q) e = ap status (eqb-true p q e)
name_eq-true (wts p) (wts q) e = ap wts (eqb-true p q e)
name_eq-true (rts p) (rts q) e = ap rts (eqb-true p q e)
name_eq-true (next p) (next q) e = ap next (eqb-true p q e)
name_eq-true (cell p i) (cell q j) e =
    let same : (p == q ≡ true) × (i == j ≡ true) = and_parts (p == q) (i == j) e in
    let same_place : p ≡ q = eqb-true p q same.0 in
    let same_cell : i ≡ j = eqb-true i j same.1 in cc
name_eq-true n m e = cc

pub Decides-name_eq : (n m : Name) → Decides (name_eq n m) (n ≡ m)
Decides-name_eq n m = (name_eq-true n m, λ e. rw e (name_eq-refl m))

pub name_eq-false : (n m : Name) → n ≢ m → name_eq n m ≡ false
name_eq-false n m apart = false_from_ne_true (name_eq n m) (λ e. apart (name_eq-true n m e))

pub Decides-is_named : (z : Size) (n : Name) → Decides (is_named z n) (IsNamed z n)
Decides-is_named z (published_write s) = Decides-ltb s z.seats
Decides-is_named z min_write = (λ _. tt, λ _. refl)
Decides-is_named z min_read = (λ _. tt, λ _. refl)
Decides-is_named z (cell p i) =
    Decides-and (nat_lt p (places z)) (nat_lt i cells_of_value) (Decides-ltb p (places z)) (Decides-ltb i cells_of_value)
Decides-is_named z _ = Decides-ltb _ _

-- words of a table have one number exactly where they have one name
pub word_of-eq : (z : Size) (n m : Name) → IsNamed z n → IsNamed z m → (word_of z n == word_of z m) ≡ name_eq n m
word_of-eq z n m h k =
    let same : Decides (word_of z n == word_of z m) (n ≡ m) = (
      λ e. word_of-injective z n m h k (eqb-true (word_of z n) (word_of z m) e),
      λ e. eq-eqb (word_of z n) (word_of z m) (ap (word_of z) e),
    ) in
    same_from_decides (word_of z n == word_of z m) (name_eq n m) same (Decides-name_eq n m)
