-- An entry is taken out of entries by rising key, or put in.
use Rattle.std.proofs.Common.{◌≡◌, ℕ, ◌<◌, false, cond, List, [], ◌∷◌, ◌++◌, Option, None, Some, refl, sym, ◌∙◌, inl, inr}
use Rattle.std.proofs.lemmas.List.Elements.{All-head, All-tail, All-cons}
use Rattle.ordered_index.specs.declared.key.Key.{Key}
use Rattle.ordered_index.specs.Keys.{is_same, Before, NotAfter, Above, Below, From, Rising, InStore, entry_at}
use Rattle.ordered_index.proofs.Order.{cases_bool, is_same-true, is_same-before}
use Rattle.ordered_index.proofs.Entries.{above_append, entry_at-below, entry_at-above, rising_below, rising_right}
use Rattle.ordered_index.proofs.Rows.{above_from}

put-step : (x e : Key × ℕ) (other : Key) (rest whole : Option ℕ) → Before x.0 e.0 → whole ≡ cond (is_same other e.0) (Some e.1) rest → cond (is_same other x.0) (Some x.1) whole ≡ cond (is_same other e.0) (Some e.1) (cond (is_same other x.0) (Some x.1) rest)
put-step x e other rest whole before is = elim (cases_bool (is_same other x.0)) as (λ _. cond (is_same other x.0) (Some x.1) whole ≡ cond (is_same other e.0) (Some e.1) (cond (is_same other x.0) (Some x.1) rest)) [
  | inl same ↦ (let differs : is_same other e.0 ≡ false = rw (is_same-true other x.0 same) (is_same-before x.0 e.0 before) in rw (same, differs) refl)
  | inr differs ↦ rw differs is
]

-- with one entry more
pub entry_at-put : (xs : List (Key × ℕ)) (e : Key × ℕ) (ys : List (Key × ℕ)) (other : Key) → Below e.0 xs → entry_at (xs ++ e ∷ ys) other ≡ cond (is_same other e.0) (Some e.1) (entry_at (xs ++ ys) other)
entry_at-put [] e ys other below = refl
entry_at-put (x ∷ xs) e ys other below = put-step x e other (entry_at (xs ++ ys) other) (entry_at (xs ++ e ∷ ys) other) below.0 (entry_at-put xs e ys other below.1)

pub entry_at-absent : (xs ys : List (Key × ℕ)) (key : Key) → Below key xs → Above key ys → entry_at (xs ++ ys) key ≡ None
entry_at-absent xs ys key below above = entry_at-below key xs ys below ∙ entry_at-above key ys above

-- with one entry less
pub entry_at-take : (xs : List (Key × ℕ)) (e : Key × ℕ) (ys : List (Key × ℕ)) (other : Key) → Rising (xs ++ e ∷ ys) → entry_at (xs ++ ys) other ≡ cond (is_same other e.0) None (entry_at (xs ++ e ∷ ys) other)
entry_at-take xs e ys other rising =
    let below = rising_below xs e ys rising in
    let right = rising_right xs (e ∷ ys) rising in
    elim (cases_bool (is_same other e.0)) as (λ _. entry_at (xs ++ ys) other ≡ cond (is_same other e.0) None (entry_at (xs ++ e ∷ ys) other)) [
      | inl same ↦ rw (same, is_same-true other e.0 same) (entry_at-absent xs ys e.0 below right.0)
      | inr differs ↦ rw differs (sym (entry_at-put xs e ys other below ∙ rw differs refl))
    ]

-- parts of a list that has an entry less
pub above_less : (key : Key) (xs : List (Key × ℕ)) (e : Key × ℕ) (ys : List (Key × ℕ)) → Above key (xs ++ e ∷ ys) → Above key (xs ++ ys)
above_less key [] e ys above = above.1
above_less key (x ∷ xs) e ys above = (above.0, above_less key xs e ys above.1)

pub below_less : (key : Key) (xs : List (Key × ℕ)) (e : Key × ℕ) (ys : List (Key × ℕ)) → Below key (xs ++ e ∷ ys) → Below key (xs ++ ys)
below_less key [] e ys below = below.1
below_less key (x ∷ xs) e ys below = (below.0, below_less key xs e ys below.1)

pub from_less : (key : Key) (xs : List (Key × ℕ)) (e : Key × ℕ) (ys : List (Key × ℕ)) → From key (xs ++ e ∷ ys) → From key (xs ++ ys)
from_less key [] e ys from = from.1
from_less key (x ∷ xs) e ys from = (from.0, from_less key xs e ys from.1)

pub rising_less : (xs : List (Key × ℕ)) (e : Key × ℕ) (ys : List (Key × ℕ)) → Rising (xs ++ e ∷ ys) → Rising (xs ++ ys)
rising_less [] e ys rising = rising.1
rising_less (x ∷ xs) e ys rising = (above_less x.0 xs e ys rising.0, rising_less xs e ys rising.1)

pub store_less : (size : ℕ) (xs : List (Key × ℕ)) (e : Key × ℕ) (ys : List (Key × ℕ)) → InStore size (xs ++ e ∷ ys) → InStore size (xs ++ ys)
store_less size [] e ys all = let P : Key × ℕ → Type 0 = λ x. x.1 < size in All-tail P e ys all
store_less size (x ∷ xs) e ys all =
    let P : Key × ℕ → Type 0 = λ x. x.1 < size in
    All-cons P x (xs ++ ys) (All-head P x (xs ++ e ∷ ys) all) (store_less size xs e ys (All-tail P x (xs ++ e ∷ ys) all))

-- parts of a list that has an entry more
pub above_put : (key : Key) (xs : List (Key × ℕ)) (e : Key × ℕ) (ys : List (Key × ℕ)) → Before key e.0 → Above key (xs ++ ys) → Above key (xs ++ e ∷ ys)
above_put key [] e ys before above = (before, above)
above_put key (x ∷ xs) e ys before above = (above.0, above_put key xs e ys before above.1)

pub below_put : (key : Key) (xs : List (Key × ℕ)) (e : Key × ℕ) (ys : List (Key × ℕ)) → Before e.0 key → Below key (xs ++ ys) → Below key (xs ++ e ∷ ys)
below_put key [] e ys before below = (before, below)
below_put key (x ∷ xs) e ys before below = (below.0, below_put key xs e ys before below.1)

pub from_put : (key : Key) (xs : List (Key × ℕ)) (e : Key × ℕ) (ys : List (Key × ℕ)) → NotAfter key e.0 → From key (xs ++ ys) → From key (xs ++ e ∷ ys)
from_put key [] e ys low from = (low, from)
from_put key (x ∷ xs) e ys low from = (from.0, from_put key xs e ys low from.1)

pub rising_put : (xs : List (Key × ℕ)) (e : Key × ℕ) (ys : List (Key × ℕ)) → Below e.0 xs → Above e.0 ys → Rising (xs ++ ys) → Rising (xs ++ e ∷ ys)
rising_put [] e ys below above rising = (above, rising)
rising_put (x ∷ xs) e ys below above rising = (above_put x.0 xs e ys below.0 rising.0, rising_put xs e ys below.1 above rising.1)

pub store_put : (size : ℕ) (xs : List (Key × ℕ)) (e : Key × ℕ) (ys : List (Key × ℕ)) → e.1 < size → InStore size (xs ++ ys) → InStore size (xs ++ e ∷ ys)
store_put size [] e ys low all = let P : Key × ℕ → Type 0 = λ x. x.1 < size in All-cons P e ys low all
store_put size (x ∷ xs) e ys low all =
    let P : Key × ℕ → Type 0 = λ x. x.1 < size in
    All-cons P x (xs ++ e ∷ ys) (All-head P x (xs ++ ys) all) (store_put size xs e ys low (All-tail P x (xs ++ ys) all))

-- two rising lists around a key
pub rising_from : (key : Key) (xs ys : List (Key × ℕ)) → Rising xs → Below key xs → Rising ys → From key ys → Rising (xs ++ ys)
rising_from key [] ys first below second from = second
rising_from key (x ∷ xs) ys first below second from = (above_append x.0 xs ys first.0 (above_from x.0 key ys below.0 from), rising_from key xs ys first.1 below.1 second from)
