-- The rows of all tables, table behind table, are those of the map.
use Rattle.std.proofs.Common.{◌≡◌, ℕ, zero, suc, ◌+◌, ◌<◌, ◌≤◌, Bool, true, false, cond, nat_le, ◌==◌, ◌&&◌, T, List, [], ◌∷◌, ◌++◌, length, map, filter, take, get_or, Option, Some, None, refl, sym, ap, ◌∙◌, arith, inl, inr}
use Rattle.std.specs.Ordering.{eq_by_cmp, is_eq, is_lt}
use Rattle.std.specs.List.{range_with_len}
use Rattle.std.specs.FinMap.{entries, entries_sorted, find, from_entries, get-entries, get-from_entries, is_sorted, same_map}
use Rattle.std.specs.FinMap.Entries.{below_all}
use Rattle.std.proofs.lemmas.Bool.{cases_lt}
use Rattle.std.proofs.lemmas.Bool.Decides.{nat_tests}
use Rattle.std.proofs.lemmas.Cmp.{tied_itself}
use Rattle.std.proofs.lemmas.List.{append_assoc, append-nil, take_more}
use Rattle.replay_model.specs.TableMap.{TableMap, Row, RowMap, entry_of, pair_at, pair_cmp, pairs_of, value_at}
use Rattle.stored_tables.proofs.Maps.{pair_cmp_total, pair_cmp-IsAntisymmetric}
use Rattle.snap_dump.specs.Tagged.{StandInOrder, TableRows, all_rows, map_of, row_of, tag, tagged}

abbrev pub Entries : Type 0
Entries = List ((ℕ × ℕ) × Row)

-- ---- one list more

tagged-append : (n : ℕ) (xs ys : List (List (ℕ × Row))) → tagged n (xs ++ ys) ≡ tagged n xs ++ tagged (n + length xs) ys
tagged-append n [] ys = let same : n ≡ n + 0 = omega arith in ap (λ m. tagged m ys) same
tagged-append n (x ∷ xs) ys =
    let same : n + 1 + length xs ≡ n + length (x ∷ xs) = omega arith in
    ap (λ rows. map (tag n) x ++ rows) (tagged-append (n + 1) xs ys ∙ ap (λ m. tagged (n + 1) xs ++ tagged m ys) same)
    ∙ sym (append_assoc (map (tag n) x) (tagged (n + 1) xs) (tagged (n + length (x ∷ xs)) ys))

pub tagged_more : (lists : List (List (ℕ × Row))) (i : ℕ) (pairs : List (ℕ × Row)) → i < length lists → pairs ≡ get_or lists i pairs
    → tagged 0 (take (i + 1) lists) ≡ tagged 0 (take i lists) ++ map (tag i) pairs
tagged_more lists i pairs within here =
    let one : take (i + 1) lists ≡ take i lists ++ pairs ∷ [] = take_more lists i pairs within ∙ ap (λ ps. take i lists ++ ps ∷ []) (sym here) in
    let at : 0 + length (take i lists) ≡ i = length_taken lists i within in
    ap (tagged 0) one ∙ tagged-append 0 (take i lists) (pairs ∷ [])
    ∙ ap (λ m. tagged 0 (take i lists) ++ tagged m (pairs ∷ [])) at
    ∙ ap (λ rows. tagged 0 (take i lists) ++ rows) (append-nil (map (tag i) pairs))
  where
    length_taken : (xs : List (List (ℕ × Row))) (k : ℕ) → k < length xs → 0 + length (take k xs) ≡ k
    length_taken [] k within = absurd (omega arith)
    length_taken (x ∷ xs) zero within = refl
    length_taken (x ∷ xs) (suc k) within = let rest = length_taken xs k (omega arith) in omega (arith, rest)

-- ---- the entries of one table, and those of a table or a later one

abbrev at : ℕ → Entries → Entries
at n es = filter (λ (e : (ℕ × ℕ) × Row). e.0.0 == n) es

abbrev from : ℕ → Entries → Entries
from n es = filter (λ (e : (ℕ × ℕ) × Row). nat_le n e.0.0) es

first_of : (a b : Bool) → T (a && b) → T a
first_of true b h = tt
first_of false b h = absurd h

second_of : (a b : Bool) → T (a && b) → T b
second_of true b h = h
second_of false b h = absurd h

own_number : (n m : ℕ) → n ≡ m → (n == m) ≡ true
own_number n m same = grind (arith, nat_tests)

other_number : (n m : ℕ) → n < m → (m == n) ≡ false
other_number n m above = grind (arith, nat_tests)

lower_number : (n m : ℕ) → m < n → (m == n) ≡ false
lower_number n m below = grind (arith, nat_tests)

reaches : (n m : ℕ) → n ≤ m → nat_le n m ≡ true
reaches n m low = grind (arith, nat_tests)

misses : (n m : ℕ) → m < n → nat_le n m ≡ false
misses n m high = grind (arith, nat_tests)

rises : (a b : ℕ × ℕ) → T (is_lt (pair_cmp a b)) → a.0 ≤ b.0
rises a b h = grind (arith, nat_tests)

-- behind an entry of a later table none is of this one
none_at : (n : ℕ) (key : ℕ × ℕ) (es : Entries) → n < key.0 → T (below_all pair_cmp key es) → at n es ≡ []
none_at n key [] above below = refl
none_at n key (e ∷ es) above below =
    let low : key.0 ≤ e.0.0 = rises key e.0 (first_of (is_lt (pair_cmp key e.0)) (below_all pair_cmp key es) below) in
    ap (λ b. cond b (e ∷ at n es) (at n es)) (other_number n e.0.0 (omega (arith, low, above)))
    ∙ none_at n key es above (second_of (is_lt (pair_cmp key e.0)) (below_all pair_cmp key es) below)

-- those from a table on are its own and the later ones
from_table : (n : ℕ) (es : Entries) → T (is_sorted pair_cmp es) → from n es ≡ at n es ++ from (n + 1) es
from_table n [] sorted = refl
from_table n (e ∷ es) sorted =
    let rest = from_table n es (second_of (below_all pair_cmp e.0 es) (is_sorted pair_cmp es) sorted) in
    let below : T (below_all pair_cmp e.0 es) = first_of (below_all pair_cmp e.0 es) (is_sorted pair_cmp es) sorted in
    let same : Bool → Bool → Bool → Type 0 = λ a b c. cond a (e ∷ from n es) (from n es) ≡ cond b (e ∷ at n es) (at n es) ++ cond c (e ∷ from (n + 1) es) (from (n + 1) es) in
    elim (cases_lt e.0.0 n) as (λ _. same (nat_le n e.0.0) (e.0.0 == n) (nat_le (n + 1) e.0.0)) [
      | inl lower ↦ rw (misses n e.0.0 lower, lower_number n e.0.0 lower, misses (n + 1) e.0.0 (omega (arith, lower))) rest
      | inr upper ↦ elim (cases_lt n e.0.0) as (λ _. same (nat_le n e.0.0) (e.0.0 == n) (nat_le (n + 1) e.0.0)) [
        | inl above ↦ rw (reaches n e.0.0 upper, other_number n e.0.0 above, reaches (n + 1) e.0.0 (omega (arith, above)))
            (let none = none_at n e.0 es above below in ap (λ xs. e ∷ xs) (rest ∙ ap (λ xs. xs ++ from (n + 1) es) none) ∙ ap (λ xs. xs ++ e ∷ from (n + 1) es) (sym none))
        | inr equal ↦ rw (reaches n e.0.0 upper, own_number e.0.0 n (omega (arith, upper, equal)), misses (n + 1) e.0.0 (omega (arith, equal))) (ap (λ xs. e ∷ xs) rest)
      ]
    ]

-- the rows of one table, with its number
tag_own : (n : ℕ) (es : Entries) → map (tag n) (map pair_at (at n es)) ≡ map row_of (at n es)
tag_own n [] = refl
tag_own n (e ∷ es) =
    let rest = tag_own n es in
    elim (e.0.0 == n) as (λ b. (e.0.0 == n) ≡ b → map (tag n) (map pair_at (cond b (e ∷ at n es) (at n es))) ≡ map row_of (cond b (e ∷ at n es) (at n es))) [
      | true ↦ λ own. (let number : n ≡ e.0.0 = grind (arith, nat_tests, own) in λ i. (number i, e.0.1, e.1) ∷ rest i)
      | false ↦ λ other. rest
    ] refl

map_append : {A B : Type 0} (f : A → B) (xs ys : List A) → map f (xs ++ ys) ≡ map f xs ++ map f ys
map_append f [] ys = refl
map_append f (x ∷ xs) ys = ap (λ zs. f x ∷ zs) (map_append f xs ys)

-- so many tables, and behind them the later ones
tables_from : (rows : RowMap) (n count : ℕ)
    → tagged n (map (λ (k : ℕ). map pair_at (at k (entries rows))) (range_with_len n count)) ++ map row_of (from (n + count) (entries rows)) ≡ map row_of (from n (entries rows))
tables_from rows n zero = let same : n + 0 ≡ n = omega arith in ap (λ k. map row_of (from k (entries rows))) same
tables_from rows n (suc count) =
    let es : Entries = entries rows in
    let own : TableRows = map (tag n) (map pair_at (at n es)) in
    let others : TableRows = tagged (n + 1) (map (λ (k : ℕ). map pair_at (at k es)) (range_with_len (n + 1) count)) in
    let same : n + suc count ≡ n + 1 + count = omega arith in
    append_assoc own others (map row_of (from (n + suc count) es))
    ∙ ap (λ k. own ++ (others ++ map row_of (from k es))) same
    ∙ (λ i. tag_own n es i ++ tables_from rows (n + 1) count i)
    ∙ sym (map_append row_of (at n es) (from (n + 1) es))
    ∙ ap (map row_of) (sym (from_table n es (entries_sorted rows)))

from_none : (es : Entries) → from 0 es ≡ es
from_none [] = refl
from_none (e ∷ es) = rw (reaches 0 e.0.0 (omega arith)) (ap (λ xs. e ∷ xs) (from_none es))

finds_itself : (e : (ℕ × ℕ) × Row) (other : Option Row) → cond (eq_by_cmp pair_cmp e.0 e.0) (Some e.1) other ≡ Some e.1
finds_itself e other = ap (λ o. cond (is_eq o) (Some e.1) other) (tied_itself pair_cmp_total e.0)

-- where no row is of a table from this one on, no entry is
none_from : (n : ℕ) (es : Entries) → ((place : ℕ × ℕ) → n ≤ place.0 → find pair_cmp place es ≡ None) → from n es ≡ []
none_from n [] none = refl
none_from n (e ∷ es) none = elim (cases_lt e.0.0 n) as (λ _. from n (e ∷ es) ≡ []) [
  | inl lower ↦ rw (misses n e.0.0 lower) (none_from n es (λ place high. behind place (none place high)))
  | inr upper ↦ absurd (let is : Some e.1 ≡ None = sym (finds_itself e (find pair_cmp e.0 es)) ∙ none e.0 upper in cc)
] where
  behind : (place : ℕ × ℕ) → cond (eq_by_cmp pair_cmp place e.0) (Some e.1) (find pair_cmp place es) ≡ None → find pair_cmp place es ≡ None
  behind place is = elim (eq_by_cmp pair_cmp place e.0) as (λ b. cond b (Some e.1) (find pair_cmp place es) ≡ None → find pair_cmp place es ≡ None) [
    | true ↦ λ some. cc
    | false ↦ λ rest. rest
  ] is

-- the lists of the first tables, of tables that have no rows in others, are all rows
pub rows_tagged : (tables : TableMap) (count : ℕ) → ((table key : ℕ) → count ≤ table → value_at tables table key ≡ None)
    → tagged 0 (map (λ (n : ℕ). pairs_of n tables) (range_with_len 0 count)) ≡ all_rows tables.rows
rows_tagged tables count none =
    let es : Entries = entries tables.rows in
    let lists : TableRows = tagged 0 (map (λ (n : ℕ). pairs_of n tables) (range_with_len 0 count)) in
    let empty : from (0 + count) es ≡ [] = none_from (0 + count) es (λ place high. sym (get-entries tables.rows place) ∙ none place.0 place.1 (omega (arith, high))) in
    sym (append-nil lists) ∙ ap (λ xs. lists ++ map row_of xs) (sym empty) ∙ tables_from tables.rows 0 count ∙ ap (map row_of) (from_none es)

-- ---- the map of the rows of a map

entry_again : (es : Entries) → map entry_of (map row_of es) ≡ es
entry_again [] = refl
entry_again (e ∷ es) = ap (λ xs. e ∷ xs) (entry_again es)

pub map_of-all_rows : (rows : RowMap) → map_of (all_rows rows) ≡ rows
map_of-all_rows rows =
    ap (from_entries {R = pair_cmp}) (entry_again (entries rows))
    ∙ same_map pair_cmp_total pair_cmp-IsAntisymmetric (from_entries (entries rows)) rows (λ place. get-from_entries pair_cmp_total (entries rows) place ∙ sym (get-entries rows place))

-- the rows of a map stand in order
pub in_order : (rows : TableRows) (of : RowMap) → rows ≡ all_rows of → StandInOrder rows
in_order rows of is = is ∙ ap all_rows (sym (map_of-all_rows of) ∙ ap map_of (sym is))
