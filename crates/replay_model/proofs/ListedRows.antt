-- Rows of a table listed by a column: what stands where, and what a range of them holds.
use Rattle.std.proofs.Common.{◌≡◌, ◌≢◌, ℕ, ◌<◌, Bool, true, false, cond, ◌==◌, ◌&&◌, T, List, [], ◌∷◌, ◌++◌, AllPairs, option_map, map, filter, take, Option, Some, None, ◌+◌, ◌-◌, length, get_or, drop, refl, sym, ap, subst, ◌∙◌, arith, ◌⊎◌, ⊎_elim, inl, inr, eq-eqb, ne_eqb}
use Rattle.std.specs.declared.cmp.Ordering.TheVariants.{Equal}
use Rattle.std.specs.Ordering.{eq_by_cmp, nat_cmp}
use Rattle.std.specs.FinMap.{entries, entries_sorted, get, get-entries, get-from_entries, get-insert, get-remove, insert, remove, same_map, is_sorted, find}
use Rattle.std.specs.FinMap.Entries.{below_all, where_key, is_sorted-where_key, find-where_key, same_entries}
use Rattle.std.proofs.lemmas.Bool.Decides.{nat_tests}
use Rattle.replay_model.specs.TableMap.{RowMap, Row, TableMap, pair_cmp, pair_at, column_in, pairs_of}
use Rattle.replay_model.specs.Effect.{by_column, found, lies_between}
use Rattle.replay_model.specs.RowsIn.{put_at, rows_in, first_spanning}
use Rattle.replay_model.specs.Listed.{where_value, IsListedBy, IsRelisted, AreListed, columns_of}
use Rattle.replay_model.specs.declared.listed.Listed.{Listed}
use Rattle.replay_model.specs.Input.{IsColumn}
use Rattle.replay_model.proofs.Items.{drop_at}
use Rattle.std.proofs.lemmas.Bool.{eqb-true}
use Rattle.std.proofs.lemmas.Option.{slice_get_within, slice_get-get_or, get_or_from_slice_get, slice_get-map, same_Some, none-some}
use Rattle.std.proofs.lemmas.List.{take_more, map-append, get_or-set_same, get_or-set_other, length-set, get_or-map, set-get_or, map-set}
use mathlib.Core.Logic.{dite}
use Prim.Native.Nat.{zero, suc}
use native.Mathlib.Decide.{ℕ_discrete, dec_lt}
use Rattle.std.specs.List.{slice_get, slice_set}
use Rattle.replay_model.proofs.RowMap.{Entries, pair_cmp_total, pair_cmp-IsAntisymmetric, same_row}

-- two places tie where both numbers are the same
pub ties : (a b : ℕ × ℕ) → eq_by_cmp pair_cmp a b ≡ ((a.0 == b.0) && (a.1 == b.1))
ties a b = grind (arith, nat_tests)

-- a row at its value in the column, and its key
abbrev pub at_column : ℕ → ℕ × Row → (ℕ × ℕ) × Row
at_column c pair = ((column_in c pair.1, pair.0), pair.1)

second_of : (a b : Bool) → T (a && b) → T b
second_of true b h = h
second_of false b h = absurd h

first_of : (a b : Bool) → T (a && b) → T a
first_of true b h = tt
first_of false b h = absurd h

-- ---- what stands at a place

-- a key below all keys is not there
below_none : (k : ℕ × ℕ) (es : Entries) → T (below_all pair_cmp k es) → find pair_cmp k es ≡ None
below_none k [] h = refl
below_none k (e ∷ es) h = grind (arith, nat_tests, ties k e.0, below_none k es, h)

-- those of the table, at the value in the column and the key
abbrev listed : ℕ → ℕ → Entries → Entries
listed table c es = map (at_column c) (map pair_at (filter (λ e. e.0.0 == table) es))

-- one more row of the table in front: at its own key no other row is found
in_front : (c value : ℕ) (row : Row) (same : Bool) (behind : Option Row) (rest : Option Row) → rest ≡ where_value c behind value → (same ≡ true → behind ≡ None)
    → cond ((value == column_in c row) && same) (Some row) rest ≡ where_value c (cond same (Some row) behind) value
in_front c value row true behind rest is none =
    elim (value == column_in c row) as (λ b. cond (b && true) (Some row) rest ≡ cond b (Some row) None) [
      | true ↦ refl
      | false ↦ is ∙ ap (λ o. where_value c o value) (none refl)
    ]
in_front c value row false behind rest is none =
    elim (value == column_in c row) as (λ b. cond (b && false) (Some row) rest ≡ where_value c behind value) [ true ↦ is | false ↦ is ]

-- a table's rows are listed at their values: the row at a key is found at its value in the column alone
find_listed : (table c value key : ℕ) (es : Entries) → T (is_sorted pair_cmp es) → find pair_cmp (value, key) (listed table c es) ≡ where_value c (find pair_cmp (table, key) es) value
find_listed table c value key [] h = refl
find_listed table c value key (e ∷ es) h =
    let rest = find_listed table c value key es (second_of (below_all pair_cmp e.0 es) (is_sorted pair_cmp es) h) in
    let below : T (below_all pair_cmp e.0 es) = first_of (below_all pair_cmp e.0 es) (is_sorted pair_cmp es) h in
    let F : Option Row = find pair_cmp (table, key) es in
    let P : Bool → Type 0 = λ b. find pair_cmp (value, key) (map (at_column c) (map pair_at (cond b (e ∷ filter (λ e. e.0.0 == table) es) (filter (λ e. e.0.0 == table) es)))) ≡ where_value c (cond (eq_by_cmp pair_cmp (table, key) e.0) (Some e.1) F) value in
    elim (e.0.0 == table) as (λ b. (e.0.0 == table) ≡ b → P b) [
      | false ↦ λ other.
          let apart : eq_by_cmp pair_cmp (table, key) e.0 ≡ false = ties (table, key) e.0 ∙ grind (arith, nat_tests, other) in
          rest ∙ ap (λ b. where_value c (cond b (Some e.1) F) value) (sym apart)
      | true ↦ λ own.
          let tie : eq_by_cmp pair_cmp (table, key) e.0 ≡ (key == e.0.1) = ties (table, key) e.0 ∙ grind (arith, nat_tests, own) in
          let none : (key == e.0.1) ≡ true → F ≡ None = λ same. ap (λ q. find pair_cmp q es) (same_row (table, key) e.0 (tie ∙ same)) ∙ below_none e.0 es below in
          ap (λ b. cond b (Some e.1) (find pair_cmp (value, key) (listed table c es))) (ties (value, key) (column_in c e.1, e.0.1))
          ∙ in_front c value e.1 (key == e.0.1) F (find pair_cmp (value, key) (listed table c es)) rest none
          ∙ ap (λ b. where_value c (cond b (Some e.1) F) value) (sym tie)
    ] refl

-- so the rows of a table by a column are where they should be
pub get-by_column : (table c value key : ℕ) (rows : RowMap) → get (by_column c (rows_in table rows)) (value, key) ≡ where_value c (get rows (table, key)) value
get-by_column table c value key rows =
    get-from_entries pair_cmp_total (listed table c (entries rows)) (value, key)
    ∙ find_listed table c value key (entries rows) (entries_sorted rows) ∙ ap (λ o. where_value c o value) (sym (get-entries rows (table, key)))

-- and rows that are listed so are these
pub listed_is : (table c : ℕ) (rows listed : RowMap) → IsListedBy table c rows listed → listed ≡ by_column c (rows_in table rows)
listed_is table c rows listed is =
    same_map pair_cmp_total pair_cmp-IsAntisymmetric listed (by_column c (rows_in table rows)) (λ q. is q.0 q.1 ∙ sym (get-by_column table c q.0 q.1 rows))

-- ---- what a range holds

-- those of a list whose column lies in the range are those whose first number does
find_spanned : (c lo hi : ℕ) (q : ℕ × ℕ) (pairs : List (ℕ × Row)) → find pair_cmp q (map (at_column c) (filter (λ pair. lies_between lo hi (column_in c pair.1)) pairs)) ≡ cond (lies_between lo hi q.0) (find pair_cmp q (map (at_column c) pairs)) None
find_spanned c lo hi q [] = elim (lies_between lo hi q.0) as (λ b. find {X = Row} pair_cmp q [] ≡ cond b (find {X = Row} pair_cmp q []) None) [ true ↦ refl | false ↦ refl ]
find_spanned c lo hi q (pair ∷ pairs) =
    let rest = find_spanned c lo hi q pairs in
    let k : ℕ × ℕ = (column_in c pair.1, pair.0) in
    let L : Option Row = find pair_cmp q (map (at_column c) (filter (λ pair. lies_between lo hi (column_in c pair.1)) pairs)) in
    let M : Option Row = find pair_cmp q (map (at_column c) pairs) in
    elim (eq_by_cmp pair_cmp q k) as (λ t. eq_by_cmp pair_cmp q k ≡ t → find pair_cmp q (map (at_column c) (cond (lies_between lo hi k.0) (pair ∷ filter (λ pair. lies_between lo hi (column_in c pair.1)) pairs) (filter (λ pair. lies_between lo hi (column_in c pair.1)) pairs))) ≡ cond (lies_between lo hi q.0) (cond t (Some pair.1) M) None) [
      | true ↦ λ tie.
          let is = same_row q k tie in
          subst (λ (p : ℕ × ℕ). find pair_cmp q (map (at_column c) (cond (lies_between lo hi k.0) (pair ∷ filter (λ pair. lies_between lo hi (column_in c pair.1)) pairs) (filter (λ pair. lies_between lo hi (column_in c pair.1)) pairs))) ≡ cond (lies_between lo hi p.0) (Some pair.1) None) (sym is)
          (elim (lies_between lo hi k.0) as (λ b. lies_between lo hi k.0 ≡ b → find pair_cmp q (map (at_column c) (cond b (pair ∷ filter (λ pair. lies_between lo hi (column_in c pair.1)) pairs) (filter (λ pair. lies_between lo hi (column_in c pair.1)) pairs))) ≡ cond b (Some pair.1) None) [
            | true ↦ λ inside. ap (λ b. cond b (Some pair.1) L) tie
            | false ↦ λ outside. rest ∙ ap (λ b. cond b M None) (ap (λ (p : ℕ × ℕ). lies_between lo hi p.0) is ∙ outside)
          ] refl)
      | false ↦ λ apart.
          (elim (lies_between lo hi k.0) as (λ b. find pair_cmp q (map (at_column c) (cond b (pair ∷ filter (λ pair. lies_between lo hi (column_in c pair.1)) pairs) (filter (λ pair. lies_between lo hi (column_in c pair.1)) pairs))) ≡ L) [
            | true ↦ ap (λ b. cond b (Some pair.1) L) apart
            | false ↦ refl
          ]) ∙ rest
    ] refl

same_kept : (lo hi : ℕ) (q x : ℕ × ℕ) → pair_cmp q x ≡ Equal → lies_between lo hi x.0 ≡ lies_between lo hi q.0
same_kept lo hi q x tie = ap (λ (p : ℕ × ℕ). lies_between lo hi p.0) (sym (pair_cmp-IsAntisymmetric q x tie))

entries_spanned : (c lo hi : ℕ) (pairs : List (ℕ × Row)) → entries (by_column c (filter (λ pair. lies_between lo hi (column_in c pair.1)) pairs)) ≡ where_key pair_cmp (λ k. lies_between lo hi k.0) (entries (by_column c pairs))
entries_spanned c lo hi pairs =
    let some : RowMap = by_column c (filter (λ pair. lies_between lo hi (column_in c pair.1)) pairs) in
    let all : RowMap = by_column c pairs in
    same_entries pair_cmp pair_cmp_total pair_cmp-IsAntisymmetric _ _ (entries_sorted some) (is_sorted-where_key pair_cmp (λ k. lies_between lo hi k.0) (entries all) (entries_sorted all)) (λ q.
    sym (get-entries some q)
    ∙ get-from_entries pair_cmp_total (map (at_column c) (filter (λ pair. lies_between lo hi (column_in c pair.1)) pairs)) q
    ∙ find_spanned c lo hi q pairs
    ∙ ap (λ o. cond (lies_between lo hi q.0) o None) (sym (get-from_entries pair_cmp_total (map (at_column c) pairs) q) ∙ get-entries all q)
    ∙ sym (find-where_key pair_cmp (λ k. lies_between lo hi k.0) q (λ x tie. same_kept lo hi q x tie) (entries all)))

-- a search by a column is a range of the rows by that column
pub found_spanning : (table c lo hi limit : ℕ) (tables : TableMap) → first_spanning lo hi limit (by_column c (pairs_of table tables)) ≡ found table c lo hi limit tables
found_spanning table c lo hi limit tables = ap (λ (es : Entries). map pair_at (take limit es)) (sym (entries_spanned c lo hi (pairs_of table tables)))

-- ---- one row listed anew

-- where there was no row, or one with the same value
pub relisted_new : (c key : ℕ) (row : Row) (before : RowMap) → ((v : ℕ) → (v == column_in c row) ≡ false → get before (v, key) ≡ None) → IsRelisted c key (Some row) before (insert before (column_in c row, key) row)
relisted_new c key row before none v other =
    get-insert pair_cmp_total before (column_in c row, key) row (v, other) ∙ ap (λ b. cond b (Some row) (get before (v, other))) (ties (v, other) (column_in c row, key))
    ∙ elim (other == key) as (λ b. (other == key) ≡ b → cond ((v == column_in c row) && b) (Some row) (get before (v, other)) ≡ cond b (cond (v == column_in c row) (Some row) None) (get before (v, other))) [
      | false ↦ λ _. elim (v == column_in c row) as (λ a. cond (a && false) (Some row) (get before (v, other)) ≡ get before (v, other)) [ true ↦ refl | false ↦ refl ]
      | true ↦ λ same. elim (v == column_in c row) as (λ a. (v == column_in c row) ≡ a → cond (a && true) (Some row) (get before (v, other)) ≡ cond a (Some row) None) [
        | true ↦ λ _. refl
        | false ↦ λ differs. ap (λ k. get before (v, k)) (eqb-true other key same) ∙ none v differs
      ] refl
    ] refl

-- where the row had another value
pub relisted_moved : (c key former : ℕ) (row : Row) (before : RowMap) → (former ≡ column_in c row → ⊥) → ((v : ℕ) → (v == former) ≡ false → get before (v, key) ≡ None) → IsRelisted c key (Some row) before (remove (insert before (column_in c row, key) row) (former, key))
relisted_moved c key former row before differs none v other =
    let value : ℕ = column_in c row in
    get-remove pair_cmp_total (insert before (value, key) row) (former, key) (v, other)
    ∙ (λ i. cond (ties (v, other) (former, key) i) None (get-insert pair_cmp_total before (value, key) row (v, other) i))
    ∙ ap (λ b. cond ((v == former) && (other == key)) None (cond b (Some row) (get before (v, other)))) (ties (v, other) (value, key))
    ∙ elim (other == key) as (λ b. (other == key) ≡ b → cond ((v == former) && b) None (cond ((v == value) && b) (Some row) (get before (v, other))) ≡ cond b (cond (v == value) (Some row) None) (get before (v, other))) [
      | false ↦ λ _. elim (v == former) as (λ a. cond (a && false) None (cond ((v == value) && false) (Some row) (get before (v, other))) ≡ get before (v, other)) [
        | true ↦ elim (v == value) as (λ a. cond (a && false) (Some row) (get before (v, other)) ≡ get before (v, other)) [ true ↦ refl | false ↦ refl ]
        | false ↦ elim (v == value) as (λ a. cond (a && false) (Some row) (get before (v, other)) ≡ get before (v, other)) [ true ↦ refl | false ↦ refl ]
      ]
      | true ↦ λ same. elim (v == former) as (λ a. (v == former) ≡ a → cond (a && true) None (cond ((v == value) && true) (Some row) (get before (v, other))) ≡ cond (v == value) (Some row) None) [
        | true ↦ λ is. ap (λ b. cond b (Some row) None) (sym (ne_eqb v value (λ e. differs (sym (eqb-true v former is) ∙ e))))
        | false ↦ λ apart. elim (v == value) as (λ a. cond (a && true) (Some row) (get before (v, other)) ≡ cond a (Some row) None) [
          | true ↦ refl
          | false ↦ ap (λ k. get before (v, k)) (eqb-true other key same) ∙ none v apart
        ]
      ] refl
    ] refl

-- where it is taken out
pub relisted_left : (c key : ℕ) (row : Row) (before : RowMap) → ((v : ℕ) → get before (v, key) ≡ where_value c (Some row) v) → IsRelisted c key None before (remove before (column_in c row, key))
relisted_left c key row before is v other =
    get-remove pair_cmp_total before (column_in c row, key) (v, other) ∙ ap (λ b. cond b None (get before (v, other))) (ties (v, other) (column_in c row, key))
    ∙ elim (other == key) as (λ b. (other == key) ≡ b → cond ((v == column_in c row) && b) None (get before (v, other)) ≡ cond b None (get before (v, other))) [
      | false ↦ λ _. elim (v == column_in c row) as (λ a. cond (a && false) None (get before (v, other)) ≡ get before (v, other)) [ true ↦ refl | false ↦ refl ]
      | true ↦ λ same. elim (v == column_in c row) as (λ a. (v == column_in c row) ≡ a → cond (a && true) None (get before (v, other)) ≡ None) [
        | true ↦ λ _. refl
        | false ↦ λ apart. ap (λ k. get before (v, k)) (eqb-true other key same) ∙ is v ∙ ap (λ b. cond b (Some row) None) apart
      ] refl
    ] refl

-- ---- the column of a table's index

tie : (a b : ℕ) → eq_by_cmp nat_cmp a b ≡ (a == b)
tie a b = grind (arith, nat_tests)

from_place : (xs : List Listed) (i : ℕ) (l : Listed) → slice_get xs i ≡ Some l → drop i xs ≡ l ∷ drop (i + 1) xs
from_place xs i l at =
    let number : i + 1 - 1 ≡ i = omega arith in
    ap (λ n. drop n xs) (sym number) ∙ drop_at xs (i + 1) l (omega arith) (ap (slice_get xs) number ∙ at)

pub find_here : (t : ℕ) (xs : List Listed) (i : ℕ) (l : Listed) → slice_get xs i ≡ Some l → l.table ≡ t → find nat_cmp t (columns_of (drop i xs)) ≡ Some l.column
find_here t xs i l at own =
    ap (λ (ls : List Listed). find nat_cmp t (columns_of ls)) (from_place xs i l at)
    ∙ ap (λ b. cond b (Some l.column) (find nat_cmp t (columns_of (drop (i + 1) xs)))) (tie t l.table ∙ eq-eqb t l.table (sym own))

pub find_past : (t : ℕ) (xs : List Listed) (i : ℕ) (l : Listed) → slice_get xs i ≡ Some l → (l.table ≡ t → ⊥) → find nat_cmp t (columns_of (drop i xs)) ≡ find nat_cmp t (columns_of (drop (i + 1) xs))
find_past t xs i l at other =
    ap (λ (ls : List Listed). find nat_cmp t (columns_of ls)) (from_place xs i l at)
    ∙ ap (λ b. cond b (Some l.column) (find nat_cmp t (columns_of (drop (i + 1) xs)))) (tie t l.table ∙ ne_eqb t l.table (λ e. other (sym e)))

-- ---- all indexes

-- what stands in a list with another item at one place
set_cases : (xs : List Listed) (p : ℕ) (l : Listed) → p < length xs → (i : ℕ) (m : Listed) → slice_get (slice_set xs p l) i ≡ Some m → ((i ≡ p) × (l ≡ m)) ⊎ ((i ≡ p → ⊥) × (slice_get xs i ≡ Some m))
set_cases xs p l within i m here =
    let is = get_or_from_slice_get (slice_set xs p l) i m m here in
    let below : i < length xs = omega (arith, slice_get_within (slice_set xs p l) i m here, length-set xs p l) in
    dite (ℕ_discrete i p)
    (λ own. inl (own, sym (get_or-set_same xs p l m within) ∙ ap (λ n. get_or (slice_set xs p l) n m) (sym own) ∙ is))
    (λ other. inr (other, slice_get-get_or xs i m below ∙ ap Some (sym (get_or-set_other xs p i l m other) ∙ is)))

-- the rows changed at one place of a table that has no index
pub unlisted : (rows rows' : RowMap) (t : ℕ) (indexes : List Listed) → ((i : ℕ) (l : Listed) → slice_get indexes i ≡ Some l → l.table ≡ t → ⊥) → ((other k : ℕ) → (other ≡ t → ⊥) → get rows' (other, k) ≡ get rows (other, k)) → AreListed rows indexes → AreListed rows' indexes
unlisted rows rows' t indexes none others are = record {
  columns = are.columns;
  one_each = are.one_each;
  listed = λ i l at v k. are.listed i l at v k ∙ ap (λ o. where_value l.column o v) (sym (others l.table k (none i l at)));
}

-- or in one that has, whose rows are listed so now
pub listed_anew : (rows rows' : RowMap) (indexes : List Listed) (p : ℕ) (l l' : Listed) → slice_get indexes p ≡ Some l → l'.table ≡ l.table → l'.column ≡ l.column → ((other k : ℕ) → (other ≡ l.table → ⊥) → get rows' (other, k) ≡ get rows (other, k)) → IsListedBy l.table l.column rows' l'.rows → AreListed rows indexes → AreListed rows' (slice_set indexes p l')
listed_anew rows rows' indexes p l l' at same_table same_column others now are =
    let cases : (i : ℕ) (m : Listed) → slice_get (slice_set indexes p l') i ≡ Some m → ((i ≡ p) × (l' ≡ m)) ⊎ ((i ≡ p → ⊥) × (slice_get indexes i ≡ Some m)) = set_cases indexes p l' (slice_get_within indexes p l at) in
    record {
      columns = λ i m here. ⊎_elim (λ own. subst (λ (x : Listed). IsColumn x.column) own.1 (subst IsColumn (sym same_column) (are.columns p l at))) (λ other. are.columns i m other.1) (cases i m here);
      one_each = λ i j a b here there same.
          ⊎_elim (λ own. ⊎_elim (λ own2. own.0 ∙ sym own2.0) (λ other2. own.0 ∙ are.one_each p j l b at other2.1 (sym same_table ∙ ap (λ (x : Listed). x.table) own.1 ∙ same)) (cases j b there))
          (λ other. ⊎_elim (λ own2. are.one_each i p a l other.1 at (same ∙ sym (ap (λ (x : Listed). x.table) own2.1) ∙ same_table) ∙ sym own2.0) (λ other2. are.one_each i j a b other.1 other2.1 same) (cases j b there)) (cases i a here);
      listed = λ i m here. ⊎_elim
          (λ own. subst (λ (x : Listed). IsListedBy x.table x.column rows' x.rows) own.1 (subst (λ c. IsListedBy l'.table c rows' l'.rows) (sym same_column) (subst (λ t. IsListedBy t l.column rows' l'.rows) (sym same_table) now)))
          (λ other v k. are.listed i m other.1 v k ∙ ap (λ o. where_value m.column o v) (sym (others m.table k (λ e. other.0 (are.one_each i p m l other.1 at e)))))
          (cases i m here);
    }

-- an item that was read at a place of a list, also where it was read of an equal one
pub item_at : (xs ys : List Listed) (p : ℕ) (l : Listed) → ys ≡ xs → p < length ys → l ≡ get_or xs p l → slice_get xs p ≡ Some l
item_at xs ys p l same within is = slice_get-get_or xs p l (subst (λ (zs : List Listed). p < length zs) same within) ∙ ap Some (sym is)

-- the columns stay where an item gives way to one of the same table and column
pub columns_same : (xs : List Listed) (p : ℕ) (l l' : Listed) → slice_get xs p ≡ Some l → l'.table ≡ l.table → l'.column ≡ l.column → columns_of (slice_set xs p l') ≡ columns_of xs
columns_same xs p l l' at same_table same_column =
    map-set (λ (x : Listed). (x.table, x.column)) xs p l' ∙ ap (λ (x : ℕ × ℕ). slice_set (columns_of xs) p x) ((λ i. (same_table i, same_column i)) ∙ ap (λ (x : Listed). (x.table, x.column)) (sym (get_or_from_slice_get xs p l l at)) ∙ sym (get_or-map (λ (x : Listed). (x.table, x.column)) xs p l (l.table, l.column) (slice_get_within xs p l at)))
    ∙ set-get_or (columns_of xs) p (l.table, l.column)

-- what the rows have once one was set, or taken out
pub inserted_at : (rows : RowMap) (t key : ℕ) (row : Row) (k : ℕ) → get (insert rows (t, key) row) (t, k) ≡ cond (k == key) (Some row) (get rows (t, k))
inserted_at rows t key row k = get-insert pair_cmp_total rows (t, key) row (t, k) ∙ ap (λ b. cond b (Some row) (get rows (t, k))) (ties (t, k) (t, key) ∙ ap (λ a. a && (k == key)) (eq-eqb t t refl))

pub removed_at : (rows : RowMap) (t key : ℕ) (k : ℕ) → get (remove rows (t, key)) (t, k) ≡ cond (k == key) None (get rows (t, k))
removed_at rows t key k = get-remove pair_cmp_total rows (t, key) (t, k) ∙ ap (λ b. cond b None (get rows (t, k))) (ties (t, k) (t, key) ∙ ap (λ a. a && (k == key)) (eq-eqb t t refl))

pub inserted_apart : (rows : RowMap) (t key : ℕ) (row : Row) (other k : ℕ) → (other ≡ t → ⊥) → get (insert rows (t, key) row) (other, k) ≡ get rows (other, k)
inserted_apart rows t key row other k differs = get-insert pair_cmp_total rows (t, key) row (other, k) ∙ ap (λ b. cond b (Some row) (get rows (other, k))) (ties (other, k) (t, key) ∙ ap (λ a. a && (k == key)) (ne_eqb other t differs))

pub removed_apart : (rows : RowMap) (t key : ℕ) (other k : ℕ) → (other ≡ t → ⊥) → get (remove rows (t, key)) (other, k) ≡ get rows (other, k)
removed_apart rows t key other k differs = get-remove pair_cmp_total rows (t, key) (other, k) ∙ ap (λ b. cond b None (get rows (other, k))) (ties (other, k) (t, key) ∙ ap (λ a. a && (k == key)) (ne_eqb other t differs))

-- rows that are listed anew at one key, where the rows changed
pub relisted_lists : (t c key : ℕ) (row : Option Row) (rows rows' before now : RowMap) → IsListedBy t c rows before → IsRelisted c key row before now → ((k : ℕ) → get rows' (t, k) ≡ cond (k == key) row (get rows (t, k))) → IsListedBy t c rows' now
relisted_lists t c key row rows rows' before now listed relisted changed v k =
    relisted v k ∙ elim (k == key) as (λ b. cond b (where_value c row v) (get before (v, k)) ≡ where_value c (cond b row (get rows (t, k))) v) [ true ↦ refl | false ↦ listed v k ] ∙ ap (λ o. where_value c o v) (sym (changed k))

-- rows that are the same at each place
pub same_listed : (rows rows' : RowMap) (indexes : List Listed) → ((q : ℕ × ℕ) → get rows' q ≡ get rows q) → AreListed rows indexes → AreListed rows' indexes
same_listed rows rows' indexes same are = record {
  columns = are.columns;
  one_each = are.one_each;
  listed = λ i l at v k. are.listed i l at v k ∙ ap (λ o. where_value l.column o v) (sym (same (l.table, k)));
}

-- a row that was not there is taken out
pub removed_nothing : (rows : RowMap) (t key : ℕ) → get rows (t, key) ≡ None → (q : ℕ × ℕ) → get (remove rows (t, key)) q ≡ get rows q
removed_nothing rows t key none q =
    get-remove pair_cmp_total rows (t, key) q
    ∙ elim (eq_by_cmp pair_cmp q (t, key)) as (λ b. eq_by_cmp pair_cmp q (t, key) ≡ b → cond b None (get rows q) ≡ get rows q) [
      | true ↦ λ same. sym (ap (get rows) (same_row q (t, key) same) ∙ none)
      | false ↦ λ _. refl
    ] refl

set_at : (rows : RowMap) (p : ℕ × ℕ) (row : Option Row) (q : ℕ × ℕ) → get (put_at rows p row) q ≡ cond (eq_by_cmp pair_cmp q p) row (get rows q)
set_at rows p None q = get-remove pair_cmp_total rows p q
set_at rows p (Some row) q = get-insert pair_cmp_total rows p row q

-- a row that was set becomes what it was
pub restored_rows : (rows : RowMap) (p : ℕ × ℕ) (row : Row) (was : Option Row) → was ≡ get rows p → put_at (insert rows p row) p was ≡ rows
restored_rows rows p row was is = same_map pair_cmp_total pair_cmp-IsAntisymmetric _ _ (λ q.
    set_at (insert rows p row) p was q ∙ ap (cond (eq_by_cmp pair_cmp q p) was) (get-insert pair_cmp_total rows p row q)
    ∙ elim (eq_by_cmp pair_cmp q p) as (λ b. eq_by_cmp pair_cmp q p ≡ b → cond b was (cond b (Some row) (get rows q)) ≡ get rows q) [
      | true ↦ λ same. is ∙ ap (get rows) (sym (same_row q p same))
      | false ↦ λ _. refl
    ] refl)

-- an item whose parts are those of another is that one, and a list with it in its place is as it was
pub same_item : (xs : List Listed) (p : ℕ) (l l' : Listed) → slice_get xs p ≡ Some l → l'.table ≡ l.table → l'.column ≡ l.column → l'.rows ≡ l.rows → slice_set xs p l' ≡ xs
same_item xs p l l' at table column rows =
    let one : l' ≡ l = λ i. record { table = table i; column = column i; rows = rows i } in
    ap (λ (x : Listed). slice_set xs p x) (one ∙ sym (get_or_from_slice_get xs p l l at)) ∙ set-get_or xs p l

-- one more index of a list
pub listed_push : (rows : RowMap) (xs : List Listed) (l : Listed) → ((i : ℕ) (k : Listed) → slice_get xs i ≡ Some k → IsListedBy k.table k.column rows k.rows) → IsListedBy l.table l.column rows l.rows → (i : ℕ) (k : Listed) → slice_get (xs ++ l ∷ []) i ≡ Some k → IsListedBy k.table k.column rows k.rows
listed_push rows [] l each own zero k at = subst (λ (x : Listed). IsListedBy x.table x.column rows x.rows) (same_Some l k at) own
listed_push rows [] l each own (suc i) k at = absurd (none-some k at)
listed_push rows (x ∷ xs) l each own zero k at = each zero k at
listed_push rows (x ∷ xs) l each own (suc i) k at = listed_push rows xs l (λ j m there. each (suc j) m there) own i k at

-- two items with one table, in a list in which no two have one
not_two : (xs : List Listed) → AllPairs (λ a b. a.0 ≢ b.0) (columns_of xs) → (i j : ℕ) (a b : Listed) → i < j → slice_get xs i ≡ Some a → slice_get xs j ≡ Some b → a.table ≡ b.table → ⊥
not_two xs apart i j a b below here there same =
    let column : Listed → ℕ × ℕ = λ x. (x.table, x.column) in
    let at : (k : ℕ) (x : Listed) → slice_get xs k ≡ Some x → slice_get (columns_of xs) k ≡ Some (column x) = λ k x is. slice_get-map column xs k ∙ ap (option_map column) is in
    let number : (k : ℕ) (x : Listed) → slice_get xs k ≡ Some x → (get_or (columns_of xs) k (0, 0)).0 ≡ x.table = λ k x is. ap (λ (p : ℕ × ℕ). p.0) (get_or_from_slice_get (columns_of xs) k (column x) (0, 0) (at k x is)) in
    apart i j (0, 0) below (slice_get_within (columns_of xs) j (column b) (at j b there)) (number i a here ∙ same ∙ sym (number j b there))

pub one_place : (xs : List Listed) → AllPairs (λ a b. a.0 ≢ b.0) (columns_of xs) → (i j : ℕ) (a b : Listed) → slice_get xs i ≡ Some a → slice_get xs j ≡ Some b → a.table ≡ b.table → i ≡ j
one_place xs apart i j a b here there same =
    dite (dec_lt i j) (λ below. absurd (not_two xs apart i j a b below here there same))
    (λ not_below. dite (dec_lt j i) (λ above. absurd (not_two xs apart j i b a above there here (sym same))) (λ not_above. omega (arith, not_below, not_above)))

pub columns_push : (xs : List Listed) (l : Listed) (columns : List (ℕ × ℕ)) (i : ℕ) (d : ℕ × ℕ) → columns_of xs ≡ take i columns → i < length columns → (l.table, l.column) ≡ get_or columns i d → columns_of (xs ++ l ∷ []) ≡ take (i + 1) columns
columns_push xs l columns i d before below is =
    map-append (λ (x : Listed). (x.table, x.column)) xs (l ∷ []) ∙ (λ j. before j ++ is j ∷ []) ∙ sym (take_more columns i d below)
