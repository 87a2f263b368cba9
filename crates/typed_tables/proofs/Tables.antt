-- A typed table as a map: what it has at a key, its entries, and how it changes with its table.
use Rattle.std.proofs.Common.{◌≡◌, ℕ, ◌<◌, Bool, true, false, cond, ◌==◌, ◌&&◌, T, List, [], ◌∷◌, map, filter, take, All, Option, None, Some, refl, sym, ap, subst, ◌∙◌, arith}
use Rattle.std.specs.Prelude.{option_map}
use Rattle.std.specs.declared.cmp.Ordering.{Ordering}
use Rattle.std.specs.declared.cmp.Ordering.TheVariants.{Less}
use Rattle.std.specs.Cmp.{nat_cmp_total, nat_cmp_is, unsigned_tied}
use Rattle.std.specs.FinMap.{find, is_sorted, entries, from_entries, from_sorted, get, insert, remove, get-entries, get-from_entries, get-from_sorted, entries-from_sorted, get-insert, get-remove, same_map, nat_cmp-IsAntisymmetric}
use Rattle.std.specs.FinMap.Entries.{below_all}
use Rattle.std.specs.Ordering.{nat_cmp, eq_by_cmp, is_lt}
use Rattle.std.proofs.lemmas.Bool.Decides.{nat_tests}
use Rattle.std.proofs.lemmas.List.{take-map}
use Rattle.std.proofs.lemmas.List.Elements.{All-head, All-tail}
use Rattle.replay_model.specs.Effect.{lies_between, scanned}
use Rattle.replay_model.specs.TableMap.{TableMap, Row, pair_cmp, pair_at, pairs_of, value_at, with_value, without}
use Rattle.stored_tables.proofs.Maps.{pair_ties, with_value_rows, without_rows}
use Rattle.stored_tables.proofs.Ties.{set_here}
use Rattle.typed_tables.specs.Typed.{read_as, typed_table, typed_scanned}
use Rattle.typed_tables.proofs.Rising.{Rises, pairs_rise}

-- ---- at a key

same_table : (table key : ℕ) (place : ℕ × ℕ) → (place.0 == table) ≡ true → (table == place.0 && key == place.1) ≡ (key == place.1)
same_table table key place own = grind (arith, nat_tests)

other_table : (table key : ℕ) (place : ℕ × ℕ) → (place.0 == table) ≡ false → (table == place.0 && key == place.1) ≡ false
other_table table key place other = grind (arith, nat_tests)

moved_in : {R : Type 0} (row_of : Row → Option R) (b : Bool) (row : Row) (found : Option Row) → cond b (Some (row_of row)) (option_map row_of found) ≡ option_map row_of (cond b (Some row) found)
moved_in row_of true row found = refl
moved_in row_of false row found = refl

found_typed : {R : Type 0} (row_of : Row → Option R) (table key : ℕ) (es : List ((ℕ × ℕ) × Row)) → find nat_cmp key (map (read_as row_of) (map pair_at (filter (λ (e : (ℕ × ℕ) × Row). e.0.0 == table) es))) ≡ option_map row_of (find pair_cmp (table, key) es)
found_typed row_of table key [] = refl
found_typed row_of table key (e ∷ es) =
    let rest = found_typed row_of table key es in
    let F : List ((ℕ × ℕ) × Row) = filter (λ (f : (ℕ × ℕ) × Row). f.0.0 == table) es in
    let found : Option Row = find pair_cmp (table, key) es in
    elim (e.0.0 == table) as (λ b. (e.0.0 == table) ≡ b → find nat_cmp key (map (read_as row_of) (map pair_at (cond b (e ∷ F) F))) ≡ option_map row_of (cond (eq_by_cmp pair_cmp (table, key) e.0) (Some e.1) found)) [
      | true ↦ λ own.
          ap (λ b. cond b (Some (row_of e.1)) (find nat_cmp key (map (read_as row_of) (map pair_at F)))) (unsigned_tied key e.0.1 ∙ sym (same_table table key e.0 own) ∙ sym (pair_ties (table, key) e.0))
          ∙ ap (cond (eq_by_cmp pair_cmp (table, key) e.0) (Some (row_of e.1))) rest
          ∙ moved_in row_of (eq_by_cmp pair_cmp (table, key) e.0) e.1 found
      | false ↦ λ other. rest ∙ ap (λ b. option_map row_of (cond b (Some e.1) found)) (sym (pair_ties (table, key) e.0 ∙ other_table table key e.0 other))
    ] refl

-- what the typed table has at a key is what the columns there are read as
pub get_typed : {R : Type 0} (row_of : Row → Option R) (table key : ℕ) (tables : TableMap) → get (typed_table row_of table tables) key ≡ option_map row_of (value_at tables table key)
get_typed row_of table key tables =
    get-from_entries nat_cmp_total (map (read_as row_of) (pairs_of table tables)) key
    ∙ found_typed row_of table key (entries tables.rows) ∙ ap (option_map row_of) (sym (get-entries tables.rows (table, key)))

-- ---- its entries

both : (a b : Bool) → T a → T b → T (a && b)
both true b first second = second
both false b first second = absurd first

less_test : (o : Ordering) → Less ≡ o → T (is_lt o)
less_test o is = subst (λ r. T (is_lt r)) is tt

below : {R : Type 0} (row_of : Row → Option R) (key : ℕ) (ps : List (ℕ × Row)) → All (λ (q : ℕ × Row). key < q.0) ps → T (below_all nat_cmp key (map (read_as row_of) ps))
below row_of key [] all = tt
below row_of key (p ∷ ps) all =
    both (is_lt (nat_cmp key p.0)) (below_all nat_cmp key (map (read_as row_of) ps))
    (less_test (nat_cmp key p.0) (nat_cmp_is key p.0 Less (All-head (λ (q : ℕ × Row). key < q.0) p ps all)))
    (below row_of key ps (All-tail (λ (q : ℕ × Row). key < q.0) p ps all))

sorted : {R : Type 0} (row_of : Row → Option R) (ps : List (ℕ × Row)) → Rises ps → T (is_sorted nat_cmp (map (read_as row_of) ps))
sorted row_of [] rises = tt
sorted row_of (p ∷ ps) rises =
    both (below_all nat_cmp p.0 (map (read_as row_of) ps)) (is_sorted nat_cmp (map (read_as row_of) ps)) (below row_of p.0 ps rises.0) (sorted row_of ps rises.1)

pub entries_typed : {R : Type 0} (row_of : Row → Option R) (table : ℕ) (tables : TableMap) → entries (typed_table row_of table tables) ≡ map (read_as row_of) (pairs_of table tables)
entries_typed {R} row_of table tables =
    let es : List (ℕ × Option R) = map (read_as row_of) (pairs_of table tables) in
    let in_order = sorted row_of (pairs_of table tables) (pairs_rise table tables) in
    ap entries (same_map nat_cmp_total nat_cmp-IsAntisymmetric (from_entries {R = nat_cmp} es) (from_sorted {R = nat_cmp} es) (λ q. get-from_entries nat_cmp_total es q ∙ sym (get-from_sorted nat_cmp es q in_order)))
    ∙ entries-from_sorted nat_cmp es in_order

between_read : {R : Type 0} (row_of : Row → Option R) (lo hi : ℕ) (ps : List (ℕ × Row)) → filter (λ (e : ℕ × Option R). lies_between lo hi e.0) (map (read_as row_of) ps) ≡ map (read_as row_of) (filter (λ (p : ℕ × Row). lies_between lo hi p.0) ps)
between_read row_of lo hi [] = refl
between_read {R} row_of lo hi (p ∷ ps) =
    let rest = between_read row_of lo hi ps in
    elim (lies_between lo hi p.0) as (λ b. cond b (read_as row_of p ∷ filter (λ (e : ℕ × Option R). lies_between lo hi e.0) (map (read_as row_of) ps)) (filter (λ (e : ℕ × Option R). lies_between lo hi e.0) (map (read_as row_of) ps)) ≡ map (read_as row_of) (cond b (p ∷ filter (λ (q : ℕ × Row). lies_between lo hi q.0) ps) (filter (λ (q : ℕ × Row). lies_between lo hi q.0) ps))) [
      | true ↦ ap (λ es. read_as row_of p ∷ es) rest
      | false ↦ rest
    ]

-- a scan of the typed table is the scan of its table, as its columns are read
pub scanned_typed : {R : Type 0} (row_of : Row → Option R) (table lo hi limit : ℕ) (tables : TableMap) → typed_scanned row_of table lo hi limit tables ≡ map (read_as row_of) (scanned table lo hi limit tables)
scanned_typed {R} row_of table lo hi limit tables =
    ap (λ es. take limit (filter (λ (e : ℕ × Option R). lies_between lo hi e.0) es)) (entries_typed row_of table tables)
    ∙ ap (take limit) (between_read row_of lo hi (pairs_of table tables))
    ∙ take-map (read_as row_of) limit (filter (λ (p : ℕ × Row). lies_between lo hi p.0) (pairs_of table tables))

-- ---- with another row

set_typed : {R : Type 0} (row_of : Row → Option R) (b : Bool) (columns : Row) (row : R) (found : Option Row) → row_of columns ≡ Some row → option_map row_of (cond b (Some columns) found) ≡ cond b (Some (Some row)) (option_map row_of found)
set_typed row_of true columns row found is = ap (λ r. Some r) is
set_typed row_of false columns row found is = refl

pub put_typed : {R : Type 0} (row_of : Row → Option R) (table key : ℕ) (columns : Row) (row : R) (tables : TableMap) → row_of columns ≡ Some row → typed_table row_of table (with_value tables table key columns) ≡ insert (typed_table row_of table tables) key (Some row)
put_typed row_of table key columns row tables is =
    same_map nat_cmp_total nat_cmp-IsAntisymmetric (typed_table row_of table (with_value tables table key columns)) (insert (typed_table row_of table tables) key (Some row))
    (λ q.
    get_typed row_of table q (with_value tables table key columns)
    ∙ ap (option_map row_of) ((with_value_rows tables table key columns).rows table q ∙ set_here table key (Some columns) (value_at tables) q)
    ∙ set_typed row_of (q == key) columns row (value_at tables table q) is
    ∙ ap (cond (q == key) (Some (Some row))) (sym (get_typed row_of table q tables))
    ∙ ap (λ b. cond b (Some (Some row)) (get (typed_table row_of table tables) q)) (sym (unsigned_tied q key))
    ∙ sym (get-insert nat_cmp_total (typed_table row_of table tables) key (Some row) q))

-- ---- without a row

cut_typed : {R : Type 0} (row_of : Row → Option R) (b : Bool) (found : Option Row) → option_map row_of (cond b None found) ≡ cond b None (option_map row_of found)
cut_typed row_of true found = refl
cut_typed row_of false found = refl

pub cut_table : {R : Type 0} (row_of : Row → Option R) (table key : ℕ) (tables : TableMap) → typed_table row_of table (without tables table key) ≡ remove (typed_table row_of table tables) key
cut_table row_of table key tables =
    same_map nat_cmp_total nat_cmp-IsAntisymmetric (typed_table row_of table (without tables table key)) (remove (typed_table row_of table tables) key)
    (λ q.
    get_typed row_of table q (without tables table key)
    ∙ ap (option_map row_of) ((without_rows tables table key).rows table q ∙ set_here table key None (value_at tables) q)
    ∙ cut_typed row_of (q == key) (value_at tables table q)
    ∙ ap (cond (q == key) None) (sym (get_typed row_of table q tables))
    ∙ ap (λ b. cond b None (get (typed_table row_of table tables) q)) (sym (unsigned_tied q key))
    ∙ sym (get-remove nat_cmp_total (typed_table row_of table tables) key q))
