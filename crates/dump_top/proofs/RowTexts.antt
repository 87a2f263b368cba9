-- The rows of one table among those of all.
use Rattle.std.proofs.Common.{◌≡◌, ℕ, ◌+◌, ◌<◌, Bool, true, false, cond, ◌==◌, List, [], ◌∷◌, ◌++◌, length, map, filter, take, get_or, sym, ap, refl, ◌∙◌}
use Rattle.std.proofs.lemmas.List.{take_more}
use Rattle.std.specs.FinMap.{entries}
use Rattle.replay_model.specs.TableMap.{Row, loaded, pair_at, pairs_of}
use Rattle.snap_dump.proofs.Tagged.{Entries}
use Rattle.snap_dump.specs.Tagged.{StandInOrder, TableRows, map_of, row_of}
use Rattle.dump_top.specs.Rows.{pairs_in}

-- ---- one row more

filter_append : (p : ℕ × ℕ × Row → Bool) (xs ys : TableRows) → filter p (xs ++ ys) ≡ filter p xs ++ filter p ys
filter_append p [] ys = refl
filter_append p (x ∷ xs) ys =
    let rest = filter_append p xs ys in
    elim (p x) as (λ b. cond b (x ∷ filter p (xs ++ ys)) (filter p (xs ++ ys)) ≡ cond b (x ∷ filter p xs) (filter p xs) ++ filter p ys) [
      | true ↦ ap (λ rows. x ∷ rows) rest
      | false ↦ rest
    ]

map_append : {A B : Type 0} (f : A → B) (xs ys : List A) → map f (xs ++ ys) ≡ map f xs ++ map f ys
map_append f [] ys = refl
map_append f (x ∷ xs) ys = ap (λ zs. f x ∷ zs) (map_append f xs ys)

pairs_in-append : (table : ℕ) (xs ys : TableRows) → pairs_in table (xs ++ ys) ≡ pairs_in table xs ++ pairs_in table ys
pairs_in-append table xs ys =
    let untag : ℕ × ℕ × Row → ℕ × Row = λ row. (row.1, row.2) in
    ap (map untag) (filter_append (λ (row : ℕ × ℕ × Row). row.0 == table) xs ys)
    ∙ map_append untag (filter (λ (row : ℕ × ℕ × Row). row.0 == table) xs) (filter (λ (row : ℕ × ℕ × Row). row.0 == table) ys)

pub pairs_in-more : (table : ℕ) (rows : TableRows) (i : ℕ) (row : ℕ × ℕ × Row) → i < length rows → row ≡ get_or rows i row
    → pairs_in table (take (i + 1) rows) ≡ pairs_in table (take i rows) ++ pairs_in table (row ∷ [])
pairs_in-more table rows i row within here =
    ap (pairs_in table) (take_more rows i row within ∙ ap (λ last. take i rows ++ last ∷ []) (sym here))
    ∙ pairs_in-append table (take i rows) (row ∷ [])

-- ---- rows that stand in order

of_entries : (table : ℕ) (es : Entries) → pairs_in table (map row_of es) ≡ map pair_at (filter (λ (e : (ℕ × ℕ) × Row). e.0.0 == table) es)
of_entries table [] = refl
of_entries table (e ∷ es) =
    let untag : ℕ × ℕ × Row → ℕ × Row = λ row. (row.1, row.2) in
    let rest = of_entries table es in
    elim (e.0.0 == table) as (λ b. map untag (cond b (row_of e ∷ filter (λ (row : ℕ × ℕ × Row). row.0 == table) (map row_of es)) (filter (λ (row : ℕ × ℕ × Row). row.0 == table) (map row_of es)))
    ≡ map pair_at (cond b (e ∷ filter (λ (d : (ℕ × ℕ) × Row). d.0.0 == table) es) (filter (λ (d : (ℕ × ℕ) × Row). d.0.0 == table) es))) [
      | true ↦ ap (λ ps. pair_at e ∷ ps) rest
      | false ↦ rest
    ]

-- those of a table are the rows that the map has there
pub pairs_in-order : (table : ℕ) (rows : TableRows) → StandInOrder rows → pairs_in table rows ≡ pairs_of table (loaded rows [])
pairs_in-order table rows in_order = ap (pairs_in table) in_order ∙ of_entries table (entries (map_of rows))
