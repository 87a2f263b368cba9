-- A state stands for one tables at most.
use Rattle.std.proofs.Common.{◌≡◌, ℕ, ◌+◌, ◌<◌, List, [], ◌∷◌, length, take, get_or, Option, None, Some, refl, sym, ap, ◌∙◌, subst, inl, inr}
use Rattle.std.specs.Prelude.{MatchOption}
use Rattle.std.specs.Ordering.{nat_cmp}
use Rattle.std.specs.Cmp.{IsTotalOrder, nat_cmp_total, on_total}
use Rattle.std.specs.FinMap.{IsAntisymmetric, same_map}
use Rattle.std.proofs.Math.Seq.{take-append_seam}
use Rattle.std.proofs.lemmas.Bool.{cases_lt}
use Rattle.std.proofs.lemmas.Cmp.{then_total}
use Rattle.std.proofs.lemmas.Map.Lookups.{exact_pairs, exact_unsigned}
use Rattle.std.proofs.lemmas.Option.{same_Some, none-some}
use lib.ListN.{replicate}
use Rattle.plain_data.specs.State.{State}
use Rattle.hash_index.specs.Node.{next_node}
use Rattle.hash_index.specs.Chain.{Leads, record_at, record_of, row_pairs, bucket_of, start_of}
use Rattle.replay_model.specs.TableMap.{TableMap, RowMap, NumberMap, Row, pair_cmp, value_at, index_of}
use Rattle.stored_tables.specs.Places.{Places, base_of, root_of, head_of, index_tree, table_limit}
use Rattle.stored_tables.specs.Shape.{IsShape, head_words}
use Rattle.stored_tables.specs.Tables.{StandsFor, IsRow, row_words}
use Rattle.stored_tables.specs.Laws.{OneTables}
use Rattle.stored_tables.proofs.Frames.{bucket_below}

-- ---- a state has one row of nodes from a record on

same_node : (state : State) (from : Option ℕ) (x y : ℕ × List ℕ) → from ≡ Some x.0 → from ≡ Some y.0 → state x.0 ≡ Some x.1 → state y.0 ≡ Some y.1 → x ≡ y
same_node state from x y from_x from_y at_x at_y =
    let first : x.0 ≡ y.0 = same_Some x.0 y.0 (sym from_x ∙ from_y) in
    let second : x.1 ≡ y.1 = same_Some x.1 y.1 (sym at_x ∙ ap state first ∙ at_y) in
    ap (λ r. (r, x.1)) first ∙ ap (λ w. (y.0, w)) second

same_row : (size size' position position' : ℕ) (state : State) (from : Option ℕ) (row row' : List (ℕ × List ℕ)) → Leads size state position from row None → Leads size' state position' from row' None → row ≡ row'
same_row size size' position position' state from [] [] leads leads' = refl
same_row size size' position position' state from [] (y ∷ ys) leads leads' = absurd (none-some y.0 (sym leads ∙ leads'.0))
same_row size size' position position' state from (x ∷ xs) [] leads leads' = absurd (none-some x.0 (sym leads' ∙ leads.0))
same_row size size' position position' state from (x ∷ xs) (y ∷ ys) leads leads' =
    let same = same_node state from x y leads.0 leads'.0 leads.1 leads'.1 in
    let P : ℕ × List ℕ → Type 0 = λ n. Leads size' state (position' + 1) (next_node n.1) ys None in
    ap (λ n. n ∷ xs) same
    ∙ ap (λ ns. y ∷ ns)
    (same_row size size' (position + 1) (position' + 1) state (next_node x.1) xs ys leads.3 (subst P (sym same) leads'.3))

same_record : (size size' table key : ℕ) (state : State) (places places' : Places) → table < table_limit → IsShape size state places → IsShape size' state places' → record_of (places.rows table) key ≡ record_of (places'.rows table) key
same_record size size' table key state places places' within shape shape' =
    let number = bucket_of key in
    let first = shape.chains table within in
    let second = shape'.chains table within in
    ap (λ row. record_at (row_pairs row) key)
    (same_row size size' 0 0 state (start_of state (base_of table + number)) (places.rows table number) (places'.rows table number)
    (first.walks number (bucket_below key)) (second.walks number (bucket_below key)))

-- ---- a record has one row of a table

same_columns : (columns columns' : Row) → length columns ≡ 6 → length columns' ≡ 6 → row_words columns ≡ row_words columns' → columns ≡ columns'
same_columns columns columns' six six' same =
    sym (take-append_seam columns (replicate 26 0)) ∙ ap (λ ws. take (length columns) ws) same
    ∙ ap (λ n. take n (row_words columns')) (six ∙ sym six') ∙ take-append_seam columns' (replicate 26 0)

same_found : (state : State) (found found' : Option Row) (rid : Option ℕ) → IsRow state found rid → IsRow state found' rid → found ≡ found'
same_found state found found' None is is' = is ∙ sym is'
same_found state found found' (Some at) is is' =
    let same = same_columns is.0 is'.0 is.2 is'.2 (same_Some (row_words is.0) (row_words is'.0) (sym is.3 ∙ is'.3)) in
    is.1 ∙ ap (λ c. Some c) same ∙ sym is'.1

-- ---- a head has one column

abbrev Says : Option (List ℕ) → Option (List ℕ) → Option ℕ → Type 0
Says value root column = MatchOption column ((value ≡ None) × (root ≡ None)) (λ c. value ≡ Some (head_words c))

same_head : (value root : Option (List ℕ)) (a b : Option ℕ) → Says value root a → Says value root b → a ≡ b
same_head value root None None first second = refl
same_head value root None (Some b) first second = absurd (none-some (head_words b) (sym first.0 ∙ second))
same_head value root (Some a) None first second = absurd (none-some (head_words a) (sym second.0 ∙ first))
same_head value root (Some a) (Some b) first second =
    ap (λ ws. Some (get_or ws 0 0)) (same_Some (head_words a) (head_words b) (sym first ∙ second))

-- ---- so it has one tables

pair_total : IsTotalOrder pair_cmp
pair_total = then_total (on_total (λ (pair : ℕ × ℕ). pair.0) nat_cmp_total) (on_total (λ (pair : ℕ × ℕ). pair.1) nat_cmp_total)

pair_exact : IsAntisymmetric pair_cmp
pair_exact = exact_pairs nat_cmp nat_cmp exact_unsigned exact_unsigned

same_tables : (t t' : TableMap) → ((table key : ℕ) → value_at t table key ≡ value_at t' table key) → ((table : ℕ) → index_of table t ≡ index_of table t') → t ≡ t'
same_tables t t' values columns =
    let rows : t.rows ≡ t'.rows = same_map pair_total pair_exact t.rows t'.rows (λ q. values q.0 q.1) in
    let indexes : t.indexes ≡ t'.indexes = same_map nat_cmp_total exact_unsigned t.indexes t'.indexes columns in
    ap (λ (r : RowMap). let x : TableMap = record { rows = r; indexes = t.indexes } in x) rows
    ∙ ap (λ (n : NumberMap). let x : TableMap = record { rows = t'.rows; indexes = n } in x) indexes

module _ (size size' : ℕ) (state : State) (places places' : Places) (tables tables' : TableMap) (stands : StandsFor size state places tables) (stands' : StandsFor size' state places' tables') where
  same_at : (table key : ℕ) → table < table_limit → places.row_at table key ≡ places'.row_at table key
  same_at table key within =
      let tied = stands.tied in let tied' = stands'.tied in
      sym (tied.chain table key within) ∙ same_record size size' table key state places places' within stands.shape stands'.shape
      ∙ tied'.chain table key within

  same_value : (table key : ℕ) → value_at tables table key ≡ value_at tables' table key
  same_value table key =
      let tied = stands.tied in let tied' = stands'.tied in
      elim (cases_lt table 8) as (λ _. value_at tables table key ≡ value_at tables' table key) [
        | inl within ↦
            let P : Option ℕ → Type 0 = λ o. IsRow state (value_at tables table key) o in
            same_found state (value_at tables table key) (value_at tables' table key) (places'.row_at table key)
            (subst P (same_at table key within) (tied.rows table key within)) (tied'.rows table key within)
        | inr out ↦ tied.no_row table key out ∙ sym (tied'.no_row table key out)
      ]

  same_index : (table : ℕ) → index_of table tables ≡ index_of table tables'
  same_index table =
      let tied = stands.tied in let tied' = stands'.tied in
      let shape = stands.shape in let shape' = stands'.shape in
      elim (cases_lt table 8) as (λ _. index_of table tables ≡ index_of table tables') [
        | inl within ↦
            tied.columns table within
            ∙ same_head (state (head_of table)) (state (root_of (index_tree table))) (places.column_at table) (places'.column_at table)
            (shape.heads table within) (shape'.heads table within)
            ∙ sym (tied'.columns table within)
        | inr out ↦ tied.no_index table out ∙ sym (tied'.no_index table out)
      ]

  pub same_all : tables ≡ tables'
  same_all = same_tables tables tables' same_value same_index

pub one_tables : OneTables
one_tables size size' state places places' tables tables' stands stands' = same_all size size' state places places' tables tables' stands stands'
