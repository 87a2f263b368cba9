-- The map of rows: the order of its places, and what a command leaves at each of them.
use Rattle.std.proofs.Common.{◌≡◌, ◌⊎◌, ℕ, cond, ◌==◌, ◌&&◌, Option, None, Some, refl, sym, ap, inl, inr, ◌∙◌, arith}
use Rattle.std.specs.FinMap.{IsAntisymmetric, get, get-insert, get-remove}
use Rattle.std.specs.Ordering.{nat_cmp, eq_by_cmp}
use Rattle.std.specs.Cmp.{IsTotalOrder, nat_cmp_total, on_total}
use Rattle.std.proofs.lemmas.Bool.Decides.{nat_tests, eqb_tells}
use Rattle.std.proofs.lemmas.Cmp.{then_total}
use Rattle.std.proofs.lemmas.Map.Lookups.{exact_pairs, exact_unsigned}
use Rattle.replay_model.specs.TableMap.{TableMap, Row, pair_cmp, value_at, with_value, without}
use Rattle.stored_tables.specs.Steps.{TablesWith}

pub pair_cmp_total : IsTotalOrder pair_cmp
pair_cmp_total = then_total (on_total (λ (place : ℕ × ℕ). place.0) nat_cmp_total) (on_total (λ (place : ℕ × ℕ). place.1) nat_cmp_total)

pub pair_cmp-IsAntisymmetric : IsAntisymmetric pair_cmp
pair_cmp-IsAntisymmetric = exact_pairs nat_cmp nat_cmp exact_unsigned exact_unsigned

-- two places tie where both numbers are the same
pub pair_ties : (x y : ℕ × ℕ) → eq_by_cmp pair_cmp x y ≡ (x.0 == y.0 && x.1 == y.1)
pair_ties x y = grind (arith, nat_tests)

pub with_value_rows : (tables : TableMap) (table key : ℕ) (row : Row)
    → TablesWith table key (Some row) tables (with_value tables table key row)
with_value_rows tables table key row = record {
  rows = λ other number.
      get-insert pair_cmp_total tables.rows (table, key) row (other, number)
      ∙ ap (λ b. cond b (Some row) (get tables.rows (other, number))) (pair_ties (other, number) (table, key));
  indexes = λ other. refl;
}

pub without_rows : (tables : TableMap) (table key : ℕ) → TablesWith table key None tables (without tables table key)
without_rows tables table key = record {
  rows = λ other number. get-remove pair_cmp_total tables.rows (table, key) (other, number)
      ∙ ap (λ b. cond b None (get tables.rows (other, number))) (pair_ties (other, number) (table, key));
  indexes = λ other. refl;
}

-- a row that is there afterwards was put there or was there before
pub value_before : (table key : ℕ) (row : Option Row) (tables tables' : TableMap) (other number : ℕ) (found : Row)
    → TablesWith table key row tables tables' → value_at tables' other number ≡ Some found
    → ((other ≡ table) × (number ≡ key) × (row ≡ Some found)) ⊎ (value_at tables other number ≡ Some found)
value_before table key row tables tables' other number found with_row here =
    let is : cond (other == table && number == key) row (value_at tables other number) ≡ Some found = sym (with_row.rows other number)
    ∙ here in
    elim (eqb_tells other table) as (λ _. ((other ≡ table) × (number ≡ key) × (row ≡ Some found)) ⊎
    (value_at tables other number ≡ Some found)) [
      | inr differs ↦ inr (rw differs.0 at is)
      | inl same ↦ elim (eqb_tells number key) as (λ _. ((other ≡ table) × (number ≡ key) × (row ≡ Some found)) ⊎
          (value_at tables other number ≡ Some found)) [
            | inr differs ↦ inr (rw (same.0, differs.0) at is)
            | inl also ↦ inl (same.1, also.1, rw (same.0, also.0) at is)
          ]
    ]
