use Rattle.std.proofs.Common.{◌≡◌, ◌≢◌, AllPairs, ℕ, List, ap, sym, refl, subst, Some, ◌∙◌, arith}
use Rattle.std.proofs.lemmas.List.{take_all}
use Rattle.std.proofs.lemmas.Option.{slice_get-map, get_or_from_slice_get, slice_get_within}
use Rattle.std.specs.List.{slice_get}
use Rattle.std.specs.FinMap as finite
use Rattle.std.specs.Prelude.{option_map}
use Rattle.replay_model.specs.declared.listed.Listed.{Listed}
use Rattle.replay_model.specs.TableMap.{RowMap}
use Rattle.replay_model.specs.Effect.{by_column}
use Rattle.replay_model.specs.Input.{IsColumn}
use Rattle.replay_model.specs.Listed.{columns_of}
use Rattle.replay_model.proofs.ListedRows.{columns_push, get-by_column, listed_push, one_place}
use Rattle.replay_model.proofs.tables.loaded_indexes.Goals as goal

pub loop-table-preserved : goal.loop-table-preserved
loop-table-preserved c =
    let rows : RowMap = c.args.rows.now in (
      ap columns_of c.in_ok-push.ensures.items
          ∙ columns_push c.loop-table.loaded.items _ c.args.indexes.now c.loop-table.table-index _ c.loop-table.invariant.0 c.loop-table-test.true refl,
      λ i k at. listed_push rows c.loop-table.loaded.items _ c.loop-table.invariant.1
          (λ v k. ap (λ (m : RowMap). finite.get m (v, k)) (c.in_ok-rows.ensures ∙ ap (by_column _) (c.from_vec-pairs.ensures ∙ c.in_ok-under.ensures)) ∙ get-by_column _ _ v k rows) i k (subst (λ (xs : List Listed). slice_get xs i ≡ Some k) c.in_ok-push.ensures.items at),
    )

pub returns-clause-columns : goal.returns-clause-columns
returns-clause-columns c = c.loop-table.invariant.0 ∙ take_all c.loop-table.table-index c.args.indexes.now (omega arith)

pub returns-clause-listed : goal.returns-clause-listed
returns-clause-listed c =
    let columns = c.loop-table.invariant.0 ∙ take_all c.loop-table.table-index c.args.indexes.now (omega arith) in
    record {
      columns = λ i l at.
          let column : Listed → ℕ × ℕ = λ x. (x.table, x.column) in
          let here = slice_get-map column c.loop-table.loaded.items i ∙ ap (option_map column) at in
          let there = subst (λ (xs : List (ℕ × ℕ)). slice_get xs i ≡ Some (column l)) columns here in
          subst (λ (p : ℕ × ℕ). IsColumn p.1) (get_or_from_slice_get c.args.indexes.now i (column l) (column l) there) (c.requires.columns i (column l) (slice_get_within c.args.indexes.now i (column l) there));
      one_each = one_place c.loop-table.loaded.items (subst (λ (xs : List (ℕ × ℕ)). AllPairs (λ a b. a.0 ≢ b.0) xs) (sym columns) c.requires.one_each);
      listed = c.loop-table.invariant.1;
    }
