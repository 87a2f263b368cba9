-- A move of a chain or a tree, as a change of one spot.
use Rattle.std.proofs.Common.{◌≡◌, ◌≢◌, ℕ, ◌+◌, ◌<◌, ◌≤◌, cond, ◌==◌, List, length, Contains, Option, None, Some, refl, sym, ap, subst, ◌∙◌, inl, inr, eq-eqb}
use Rattle.std.specs.Prelude.{option_to_list}
use Rattle.std.proofs.lemmas.Bool.Decides.{eqb_tells}
use Rattle.plain_data.specs.State.{State, overlay}
use Rattle.record_store.specs.Meaning.{Meaning}
use Rattle.record_store.specs.Spots.{IsLaid, IsMoved}
use Rattle.hash_index.specs.Chain.{record_of, bucket_of}
use Rattle.record_store.specs.Links.{records_of}
use Rattle.hash_index.specs.Changes.{IsPut, IsRemoved}
use Rattle.ordered_index.specs.declared.key.Key.{Key}
use Rattle.ordered_index.specs.Asks.{records_due}
use Rattle.ordered_index.specs.Changes.{IsInserted, IsTakenOut}
use Rattle.ordered_index.specs.Keys.{is_same}
use Rattle.ordered_index.specs.Node.{Content}
use Rattle.ordered_index.specs.Tree.{record_of_key, tree_records, In}
use Rattle.stored_tables.specs.Moved.{moved, set_key, Shaped, RowsStay, Step}
use Rattle.stored_tables.specs.Places.{Places, Spot, holds, base_of, root_of, with_chain, with_tree, table_limit, tree_limit, fixed_records}
use Rattle.stored_tables.specs.Places.Spot.{bucket, tree, row}
use Rattle.stored_tables.specs.Plan.Move.{pair_put, pair_removed, entry_inserted, entry_removed}
use Rattle.stored_tables.specs.Plan.Moves.{pair_put_in, pair_removed_from, entry_inserted_in, entry_removed_from}
use Rattle.stored_tables.specs.Shape.{IsShape}
use Rattle.stored_tables.specs.Steps.{IsDeclared, set_at}
use Rattle.stored_tables.proofs.Replaced.{rows_here, rows_other, leaves_here, leaves_other}
use Rattle.stored_tables.proofs.BecomesMaps.{key_here, key_other}
use Rattle.stored_tables.proofs.Frames.{bucket_below}
use Rattle.stored_tables.proofs.Spots.{bucket_row, tree_row}
use Rattle.stored_tables.proofs.StepsChains.{chain_put, chain_removed}
use Rattle.stored_tables.proofs.StepsTrees.{tree_inserted, tree_taken_out}
use Rattle.stored_tables.proofs.Ties.{set_here, set_other}

-- where another spot changed, rows keep their records
stay_moved : (fixed first : ℕ) (own : Spot) (was now : ℕ → Type 0) (state state' : State) (places places' : Places)
    → IsLaid (holds places) state → IsLaid (holds places') state' → IsMoved fixed first was now state state'
    → ((rid : ℕ) → was rid → holds places own rid) → ((rid : ℕ) → now rid → holds places' own rid)
    → ((table key : ℕ) → own ≢ row table key) → ((table key : ℕ) → places'.row_at table key ≡ places.row_at table key)
    → (other number at : ℕ) → other < table_limit → places.row_at other number ≡ Some at → state' at ≡ state at
stay_moved fixed first own was now state state' places places' laid laid' moved in_was in_now apart rows other number at low is =
    moved.outside at (λ here. apart other number (laid'.once at own (row other number) (in_now at here) (low, rows other number ∙ is)))
    (λ here. apart other number (laid.once at own (row other number) (in_was at here) (low, is)))

shaped_now : (before now : Meaning) (state : State) (places : Places) → now.size ≡ before.size
    → IsShape before.size (overlay now.writes state) places → Shaped now state places
shaped_now before now state places same shape = let Z : ℕ → Type 0 = λ n. IsShape n (overlay now.writes state) places in subst Z
    (sym same) shape

-- ---- a chain

chain_maps : (table key : ℕ) (rid : Option ℕ) (places : Places) (rows' : ℕ → List (ℕ × List ℕ))
    → ((other : ℕ) → record_of rows' other ≡ cond (other == key) rid (record_of (places.rows table) other))
    → (other number : ℕ) → record_of ((with_chain places table rows').rows other) number ≡ set_at table key rid
    (λ t k. record_of (places.rows t) k) other number
chain_maps table key rid places rows' at other number = elim (eqb_tells other table) as
    (λ _. record_of ((with_chain places table rows').rows other) number ≡ set_at table key rid (λ t k. record_of (places.rows t) k) other
    number) [
      | inl same ↦
          let E : ℕ → Type 0 = λ t. record_of ((with_chain places table rows').rows t) number ≡ set_at table key rid
          (λ t k. record_of (places.rows t) k) t number in
          subst E (sym same.1) (ap (λ rows. record_of rows number) (rows_here places table rows') ∙ at number
          ∙ sym (set_here table key rid (λ t k. record_of (places.rows t) k) number))
      | inr differs ↦
          ap (λ rows. record_of rows number) (rows_other places table rows' other differs.1)
          ∙ sym (set_other table key rid (λ t k. record_of (places.rows t) k) other number differs.1)
    ]

module _ (table key rid : ℕ) (before now : Meaning) (state : State) (places : Places) (rows' : ℕ → List (ℕ × List ℕ))
    (low : table < table_limit) (enough : fixed_records ≤ before.fixed) (same : now.size ≡ before.size)
    (shape : Shaped before state places) where
  chain_stays : (fixed first : ℕ) → IsShape before.size (overlay now.writes state) (with_chain places table rows')
      → IsMoved fixed first (Contains (records_of (places.rows table (bucket_of key)))) (Contains (records_of (rows' (bucket_of key))))
      (overlay before.writes state) (overlay now.writes state) → RowsStay before now state places
  chain_stays fixed first shape' moved =
      stay_moved fixed first (bucket table (bucket_of key)) (Contains (records_of (places.rows table (bucket_of key))))
      (Contains (records_of (rows' (bucket_of key)))) (overlay before.writes state) (overlay now.writes state) places
      (with_chain places table rows') shape.laid shape'.laid moved
      (λ r here. (low, bucket_below key, here))
      (λ r here. (
        low,
        bucket_below key,
        (let P : (ℕ → List (ℕ × List ℕ)) → Type 0 = λ rows. Contains (records_of (rows (bucket_of key)))
            r in subst P (sym (rows_here places table rows')) here),
      ))
      (λ t k. bucket_row table (bucket_of key) t k) (λ t k. refl)

  pub step_put : (fresh : Option ℕ) (asked : ℕ) → record_of (places.rows table) key ≡ None → asked ≡ length (option_to_list fresh)
      → IsPut (base_of table) key rid fresh before now state (places.rows table) rows'
      → Step rid (pair_put table key) before now asked state places
  step_put fresh asked absent count put =
      let shape' = chain_put table key rid fresh before now state places rows' low enough shape put in
      record {
        after = with_chain places table rows';
        moves = rw count (pair_put_in places table key rid fresh rows' absent put.own_row
            (λ other differs. put.other_rows other differs));
        shape = shaped_now before now state _ same shape';
        maps = record {
          chain = chain_maps table key (Some rid) places rows' put.at_key;
          tree = λ number other. refl;
          row_at = λ t k. refl;
          column_at = λ t. refl;
        };
        stay = chain_stays before.fixed (base_of table + bucket_of key) shape' put.moved;
      }

  pub step_removed : IsRemoved (base_of table) key before now state (places.rows table) rows'
      → Step rid (pair_removed table key) before now 0 state places
  step_removed removed =
      let shape' = chain_removed table key before now state places rows' low enough shape removed in
      record {
        after = with_chain places table rows';
        moves = pair_removed_from places table key rows' removed.own_row (λ other differs. removed.other_rows other differs);
        shape = shaped_now before now state _ same shape';
        maps = record {
          chain = chain_maps table key None places rows' removed.at_key;
          tree = λ number other. refl;
          row_at = λ t k. refl;
          column_at = λ t. refl;
        };
        stay = chain_stays before.fixed (base_of table + bucket_of key) shape' removed.moved;
      }

-- ---- a tree

tree_maps : (number : ℕ) (key : Key) (rid : Option ℕ) (places : Places) (levels' : List (List (ℕ × Content)))
    (leaves' : List (ℕ × Content))
    → ((other : Key) → record_of_key leaves' other ≡ cond (is_same other key) rid (record_of_key (places.leaves number) other))
    → (other : ℕ) (at : Key) → record_of_key ((with_tree places number levels' leaves').leaves other) at ≡ set_key number key rid
    (λ n k. record_of_key (places.leaves n) k) other at
tree_maps number key rid places levels' leaves' is other at = elim (eqb_tells other number) as
    (λ _. record_of_key ((with_tree places number levels' leaves').leaves other) at ≡ set_key number key rid
    (λ n k. record_of_key (places.leaves n) k) other at) [
      | inl same ↦
          let E : ℕ → Type 0 = λ t. record_of_key ((with_tree places number levels' leaves').leaves t) at ≡ set_key number key rid
          (λ n k. record_of_key (places.leaves n) k) t at in
          subst E (sym same.1) (ap (λ leaves. record_of_key leaves at) (leaves_here places number levels' leaves') ∙ is at
          ∙ sym (key_here number key rid (λ n k. record_of_key (places.leaves n) k) at))
      | inr differs ↦
          ap (λ leaves. record_of_key leaves at) (leaves_other places number levels' leaves' other differs.1)
          ∙ sym (key_other number key rid (λ n k. record_of_key (places.leaves n) k) other at differs.1)
    ]

levels_here : (places : Places) (number : ℕ) (levels' : List (List (ℕ × Content))) (leaves' : List (ℕ × Content))
    → (with_tree places number levels' leaves').levels number ≡ levels'
levels_here places number levels' leaves' = rw (eq-eqb number number refl) refl

module _ (number : ℕ) (key : Key) (rid : ℕ) (before now : Meaning) (state : State) (places : Places)
    (levels' : List (List (ℕ × Content))) (leaves' : List (ℕ × Content)) (low : number < tree_limit)
    (enough : fixed_records ≤ before.fixed) (same : now.size ≡ before.size) (declared : IsDeclared places number)
    (shape : Shaped before state places) where
  pub tree_stays : (fixed first : ℕ) → IsShape before.size (overlay now.writes state) (with_tree places number levels' leaves')
      → IsMoved fixed first (λ r. In r (tree_records (places.levels number) (places.leaves number)))
      (λ r. In r (tree_records levels' leaves')) (overlay before.writes state) (overlay now.writes state)
      → RowsStay before now state places
  tree_stays fixed first shape' moved =
      stay_moved fixed first (tree number) (λ r. In r (tree_records (places.levels number) (places.leaves number)))
      (λ r. In r (tree_records levels' leaves')) (overlay before.writes state) (overlay now.writes state) places
      (with_tree places number levels' leaves') shape.laid shape'.laid moved
      (λ r here. (low, here))
      (λ r here. (low, rw (levels_here places number levels' leaves', leaves_here places number levels' leaves') here))
      (λ t k. tree_row number t k) (λ t k. refl)

  pub step_inserted : IsInserted (root_of number) key rid before now state (places.levels number) (places.leaves number) levels' leaves'
      → Step rid (entry_inserted number key) before now (records_due key (places.levels number) (places.leaves number)) state places
  step_inserted inserted =
      let shape' = tree_inserted number key rid before now state places levels' leaves' low enough declared shape inserted in
      record {
        after = with_tree places number levels' leaves';
        moves = entry_inserted_in places number key rid levels' leaves' inserted.was_absent inserted.shape inserted.leaves_grow;
        shape = shaped_now before now state _ same shape';
        maps = record {
          chain = λ t k. refl;
          tree = tree_maps number key (Some rid) places levels' leaves' inserted.at_key;
          row_at = λ t k. refl;
          column_at = λ t. refl;
        };
        stay = tree_stays before.fixed (root_of number) shape' inserted.moved;
      }

module _ (number : ℕ) (key : Key) (rid : ℕ) (before now : Meaning) (state : State) (places : Places) (leaves' : List (ℕ × Content))
    (low : number < tree_limit) (enough : fixed_records ≤ before.fixed) (same : now.size ≡ before.size)
    (declared : IsDeclared places number) (shape : Shaped before state places) where
  pub step_taken_out : IsTakenOut (root_of number) key before now state (places.levels number) (places.leaves number) leaves'
      → Step rid (entry_removed number key) before now 0 state places
  step_taken_out out =
      let shape' = tree_taken_out number key before now state places leaves' low enough declared shape out in
      record {
        after = with_tree places number (places.levels number) leaves';
        moves = entry_removed_from places number key leaves' out.leaves_stay (λ other. out.at_key other);
        shape = shaped_now before now state _ same shape';
        maps = record {
          chain = λ t k. refl;
          tree = tree_maps number key None places (places.levels number) leaves' out.at_key;
          row_at = λ t k. refl;
          column_at = λ t. refl;
        };
        stay = tree_stays number key rid before now state places (places.levels number) leaves' low enough same declared shape
            before.fixed (root_of number) shape' out.moved;
      }
