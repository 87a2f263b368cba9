-- A row changes: its record is written, and its entry in the index moves.
use Rattle.std.proofs.Common.{◌≡◌, ◌≢◌, ℕ, ◌^◌, ◌<◌, List, [], ◌∷◌, length, Option, None, Some, Result, Ok, refl, sym, subst, arith}
use Rattle.plain_data.specs.State.{State}
use Rattle.record_store.specs.Meaning.{Meaning}
use Rattle.record_store.specs.declared.walk.Walk.{Walk}
use Rattle.ordered_index.specs.declared.key.Key.{Key}
use Rattle.replay_model.specs.TableMap.{Row, column_in, with_value}
use Rattle.stored_tables.specs.Answers.{Held, Has, Becomes, DueBy, HasRow, Rewrites, TreeHas}
use Rattle.stored_tables.specs.declared.reading.Found.{Found}
use Rattle.stored_tables.specs.Moved.{Step, Midway}
use Rattle.stored_tables.specs.Places.{index_tree, table_limit}
use Rattle.stored_tables.specs.Plan.{Move, IsDue, moves_entry}
use Rattle.stored_tables.specs.Plan.Move.{entry_inserted, entry_removed}
use Rattle.stored_tables.specs.Runs.{Runs}
use Rattle.stored_tables.specs.Tables.{row_words}
use Rattle.stored_tables.proofs.Runs.{runs_map, runs_did, runs_value}
use Rattle.stored_tables.proofs.Midway.{midway_begins, midway_as, then_step}
use Rattle.stored_tables.proofs.Rowing.{leave_index_at, change_plan, change_inserts, becomes_changed}

abbrev Changed : ℕ → ℕ → Found → Row → List Move → Meaning → Meaning → ℕ → State → Held → Type 0
Changed table key found row done first now asked state held = Midway table key found.rid (row_words row) done first now asked state held.0

begins_at : (table key : ℕ) (found : Found) (row : Row) (first now : Meaning) (asked : ℕ) (state : State) (held : Held) → asked ≡ 0
    → Rewrites table key found.rid (row_words row) first now state held.0 → Changed table key found row [] first now asked state held
begins_at table key found row first now asked state held none wrote =
    let P : ℕ → Type 0 = λ n. Changed table key found row [] first now n state held in
    subst P (sym none) (midway_begins table key found.rid (row_words row) first now state held.0 wrote.shape wrote.others
    (λ at. wrote.here))

module _ {S F : Type 0} {read_gives : S → ℕ → Result (Option (List ℕ)) F → S → Type 0} {write_gives : S → ℕ → Option (List ℕ)
    → Result (Unit {0}) F → S → Type 0} {fresh_gives : S → Result ℕ F → S → Type 0} {meaning : S → Meaning} where
  pub changed_row : (table key : ℕ) (index : Option ℕ) (found : Found) (row : Row) (first last : S) (result : Result (Unit {0}) (Walk F))
      → table < table_limit
      → Runs read_gives write_gives fresh_gives meaning (HasRow (meaning first) table key found.rid) (λ _ _ _. ⊥)
      (λ _ asked state places. (asked ≡ 0) × Rewrites table key found.rid (row_words row) (meaning first) (meaning last) state
      places) 1 first last result
      → Runs read_gives write_gives fresh_gives meaning (Has (meaning first) table key index found)
      (DueBy (λ _. moves_entry table key index found.row row)) (λ _. Changed table key found row [] (meaning first) (meaning last)) 1
      first last result
  changed_row table key index found row first last result low wrote =
      runs_map (Has (meaning first) table key index found) (DueBy (λ _. moves_entry table key index found.row row))
      (λ _. Changed table key found row [] (meaning first) (meaning last)) 1 1 first last result (omega arith) wrote
      (λ state held agrees has. (
        held.0,
        (low, has.0.0.shape, has.1.0),
        λ asks never. absurd never,
        λ value asked did. begins_at table key found row (meaning first) (meaning last) asked state held did.0 did.1,
      ))

  -- no entry moves
  pub changed_stays : (table key : ℕ) (index : Option ℕ) (found : Found) (row : Row) (first last : S)
      (early : Result (Unit {0}) (Walk F)) → table < table_limit → key < 2 ^ 64 → length row ≡ 6
      → moves_entry table key index found.row row ≡ []
      → Runs read_gives write_gives fresh_gives meaning (Has (meaning first) table key index found)
      (DueBy (λ _. moves_entry table key index found.row row)) (λ _. Changed table key found row [] (meaning first) (meaning last)) 1
      first last early → early ≡ Ok tt
      → Runs {F = F} read_gives write_gives fresh_gives meaning (Has (meaning first) table key index found)
      (DueBy (λ _. moves_entry table key index found.row row))
      (λ _ asked state held. Becomes (moves_entry table key index found.row row) (with_value held.1 table key row)
      (meaning last) asked state held) 53 first last (Ok (tt {0}))
  changed_stays table key index found row first last early low below six none acc was =
      runs_value (λ _ asked state held. Becomes (moves_entry table key index found.row row) (with_value held.1 table key row)
      (meaning last) asked state held) 1 53 first last early tt tt (omega arith) acc was
      (λ asked state held agrees has did. becomes_changed table key index found row (meaning first) (meaning last) asked state held low
      below six has
      (midway_as table key found.rid (row_words row) [] (moves_entry table key index found.row row) (meaning first) (meaning last) asked
      state held.0 (sym none) did))

  pub changed_removed : (table key column was high : ℕ) (index : Option ℕ) (found : Found) (row : Row) (first middle last : S)
      (early result : Result (Unit {0}) (Walk F)) → table < table_limit → index ≡ Some column → was ≡ column_in column found.row
      → high ≡ column_in column row → was ≢ high
      → Runs read_gives write_gives fresh_gives meaning (Has (meaning first) table key index found)
      (DueBy (λ _. moves_entry table key index found.row row)) (λ _. Changed table key found row [] (meaning first)
      (meaning middle)) 1 first middle early → early ≡ Ok tt
      → Runs read_gives write_gives fresh_gives meaning (TreeHas (meaning middle) (index_tree table) (record { high = was; low = key })
      (Some found.rid)) (λ _ _ _. ⊥) (λ _. Step found.rid (entry_removed (index_tree table) (record { high = was; low = key }))
      (meaning middle) (meaning last)) 1 middle last result
      → Runs read_gives write_gives fresh_gives meaning (Has (meaning first) table key index found)
      (DueBy (λ _. moves_entry table key index found.row row))
      (λ _. Changed table key found row (entry_removed (index_tree table) (record { high = was; low = key }) ∷ []) (meaning first)
      (meaning last)) 2 first last result
  changed_removed table key column was high index found row first middle last early result low is before after differs acc done step =
      let W : Key = record { high = was; low = key } in
      let I : Key = record { high = high; low = key } in
      then_step table key found.rid (row_words row) (moves_entry table key index found.row row) []
      (entry_inserted (index_tree table) I ∷ []) (entry_removed (index_tree table) W) 1 1 first middle last early tt result low
      (change_plan table key column was high index found.row row is before after differs) (λ maps t k. refl)
      acc done step (λ asks state places never. absurd never)
      (λ asked state held has m. leave_index_at table key column was index found (meaning first) (meaning middle) state held m.between
      low is before has m.shape m.maps)

  pub changed_moves : (table key column was high : ℕ) (index : Option ℕ) (found : Found) (row : Row) (first middle last : S)
      (early result : Result (Unit {0}) (Walk F)) → table < table_limit → key < 2 ^ 64 → length row ≡ 6 → index ≡ Some column
      → was ≡ column_in column found.row → high ≡ column_in column row → was ≢ high
      → Runs read_gives write_gives fresh_gives meaning (Has (meaning first) table key index found)
      (DueBy (λ _. moves_entry table key index found.row row))
      (λ _. Changed table key found row (entry_removed (index_tree table) (record { high = was; low = key }) ∷ []) (meaning first)
      (meaning middle)) 2 first middle early → early ≡ Ok tt
      → Runs read_gives write_gives fresh_gives meaning (TreeHas (meaning middle) (index_tree table) (record { high = high; low = key })
      None) (λ asks _ places. IsDue (entry_inserted (index_tree table) (record { high = high; low = key })) places asks)
      (λ _. Step found.rid (entry_inserted (index_tree table) (record { high = high; low = key })) (meaning middle)
      (meaning last)) 51 middle last result
      → Runs read_gives write_gives fresh_gives meaning (Has (meaning first) table key index found)
      (DueBy (λ _. moves_entry table key index found.row row))
      (λ _ asked state held. Becomes (moves_entry table key index found.row row) (with_value held.1 table key row)
      (meaning last) asked state held) 53 first last result
  changed_moves table key column was high index found row first middle last early result low below six is before after differs acc done
      step =
      let W : Key = record { high = was; low = key } in
      let I : Key = record { high = high; low = key } in
      let plan = change_plan table key column was high index found.row row is before after differs in
      runs_did (λ _ asked state held. Becomes (moves_entry table key index found.row row) (with_value held.1 table key row)
      (meaning last) asked state held) 53 53 first last result (omega arith)
      (then_step table key found.rid (row_words row) (moves_entry table key index found.row row)
      (entry_removed (index_tree table) W ∷ []) [] (entry_inserted (index_tree table) I) 2 51 first middle last early tt result low
      plan (λ maps t k. refl)
      acc done step (λ asks state places due. due)
      (λ asked state held has m. change_inserts table key column was high index found (meaning first) (meaning middle) state held
      m.between low is before differs has m.shape m.maps))
      (λ value asked state held has did. becomes_changed table key index found row (meaning first) (meaning last) asked state held low
      below six has
      (midway_as table key found.rid (row_words row) (entry_removed (index_tree table) W ∷ entry_inserted (index_tree table) I ∷ [])
      (moves_entry table key index found.row row) (meaning first) (meaning last) asked state held.0 (sym plan) did))
