-- A row leaves: its moves one after another.
use Rattle.std.proofs.Common.{◌≡◌, ℕ, ◌^◌, ◌<◌, List, [], ◌∷◌, ◌++◌, Option, None, Some, Result, Ok, refl, sym, ap, ◌∙◌, arith}
use Rattle.std.proofs.lemmas.List.{append_assoc}
use Rattle.plain_data.specs.State.{State, overlay}
use Rattle.record_store.specs.Meaning.{Meaning}
use Rattle.record_store.specs.declared.walk.Walk.{Walk}
use Rattle.ordered_index.specs.declared.key.Key.{Key}
use Rattle.replay_model.specs.TableMap.{column_in, value_at, without}
use Rattle.stored_tables.specs.Answers.{Held, Has, Becomes, DueBy, HasRow, DropsRow, ChainHas, TreeHas, leave_moves}
use Rattle.stored_tables.specs.declared.reading.Found.{Found}
use Rattle.stored_tables.specs.Moved.{Step, Midway}
use Rattle.stored_tables.specs.Places.{index_tree, table_limit}
use Rattle.stored_tables.specs.Plan.{Move, leaves_index}
use Rattle.stored_tables.specs.Plan.Move.{row_dropped, pair_removed, entry_removed}
use Rattle.stored_tables.specs.Runs.{Runs}
use Rattle.stored_tables.specs.Tables.{row_words}
use Rattle.stored_tables.proofs.Runs.{runs_did}
use Rattle.stored_tables.proofs.Finding.{row_there}
use Rattle.stored_tables.proofs.Midway.{midway_begins, midway_as, runs_begin, then_step, then_dropped}
use Rattle.stored_tables.proofs.Rowing.{row_key, leave_index_at, leave_chain, leave_tree, leave_row_at, becomes_departed}

-- where nothing was done yet
pub has_words : (table key : ℕ) (index : Option ℕ) (found : Found) (first : Meaning) (state : State) (held : Held) → table < table_limit
    → Has first table key index found state held → overlay first.writes state found.rid ≡ Some (row_words found.row)
has_words table key index found first state held low has =
    let row = row_there (overlay first.writes state) (value_at held.1 table key) (held.0.row_at table key) found.rid has.1.0
    (has.0.0.tied.rows table key low) in
    let same : row.0 ≡ found.row = cc in
    row.2 ∙ ap (λ r. Some (row_words r)) same

leave_begins : (table key : ℕ) (index : Option ℕ) (found : Found) (first : Meaning) (state : State) (held : Held) → table < table_limit
    → Has first table key index found state held → Midway table key found.rid (row_words found.row) [] first first 0 state held.0
leave_begins table key index found first state held low has =
    midway_begins table key found.rid (row_words found.row) first first state held.0 has.0.0.shape
    (λ other number at inside differs is. refl) (λ at. has_words table key index found first state held low has)

abbrev Left : ℕ → ℕ → Found → List Move → Meaning → Meaning → ℕ → State → Held → Type 0
Left table key found done first now asked state held = Midway table key found.rid (row_words found.row) done first now asked state held.0

module _ {S F : Type 0} {read_gives : S → ℕ → Result (Option (List ℕ)) F → S → Type 0} {write_gives : S → ℕ → Option (List ℕ)
    → Result (Unit {0}) F → S → Type 0} {fresh_gives : S → Result ℕ F → S → Type 0} {meaning : S → Meaning} where
  begun : (table key : ℕ) (index : Option ℕ) (found : Found) (first : S) → table < table_limit
      → Runs {F = F} read_gives write_gives fresh_gives meaning (Has (meaning first) table key index found)
      (DueBy (λ _. leave_moves table key index found.row)) (λ _. Left table key found [] (meaning first) (meaning first)) 0 first first
      (Ok (tt {0}))
  begun table key index found first low =
      runs_begin (Has (meaning first) table key index found) (DueBy (λ _. leave_moves table key index found.row))
      (λ _. Left table key found [] (meaning first) (meaning first)) first
      (λ state held has. leave_begins table key index found (meaning first) state held low has)

  pub left_none : (table key : ℕ) (index : Option ℕ) (found : Found) (first : S) → table < table_limit → index ≡ None
      → Runs {F = F} read_gives write_gives fresh_gives meaning (Has (meaning first) table key index found)
      (DueBy (λ _. leave_moves table key index found.row)) (λ _. Left table key found (leaves_index table key index found.row)
      (meaning first) (meaning first)) 1 first first (Ok (tt {0}))
  left_none table key index found first low is =
      runs_did (λ _. Left table key found (leaves_index table key index found.row) (meaning first) (meaning first)) 0 1 first first
      (Ok (tt {0})) (omega arith) (begun table key index found first low)
      (λ value asked state held has did. midway_as table key found.rid (row_words found.row) [] (leaves_index table key index found.row)
      (meaning first) (meaning first) asked state held.0 (rw is refl) did)

  pub left_index : (table key column high : ℕ) (index : Option ℕ) (found : Found) (first last : S) (result : Result (Unit {0}) (Walk F))
      → table < table_limit → index ≡ Some column → high ≡ column_in column found.row
      → Runs read_gives write_gives fresh_gives meaning (TreeHas (meaning first) (index_tree table) (record { high = high; low = key })
      (Some found.rid)) (λ _ _ _. ⊥) (λ _. Step found.rid (entry_removed (index_tree table) (record { high = high; low = key }))
      (meaning first) (meaning last)) 1 first last result
      → Runs read_gives write_gives fresh_gives meaning (Has (meaning first) table key index found)
      (DueBy (λ _. leave_moves table key index found.row)) (λ _. Left table key found (leaves_index table key index found.row)
      (meaning first) (meaning last)) 1 first last result
  left_index table key column high index found first last result low is same step =
      let I : Key = record { high = high; low = key } in
      runs_did (λ _. Left table key found (leaves_index table key index found.row) (meaning first) (meaning last)) 1 1 first last result
      (omega arith)
      (then_step table key found.rid (row_words found.row) (leave_moves table key index found.row) []
      (pair_removed table key ∷ entry_removed table (row_key key) ∷ row_dropped table key ∷ [])
      (entry_removed (index_tree table) I) 0 1 first first last (Ok tt) tt result low (rw (is, same) refl) (λ maps t k. refl)
      (begun table key index found first low) refl step (λ asks state places never. absurd never)
      (λ before state held has m. leave_index_at table key column high index found (meaning first) (meaning first) state held m.between
      low is same has m.shape m.maps))
      (λ value asked state held has did. midway_as table key found.rid (row_words found.row) (entry_removed (index_tree table) I ∷ [])
      (leaves_index table key index found.row) (meaning first) (meaning last) asked state held.0 (rw (is, same) refl) did)

  pub left_pair : (table key : ℕ) (index : Option ℕ) (found : Found) (first middle last : S) (early result : Result (Unit {0}) (Walk F))
      → table < table_limit
      → Runs read_gives write_gives fresh_gives meaning (Has (meaning first) table key index found)
      (DueBy (λ _. leave_moves table key index found.row)) (λ _. Left table key found (leaves_index table key index found.row)
      (meaning first) (meaning middle)) 1 first middle early → early ≡ Ok tt
      → Runs read_gives write_gives fresh_gives meaning (ChainHas (meaning middle) table key (Some found.rid)) (λ _ _ _. ⊥)
      (λ _. Step found.rid (pair_removed table key) (meaning middle) (meaning last)) 1 middle last result
      → Runs read_gives write_gives fresh_gives meaning (Has (meaning first) table key index found)
      (DueBy (λ _. leave_moves table key index found.row))
      (λ _. Left table key found (leaves_index table key index found.row ++ pair_removed table key ∷ []) (meaning first)
      (meaning last)) 2 first last result
  left_pair table key index found first middle last early result low acc was step =
      then_step table key found.rid (row_words found.row) (leave_moves table key index found.row)
      (leaves_index table key index found.row) (entry_removed table (row_key key) ∷ row_dropped table key ∷ [])
      (pair_removed table key) 1 1 first middle last early tt result low refl (λ maps t k. refl)
      acc was step (λ asks state places never. absurd never)
      (λ before state held has m. leave_chain table key index found (meaning first) (meaning middle) state held m.between low has m.shape
      m.maps)

  pub left_tree : (table key : ℕ) (index : Option ℕ) (found : Found) (first middle last : S) (early result : Result (Unit {0}) (Walk F))
      → table < table_limit
      → Runs read_gives write_gives fresh_gives meaning (Has (meaning first) table key index found)
      (DueBy (λ _. leave_moves table key index found.row))
      (λ _. Left table key found (leaves_index table key index found.row ++ pair_removed table key ∷ []) (meaning first)
      (meaning middle)) 2 first middle early → early ≡ Ok tt
      → Runs read_gives write_gives fresh_gives meaning (TreeHas (meaning middle) table (row_key key) (Some found.rid)) (λ _ _ _. ⊥)
      (λ _. Step found.rid (entry_removed table (row_key key)) (meaning middle) (meaning last)) 1 middle last result
      → Runs read_gives write_gives fresh_gives meaning (Has (meaning first) table key index found)
      (DueBy (λ _. leave_moves table key index found.row))
      (λ _. Left table key found (leaves_index table key index found.row ++ pair_removed table key ∷ entry_removed table
      (row_key key) ∷ []) (meaning first) (meaning last)) 3 first last result
  left_tree table key index found first middle last early result low acc was step =
      let L : List Move = leaves_index table key index found.row in
      let a : Move = pair_removed table key in
      let b : Move = entry_removed table (row_key key) in
      runs_did (λ _. Left table key found (L ++ a ∷ b ∷ []) (meaning first) (meaning last)) 3 3 first last result (omega arith)
      (then_step table key found.rid (row_words found.row) (leave_moves table key index found.row) (L ++ a ∷ [])
      (row_dropped table key ∷ []) b 2 1 first middle last early tt result low
      (sym (append_assoc L (a ∷ []) (b ∷ row_dropped table key ∷ []))) (λ maps t k. refl)
      acc was step (λ asks state places never. absurd never)
      (λ before state held has m. leave_tree table key index found (meaning first) (meaning middle) state held m.between low has m.shape
      m.maps))
      (λ value asked state held has did. midway_as table key found.rid (row_words found.row) ((L ++ a ∷ []) ++ b ∷ []) (L ++ a ∷ b ∷ [])
      (meaning first) (meaning last) asked state held.0 (append_assoc L (a ∷ []) (b ∷ [])) did)

  pub left_row : (table key : ℕ) (index : Option ℕ) (found : Found) (first middle last : S) (early result : Result (Unit {0}) (Walk F))
      → table < table_limit → key < 2 ^ 64
      → Runs read_gives write_gives fresh_gives meaning (Has (meaning first) table key index found)
      (DueBy (λ _. leave_moves table key index found.row))
      (λ _. Left table key found (leaves_index table key index found.row ++ pair_removed table key ∷ entry_removed table
      (row_key key) ∷ []) (meaning first) (meaning middle)) 3 first middle early → early ≡ Ok tt
      → Runs read_gives write_gives fresh_gives meaning (HasRow (meaning middle) table key found.rid) (λ _ _ _. ⊥)
      (λ _ asked state places. (asked ≡ 0) × DropsRow table key (meaning middle) (meaning last) state places) 1 middle last result
      → Runs read_gives write_gives fresh_gives meaning (Has (meaning first) table key index found)
      (DueBy (λ _. leave_moves table key index found.row)) (λ _ asked state held. Becomes (leave_moves table key index found.row)
      (without held.1 table key) (meaning last) asked state held) 4 first last result
  left_row table key index found first middle last early result low below acc was drop =
      let L : List Move = leaves_index table key index found.row in
      let a : Move = pair_removed table key in
      let b : Move = entry_removed table (row_key key) in
      let d : Move = row_dropped table key in
      runs_did (λ _ asked state held. Becomes (leave_moves table key index found.row) (without held.1 table key) (meaning last) asked
      state held) 4 4 first last result (omega arith)
      (then_dropped table key found.rid (row_words found.row) (L ++ a ∷ b ∷ []) 3 first middle last early tt result low acc was drop
      (λ before state held has m. leave_row_at table key index found (meaning first) state held m.between has m.maps))
      (λ value asked state held has did. becomes_departed table key index found (meaning first) (meaning last) asked state held low below
      has
      (midway_as table key found.rid (row_words found.row) ((L ++ a ∷ b ∷ []) ++ d ∷ []) (leave_moves table key index found.row)
      (meaning first) (meaning last) asked state held.0 (append_assoc L (a ∷ b ∷ []) (d ∷ [])) did))
