-- A row enters: its moves one after another.
use Rattle.std.proofs.Common.{◌≡◌, ℕ, ◌+◌, ◌^◌, ◌<◌, ◌≤◌, List, [], ◌∷◌, ◌++◌, length, Option, None, Some, Result, Ok, refl, sym, subst, arith}
use Rattle.plain_data.specs.State.{State}
use Rattle.record_store.specs.Meaning.{Meaning}
use Rattle.record_store.specs.declared.walk.Walk.{Walk}
use Rattle.ordered_index.specs.declared.key.Key.{Key}
use Rattle.replay_model.specs.TableMap.{Row, column_in, with_value}
use Rattle.stored_tables.specs.Answers.{Held, Lacks, Becomes, DueBy, AddsRow, LacksRow, ChainHas, TreeHas, enter_moves}
use Rattle.stored_tables.specs.Moved.{Step, Midway}
use Rattle.stored_tables.specs.Places.{Places, index_tree, table_limit}
use Rattle.stored_tables.specs.Plan.{Move, MayAsk, IsDue}
use Rattle.stored_tables.specs.Plan.Move.{row_added, pair_put, entry_inserted}
use Rattle.stored_tables.specs.Plan.Follows.{stays}
use Rattle.stored_tables.specs.Runs.{Runs}
use Rattle.stored_tables.specs.Tables.{row_words}
use Rattle.stored_tables.proofs.Runs.{runs_map, runs_did, runs_value, runs_at}
use Rattle.stored_tables.proofs.Midway.{midway_added, midway_as, may_ask, then_step}
use Rattle.stored_tables.proofs.Rowing.{row_key, enter_chain, enter_tree, enter_index, enter_plan, enter_none, becomes_entered}

abbrev In : ℕ → ℕ → ℕ → Row → List Move → Meaning → Meaning → ℕ → State → Held → Type 0
In table key rid row done first now asked state held = Midway table key rid (row_words row) done first now asked state held.0

abbrev one_in : ℕ → ℕ → List Move
one_in table key = row_added table key ∷ []

abbrev two_in : ℕ → ℕ → List Move
two_in table key = row_added table key ∷ pair_put table key ∷ []

abbrev three_in : ℕ → ℕ → List Move
three_in table key = row_added table key ∷ pair_put table key ∷ entry_inserted table (row_key key) ∷ []

first_ask : (planned rest : List Move) (move : Move) (places : Places) (asks : ℕ) → planned ≡ move ∷ rest → IsDue move places asks
    → MayAsk planned places asks
first_ask planned rest move places asks is due =
    let same : 0 + asks ≡ asks = omega arith in
    let P : ℕ → Type 0 = λ n. MayAsk planned places n in
    subst P same (may_ask planned [] rest move places places 0 asks is (stays places) due)

module _ {S F : Type 0} {read_gives : S → ℕ → Result (Option (List ℕ)) F → S → Type 0} {write_gives : S → ℕ → Option (List ℕ)
    → Result (Unit {0}) F → S → Type 0} {fresh_gives : S → Result ℕ F → S → Type 0} {meaning : S → Meaning} where
  pub entered_row : (table key : ℕ) (index : Option ℕ) (row : Row) (first last : S) (result : Result ℕ (Walk F)) → table < table_limit
      → Runs read_gives write_gives fresh_gives meaning (LacksRow (meaning first) table key) (λ asks _ _. asks ≤ 1)
      (λ rid. AddsRow table key rid (row_words row) (meaning first) (meaning last)) 1 first last result
      → Runs read_gives write_gives fresh_gives meaning (Lacks (meaning first) table key index)
      (DueBy (λ _. enter_moves table key index row)) (λ rid. In table key rid row (one_in table key) (meaning first) (meaning last)) 1
      first last result
  entered_row table key index row first last result low adds =
      runs_map (Lacks (meaning first) table key index) (DueBy (λ _. enter_moves table key index row))
      (λ rid. In table key rid row (one_in table key) (meaning first) (meaning last)) 1 1 first last result (omega arith) adds
      (λ state held agrees lacks. (
        held.0,
        (low, lacks.0.0.shape, lacks.1.0),
        λ asks few. first_ask (enter_moves table key index row) _ (row_added table key) held.0 asks refl (few, lacks.1.0),
        λ rid asked did. midway_added table key rid (row_words row) (meaning first) (meaning last) asked state held.0 lacks.1.0 did,
      ))

  pub entered_pair : (table key rid : ℕ) (index : Option ℕ) (row : Row) (first middle last : S) (early : Result ℕ (Walk F))
      (result : Result (Unit {0}) (Walk F)) → table < table_limit
      → Runs read_gives write_gives fresh_gives meaning (Lacks (meaning first) table key index)
      (DueBy (λ _. enter_moves table key index row)) (λ new. In table key new row (one_in table key) (meaning first)
      (meaning middle)) 1 first middle early → early ≡ Ok rid
      → Runs read_gives write_gives fresh_gives meaning (ChainHas (meaning middle) table key None)
      (λ asks _ places. IsDue (pair_put table key) places asks) (λ _. Step rid (pair_put table key) (meaning middle)
      (meaning last)) 2 middle last result
      → Runs read_gives write_gives fresh_gives meaning (Lacks (meaning first) table key index)
      (DueBy (λ _. enter_moves table key index row)) (λ _. In table key rid row (two_in table key) (meaning first) (meaning last)) 3
      first last result
  entered_pair table key rid index row first middle last early result low acc was step =
      then_step table key rid (row_words row) (enter_moves table key index row) (one_in table key) _ (pair_put table key) 1 2 first
      middle last early rid result low refl (λ maps t k. refl)
      (runs_at (λ new. In table key new row (one_in table key) (meaning first) (meaning middle)) 1 first middle early rid was acc)
      was step (λ asks state places due. due)
      (λ before state held lacks m. enter_chain table key rid index (meaning first) (meaning middle) state held m.between low lacks
      m.shape m.maps)

  pub entered_tree : (table key rid : ℕ) (index : Option ℕ) (row : Row) (first middle last : S)
      (early result : Result (Unit {0}) (Walk F)) → table < table_limit
      → Runs read_gives write_gives fresh_gives meaning (Lacks (meaning first) table key index)
      (DueBy (λ _. enter_moves table key index row)) (λ _. In table key rid row (two_in table key) (meaning first) (meaning middle)) 3
      first middle early → early ≡ Ok tt
      → Runs read_gives write_gives fresh_gives meaning (TreeHas (meaning middle) table (row_key key) None)
      (λ asks _ places. IsDue (entry_inserted table (row_key key)) places asks) (λ _. Step rid (entry_inserted table (row_key key))
      (meaning middle) (meaning last)) 51 middle last result
      → Runs read_gives write_gives fresh_gives meaning (Lacks (meaning first) table key index)
      (DueBy (λ _. enter_moves table key index row)) (λ _. In table key rid row (three_in table key) (meaning first)
      (meaning last)) 54 first last result
  entered_tree table key rid index row first middle last early result low acc was step =
      then_step table key rid (row_words row) (enter_moves table key index row) (two_in table key) _
      (entry_inserted table (row_key key)) 3 51 first middle last early tt result low refl (λ maps t k. refl)
      acc was step (λ asks state places due. due)
      (λ before state held lacks m. enter_tree table key rid index (meaning first) (meaning middle) state held m.between low lacks
      m.shape m.maps)

  -- into a table without an index
  pub entered_none : (table key rid : ℕ) (index : Option ℕ) (row : Row) (first last : S) (early : Result (Unit {0}) (Walk F))
      → table < table_limit → key < 2 ^ 64 → length row ≡ 6 → index ≡ None
      → Runs read_gives write_gives fresh_gives meaning (Lacks (meaning first) table key index)
      (DueBy (λ _. enter_moves table key index row)) (λ _. In table key rid row (three_in table key) (meaning first)
      (meaning last)) 54 first last early → early ≡ Ok tt
      → Runs {F = F} read_gives write_gives fresh_gives meaning (Lacks (meaning first) table key index)
      (DueBy (λ _. enter_moves table key index row)) (λ _ asked state held. Becomes (enter_moves table key index row)
      (with_value held.1 table key row) (meaning last) asked state held) 105 first last (Ok (tt {0}))
  entered_none table key rid index row first last early low below six is acc was =
      runs_value (λ _ asked state held. Becomes (enter_moves table key index row) (with_value held.1 table key row) (meaning last) asked
      state held) 54 105 first last early tt tt (omega arith) acc was
      (λ asked state held agrees lacks did. becomes_entered table key rid index row (meaning first) (meaning last) asked state held low
      below six lacks
      (midway_as table key rid (row_words row) (three_in table key) (enter_moves table key index row) (meaning first)
      (meaning last) asked state held.0 (sym (enter_none table key index row is)) did))

  -- and into one with an index
  pub entered_index : (table key rid column high : ℕ) (index : Option ℕ) (row : Row) (first middle last : S)
      (early result : Result (Unit {0}) (Walk F)) → table < table_limit → key < 2 ^ 64 → length row ≡ 6 → index ≡ Some column
      → high ≡ column_in column row
      → Runs read_gives write_gives fresh_gives meaning (Lacks (meaning first) table key index)
      (DueBy (λ _. enter_moves table key index row)) (λ _. In table key rid row (three_in table key) (meaning first)
      (meaning middle)) 54 first middle early → early ≡ Ok tt
      → Runs read_gives write_gives fresh_gives meaning (TreeHas (meaning middle) (index_tree table) (record { high = high; low = key })
      None) (λ asks _ places. IsDue (entry_inserted (index_tree table) (record { high = high; low = key })) places asks)
      (λ _. Step rid (entry_inserted (index_tree table) (record { high = high; low = key })) (meaning middle) (meaning last)) 51
      middle last result
      → Runs read_gives write_gives fresh_gives meaning (Lacks (meaning first) table key index)
      (DueBy (λ _. enter_moves table key index row)) (λ _ asked state held. Becomes (enter_moves table key index row)
      (with_value held.1 table key row) (meaning last) asked state held) 105 first last result
  entered_index table key rid column high index row first middle last early result low below six is same acc was step =
      let I : Key = record { high = high; low = key } in
      let e : Move = entry_inserted (index_tree table) I in
      runs_did (λ _ asked state held. Becomes (enter_moves table key index row) (with_value held.1 table key row) (meaning last) asked
      state held) 105 105 first last result (omega arith)
      (then_step table key rid (row_words row) (enter_moves table key index row) (three_in table key) [] e 54 51 first middle last early
      tt result low (enter_plan table key column high index row is same) (λ maps t k. refl)
      acc was step (λ asks state places due. due)
      (λ before state held lacks m. enter_index table key rid column high index (meaning first) (meaning middle) state held m.between low
      is lacks m.shape m.maps))
      (λ value asked state held lacks did. becomes_entered table key rid index row (meaning first) (meaning last) asked state held low
      below six lacks
      (midway_as table key rid (row_words row) (three_in table key ++ e ∷ []) (enter_moves table key index row) (meaning first)
      (meaning last) asked state held.0 (sym (enter_plan table key column high index row is same)) did))
