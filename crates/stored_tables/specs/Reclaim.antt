-- How the trees of tables give empty leaves back.
use Rattle.std.specs.Prelude.{◌≡◌, ℕ, ◌≤◌, Bool, true, false, List, Option, None, Some, Result, Ok, IsSome, is_some}
use Rattle.plain_data.specs.State.{State, overlay}
use Rattle.record_store.specs.Meaning.{Meaning}
use Rattle.replay_model.specs.declared.command.Command.TheVariants.{Del}
use Rattle.replay_model.specs.TableMap.{Row, value_at, index_of, without}
use Rattle.ordered_index.specs.declared.key.Key.{Key}
use Rattle.ordered_index.specs.Reclaim.{can_give, frees}
use Rattle.ordered_index.specs.Tree.{In, row_entries}
use Rattle.stored_tables.specs.Answers.{Held, Stands, Becomes, DueBy}
use Rattle.stored_tables.specs.OneRow.{TakesOut, TakesRow}
use Rattle.stored_tables.specs.Places.{Places, fixed_records, index_tree}
use Rattle.stored_tables.specs.Plan.{index_key, plan}
use Rattle.stored_tables.specs.Runs.{Runs}
use Rattle.stored_tables.specs.declared.leaving.Taken.{Taken}

-- Records were freed: they are new ones, were present, and are absent now. Each other record is present or absent as it was.
pub record Frees (freed : List ℕ) (state state' : State) : Type 0 where
  pub new : (rid : ℕ) → In rid freed → fixed_records ≤ rid
  pub were : (rid : ℕ) → In rid freed → IsSome (state rid)
  pub gone : (rid : ℕ) → In rid freed → state' rid ≡ None
  pub others : (rid : ℕ) → (In rid freed → ⊥) → is_some (state' rid) ≡ is_some (state rid)

-- One tree has other nodes, with the same entries in the same order. Chains, rows, heads and the other trees stand as they stood.
pub record HasSameEntries (number : ℕ) (places places' : Places) : Type 0 where
  pub entries : (other : ℕ) → row_entries (places'.leaves other) ≡ row_entries (places.leaves other)
  pub other_trees : (other : ℕ) → (other ≡ number → ⊥) → (places'.levels other ≡ places.levels other) × (places'.leaves other ≡ places.leaves other)
  pub rows : places'.rows ≡ places.rows
  pub row_at : places'.row_at ≡ places.row_at
  pub column_at : places'.column_at ≡ places.column_at

-- The leaf of a key was given back, if it can be: these records were freed, and the state stands for the same tables.
pub record GivesLeaf (number : ℕ) (key : Key) (freed : List ℕ) (before now : Meaning) (state : State) (held : Held) : Type 0 where
  pub can : frees freed ≡ can_give key (held.0.levels number) (held.0.leaves number)
  pub after : Places
  pub stands : Stands now state (after, held.1)
  pub nodes : HasSameEntries number held.0 after
  pub records : Frees freed (overlay before.writes state) (overlay now.writes state)

-- that of a row's entry in the index of its table, if it has one
abbrev pub GivesEntry : ℕ → ℕ → Option ℕ → Row → Meaning → Meaning → State → Held → Type 0
GivesEntry table key None row before now state held = (before ≡ now) × Stands now state held
GivesEntry table key (Some column) row before now state held = (freed : List ℕ) × GivesLeaf (index_tree table) (index_key column key row) freed before now state held

-- the leaf of a row in the tree by keys, and then that of its entry in the index
pub record GivesLeaves (table key : ℕ) (index : Option ℕ) (row : Row) (before now : Meaning) (state : State) (held : Held) : Type 0 where
  pub freed : List ℕ
  pub between : Meaning
  pub by_key : GivesLeaf table (record { high = key; low = 0 }) freed before between state held
  pub by_index : GivesEntry table key index row between now state (by_key.after, held.1)

-- a row was taken out, and then the leaves were given back where its entries had been
pub record ClearsRow (table key : ℕ) (now : Meaning) (asked : ℕ) (state : State) (held : Held) : Type 0 where
  pub row : Row
  pub there : value_at held.1 table key ≡ Some row
  pub between : Meaning
  pub taken : Becomes (plan (Del table key) held.1) (without held.1 table key) between asked state held
  pub given : GivesLeaves table key (index_of table held.1) row between now state (taken.0, without held.1 table key)

-- so it is where there was a row; where there was none all stands as it stood
abbrev pub Clears : ℕ → ℕ → Meaning → Bool → ℕ → State → Held → Type 0
Clears table key now true asked state held = ClearsRow table key now asked state held
Clears table key now false asked state held = TakesRow table key now false asked state held

-- The two halves of a removal that gives leaves back, told of the store between them: there the row was taken out, and no leaf was given back.
pub record ClearsBy {S F : Type 0} (read_gives : S → ℕ → Result (Option (List ℕ)) F → S → Type 0) (write_gives : S → ℕ → Option (List ℕ)
    → Result (Unit {0}) F → S → Type 0) (fresh_gives : S → Result ℕ F → S → Type 0) (meaning : S → Meaning) (table key : ℕ) (first last : S)
    : Type 0 where
  pub middle : S
  pub taken : Taken
  pub took : Runs {F = F} read_gives write_gives fresh_gives meaning (Stands (meaning first)) (DueBy (plan (Del table key)))
      (TakesOut table key (meaning middle)) 4 first middle (Ok (Some taken))
  pub gave : Runs {F = F} read_gives write_gives fresh_gives meaning (Stands (meaning middle)) (λ _ _ _. ⊥)
      (λ _ asked state held. (asked ≡ 0) × GivesLeaves table key taken.index taken.row (meaning middle) (meaning last) state held) 6 middle
      last (Ok (tt {0}))
