-- What a call on one row does, of which no block is run.
use Rattle.std.specs.Prelude.{◌≡◌, ℕ, Bool, true, false, Option, None, Some, IsSome}
use Rattle.plain_data.specs.State.{State}
use Rattle.record_store.specs.Meaning.{Meaning}
use Rattle.replay_model.specs.declared.command.Command.TheVariants.{Put, Del}
use Rattle.replay_model.specs.TableMap.{Row, value_at, with_value, without}
use Rattle.stored_tables.specs.Answers.{Held, IsIndexed, Stands, Becomes}
use Rattle.stored_tables.specs.Plan.{plan}
use Rattle.stored_tables.specs.declared.leaving.Taken.{Taken}

-- the row of a table at a key
abbrev pub IsRowAt : ℕ → ℕ → Option Row → State → Held → Type 0
IsRowAt table key row state held = row ≡ value_at held.1 table key

-- the state stands for the tables with this row at the key
abbrev pub SetsRow : ℕ → ℕ → Row → Meaning → ℕ → State → Held → Type 0
SetsRow table key row now asked state held = Becomes (plan (Put table key row) held.1) (with_value held.1 table key row) now asked state
    held

-- there was a row, and the state stands for the tables without it; or there was none, and it stands for them where they stood
abbrev pub TakesRow : ℕ → ℕ → Meaning → Bool → ℕ → State → Held → Type 0
TakesRow table key now true asked state held = IsSome (value_at held.1 table key) × Becomes (plan (Del table key) held.1)
    (without held.1 table key) now asked state held
TakesRow table key now false asked state held = (value_at held.1 table key ≡ None) × (asked ≡ 0) × Stands now state held

-- the same, told of the row that was there and of the column of its table's index
abbrev pub TakesOut : ℕ → ℕ → Meaning → Option Taken → ℕ → State → Held → Type 0
TakesOut table key now None asked state held = TakesRow table key now false asked state held
TakesOut table key now (Some taken) asked state held = TakesRow table key now true asked state held
    × (value_at held.1 table key ≡ Some taken.row) × IsIndexed table taken.index state held
