-- Typed tables: the rows of a table as values of a type of one's own.
use Rattle.std.specs.Prelude.{◌≡◌, ℕ, Bool, true, false, List, ◌∷◌, ◌++◌, map, filter, take, All, Option, None, Some, IsSome, Result, Ok, Err, ⊤}
use Rattle.std.specs.Ordering.{nat_cmp}
use Rattle.std.specs.FinMap.{FinMap, entries, from_entries, get, insert}
use Rattle.plain_data.specs.State.{State, overlay}
use Rattle.record_store.specs.Meaning.{Meaning}
use Rattle.record_store.specs.declared.walk.Walk.{Walk as Walked}
use Rattle.replay_model.specs.Effect.{lies_between, scanned}
use Rattle.replay_model.specs.declared.command.Command.TheVariants.{Put}
use Rattle.replay_model.specs.TableMap.{TableMap, Row, pairs_of, value_at, with_value, without}
use Rattle.stored_tables.specs.Answers.{DueBy, Held, IsIndexed, Stands}
use Rattle.stored_tables.specs.OneRow.{SetsRow, TakesRow}
use Rattle.stored_tables.specs.Plan.{plan}
use Rattle.stored_tables.specs.Tables.{EachTables, StandsForSome}
use Rattle.typed_tables.specs.declared.fault.TypedFault.{TypedFault}
use Rattle.typed_tables.specs.declared.fault.TypedFault.TheVariants.{Walk, Foreign}

-- ---- what a typed table is

-- a key with what its columns are read as, and one with its row
abbrev pub read_as : {R : Type 0} → (Row → Option R) → ℕ × Row → ℕ × Option R
read_as row_of pair = (pair.0, row_of pair.1)

abbrev pub as_read : {R : Type 0} → ℕ × R → ℕ × Option R
as_read row = (row.0, Some row.1)

-- a key with the columns of its row
abbrev pub as_written : {R : Type 0} → (R → Row) → ℕ × R → ℕ × Row
as_written columns_of row = (row.0, columns_of row.1)

-- Typed table: the rows of a table, as a finite map from keys to what their columns are read as. A key whose columns are refused is foreign:
-- the map has `None` there.
abbrev pub typed_table : {R : Type 0} → (Row → Option R) → ℕ → TableMap → FinMap nat_cmp (Option R)
typed_table row_of table tables = from_entries (map (read_as row_of) (pairs_of table tables))

-- the first entries of a typed table, so many, whose keys lie in a range, by rising key
abbrev pub typed_scanned : {R : Type 0} → (Row → Option R) → ℕ → ℕ → ℕ → ℕ → TableMap → List (ℕ × Option R)
typed_scanned row_of table lo hi limit tables = take limit (filter (λ entry. lies_between lo hi entry.0) (entries (typed_table row_of table tables)))

-- ---- answers, by their variants

-- a typed call's answer as that of the walks under it: where a foreign row was found, they had an answer
abbrev pub walked : {T F : Type 0} → Result T (TypedFault F) → Result (Option T) (Walked F)
walked (Ok value) = Ok (Some value)
walked (Err (Walk walk)) = Err walk
walked (Err (Foreign key columns)) = Ok None

abbrev pub IfForeign : {T F : Type 0} → Result T (TypedFault F) → (ℕ → Row → Type 0) → Type 0
IfForeign (Ok value) P = ⊤
IfForeign (Err (Walk walk)) P = ⊤
IfForeign (Err (Foreign key columns)) P = P key columns

-- ---- scans

-- these rows are all that a scan lists, with the columns that stand there, and none of them is foreign
pub record AreTyped {R : Type 0} (row_of : Row → Option R) (columns_of : R → Row) (table lo hi limit : ℕ) (rows : List (ℕ × R)) (tables : TableMap) : Type 0 where
  pub typed : typed_scanned row_of table lo hi limit tables ≡ map as_read rows
  pub written : scanned table lo hi limit tables ≡ map (as_written columns_of) rows

-- the first of these rows that is foreign
pub record IsForeignIn {R : Type 0} (row_of : Row → Option R) (pairs : List (ℕ × Row)) (key : ℕ) (columns : Row) : Type 0 where
  pub before : List (ℕ × Row)
  pub behind : List (ℕ × Row)
  pub listed : pairs ≡ before ++ (key, columns) ∷ behind
  pub typed : All (λ pair. IsSome (row_of pair.1)) before
  pub refused : row_of columns ≡ None

-- the first of the rows that a scan lists which is foreign
abbrev pub IsFirstForeign : {R : Type 0} → (Row → Option R) → ℕ → ℕ → ℕ → ℕ → ℕ → Row → TableMap → Type 0
IsFirstForeign row_of table lo hi limit key columns tables = IsForeignIn row_of (scanned table lo hi limit tables) key columns

-- each of these rows is read as one of those, which has its columns
pub record AllTyped {R : Type 0} (row_of : Row → Option R) (columns_of : R → Row) (pairs : List (ℕ × Row)) (rows : List (ℕ × R)) : Type 0 where
  pub typed : map (read_as row_of) pairs ≡ map as_read rows
  pub written : pairs ≡ map (as_written columns_of) rows

-- ---- searches

-- whether the table's index is on the column; a search that met a foreign row has found that it is
abbrev pub TellsIndex : ℕ → ℕ → Option Bool → State → Held → Type 0
TellsIndex table column None state held = IsIndexed table (Some column) state held
TellsIndex table column (Some true) state held = IsIndexed table (Some column) state held
TellsIndex table column (Some false) state held = IsIndexed table (Some column) state held → ⊥

-- ---- changes

-- with the writes so far laid over it, the state stands for these tables, wherever they stand
abbrev pub LeavesTables : Meaning → State → TableMap → Type 0
LeavesTables now state tables = StandsForSome now.size (overlay now.writes state) tables

-- The state stands for the tables with the columns of the row at the key; indexes and all other rows are as they were. The typed table has
-- the row there.
pub record LeavesTyped {R : Type 0} (row_of : Row → Option R) (columns_of : R → Row) (table key : ℕ) (row : R) (now : Meaning) (state : State) (tables : TableMap) : Type 0 where
  pub leaves : LeavesTables now state (with_value tables table key (columns_of row))
  pub typed : typed_table row_of table (with_value tables table key (columns_of row)) ≡ insert (typed_table row_of table tables) key (Some row)

-- a row of the typed table was given to the change, and what it made of it stands in its place
pub record Updates {R : Type 0} (row_of : Row → Option R) (columns_of : R → Row) (changes : R → R → Type 0) (table key : ℕ) (changed : R) (first last : Meaning) : Type 0 where
  pub row : R
  pub made : changes row changed
  pub was : EachTables first last (λ _ _ tables. get (typed_table row_of table tables) key ≡ Some (Some row))
  pub leaves : EachTables first last (λ state _ tables. LeavesTyped row_of columns_of table key changed last state tables)

-- there was a row, and the state stands for the tables without it; or there was none, and it stands for them
abbrev pub Removes : ℕ → ℕ → Meaning → Bool → State → TableMap → Type 0
Removes table key now true state tables = IsSome (value_at tables table key) × LeavesTables now state (without tables table key)
Removes table key now false state tables = (value_at tables table key ≡ None) × LeavesTables now state tables

-- the same with what was asked for, of an answer as `walked` has it
abbrev pub SetsTyped : ℕ → ℕ → Row → Meaning → Option (Unit {0}) → ℕ → State → Held → Type 0
SetsTyped table key columns now None asked state held = ⊥
SetsTyped table key columns now (Some done) asked state held = SetsRow table key columns now asked state held

abbrev pub TakesTyped : ℕ → ℕ → Meaning → Option Bool → ℕ → State → Held → Type 0
TakesTyped table key now None asked state held = ⊥
TakesTyped table key now (Some taken) asked state held = TakesRow table key now taken asked state held

-- there was a row of this type, and the state stands for the tables with what the change makes of it; or there was none, and it stands for
-- them where they stood, as it does where a foreign row was found
abbrev pub UpdatesTyped : {R : Type 0} → (R → Row) → (R → R → Type 0) → ℕ → ℕ → Meaning → Option (Option R) → ℕ → State → Held → Type 0
UpdatesTyped columns_of changes table key now None asked state held = (asked ≡ 0) × Stands now state held
UpdatesTyped columns_of changes table key now (Some None) asked state held = (value_at held.1 table key ≡ None) × (asked ≡ 0) × Stands now state held
UpdatesTyped {R} columns_of changes table key now (Some (Some changed)) asked state held = (row : R) × changes row changed
    × (value_at held.1 table key ≡ Some (columns_of row)) × SetsRow table key (columns_of changed) now asked state held

-- new records are asked for as a put asks of what the change makes of the row that stands there
abbrev pub DueByChange : {R : Type 0} → (R → Row) → (R → R → Type 0) → ℕ → ℕ → ℕ → State → Held → Type 0
DueByChange {R} columns_of changes table key asked state held = (row : R) × (changed : R) × changes row changed
    × (value_at held.1 table key ≡ Some (columns_of row)) × DueBy (plan (Put table key (columns_of changed))) asked state held
