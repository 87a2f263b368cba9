-- What the parts of a command promise.
use Rattle.std.specs.Prelude.{◌≡◌, ◌⊎◌, ℕ, ◌<◌, ◌≤◌, List, [], ◌∷◌, ◌++◌, Option, None, Some, Result, Ok, Err}
use Rattle.plain_data.specs.State.{State, overlay}
use Rattle.record_store.specs.Meaning.{Meaning}
use Rattle.hash_index.specs.Chain.{record_of}
use Rattle.ordered_index.specs.declared.key.Key.{Key}
use Rattle.ordered_index.specs.Tree.{record_of_key}
use Rattle.replay_model.specs.declared.command.Command.{Command}
use Rattle.replay_model.specs.declared.command.Command.TheVariants.{Get, Put, Ins, Del, Add, Sub, Scan, Find}
use Rattle.replay_model.specs.declared.outcome.Answer.{Answer}
use Rattle.replay_model.specs.declared.outcome.Cause.{Cause}
use Rattle.replay_model.specs.TableMap.{TableMap, Row, value_at, index_of, with_value, without}
use Rattle.replay_model.specs.Effect.{effect, scanned, found}
use Rattle.stored_tables.specs.Places.{Places, with_row, table_limit}
use Rattle.stored_tables.specs.Tables.{StandsFor, row_words}
use Rattle.stored_tables.specs.Plan.{Move, Follows, MayAsk, plan, enters_index, leaves_index, moves_entry}
use Rattle.stored_tables.specs.Plan.Move.{row_added, row_dropped, pair_put, pair_removed, entry_inserted, entry_removed}
use Rattle.stored_tables.specs.Moved.{Midway, Shaped, RowsStay, OthersStay}
use Rattle.stored_tables.specs.Steps.{IsDeclared}
use Rattle.stored_tables.specs.declared.reading.Found.{Found}

-- where tables stand, and what they are
abbrev pub Held : Type 0
Held = Places × TableMap

-- with the writes so far laid over it, the state stands for tables
abbrev pub Stands : Meaning → State → Held → Type 0
Stands now state held = StandsFor now.size (overlay now.writes state) held.0 held.1

-- ---- commands that read

-- the limits of lists that a command may ask for
abbrev pub IsShort : Command → Type 0
IsShort (Get t k c) = Unit {0}
IsShort (Put t k columns) = Unit {0}
IsShort (Ins t k columns) = Unit {0}
IsShort (Del t k) = Unit {0}
IsShort (Add t k c by) = Unit {0}
IsShort (Sub t k c by) = Unit {0}
IsShort (Scan t lo hi limit) = limit ≤ 256
IsShort (Find t c lo hi limit) = limit ≤ 256

-- a command that reads alone
abbrev pub ReadsAlone : Command → Type 0
ReadsAlone (Get t k c) = Unit {0}
ReadsAlone (Put t k columns) = ⊥
ReadsAlone (Ins t k columns) = ⊥
ReadsAlone (Del t k) = ⊥
ReadsAlone (Add t k c by) = ⊥
ReadsAlone (Sub t k c by) = ⊥
ReadsAlone (Scan t lo hi limit) = Unit {0}
ReadsAlone (Find t c lo hi limit) = Unit {0}

-- a scan that lists nothing by its arguments
abbrev pub IsIdle : Command → Type 0
IsIdle (Get t k c) = ⊥
IsIdle (Put t k columns) = ⊥
IsIdle (Ins t k columns) = ⊥
IsIdle (Del t k) = ⊥
IsIdle (Add t k c by) = ⊥
IsIdle (Sub t k c by) = ⊥
IsIdle (Scan t lo hi limit) = (limit ≡ 0) ⊎ (hi < lo)
IsIdle (Find t c lo hi limit) = ⊥

-- it answers, or is refused, as its effect says, and leaves the tables
abbrev pub Answers : Command → Result Answer Cause → State → Held → Type 0
Answers command (Ok answer) state held = effect command held.1 ≡ Ok (answer, held.1)
Answers command (Err cause) state held = effect command held.1 ≡ Err cause

-- the row of a table at a key, and its record
abbrev pub IsFound : ℕ → ℕ → Option Found → State → Held → Type 0
IsFound table key None state held = (held.0.row_at table key ≡ None) × (value_at held.1 table key ≡ None)
IsFound table key (Some found) state held = (held.0.row_at table key ≡ Some found.rid) × (value_at held.1 table key ≡ Some found.row)

abbrev pub IsIndexed : ℕ → Option ℕ → State → Held → Type 0
IsIndexed table column state held = index_of table held.1 ≡ column

abbrev pub IsScanned : ℕ → ℕ → ℕ → ℕ → List (ℕ × Row) → State → Held → Type 0
IsScanned table lo hi limit pairs state held = pairs ≡ scanned table lo hi limit held.1

abbrev pub IsSearched : ℕ → ℕ → ℕ → ℕ → ℕ → List (ℕ × Row) → State → Held → Type 0
IsSearched table column lo hi limit pairs state held = pairs ≡ found table column lo hi limit held.1

-- ---- one move

-- a row has no record yet
abbrev pub LacksRow : Meaning → ℕ → ℕ → State → Places → Type 0
LacksRow now table key state places = (table < table_limit) × Shaped now state places × (places.row_at table key ≡ None)

-- a row is added, in this record
pub record AddsRow (table key rid : ℕ) (words : List ℕ) (before now : Meaning) (asked : ℕ) (state : State) (places : Places) : Type 0
  where
    pub once : asked ≡ 1
    pub shape : Shaped now state (with_row places table key (Some rid))
    pub here : overlay now.writes state rid ≡ Some words
    pub stay : RowsStay before now state places

-- a row has this record
abbrev pub HasRow : Meaning → ℕ → ℕ → ℕ → State → Places → Type 0
HasRow now table key rid state places = (table < table_limit) × Shaped now state places × (places.row_at table key ≡ Some rid)

-- other words are written to it
pub record Rewrites (table key rid : ℕ) (words : List ℕ) (before now : Meaning) (state : State) (places : Places) : Type 0 where
  pub shape : Shaped now state places
  pub here : overlay now.writes state rid ≡ Some words
  pub others : OthersStay table key before now state places

-- it is dropped
pub record DropsRow (table key : ℕ) (before now : Meaning) (state : State) (places : Places) : Type 0 where
  pub shape : Shaped now state (with_row places table key None)
  pub others : OthersStay table key before now state places

-- a chain has nothing beside a key, or this record
abbrev pub ChainHas : Meaning → ℕ → ℕ → Option ℕ → State → Places → Type 0
ChainHas now table key rid state places = Shaped now state places × (record_of (places.rows table) key ≡ rid)

-- so has a tree, which is declared
abbrev pub TreeHas : Meaning → ℕ → Key → Option ℕ → State → Places → Type 0
TreeHas now number key rid state places = IsDeclared places number × Shaped now state places
    × (record_of_key (places.leaves number) key ≡ rid)

-- ---- changes

-- the state stands for other tables, at places to which so many asks for a new record led
abbrev pub Becomes : List Move → TableMap → Meaning → ℕ → State → Held → Type 0
Becomes planned tables now asked state held = (after : Places) × Stands now state (after, tables) × Follows planned held.0 asked after

-- what a command does
abbrev pub Does : Command → Meaning → Result Answer Cause → ℕ → State → Held → Type 0
Does command now (Ok answer) asked state held = (tables : TableMap) × (effect command held.1 ≡ Ok (answer, tables))
    × Becomes (plan command held.1) tables now asked state held
Does command now (Err cause) asked state held = effect command held.1 ≡ Err cause

-- so often `fresh` may be asked by a part whose moves the tables tell
abbrev pub DueBy : (TableMap → List Move) → ℕ → State → Held → Type 0
DueBy planned asks state held = MayAsk (planned held.1) held.0 asks

-- ---- rows that enter, leave and change

-- the index of a table is on this column, if on any
abbrev pub Indexed : Meaning → ℕ → Option ℕ → State → Held → Type 0
Indexed now table index state held = Stands now state held × (index_of table held.1 ≡ index)

abbrev pub Lacks : Meaning → ℕ → ℕ → Option ℕ → State → Held → Type 0
Lacks now table key index state held = Indexed now table index state held × IsFound table key None state held

abbrev pub Has : Meaning → ℕ → ℕ → Option ℕ → Found → State → Held → Type 0
Has now table key index found state held = Indexed now table index state held × IsFound table key (Some found) state held

-- the moves of a row that enters or leaves a table with this index
abbrev pub enter_moves : ℕ → ℕ → Option ℕ → Row → List Move
enter_moves table key index row =
    row_added table key ∷ pair_put table key ∷ entry_inserted table (record { high = key; low = 0 }) ∷ enters_index table key index row

abbrev pub leave_moves : ℕ → ℕ → Option ℕ → Row → List Move
leave_moves table key index row =
    leaves_index table key index row ++ pair_removed table key ∷ entry_removed table (record { high = key; low = 0 }) ∷ row_dropped table
    key ∷ []

-- the row entered, left or changed: its moves were made, and the state stands for the tables with it, or without it
abbrev pub Enters : ℕ → ℕ → Option ℕ → Row → Meaning → ℕ → State → Held → Type 0
Enters table key index row now asked state held = Becomes (enter_moves table key index row) (with_value held.1 table key row) now asked state
    held

abbrev pub Leaves : ℕ → ℕ → Option ℕ → Row → Meaning → ℕ → State → Held → Type 0
Leaves table key index row now asked state held = Becomes (leave_moves table key index row) (without held.1 table key) now asked state held

abbrev pub Changes : ℕ → ℕ → Option ℕ → Row → Row → Meaning → ℕ → State → Held → Type 0
Changes table key index row row' now asked state held = Becomes (moves_entry table key index row row') (with_value held.1 table key row') now
    asked state held

-- its entry in the index left, and nothing else yet
abbrev pub IndexLeft : ℕ → ℕ → Option ℕ → Found → Meaning → Meaning → ℕ → State → Held → Type 0
IndexLeft table key index found before now asked state held = Midway table key found.rid (row_words found.row)
    (leaves_index table key index found.row) before now asked state held.0
