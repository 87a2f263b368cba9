-- What chains, trees, rows and heads say as maps, how a move changes these maps, and what stands in the middle of a command.
use Rattle.std.specs.Prelude.{◌≡◌, ℕ, ◌<◌, ◌==◌, ◌&&◌, if◌then◌else◌, List, [], ◌∷◌, Option, None, Some}
use Rattle.plain_data.specs.State.{State, overlay}
use Rattle.record_store.specs.Meaning.{Meaning}
use Rattle.hash_index.specs.Chain.{record_of}
use Rattle.ordered_index.specs.declared.key.Key.{Key}
use Rattle.ordered_index.specs.Keys.{is_same}
use Rattle.ordered_index.specs.Tree.{record_of_key}
use Rattle.stored_tables.specs.Places.{Places, table_limit}
use Rattle.stored_tables.specs.Shape.{IsShape}
use Rattle.stored_tables.specs.Plan.{Move, Moves, Follows}
use Rattle.stored_tables.specs.Plan.Move.{row_added, row_dropped, pair_put, pair_removed, entry_inserted, entry_removed}
use Rattle.stored_tables.specs.Steps.{set_at}

-- the record beside a key in each table's chain, and in each tree; the record of each row; the column of each index
pub record Maps : Type 0 where
  pub chain : ℕ → ℕ → Option ℕ
  pub tree : ℕ → Key → Option ℕ
  pub row_at : ℕ → ℕ → Option ℕ
  pub column_at : ℕ → Option ℕ

abbrev pub maps_of : Places → Maps
maps_of places = record {
  chain = λ table key. record_of (places.rows table) key;
  tree = λ number key. record_of_key (places.leaves number) key;
  row_at = places.row_at;
  column_at = places.column_at;
}

abbrev pub set_key : ℕ → Key → Option ℕ → (ℕ → Key → Option ℕ) → ℕ → Key → Option ℕ
set_key number key rid f other at = if other == number && is_same at key then rid else f other at

-- a move that puts this record in, or takes one out
abbrev pub moved : ℕ → Move → Maps → Maps
moved rid (row_added table key) maps = record maps { row_at = set_at table key (Some rid) maps.row_at }
moved rid (row_dropped table key) maps = record maps { row_at = set_at table key None maps.row_at }
moved rid (pair_put table key) maps = record maps { chain = set_at table key (Some rid) maps.chain }
moved rid (pair_removed table key) maps = record maps { chain = set_at table key None maps.chain }
moved rid (entry_inserted number key) maps = record maps { tree = set_key number key (Some rid) maps.tree }
moved rid (entry_removed number key) maps = record maps { tree = set_key number key None maps.tree }

abbrev pub all_moved : ℕ → List Move → Maps → Maps
all_moved rid [] maps = maps
all_moved rid (move ∷ moves) maps = all_moved rid moves (moved rid move maps)

-- the places have these maps
pub record HasMaps (maps : Maps) (places : Places) : Type 0 where
  pub chain : (table key : ℕ) → record_of (places.rows table) key ≡ maps.chain table key
  pub tree : (number : ℕ) (key : Key) → record_of_key (places.leaves number) key ≡ maps.tree number key
  pub row_at : (table key : ℕ) → places.row_at table key ≡ maps.row_at table key
  pub column_at : (table : ℕ) → places.column_at table ≡ maps.column_at table

-- the records of rows, but that of one row, are as they were
abbrev pub OthersStay : ℕ → ℕ → Meaning → Meaning → State → Places → Type 0
OthersStay table key before now state places =
    (other number at : ℕ) → other < table_limit → ((other ≡ table) × (number ≡ key) → ⊥) → places.row_at other number ≡ Some at
    → overlay now.writes state at ≡ overlay before.writes state at

-- those of all rows are
abbrev pub RowsStay : Meaning → Meaning → State → Places → Type 0
RowsStay before now state places =
    (other number at : ℕ) → other < table_limit → places.row_at other number ≡ Some at
    → overlay now.writes state at ≡ overlay before.writes state at

abbrev pub Shaped : Meaning → State → Places → Type 0
Shaped now state places = IsShape now.size (overlay now.writes state) places

-- one move of a chain or a tree
pub record Step (rid : ℕ) (move : Move) (before now : Meaning) (asked : ℕ) (state : State) (places : Places) : Type 0 where
  pub after : Places
  pub moves : Moves move places asked after
  pub shape : Shaped now state after
  pub maps : HasMaps (moved rid move (maps_of places)) after
  pub stay : RowsStay before now state places

-- in the middle of a command on one row: these moves were made, and the row's record has these words
pub record Midway (table key rid : ℕ) (words : List ℕ) (done : List Move) (before now : Meaning) (asked : ℕ) (state : State)
    (places : Places) : Type 0 where
  pub between : Places
  pub follows : Follows done places asked between
  pub shape : Shaped now state between
  pub maps : HasMaps (all_moved rid done (maps_of places)) between
  pub rows : (other number : ℕ) → ((other ≡ table) × (number ≡ key) → ⊥) → between.row_at other number ≡ places.row_at other number
  pub others : OthersStay table key before now state places
  pub here : between.row_at table key ≡ Some rid → overlay now.writes state rid ≡ Some words
