-- Lists of rows that a call answers, of which no block is run.
use Rattle.std.specs.Prelude.{◌≡◌, ℕ, Bool, true, nat_lt, List, filter, take, Option, None, Some}
use Rattle.plain_data.specs.State.{State}
use Rattle.replay_model.specs.TableMap.{TableMap, Row, pairs_of}
use Rattle.stored_tables.specs.Answers.{Held, IsIndexed, IsSearched}

-- the rows that the command `find` lists where the table's index is on the column; none where it is not, or the table has no index
abbrev pub IsFoundBy : ℕ → ℕ → ℕ → ℕ → ℕ → Option (List (ℕ × Row)) → State → Held → Type 0
IsFoundBy table column lo hi limit None state held = IsIndexed table (Some column) state held → ⊥
IsFoundBy table column lo hi limit (Some pairs) state held = IsIndexed table (Some column) state held
    × IsSearched table column lo hi limit pairs state held

-- a key comes behind another, and any key behind none
abbrev pub comes_behind : Option ℕ → ℕ → Bool
comes_behind None key = true
comes_behind (Some behind) key = nat_lt behind key

-- the rows of a table whose keys come behind a key, by rising key
abbrev pub rows_behind : ℕ → Option ℕ → TableMap → List (ℕ × Row)
rows_behind table behind tables = filter (λ pair. comes_behind behind pair.0) (pairs_of table tables)

-- the first of them, so many
abbrev pub paged : ℕ → Option ℕ → ℕ → TableMap → List (ℕ × Row)
paged table behind limit tables = take limit (rows_behind table behind tables)

abbrev pub IsPage : ℕ → Option ℕ → ℕ → List (ℕ × Row) → State → Held → Type 0
IsPage table behind limit pairs state held = pairs ≡ paged table behind limit held.1
