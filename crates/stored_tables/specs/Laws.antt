-- Laws of states that stand for tables.
use Rattle.std.specs.Prelude.{◌≡◌, ℕ, ◌≤◌, [], None}
use Rattle.std.specs.FinMap.{empty}
use Rattle.plain_data.specs.State.{State, IsState, empty_state}
use Rattle.replay_model.specs.TableMap.{TableMap}
use Rattle.stored_tables.specs.Places.{Places}
use Rattle.stored_tables.specs.Tables.{StandsFor}

-- nothing stands anywhere
abbrev pub no_places : Places
no_places = record { rows = λ _ _. []; levels = λ _. []; leaves = λ _. []; row_at = λ _ _. None; column_at = λ _. None }

-- no row and no index
abbrev pub no_tables : TableMap
no_tables = record { rows = empty; indexes = empty }

-- the empty state stands for the empty tables
abbrev pub EmptyStands : Type 0
EmptyStands = (size : ℕ) → StandsFor size empty_state no_places no_tables

-- a state stands for one tables at most
abbrev pub OneTables : Type 0
OneTables =
    (size size' : ℕ) (state : State) (places places' : Places) (tables tables' : TableMap) → StandsFor size state places tables → StandsFor size' state places' tables' → tables ≡ tables'

-- a state of so many records stands for tables at that size too
abbrev pub FitsRecords : Type 0
FitsRecords =
    (size records : ℕ) (state : State) (places : Places) (tables : TableMap) → IsState records state → StandsFor size state places tables → StandsFor records state places tables

-- and at each greater size
abbrev pub FitsMore : Type 0
FitsMore =
    (size size' : ℕ) (state : State) (places : Places) (tables : TableMap) → size ≤ size' → StandsFor size state places tables → StandsFor size' state places tables
