-- What holds of the weight of tables: it bounds the new records that they use, and each command adds to it at most what is said of it.
use Rattle.std.specs.Prelude.{◌≡◌, ◌≢◌, ℕ, ◌+◌, ◌*◌, ◌<◌, ◌≤◌, List, length, sum_by, All, AllPairs, Contains, Option, None, Some}
use Rattle.plain_data.specs.State.{State, empty_state}
use Rattle.replay_model.specs.declared.command.Command.{Command}
use Rattle.replay_model.specs.declared.command.Command.TheVariants.{Get, Put, Ins, Del, Add, Sub, Scan, Find}
use Rattle.replay_model.specs.Report.{table_named}
use Rattle.replay_model.specs.Running.{tables_after}
use Rattle.replay_model.specs.TableMap.{TableMap, index_of}
use Rattle.stored_tables.specs.Places.{Places, fixed_records, table_limit}
use Rattle.stored_tables.specs.Tables.{StandsFor}
use Rattle.stored_tables.specs.Plan.{Follows, MayAsk, plan, run_plan}
use Rattle.stored_tables.specs.Weight.{AtMostSpare, weight, adds, all_add}

-- tables use no more new records than they weigh
abbrev pub SparesWithinWeight : Type 0
SparesWithinWeight = (size : ℕ) (state : State) (places : Places) (tables : TableMap) → StandsFor size state places tables → AtMostSpare fixed_records state (weight places)

-- ---- what a command adds to the weight, and a run of commands

abbrev pub CommandAdds : Type 0
CommandAdds = (command : Command) (tables : TableMap) (places places' : Places) (asked : ℕ) → Follows (plan command tables) places asked places' → weight places' ≤ weight places + adds tables command

abbrev pub RunAdds : Type 0
RunAdds = (commands : List Command) (tables : TableMap) (places places' : Places) (asked : ℕ) → Follows (run_plan commands tables) places asked places' → weight places' ≤ weight places + all_add commands tables

-- a command that may bring a row, and one that may bring an entry of an index
abbrev pub brings_row : Command → ℕ
brings_row (Get t k c) = 0
brings_row (Put t k columns) = 1
brings_row (Ins t k columns) = 1
brings_row (Del t k) = 0
brings_row (Add t k c by) = 0
brings_row (Sub t k c by) = 0
brings_row (Scan t lo hi limit) = 0
brings_row (Find t c lo hi limit) = 0

abbrev pub has_index : Option ℕ → ℕ
has_index None = 0
has_index (Some column) = 1

abbrev pub brings_entry : TableMap → Command → ℕ
brings_entry tables (Get t k c) = 0
brings_entry tables (Put t k columns) = has_index (index_of t tables)
brings_entry tables (Ins t k columns) = has_index (index_of t tables)
brings_entry tables (Del t k) = 0
brings_entry tables (Add t k c by) = has_index (index_of t tables)
brings_entry tables (Sub t k c by) = has_index (index_of t tables)
brings_entry tables (Scan t lo hi limit) = 0
brings_entry tables (Find t c lo hi limit) = 0

-- so commands add by their numbers: 4 for each row that one may bring, and 2 for each entry of an index
abbrev pub AddsByNumbers : Type 0
AddsByNumbers = (commands : List Command) (tables : TableMap) → all_add commands tables ≡ 4 * sum_by brings_row commands + 2 * sum_by (brings_entry tables) commands

-- what other commands add is the same before a block and after it
abbrev pub AddsAfter : Type 0
AddsAfter = (commands more : List Command) (tables : TableMap) → all_add more (tables_after commands tables) ≡ all_add more tables

-- ---- new records that are present where a run begins, with those that it asks for

-- numbers from `fixed` on that are present, each once, and so many more, are at most so many
abbrev pub AtMostWith : ℕ → State → ℕ → ℕ → Type 0
AtMostWith fixed state asked most =
    (rids : List ℕ) → AllPairs (λ a b. a ≢ b) rids → All (λ rid. (fixed ≤ rid) × ((words : List ℕ) × (state rid ≡ Some words))) rids → length rids + asked ≤ most

-- commands over the tables that there are
abbrev pub AreKnown : List Command → Type 0
AreKnown commands = All (λ command. table_named command < table_limit) commands

-- whenever a run asks once more
abbrev pub RoomToAsk : Type 0
RoomToAsk =
    (size : ℕ) (state : State) (places : Places) (tables : TableMap) (commands : List Command) (asked : ℕ) → StandsFor size state places tables → AreKnown commands → MayAsk (run_plan commands tables) places asked
    → AtMostWith fixed_records state asked (weight places + all_add commands tables)

-- and once it is over
abbrev pub RoomAfterRun : Type 0
RoomAfterRun =
    (size : ℕ) (state : State) (places places' : Places) (tables : TableMap) (commands : List Command) (asked : ℕ) → StandsFor size state places tables → AreKnown commands → Follows (run_plan commands tables) places asked places'
    → AtMostWith fixed_records state asked (weight places + all_add commands tables)

-- ---- so a new record is left

-- a number is neither present nor among those given
pub record IsLeft (state : State) (given : List ℕ) (rid : ℕ) : Type 0 where
  pub absent : state rid ≡ None
  pub not_given : Contains given rid → ⊥

-- Where so many records stand from `fixed` on, and each ask before this one gave at most one, this one finds a record that was absent where
-- the run began and has not been given since.
abbrev pub RecordLeft : Type 0
RecordLeft =
    (size fixed records : ℕ) (state : State) (places : Places) (tables : TableMap) (commands : List Command) (asked : ℕ) (given : List ℕ) → StandsFor size state places tables → AreKnown commands → MayAsk (run_plan commands tables) places asked
    → fixed_records ≤ fixed → fixed + (weight places + all_add commands tables) ≤ records → length given < asked → (rid : ℕ) × (fixed ≤ rid) × (rid < records) × IsLeft state given rid

-- ---- where nothing is present

abbrev pub EmptyWeighsNothing : Type 0
EmptyWeighsNothing = (size : ℕ) (places : Places) (tables : TableMap) → StandsFor size empty_state places tables → weight places ≡ 0
