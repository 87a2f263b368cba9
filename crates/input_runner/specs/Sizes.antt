-- How many records and places the run of an input has.
use Rattle.std.specs.Prelude.{ℕ, ◌+◌, ◌-◌, ◌*◌, ◌≤◌, min, if◌then◌else◌, Bool, true, false, List, length, count_by, sum_by}
use Rattle.replay_model.specs.declared.input.Block.{Block}
use Rattle.replay_model.specs.declared.input.Input.{Input}
use Rattle.replay_model.specs.Input.{IsWellFormed}
use Rattle.replay_model.specs.TableMap.{loaded}
use Rattle.txn_script.specs.Grammar.{IsWithinLimits, counts, is_indexed, commands_in}
use Rattle.word_layout.specs.Size.{IsSize, size_of}
use Rattle.stored_tables.specs.Places.{fixed_records}
use Rattle.lane_runner.specs.Holding.{block_places}
use Rattle.lane_runner.specs.Loading.{rows_weigh, FindRecords}
use Rattle.lane_runner.specs.Weighs.{blocks_add}
use Rattle.lane_threads.specs.Whole.{blocks_of}

-- how many commands of blocks may bring a row, or change one
abbrev pub count_in : (changes : Bool) → List Block → ℕ
count_in changes blocks = sum_by (λ (block : Block). count_by (counts changes) block.commands) blocks

abbrev pub count_in_all : (changes : Bool) → List (List Block) → ℕ
count_in_all changes lanes = sum_by (count_in changes) lanes

-- records for the rows that are loaded: they weigh two each at most, and the last one may ask for four more
abbrev pub records_for_rows : Input → ℕ
records_for_rows input = 2 * length input.rows + 4

-- records for the commands of all blocks: as many as one that brings a row adds at most, and half as much again where several seats have a
-- share of them each; and where there is an index half as much again as one that brings or changes a row adds there
abbrev pub records_for_commands : Input → (seats : ℕ) → ℕ
records_for_commands input seats = 4 * count_by (counts false) (commands_in input.lanes) + min (2 * count_by (counts false) (commands_in input.lanes)) (32768 * (seats - 1)) + (if is_indexed input.indexes then 3 * count_by (counts true) (commands_in input.lanes) else 0)

-- records that are never given out: those of the tables' chains, of their trees' roots and of their indexes
abbrev pub fixed_of_run : ℕ
fixed_of_run = fixed_records

abbrev pub records_of_run : Input → (seats : ℕ) → ℕ
records_of_run input seats = fixed_of_run + (records_for_rows input + records_for_commands input seats)

-- places for versions that wait for the slowest of several seats: 1,024 for each seat but one, and 16 for each row at most
abbrev pub places_for_seats : Input → (seats : ℕ) → ℕ
places_for_seats input seats = min (1024 * (seats - 1)) (16 * length input.rows)

-- places for versions beside one for each record: one for each record again, what a block may write, the one that is kept, and these
abbrev pub spare_of_run : Input → (seats : ℕ) → ℕ
spare_of_run input seats = records_of_run input seats + (block_places + places_for_seats input seats)

-- they are enough: an engine of so many has its size, and the rows and all blocks find records
pub record AreEnough (input : Input) (seats : ℕ) : Type 0 where
  pub size : IsSize (size_of seats (records_of_run input seats) (spare_of_run input seats))
  pub rows : FindRecords input.rows input.indexes fixed_of_run (records_of_run input seats)
  pub records : fixed_of_run + (rows_weigh input.rows + blocks_add (blocks_of input.lanes) (loaded input.rows input.indexes)) ≤ records_of_run input seats

abbrev pub SizesAreEnough : Type 0
SizesAreEnough = (input : Input) (seats : ℕ) → IsWellFormed input → IsWithinLimits input → 1 ≤ seats → seats ≤ 64 → AreEnough input seats
