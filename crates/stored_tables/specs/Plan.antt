-- Which changes of chains, trees and rows a command asks for, and how often `fresh` is asked for each.
use Rattle.std.specs.Prelude.{◌≡◌, ℕ, ◌+◌, ◌≤◌, ◌==◌, if◌then◌else◌, List, [], ◌∷◌, ◌++◌, length, Option, option_to_list, None, Some, Result, Ok, Err}
use Rattle.hash_index.specs.Chain.{record_of, bucket_of}
use Rattle.hash_index.specs.Changes.{Puts, Removes, NeedsNode}
use Rattle.ordered_index.specs.declared.key.Key.{Key}
use Rattle.ordered_index.specs.Node.{Content}
use Rattle.ordered_index.specs.Keys.{is_same}
use Rattle.ordered_index.specs.Tree.{record_of_key}
use Rattle.ordered_index.specs.Splits.{TreeTakes}
use Rattle.ordered_index.specs.Asks.{records_due}
use Rattle.replay_model.specs.declared.command.Command.{Command}
use Rattle.replay_model.specs.declared.command.Command.TheVariants.{Get, Put, Ins, Del, Add, Sub, Scan, Find}
use Rattle.replay_model.specs.declared.outcome.Answer.{Answer}
use Rattle.replay_model.specs.declared.outcome.Cause.{Cause}
use Rattle.replay_model.specs.TableMap.{TableMap, Row, column_in, value_at, index_of}
use Rattle.replay_model.specs.Effect.{effect}
use Rattle.stored_tables.specs.Places.{Places, with_chain, with_tree, with_row, base_of, root_of, index_tree}

-- a change of one spot: a row gets a record or gives it back; a pair is put into a table's chain or removed from it; an entry is inserted
-- into a tree or removed from it
pub data Move : Type 0 where
  row_added : ℕ → ℕ → Move
  row_dropped : ℕ → ℕ → Move
  pair_put : ℕ → ℕ → Move
  pair_removed : ℕ → ℕ → Move
  entry_inserted : ℕ → Key → Move
  entry_removed : ℕ → Key → Move

-- ---- the moves of a command over the tables where it runs

-- the entry of a row in its table's index
abbrev pub index_key : ℕ → ℕ → Row → Key
index_key column key columns = record { high = column_in column columns; low = key }

abbrev pub enters_index : ℕ → ℕ → Option ℕ → Row → List Move
enters_index table key None columns = []
enters_index table key (Some column) columns = entry_inserted (index_tree table) (index_key column key columns) ∷ []

abbrev pub leaves_index : ℕ → ℕ → Option ℕ → Row → List Move
leaves_index table key None columns = []
leaves_index table key (Some column) columns = entry_removed (index_tree table) (index_key column key columns) ∷ []

abbrev pub row_enters : TableMap → ℕ → ℕ → Row → List Move
row_enters tables table key columns =
    row_added table key ∷ pair_put table key ∷ entry_inserted table (record { high = key; low = 0 }) ∷ enters_index table key (index_of table tables) columns

abbrev pub row_leaves : TableMap → ℕ → ℕ → Row → List Move
row_leaves tables table key columns =
    leaves_index table key (index_of table tables) columns ++ pair_removed table key ∷ entry_removed table (record { high = key; low = 0 }) ∷ row_dropped table key ∷ []

-- a row with other columns has another entry in the index where the indexed column differs
abbrev pub moves_entry : ℕ → ℕ → Option ℕ → Row → Row → List Move
moves_entry table key None columns columns' = []
moves_entry table key (Some column) columns columns' =
    if column_in column columns == column_in column columns' then [] else
    entry_removed (index_tree table) (index_key column key columns) ∷ entry_inserted (index_tree table) (index_key column key columns') ∷ []

-- from the tables before a command to those after it, at one key
abbrev pub moves_at : TableMap → ℕ → ℕ → Option Row → Option Row → List Move
moves_at tables table key None None = []
moves_at tables table key None (Some columns') = row_enters tables table key columns'
moves_at tables table key (Some columns) None = row_leaves tables table key columns
moves_at tables table key (Some columns) (Some columns') = moves_entry table key (index_of table tables) columns columns'

abbrev pub moves_to : TableMap → ℕ → ℕ → Result (Answer × TableMap) Cause → List Move
moves_to tables table key (Ok step) = moves_at tables table key (value_at tables table key) (value_at step.1 table key)
moves_to tables table key (Err cause) = []

abbrev pub plan : Command → TableMap → List Move
plan (Get t k c) tables = []
plan (Put t k columns) tables = moves_to tables t k (effect (Put t k columns) tables)
plan (Ins t k columns) tables = moves_to tables t k (effect (Ins t k columns) tables)
plan (Del t k) tables = moves_to tables t k (effect (Del t k) tables)
plan (Add t k c by) tables = moves_to tables t k (effect (Add t k c by) tables)
plan (Sub t k c by) tables = moves_to tables t k (effect (Sub t k c by) tables)
plan (Scan t lo hi limit) tables = []
plan (Find t c lo hi limit) tables = []

abbrev pub plan_then : Result (Answer × TableMap) Cause → (TableMap → List Move) → List Move
plan_then (Ok step) rest = rest step.1
plan_then (Err cause) rest = []

-- those of a block's commands, up to the first that is refused
abbrev pub run_plan : List Command → TableMap → List Move
run_plan [] tables = []
run_plan (command ∷ commands) tables = plan command tables ++ plan_then (effect command tables) (λ left. run_plan commands left)

-- ---- what a move does, and asks

-- how places change by a move, and how often `fresh` is asked for it
pub data Moves : Move → Places → ℕ → Places → Type 0 where
  row_added_at : (places : Places) (table key rid : ℕ) → places.row_at table key ≡ None → Moves (row_added table key) places 1 (with_row places table key (Some rid))
  row_dropped_at : (places : Places) (table key : ℕ) → Moves (row_dropped table key) places 0 (with_row places table key None)
  pair_put_in : (places : Places) (table key rid : ℕ) (fresh : Option ℕ) (rows' : ℕ → List (ℕ × List ℕ)) → record_of (places.rows table) key ≡ None
      → Puts (base_of table + bucket_of key) key rid fresh (places.rows table (bucket_of key)) (rows' (bucket_of key)) → ((other : ℕ) → (other ≡ bucket_of key → ⊥) → rows' other ≡ places.rows table other)
      → Moves (pair_put table key) places (length (option_to_list fresh)) (with_chain places table rows')
  pair_removed_from : (places : Places) (table key : ℕ) (rows' : ℕ → List (ℕ × List ℕ)) → Removes key (places.rows table (bucket_of key)) (rows' (bucket_of key))
      → ((other : ℕ) → (other ≡ bucket_of key → ⊥) → rows' other ≡ places.rows table other) → Moves (pair_removed table key) places 0 (with_chain places table rows')
  entry_inserted_in : (places : Places) (tree : ℕ) (key : Key) (rid : ℕ) (levels' : List (List (ℕ × Content))) (leaves' : List (ℕ × Content)) → record_of_key (places.leaves tree) key ≡ None
      → TreeTakes (root_of tree) key rid (places.levels tree) (places.leaves tree) levels' leaves' → length leaves' ≤ length (places.leaves tree) + 1
      → Moves (entry_inserted tree key) places (records_due key (places.levels tree) (places.leaves tree)) (with_tree places tree levels' leaves')
  entry_removed_from : (places : Places) (tree : ℕ) (key : Key) (leaves' : List (ℕ × Content)) → length leaves' ≡ length (places.leaves tree)
      → ((other : Key) → record_of_key leaves' other ≡ (if is_same other key then None else record_of_key (places.leaves tree) other)) → Moves (entry_removed tree key) places 0 (with_tree places tree (places.levels tree) leaves')

-- moves one after another, and how often `fresh` is asked for all of them
pub data Follows : List Move → Places → ℕ → Places → Type 0 where
  stays : (places : Places) → Follows [] places 0 places
  moves : (move : Move) (more : List Move) (places between places' : Places) (asks asked : ℕ) → Moves move places asks between → Follows more between asked places' → Follows (move ∷ more) places (asks + asked) places'

-- so often at most `fresh` is asked for a move
abbrev pub IsDue : Move → Places → ℕ → Type 0
IsDue (row_added table key) places asks = (asks ≤ 1) × (places.row_at table key ≡ None)
IsDue (row_dropped table key) places asks = asks ≡ 0
IsDue (pair_put table key) places asks = (asks ≤ 1) × NeedsNode key (places.rows table)
IsDue (pair_removed table key) places asks = asks ≡ 0
IsDue (entry_inserted tree key) places asks = (record_of_key (places.leaves tree) key ≡ None) × (asks ≤ records_due key (places.levels tree) (places.leaves tree))
IsDue (entry_removed tree key) places asks = asks ≡ 0

-- a move of a plan for which `fresh` may be asked once more, when it was asked so often for those before
pub record MayAsk (planned : List Move) (places : Places) (asked : ℕ) : Type 0 where
  pub before : List Move
  pub move : Move
  pub after : List Move
  pub is_planned : planned ≡ before ++ move ∷ after
  pub between : Places
  pub earlier : ℕ
  pub follows : Follows before places earlier between
  pub now : ℕ
  pub due : IsDue move between now
  pub counted : asked ≡ earlier + now
