-- How many new records tables can use.
use Rattle.std.specs.Prelude.{◌≡◌, ◌≢◌, ℕ, ◌+◌, ◌-◌, ◌*◌, ◌≤◌, List, length, sum_by, All, AllPairs, Option, None, Some}
use Rattle.std.specs.List.{range_with_len}
use Rattle.plain_data.specs.State.{State}
use Rattle.hash_index.specs.Chain.{row_pairs}
use Rattle.replay_model.specs.declared.command.Command.{Command}
use Rattle.replay_model.specs.declared.command.Command.TheVariants.{Get, Put, Ins, Del, Add, Sub, Scan, Find}
use Rattle.replay_model.specs.TableMap.{TableMap, index_of}
use Rattle.stored_tables.specs.Places.{Places}

-- the numbers below n
abbrev pub below : ℕ → List ℕ
below n = range_with_len 0 n

-- the rows of a table, each by its pair, and the nodes of its chain behind the buckets
abbrev pub chain_weight : Places → ℕ → ℕ
chain_weight places table = sum_by (λ number. length (row_pairs (places.rows table number)) + (length (places.rows table number) - 1)) (below 511)

-- a tree of so many leaves has at most so many nodes beside its root
abbrev pub tree_weight : Places → ℕ → ℕ
tree_weight places number = 2 * (length (places.leaves number) - 1)

abbrev pub weight : Places → ℕ
weight places = sum_by (chain_weight places) (below 8) + sum_by (tree_weight places) (below 16)

-- numbers from `fixed` on that are present, each once, are at most so many
abbrev pub AtMostSpare : ℕ → State → ℕ → Type 0
AtMostSpare fixed state most =
    (rids : List ℕ) → AllPairs (λ a b. a ≢ b) rids → All (λ rid. (fixed ≤ rid) × ((words : List ℕ) × (state rid ≡ Some words))) rids → length rids ≤ most

-- ---- what a command adds to the weight at most, in a table with an index and in one without

abbrev pub row_adds : Option ℕ → ℕ
row_adds None = 4
row_adds (Some column) = 6

abbrev pub change_adds : Option ℕ → ℕ
change_adds None = 0
change_adds (Some column) = 2

abbrev pub adds : TableMap → Command → ℕ
adds tables (Get t k c) = 0
adds tables (Put t k columns) = row_adds (index_of t tables)
adds tables (Ins t k columns) = row_adds (index_of t tables)
adds tables (Del t k) = 0
adds tables (Add t k c by) = change_adds (index_of t tables)
adds tables (Sub t k c by) = change_adds (index_of t tables)
adds tables (Scan t lo hi limit) = 0
adds tables (Find t c lo hi limit) = 0

-- no command changes the indexes, so those of a block add so much
abbrev pub all_add : List Command → TableMap → ℕ
all_add commands tables = sum_by (adds tables) commands
