-- How few new records tables use where rows were only put into them: no chain and no tree was left half empty by a removal.
use Rattle.std.specs.Prelude.{◌≡◌, ◌⊎◌, ℕ, ◌+◌, ◌-◌, ◌*◌, ◌≤◌, List, [], ◌∷◌, length, sum_by, All, None}
use Rattle.hash_index.specs.Chain.{row_pairs}
use Rattle.ordered_index.specs.Node.{Content}
use Rattle.ordered_index.specs.Tree.{row_entries}
use Rattle.replay_model.specs.declared.command.Command.TheVariants.{Put}
use Rattle.replay_model.specs.TableMap.{TableMap, Row, value_at}
use Rattle.stored_tables.specs.Places.{Places, with_head}
use Rattle.stored_tables.specs.Plan.{Follows, run_plan}
use Rattle.stored_tables.specs.Weight.{below, weight}
use Rattle.stored_tables.specs.Laws.{no_places}

-- the pairs of a bucket fill each of its nodes but one
abbrev pub IsPackedRow : List (ℕ × List ℕ) → Type 0
IsPackedRow nodes = 14 * (length nodes - 1) ≤ length (row_pairs nodes)

-- a tree has one leaf at most, or each of its leaves has five entries at least
abbrev pub IsPackedTree : List (ℕ × Content) → Type 0
IsPackedTree leaves = (length leaves ≤ 1) ⊎ All (λ (leaf : ℕ × Content). 5 ≤ length leaf.1.entries) leaves

-- the pairs of all chains, and the entries of all trees
abbrev pub pairs_in : Places → ℕ
pairs_in places = sum_by (λ table. sum_by (λ number. length (row_pairs (places.rows table number))) (below 511)) (below 8)

abbrev pub entries_in : Places → ℕ
entries_in places = sum_by (λ tree. length (row_entries (places.leaves tree))) (below 16)

-- so many rows were put in at most, each with a pair of its table's chain, an entry of its tree, and perhaps one of its index
pub record IsPacked (places : Places) (rows : ℕ) : Type 0 where
  pub chains : (table number : ℕ) → IsPackedRow (places.rows table number)
  pub trees : (tree : ℕ) → IsPackedTree (places.leaves tree)
  pub pairs : pairs_in places ≤ rows
  pub entries : entries_in places ≤ 2 * rows

-- What holds of it: of no rows; an index that is declared changes nothing; one more row that was not there; and such tables weigh two for
-- each row at most.
pub record RowsPack : Type 0 where
  pub none : IsPacked no_places 0
  pub head : (places : Places) (table column rows : ℕ) → IsPacked places rows → IsPacked (with_head places table column) rows
  pub row : (tables : TableMap) (table key : ℕ) (columns : Row) (places places' : Places) (asked rows : ℕ) → value_at tables table key ≡ None
      → Follows (run_plan (Put table key columns ∷ []) tables) places asked places' → IsPacked places rows → IsPacked places' (rows + 1)
  pub weighs : (places : Places) (rows : ℕ) → IsPacked places rows → weight places ≤ 2 * rows
