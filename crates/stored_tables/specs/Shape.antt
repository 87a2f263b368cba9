-- The shape of tables in a state of the records: lawful chains and trees, heads, and no record reached twice or present without being
-- reached.
use Rattle.std.specs.Prelude.{◌≡◌, ℕ, ◌<◌, List, ◌∷◌, None, Some, MatchOption}
use lib.ListN.{replicate}
use Rattle.plain_data.specs.State.{State}
use Rattle.record_store.specs.Spots.{IsLaid}
use Rattle.hash_index.specs.Chain.{IsChain}
use Rattle.ordered_index.specs.Tree.{IsTree}
use Rattle.stored_tables.specs.Places.{Places, holds, base_of, root_of, head_of, index_tree, table_limit, tree_limit}

-- a head has the column in word 0, and zeros after it
abbrev pub head_words : ℕ → List ℕ
head_words column = column ∷ replicate 31 0

-- a table without an index has neither a head nor a tree of its index
abbrev pub IsHead : State → Places → ℕ → Type 0
IsHead state places table = MatchOption (places.column_at table) ((state (head_of table) ≡ None) × (state (root_of (index_tree table)) ≡ None)) (λ column. state (head_of table) ≡ Some (head_words column))

pub record IsShape (size : ℕ) (state : State) (places : Places) : Type 0 where
  pub chains : (table : ℕ) → table < table_limit → IsChain size (base_of table) state (places.rows table)
  pub trees : (number : ℕ) → number < tree_limit → IsTree size (root_of number) state (places.levels number) (places.leaves number)
  pub heads : (table : ℕ) → table < table_limit → IsHead state places table
  pub laid : IsLaid (holds places) state
