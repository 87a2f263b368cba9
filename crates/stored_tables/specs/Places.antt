-- Where tables stand in the records of a store: chains, trees, rows and heads of indexes.
use Rattle.std.specs.Prelude.{◌≡◌, ℕ, ◌+◌, ◌*◌, ◌<◌, ◌==◌, ◌&&◌, nat_lt, if◌then◌else◌, List, Contains, Option, Some, IsSome}
use Rattle.record_store.specs.Links.{records_of}
use Rattle.ordered_index.specs.Node.{Content}
use Rattle.ordered_index.specs.Tree.{tree_records, In}

-- eight tables, each with a chain of 511 buckets and a tree by keys; the tree of number t is that of table t. Each table may have an
-- index, whose head names a column, and whose tree has the number t + 8. The records from 4112 on are new ones.
abbrev pub table_limit : ℕ
table_limit = 8

abbrev pub tree_limit : ℕ
tree_limit = 16

abbrev pub fixed_records : ℕ
fixed_records = 4112

abbrev pub base_of : ℕ → ℕ
base_of table = 512 * table

abbrev pub head_of : ℕ → ℕ
head_of table = 4096 + table

-- the trees by keys have their roots behind the buckets, those of the indexes behind the heads
abbrev pub root_of : ℕ → ℕ
root_of tree = if nat_lt tree 8 then 512 * tree + 511 else 4096 + tree

abbrev pub index_tree : ℕ → ℕ
index_tree table = table + 8

-- where a record is reached from: a bucket of a table's chain, a tree, the row of a table at a key, or the head of a table's index
pub data Spot : Type 0 where
  bucket : ℕ → ℕ → Spot
  tree : ℕ → Spot
  row : ℕ → ℕ → Spot
  head : ℕ → Spot

-- the nodes of each bucket, those of each tree, the record of each row, and the column of each index
pub record Places : Type 0 where
  pub rows : ℕ → ℕ → List (ℕ × List ℕ)
  pub levels : ℕ → List (List (ℕ × Content))
  pub leaves : ℕ → List (ℕ × Content)
  pub row_at : ℕ → ℕ → Option ℕ
  pub column_at : ℕ → Option ℕ

-- the records that are reached from a spot
abbrev pub holds : Places → Spot → ℕ → Type 0
holds places (bucket table number) rid = (table < table_limit) × (number < 511) × Contains (records_of (places.rows table number)) rid
holds places (tree number) rid = (number < tree_limit) × In rid (tree_records (places.levels number) (places.leaves number))
holds places (row table key) rid = (table < table_limit) × (places.row_at table key ≡ Some rid)
holds places (head table) rid = (table < table_limit) × IsSome (places.column_at table) × (rid ≡ head_of table)

-- ---- the places with a change at one of them

abbrev pub with_chain : Places → ℕ → (ℕ → List (ℕ × List ℕ)) → Places
with_chain places table rows' = record places { rows = λ other. if other == table then rows' else places.rows other }

abbrev pub with_tree : Places → ℕ → List (List (ℕ × Content)) → List (ℕ × Content) → Places
with_tree places number levels' leaves' = record places {
  levels = λ other. if other == number then levels' else places.levels other;
  leaves = λ other. if other == number then leaves' else places.leaves other;
}

abbrev pub with_row : Places → ℕ → ℕ → Option ℕ → Places
with_row places table key rid = record places { row_at = λ other number. if other == table && number == key then rid else places.row_at other number }

abbrev pub with_head : Places → ℕ → ℕ → Places
with_head places table column = record places { column_at = λ other. if other == table then Some column else places.column_at other }
