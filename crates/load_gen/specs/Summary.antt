-- The summary of a run: how many writing blocks the input has, and the sum of what the last tables hold.
use Rattle.std.specs.Prelude.{ℕ, zero, suc, ◌+◌, ◌++◌, Bool, not, List, [], ◌∷◌, length, codes, decimal}
use Rattle.std.specs.List.{sum_by, count_by}
use Rattle.replay_model.specs.declared.input.Block.{Block}
use Rattle.replay_model.specs.declared.input.Input.{Input}
use Rattle.replay_model.specs.TableMap.{TableMap, Row, column_in, pairs_of}

-- a block that may write
abbrev pub is_txn : Block → Bool
is_txn block = not block.snap

-- the blocks of all lanes that are no snapshots
abbrev pub transactions : List (List Block) → ℕ
transactions lanes = sum_by (λ blocks. count_by is_txn blocks) lanes

-- the six columns of a row, added up
abbrev pub columns_sum : Row → ℕ
columns_sum row = column_in 1 row + column_in 2 row + column_in 3 row + column_in 4 row + column_in 5 row + column_in 6 row

-- of all these rows
abbrev pub rows_sum : List (ℕ × Row) → ℕ
rows_sum pairs = sum_by (λ pair. columns_sum pair.1) pairs

-- all columns of all rows of the first tables, so many of them; a run counts the tables that its input declares
unfoldable pub tables_sum : ℕ → TableMap → ℕ
tables_sum zero tables = 0
tables_sum (suc n) tables = tables_sum n tables + rows_sum (pairs_of n tables)

-- all columns of all rows in these lists
abbrev pub lists_sum : List (List (ℕ × Row)) → ℕ
lists_sum lists = sum_by rows_sum lists

-- what is said of an input and a sum
abbrev pub lines_with : Input → ℕ → List (List ℕ)
lines_with input sum =
    (codes "transactions " ++ decimal (transactions input.lanes))
    ∷ (codes "sum " ++ decimal sum)
    ∷ codes "done" ∷ []

-- what is said of an input and the last tables
abbrev pub summary_lines : Input → TableMap → List (List ℕ)
summary_lines input last = lines_with input (tables_sum (length input.tables) last)
