use Rattle.std.proofs.Common.{◌≡◌, ℕ, take, Some}
use Rattle.std.specs.List.{slice_get}
use Rattle.replay_model.specs.declared.listed.Listed.{Listed}
use Rattle.replay_model.specs.Listed.{IsListedBy, columns_of}
use Rattle.replay_model.proofs.tables.loaded_indexes.Given as goal

abbrev pub invariant-loop-table : goal.invariant-loop-table
invariant-loop-table l =
    (columns_of l.loaded.items ≡ take l.table-index l.indexes)
    × ((i : ℕ) (k : Listed) → slice_get l.loaded.items i ≡ Some k → IsListedBy k.table k.column l.rows k.rows)
