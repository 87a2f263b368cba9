use Rattle.std.proofs.Common.{◌≡◌, ◌≢◌, ℕ, ◌<◌, drop, Some}
use Rattle.std.specs.Prelude.{slice_get}
use Rattle.std.specs.Ordering.{nat_cmp}
use Rattle.std.specs.FinMap.{find}
use Rattle.replay_model.specs.declared.listed.Listed.{Listed}
use Rattle.replay_model.specs.Listed.{columns_of}
use Rattle.replay_model.proofs.tables.index_at.Given as goal

abbrev pub invariant-loop-place : goal.invariant-loop-place
invariant-loop-place l =
    ((i : ℕ) (k : Listed) → i < l.place → slice_get l.indexes i ≡ Some k → k.table ≢ l.table)
    × (find nat_cmp l.table (columns_of l.indexes) ≡ find nat_cmp l.table (columns_of (drop l.place l.indexes)))
