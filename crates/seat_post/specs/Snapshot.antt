-- What a snapshot at a seat has read.
use Rattle.std.specs.Prelude.{ℕ, true, is_some, if◌then◌else◌, List, [], ◌∷◌, ◌++◌, Option, None, Some}
use Rattle.plain_data.specs.declared.entry.Entry.{Entry}
use Rattle.core_rule.specs.View.{Flight, resting, writing, Read}
use Rattle.core_rule.specs.Deciding.{read_values}
use Rattle.core_rule.specs.Snapshots.{firsts}
use Rattle.record_store.specs.Meaning.{value_at}

-- its stamp, and each record with its value, in the order of the first reads
pub record SnapshotView : Type 0 where
  pub stamp : ℕ
  pub reads : List (ℕ × Option (List ℕ))

-- the same of a seat, at its read stamp, while no stamp of a transaction is in flight
abbrev pub snapshot_view : Flight → (bound : ℕ) → List Read → Option SnapshotView
snapshot_view resting bound ds = Some record { stamp = bound; reads = read_values (firsts ds) }
snapshot_view (writing t) bound ds = None

-- one that begins
abbrev pub first_snapshot : ℕ → Option SnapshotView
first_snapshot stamp = Some record { stamp = stamp; reads = [] }

-- what was read, and one more record, where it is not there
abbrev pub with_read : List (ℕ × Option (List ℕ)) → ℕ → Option (List ℕ) → List (ℕ × Option (List ℕ))
with_read reads rid value = if is_some (value_at reads rid) then reads else reads ++ (rid, value) ∷ []

-- the entry of a snapshot
abbrev pub entry_of_snapshot : SnapshotView → Entry
entry_of_snapshot g = record { stamp = g.stamp; snapshot = true; reads = g.reads; writes = [] }
