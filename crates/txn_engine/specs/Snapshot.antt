-- A snapshot of a pass: how it begins, what it means as a store, what one read makes of it, and how it ends.
use Rattle.std.specs.Prelude.{◌≡◌, ℕ, ◌+◌, ◌<◌, ◌≤◌, Bool, true, false, nat_lt, List, [], Option, None, Some, option_map, IfSome}
use Rattle.std.specs.Borrow.{GName}
use Rattle.stamp_base.specs.Stamp.{stamp_of}
use Rattle.word_layout.specs.Name.{published_read}
use Rattle.core_rule.specs.Paths.{load}
use Rattle.histories.specs.History.{IsValue, UpTo}
use Rattle.record_store.specs.Meaning.{Meaning}
use Rattle.seat_post.specs.declared.phase.Phase.{Phase}
use Rattle.seat_post.specs.declared.phase.Phase.TheVariants.{Idle, Open, Installed, Decided}
use Rattle.plain_data.specs.State.{State}
use Rattle.seat_post.specs.Ends.{Stood}
use Rattle.seat_post.specs.Snapshot.{SnapshotView, entry_of_snapshot}
use Rattle.seat_post.specs.Observing.{with_load, MeetsMinimum}
use Rattle.seat_post.specs.Post.{snapshot_begun_at, snapshot_read_at, finished_at}
use Rattle.seat_post.specs.Reading.{FindsInSnapshot}
use Rattle.seat_post.specs.Seats.{nothing_observed}
use Rattle.txn_engine.specs.Leaves.{HoldsAbsent}
use Rattle.txn_engine.specs.Pass.{PassView, IsAlone, no_store, observing}
use Rattle.seat_post.specs.Logs.{AreBelow}

-- one begins at this stamp, one less than the minimum met; it ends with its entry
abbrev pub snapshot_begun : PassView → ℕ → PassView
snapshot_begun p stamp = record p { post = snapshot_begun_at p.post stamp }

abbrev pub finished : PassView → SnapshotView → PassView
finished p g = record p { post = finished_at p.post g }

-- A snapshot begins: its stamp is at least one less than the minimum met before, and no snapshot of the log is above it. It is below
-- what is published and below the next stamp. Of a seat that is alone it is at least one less than what is published. The published write
-- word of each seat was loaded, the own one as it was published before, and it is at least one less than the least of them.
pub record Begins (before after' : PassView) : Type 0 where
  pub stamp : ℕ
  pub pass : after' ≡ observing (snapshot_begun before stamp) after'.observed
  pub minimum : MeetsMinimum before.shared.size.seats before.seat before.published (stamp + 1) before.observed after'.observed
  pub met : before.met ≤ stamp + 1
  pub snapshots : AreBelow before.log (stamp + 1)
  pub below : stamp < before.published
  pub below_next : stamp < stamp_of (before.clock + 1) before.seat
  pub alone : IsAlone before → before.published ≤ stamp + 1

-- It ends, at a load of the own published read word, and gives its stamp: one entry with all that was read stands at the end of the log,
-- and a kept state of the history at that stamp agrees with it. The absent records are held as before.
pub record Finishes (kept : State → Type 0) (before after' : PassView) (told : ℕ) : Type 0 where
  pub after : IfSome before.snapshot (λ g. after' ≡ observing (finished before g) after'.observed)
  pub loads : (word : ℕ) × (after'.observed ≡ with_load before.observed (load (published_read before.seat) word))
  pub stamp : IfSome before.snapshot (λ g. told ≡ g.stamp)
  pub stood : IfSome before.snapshot (λ g. Stood kept before.shared.size.records before.log (entry_of_snapshot g))
  pub absent : HoldsAbsent before → HoldsAbsent after'

-- no transaction is in flight, and a snapshot is, at a stamp below the minimum met
abbrev pub has_snapshot_in : Phase → Option SnapshotView → (met : ℕ) → Bool
has_snapshot_in Idle None met = false
has_snapshot_in Idle (Some g) met = nat_lt g.stamp met
has_snapshot_in Open snapshot met = false
has_snapshot_in Installed snapshot met = false
has_snapshot_in Decided snapshot met = false

abbrev pub HasSnapshot : PassView → Type 0
HasSnapshot p = has_snapshot_in p.phase p.snapshot p.met ≡ true

-- the records that it sees
abbrev pub snapshot_store : PassView → Option SnapshotView → Meaning
snapshot_store p None = no_store
snapshot_store p (Some g) = record { size = p.shared.size.records; fixed = p.fixed; reads = g.reads; writes = []; given = [] }

abbrev pub meaning_of_snapshot : PassView → Meaning
meaning_of_snapshot p = snapshot_store p p.snapshot

-- what no read changes: at which seat it is, all of its pass but what was read and what its steps came upon, and what the seat has beside
pub record SnapshotFrame (B : Type 0) : Type 0 where
  pub name : GName
  pub of_pass : PassView
  pub beside : B

abbrev pub unread : PassView → PassView
unread p = record p { post = record p.post { observed = nothing_observed; snapshot = option_map (λ (g : SnapshotView). record g { reads = [] }) p.snapshot } }

-- one more record was read, where it is not there
abbrev pub snapshot_read : PassView → ℕ → Option (List ℕ) → PassView
snapshot_read p rid value = record p { post = snapshot_read_at p.post rid value }

-- what is read is the value of the version that the search at the stamp found, which loads nothing else but a minimum behind
abbrev pub FindsSeen : (before after' : PassView) → ℕ → Option (List ℕ) → Type 0
FindsSeen before after' rid value = IfSome before.snapshot (λ g. FindsInSnapshot (g.stamp + 1) rid before.observed after'.observed value)

-- a seat that is alone reads what its log leaves up to the stamp
abbrev pub ReadsLeft : PassView → ℕ → Option (List ℕ) → Type 0
ReadsLeft p rid value = IsAlone p → IfSome p.snapshot (λ g. IsValue (UpTo p.log g.stamp) rid value)
