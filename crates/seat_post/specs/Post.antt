-- What a post shows: the hand of a seat, and what the transaction in flight there has read and written. And what it keeps of both.
use Rattle.std.specs.Prelude.{◌≡◌, ℕ, ◌+◌, ◌-◌, max, true, false, is_some, if◌then◌else◌, List, [], ◌∷◌, ◌++◌, Option, option_map, None, length, map}
use Rattle.record_store.specs.Meaning.{value_at, with_value}
use Rattle.plain_data.specs.declared.entry.Entry.{Entry}
use Rattle.stamp_base.specs.Stamp.{stamp_of, bound_of_clock}
use Rattle.word_layout.specs.Size.{IsSize}
use Rattle.core_rule.specs.Hands.{Shared, Seated, IsReady}
use Rattle.core_rule.specs.View.{Write, resting, nothing_reserved}
use Rattle.core_rule.specs.Views.{IsAlone, Among}
use Rattle.core_rule.specs.Searching.{Ends}
use Rattle.core_rule.specs.Deciding.{read_values, written_values}
use Rattle.core_rule.specs.Deciding as deciding
use Rattle.validate_core.specs.Sets.{SetsView, IsInside, count_below, versions_read}
use Rattle.validate_core.specs.Installing.{IsBegun, IsFor}
use Rattle.validate_core.specs.Validating as validating
use Rattle.validate_core.specs.declared.conflict.Conflict.{Conflict}
use Rattle.core_rule.specs.Snapshots.{AreAllWhole}
use Rattle.seat_post.specs.Snapshot.{SnapshotView, snapshot_view, first_snapshot, with_read}
use Rattle.seat_post.specs.Seats.{Others, Bounds, Observed, Removed, Placed, IsAloneAt, observed_of, removed_of, placed_of}
use Rattle.seat_post.specs.Conflicts.{Shows, WereFound}
use Rattle.seat_post.specs.Logs.{IsAbove}
use Rattle.seat_post.specs.Leaves.{AreLeft}
use Rattle.seat_post.specs.Lists.{bounds_before, AreBounded, count_raised}
use Rattle.seat_post.specs.declared.phase.Phase.{Phase}
use Rattle.seat_post.specs.declared.phase.Phase.TheVariants.{Idle, Open, Installed, Decided}

-- the table of the seat, its number, its clock, its published write word, the seats that it takes as open, what it knows of lists, the
-- greatest `min_wts` that it has met, its log, what its steps loaded and which exchanges they lost, what they cut off and freed, where
-- the versions of the transaction in flight or of the last one were linked, what a snapshot there has read; and how far the
-- transaction is, its stamp, its reads, the versions that they are of, and its writes
pub record PostView : Type 0 where
  pub shared : Shared
  pub seat : ℕ
  pub clock : ℕ
  pub published : ℕ
  pub others : Others
  pub bounds : Bounds
  pub met : ℕ
  pub log : List Entry
  pub observed : Observed
  pub gone : Removed
  pub placed : List Placed
  pub snapshot : Option SnapshotView
  pub phase : Phase
  pub stamp : ℕ
  pub reads : List (ℕ × Option (List ℕ))
  -- of each record that was read the stamp of the version that was read, in the same order
  pub versions : List (ℕ × ℕ)
  pub writes : List (ℕ × Option (List ℕ))

-- the records that are written
abbrev pub rids_written : PostView → List ℕ
rids_written p = map (λ (write : ℕ × Option (List ℕ)). write.0) p.writes

-- no other seat of its table is open
abbrev pub IsAlonePost : PostView → Type 0
IsAlonePost p = IsAloneAt p.shared.size p.seat p.others

-- the table that a hand is of
abbrev pub shared_of : Seated → Shared
shared_of hand = record { table = hand.table; size = hand.view.size }

-- what it knows of lists
abbrev pub bounds_in : Seated → Bounds
bounds_in hand = record { counts = hand.view.counts; tops = hand.view.tops }

-- what its steps came upon
abbrev pub observed_in : Seated → Observed
observed_in hand = observed_of hand.view

abbrev pub post_view : Seated → Phase → ℕ → (reads : List (ℕ × Option (List ℕ))) → (versions : List (ℕ × ℕ)) → (writes : List (ℕ × Option (List ℕ))) → PostView
post_view hand phase stamp reads versions writes = record {
  shared = shared_of hand;
  seat = hand.view.number;
  clock = hand.view.clock.clock;
  published = hand.view.published.write;
  others = record { splitting = hand.view.splitting; taken_in = hand.view.clock.taken_in };
  bounds = bounds_in hand;
  met = hand.view.clock.met;
  log = map deciding.entry_of hand.view.log;
  observed = observed_in hand;
  gone = removed_of hand.view;
  placed = placed_of hand.view.work.linked;
  snapshot = snapshot_view hand.view.flight hand.view.published.read hand.view.work.reads;
  phase = phase;
  stamp = stamp;
  reads = reads;
  versions = versions;
  writes = writes;
}

-- what it shows of these sets
abbrev pub post_of : Seated → Phase → ℕ → SetsView → PostView
post_of hand phase stamp sets = post_view hand phase stamp (read_values sets.reads) (versions_read sets.reads) (written_values sets.writes)

-- ---- what a post keeps, by how far its transaction is

pub record IsIdleAt (hand : Seated) (stamp : ℕ) (sets : SetsView) : Type 0 where
  pub ends : Ends hand.view.work
  pub whole : hand.view.flight ≡ resting → AreAllWhole hand.view.work.reads
  pub no_stamp : stamp ≡ 0
  pub none_read : sets.reads ≡ []
  pub none_written : sets.writes ≡ []

pub record IsOpenAt (hand : Seated) (stamp : ℕ) (sets : SetsView) : Type 0 where
  pub begun : IsBegun hand.view.size sets hand.view
  pub at : stamp ≡ hand.view.published.write
  -- the commit entries of the log are stamped below; and while the seat is alone, each value read is what they leave
  pub above : IsAbove (map deciding.entry_of hand.view.log) stamp
  pub left : IsAlone hand.view → AreLeft (map deciding.entry_of hand.view.log) stamp (read_values sets.reads)
  -- loads led to each version that was read
  pub found : WereFound stamp sets.reads hand.view.seen.loads

-- each stands in the inline place of its record, or in a usable pool place
abbrev pub AllFit : Seated → List Write → Type 0
AllFit hand us = (u : Write) → Among u us → IsFor hand.view.size u.record_number u.place

-- as many of the writes stand in inline places as what is known of lists tells
abbrev pub ArePlaced : Seated → List Write → Type 0
ArePlaced hand us =
    AreBounded (bounds_before (length us) (bounds_in hand)) (written_values us)
    → count_below hand.view.size.records us + count_raised (bounds_before (length us) (bounds_in hand)) (bounds_in hand) (written_values us)
    ≡ length us

pub record IsInstalledAt (hand : Seated) (stamp : ℕ) (sets : SetsView) : Type 0 where
  pub installed : validating.IsInstalled stamp sets hand.view
  pub inside : IsInside hand.view.size sets
  pub placed : ArePlaced hand sets.writes
  pub fit : AllFit hand sets.writes
  pub found : WereFound stamp sets.reads hand.view.seen.loads

pub record IsDecidedAt (hand : Seated) (stamp : ℕ) (sets : SetsView) : Type 0 where
  pub decided : validating.IsDecidedAt stamp sets hand.view
  pub inside : IsInside hand.view.size sets
  pub placed : ArePlaced hand sets.writes
  pub fit : AllFit hand sets.writes

abbrev pub IsAt : Phase → Seated → ℕ → SetsView → Type 0
IsAt Idle = IsIdleAt
IsAt Open = IsOpenAt
IsAt Installed = IsInstalledAt
IsAt Decided = IsDecidedAt

-- the hand may make its calls, holds no place, and has nothing in the reserved one
pub record IsPost (hand : Seated) (phase : Phase) (stamp : ℕ) (sets : SetsView) : Type 0 where
  pub ready : IsReady (shared_of hand) hand
  pub size : IsSize hand.view.size
  pub holds_none : hand.view.places.held ≡ []
  pub none_reserved : hand.view.counts.in_reserved ≡ nothing_reserved
  pub at : IsAt phase hand stamp sets

-- ---- what its calls make of it

-- its steps came upon this
abbrev pub observing : PostView → Observed → PostView
observing p observed = record p { observed = observed }

-- and cut off and freed this
abbrev pub removing : PostView → Removed → PostView
removing p gone = record p { gone = gone }

-- its versions were linked there
abbrev pub placing : PostView → List Placed → PostView
placing p placed = record p { placed = placed }

abbrev pub drawn_at : PostView → ℕ → PostView
drawn_at p clock = record p { clock = clock; published = stamp_of clock p.seat; placed = []; snapshot = None }

abbrev pub opened : PostView → ℕ → PostView
opened p clock = record (drawn_at p clock) { phase = Open; stamp = stamp_of clock p.seat }

-- the bound of its clock is published, a greater `min_wts` was met, and this is known of lists
abbrev pub collected_at : PostView → (met : ℕ) → Bounds → PostView
collected_at p met bounds = record p { published = max p.published (bound_of_clock p.clock); met = met; bounds = bounds; placed = []; snapshot = first_snapshot (met - 1) }

-- a snapshot begins, reads one more record, and ends
abbrev pub snapshot_begun_at : PostView → ℕ → PostView
snapshot_begun_at p stamp = record p { met = stamp + 1; placed = []; snapshot = first_snapshot stamp }

abbrev pub snapshot_read_at : PostView → ℕ → Option (List ℕ) → PostView
snapshot_read_at p rid value = record p { snapshot = option_map (λ (g : SnapshotView). record g { reads = with_read g.reads rid value }) p.snapshot }

abbrev pub finished_at : PostView → SnapshotView → PostView
finished_at p g = record p {
  log = p.log ++ record { stamp = g.stamp; snapshot = true; reads = g.reads; writes = [] } ∷ [];
  placed = [];
  snapshot = first_snapshot g.stamp;
}

abbrev pub with_clock : PostView → ℕ → PostView
with_clock p clock = record p { clock = clock }

-- a read of the version of this stamp
abbrev pub noted : PostView → (rid wts : ℕ) → Option (List ℕ) → PostView
noted p rid wts value = record p { reads = p.reads ++ (rid, value) ∷ []; versions = p.versions ++ (rid, wts) ∷ [] }

abbrev pub written : PostView → ℕ → Option (List ℕ) → PostView
written p rid value = record p { writes = with_value p.writes rid value }

abbrev pub unwritten : PostView → PostView
unwritten p = record p { writes = [] }

-- what is known of a record: the value written, else the value read
abbrev pub known_at : PostView → ℕ → Option (Option (List ℕ))
known_at p rid = if is_some (value_at p.writes rid) then value_at p.writes rid else value_at p.reads rid

abbrev pub with_bounds : PostView → Bounds → PostView
with_bounds p bounds = record p { bounds = bounds }

abbrev pub in_phase : PostView → Phase → PostView
in_phase p phase = record p { phase = phase }

abbrev pub closed : PostView → PostView
closed p = record p { phase = Idle; stamp = 0; reads = []; versions = []; writes = [] }

-- the entry of the transaction
abbrev pub entry_at : PostView → Entry
entry_at p = record { stamp = p.stamp; snapshot = false; reads = p.reads; writes = p.writes }

abbrev pub entered : PostView → PostView
entered p = record p { log = p.log ++ entry_at p ∷ []; phase = Decided }

-- what a conflict says of it
abbrev pub IsShownAt : PostView → Conflict → Type 0
IsShownAt p conflict = Shows p.shared.size p.seat p.others p.stamp p.reads p.versions p.writes conflict
