-- A record whose visible value is written again: the entry, what it makes of a seat's view, and what a conflict leaves.
use Rattle.std.specs.Prelude.{◌≡◌, ℕ, ◌<◌, false, List, [], ◌∷◌, ◌++◌, Option, map}
use Rattle.plain_data.specs.declared.entry.Entry.{Entry}
use Rattle.plain_data.specs.State.{State}
use Rattle.stamp_base.specs.Stamp.{IsStamp}
use Rattle.word_layout.specs.Size.{Size}
use Rattle.core_rule.specs.View.{View, writing, Read, Load, no_work}
use Rattle.core_rule.specs.Searching.{Ends, counted_more}
use Rattle.core_rule.specs.Holding.{without}
use Rattle.core_rule.specs.Collecting.{HasEntry}
use Rattle.core_rule.specs.Deciding as deciding
use Rattle.validate_core.specs.Sets.{SetsView}
use Rattle.validate_core.specs.Checked.{Validates}
use Rattle.validate_core.specs.Halting.{Halts}
use Rattle.validate_core.specs.declared.conflict.Conflict.{Conflict}
use Rattle.version_search.specs.Growing.{Grows}
use Rattle.version_search.specs.Links.{DescendsTo}
use Rattle.rapid_gc.specs.Queues.{Waiting}
use Rattle.seat_post.specs.Leaves.{LeavesValue}
use Rattle.seat_post.specs.Logs.{IsAbove}
use Rattle.seat_post.specs.Seats.{Others, Bounds, Observed, observed_of, placed_of}
use Rattle.seat_post.specs.Conflicts.{ShowsOf, IsLoaded, WasFound}
use Rattle.seat_post.specs.Ends.{Stood}

-- sets in which nothing stands, with room for one read and one write
pub record IsRoom (s : SetsView) : Type 0 where
  pub none_read : s.reads ≡ []
  pub none_written : s.writes ≡ []
  pub for_read : 0 < s.read_room
  pub for_write : 0 < s.write_room

-- a queue without items that has room for one
pub record IsFree (q : Waiting) : Type 0 where
  pub none : q.items ≡ []
  pub for_one : 0 < q.room

-- the entry of a transaction that writes the value that it read
abbrev pub rewriting : (stamp rid : ℕ) → Option (List ℕ) → Entry
rewriting stamp rid value = record { stamp = stamp; snapshot = false; reads = (rid, value) ∷ []; writes = (rid, value) ∷ [] }

-- The log has grown by entries that write again what it left of a record. Each stood at the end of a lawful history, in which a kept
-- state has that value, and at a stamp above those before it.
pub data Rewritings (kept : State → Type 0) (records : ℕ) (before : List Entry) : List Entry → Type 0 where
  none_yet : Rewritings kept records before before
  one_more : (log : List Entry) (stamp rid : ℕ) (value : Option (List ℕ)) → Rewritings kept records before log
      → Stood kept records log (rewriting stamp rid value) → IsAbove log stamp → LeavesValue log rid stamp value
      → Rewritings kept records before (log ++ rewriting stamp rid value ∷ [])

-- what is known of lists after one more version of the record was linked, in this place and at this stamp
abbrev pub linked_in : Size → (rid place stamp : ℕ) → Bounds → Bounds
linked_in size rid place stamp bounds = record {
  counts = counted_more size rid stamp place bounds.counts;
  tops = record { record_number = rid; stamp = stamp } ∷ bounds.tops;
}

-- a transaction is in flight at this stamp that has found this version, and has done nothing else
pub record HasFound (stamp : ℕ) (d : Read) (v : View) : Type 0 where
  pub in_flight : v.flight ≡ writing stamp
  pub published : v.published.write ≡ stamp
  pub is_stamp : IsStamp stamp
  pub work : v.work ≡ record no_work { reads = d ∷ [] }
  pub found : WasFound stamp d.record_number d.version v.seen.loads

-- one version of the record was linked, in a place that was held, and has its last status; of the log nothing is said
pub record LinksOne (rid place stamp : ℕ) (v w : View) : Type 0 where
  pub only : w ≡ record v {
    places = w.places;
    work = w.work;
    counts = counted_more v.size rid stamp place v.counts;
    tops = record { record_number = rid; stamp = stamp } ∷ v.tops;
    front = w.front;
    log = w.log;
    seen = w.seen;
  }
  pub held : w.places.held ≡ without place v.places.held
  pub placed : placed_of w.work.linked ≡ record { rid = rid; place = place } ∷ []
  pub grows : Grows v.seen w.seen
  pub ends : Ends w.work

-- it was linked where loads and lost exchanges led, then loads were made so, and nothing else was loaded or lost
pub record LinksOneThen (stamp rid : ℕ) (such : (before after' : List Load) → Type 0) (before after' : Observed) : Type 0 where
  pub linked : List Load
  pub descends : DescendsTo stamp rid before.loads before.lost linked after'.lost
  pub then : such linked after'.loads

-- the loads by which a transaction is validated that read this version of the record and writes it again; and by which a conflict stops it
abbrev pub ValidatesOne : (stamp seat rid wts : ℕ) → (before after' : List Load) → Type 0
ValidatesOne stamp seat rid wts before after' = Validates stamp seat ((rid, wts) ∷ []) (rid ∷ []) before after'

abbrev pub HaltsOne : (stamp rid : ℕ) → Conflict → (wts : ℕ) → (before after' : List Load) → Type 0
HaltsOne stamp rid conflict wts before after' = Halts stamp ((rid, wts) ∷ []) (rid ∷ []) before after' conflict

-- the record's value was written again: the log has one more entry
pub record Rewrites (kept : State → Type 0) (records rid place stamp : ℕ) (value : Option (List ℕ)) (v w : View) : Type 0 where
  pub links : LinksOne rid place stamp v w
  pub log : map deciding.entry_of w.log ≡ map deciding.entry_of v.log ++ rewriting stamp rid value ∷ []
  pub stood : Stood kept records (map deciding.entry_of v.log) (rewriting stamp rid value)
  pub entered : HasEntry rid stamp w.log

-- the seats that a view takes as open
abbrev pub others_in : View → Others
others_in v = record { splitting = v.splitting; taken_in = v.clock.taken_in }

-- what a conflict names was loaded between two views
abbrev pub IsLoadedIn : (stamp : ℕ) → Conflict → View → View → Type 0
IsLoadedIn stamp conflict v w = IsLoaded stamp conflict (observed_of v) (observed_of w)

-- a conflict came between, and the version linked is aborted
pub record IsStopped (rid place stamp : ℕ) (v w : View) (conflict : Conflict) : Type 0 where
  pub links : LinksOne rid place stamp v w
  pub log : w.log ≡ v.log
  pub shown : ShowsOf rid v.size v.number (others_in v) stamp conflict
  pub loaded : IsLoadedIn stamp conflict v w
