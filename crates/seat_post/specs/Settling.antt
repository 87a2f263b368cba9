-- What settling makes of a seat that is alone: the visible values of records are written again, and what is older is cut off.
use Rattle.std.specs.Prelude.{◌≡◌, ◌≢◌, ◌⊎◌, ℕ, ◌+◌, ◌-◌, ◌<◌, ◌≤◌, max, List, [], Some, map}
use Rattle.plain_data.specs.declared.entry.Entry.{Entry}
use Rattle.plain_data.specs.State.{State}
use Rattle.stamp_base.specs.Stamp.{stamp_of, bound_of_clock}
use Rattle.word_layout.specs.Size.{Size}
use Rattle.word_layout.specs.Name.{min_write}
use Rattle.core_rule.specs.View.{View, Counted, Load, nothing_reserved}
use Rattle.core_rule.specs.Paths.{load}
use Rattle.core_rule.specs.Views.{IsAlone, Among}
use Rattle.core_rule.specs.Searching.{Ends, known_of, newest_stamp}
use Rattle.core_rule.specs.Collecting.{HasEntry}
use Rattle.core_rule.specs.Spares.{StandsReserved}
use Rattle.core_rule.specs.Deciding as deciding
use Rattle.version_pool.specs.Takes.{TakesFree, after_losing}
use Rattle.version_search.specs.Growing.{Grows}
use Rattle.rapid_gc.specs.Bounds.{IsSingle}
use Rattle.seat_post.specs.declared.settled.Settled.{Settled}
use Rattle.seat_post.specs.Snapshot.{first_snapshot}
use Rattle.seat_post.specs.Logs.{IsAbove}
use Rattle.seat_post.specs.Observing as observing
use Rattle.seat_post.specs.Observing.{with_load}
use Rattle.seat_post.specs.Seats.{Observed, observed_of}
use Rattle.seat_post.specs.Collecting.{Trail, trail_of, trail_in, seeing}
use Rattle.seat_post.specs.Post.{PostView}
use Rattle.seat_post.specs.Rewriting.{Rewritings}
use Rattle.seat_post.specs.SettlingOne.{IsDue, SettlesFirst, RunsOut}

-- of each record below this number one version is left, which may lie outside its inline place
abbrev pub AreSettled : (count : ℕ) → Counted → Type 0
AreSettled count counts = (r : ℕ) → r < count → IsSingle (known_of counts r)

-- each entry that a log has beside those of an earlier one is stamped at this number or above it
abbrev pub AreLater : (before log : List Entry) → ℕ → Type 0
AreLater before log t = (e : Entry) → Among e log → Among e before ⊎ (t ≤ e.stamp)

-- ---- a post

-- Its clock and its published word are no lower, and its log has grown by rewritings alone, at stamps of later clocks. What it knows of
-- lists is other, and one less than what it met of `min_wts` is its read stamp, at which nothing was read yet.
pub record SettlesPost (kept : State → Type 0) (before after' : PostView) : Type 0 where
  pub only : after' ≡ record before {
    clock = after'.clock;
    published = after'.published;
    met = after'.met;
    bounds = after'.bounds;
    log = after'.log;
    observed = after'.observed;
    gone = after'.gone;
    placed = [];
    snapshot = first_snapshot (after'.met - 1);
  }
  pub grows : observing.Grows before.observed after'.observed
  pub later : before.clock ≤ after'.clock
  pub published : before.published ≤ after'.published
  pub bounded : after'.published ≤ max before.published (bound_of_clock after'.clock)
  pub met : before.met ≤ after'.met
  pub log : Rewritings kept before.shared.size.records before.log after'.log
  pub added : AreLater before.log after'.log (bound_of_clock before.clock)
  pub above : IsAbove after'.log (bound_of_clock after'.clock)

-- ---- the steps at the hand

abbrev pub entries_of : View → List Entry
entries_of v = map deciding.entry_of v.log

-- no other seat is open, nothing is in flight, and no commit entry is above the clock
pub record IsSettling (v : View) : Type 0 where
  pub alone : IsAlone v
  pub ends : Ends v.work
  pub holds_none : v.places.held ≡ []
  pub above : IsAbove (entries_of v) (bound_of_clock v.clock.clock)

-- the same seat, with a clock and a published word that are no lower, and a log that has grown by rewritings alone, at stamps of later
-- clocks
pub record Settles (kept : State → Type 0) (v w : View) : Type 0 where
  pub number : w.number ≡ v.number
  pub size : w.size ≡ v.size
  pub splitting : w.splitting ≡ v.splitting
  pub taken_in : w.clock.taken_in ≡ v.clock.taken_in
  pub later : v.clock.clock ≤ w.clock.clock
  pub published : v.published.write ≤ w.published.write
  pub bounded : w.published.write ≤ max v.published.write (bound_of_clock w.clock.clock)
  pub met : v.clock.met ≤ w.clock.met
  pub grows : Grows v.seen w.seen
  pub log : Rewritings kept v.size.records (entries_of v) (entries_of w)
  pub added : AreLater (entries_of v) (entries_of w) (bound_of_clock v.clock.clock)

-- what is known of the lists of the other records is as before
abbrev pub KeepsOthers : (rid : ℕ) → View → View → Type 0
KeepsOthers rid v w = (r : ℕ) → r ≢ rid → known_of w.counts r ≡ known_of v.counts r

-- what was searched has changed nothing but published words, the loads, and what was met of `min_wts`
pub record OnlySearches (v w : View) : Type 0 where
  pub clock : w.clock.clock ≡ v.clock.clock
  pub counts : w.counts ≡ v.counts
  pub tops : w.tops ≡ v.tops
  pub log : w.log ≡ v.log
  pub gone : w.gone ≡ v.gone

-- ---- a record

-- the record's visible value was written again at this stamp, which was drawn
pub record IsRewrittenAt (rid stamp : ℕ) (v w : View) : Type 0 where
  pub at : stamp ≡ stamp_of (v.clock.clock + 1) v.number
  pub drawn : w.clock.clock ≡ v.clock.clock + 1
  pub entered : HasEntry rid stamp w.log
  pub newest : newest_stamp w.tops rid ≡ Some stamp

-- the record has one version left
pub record IsCut (rid : ℕ) (v w : View) : Type 0 where
  pub clock : w.clock.clock ≡ v.clock.clock
  pub log : w.log ≡ v.log
  pub one : IsSingle (known_of w.counts rid)

-- ---- a place

-- the reserved place, or the inline place of the record, is known to be free
abbrev pub HasSpare : (rid : ℕ) → Counted → Type 0
HasSpare rid counts = (counts.in_reserved ≡ nothing_reserved) ⊎ StandsReserved rid counts

-- exchanges were lost, and then this place was taken; they were lost, and none was taken
pub record TakesAfter (place : ℕ) (v w : View) : Type 0 where
  pub lost : List Load
  pub takes : TakesFree place (after_losing v lost) w

pub record LosesAll (v w : View) : Type 0 where
  pub lost : List Load
  pub view : w ≡ after_losing v lost

-- ---- where the clock comes to its end

-- of the record a writing again was due, for which there was no clock
pub record StopsOne (size : Size) (rid : ℕ) (v w : View) : Type 0 where
  pub searched : Observed
  pub due : IsDue size.seats v.number rid (entries_of v) (observed_of v) searched
  pub runs_out : RunsOut size v.number rid v.clock.clock w.clock.clock searched (observed_of w)
  pub rest : trail_in w ≡ seeing (trail_in v) (observed_of w)

-- the records below this one are settled, and it was so of this one
pub record StopsSome (size : Size) (v w : View) : Type 0 where
  pub rid : ℕ
  pub all : Settled
  pub within : rid < size.records
  pub settled : AreSettled rid w.counts
  pub between : View
  pub first : SettlesFirst size v.number rid all (trail_in v) (trail_in between)
  pub number : between.number ≡ v.number
  pub drawn : between.clock.clock ≡ v.clock.clock + all.rewritten
  pub stops : StopsOne size rid between w

-- ---- what the call shows

-- at the end `min_wts` was loaded once more
abbrev pub with_met : Trail → (met : ℕ) → Trail
with_met t met = record t { observed = with_load t.observed (load min_write met) }

-- each record was settled, and in all this was done
pub record SettlesAll (before after' : PostView) (all : Settled) : Type 0 where
  pub reached : Trail
  pub first : SettlesFirst before.shared.size before.seat before.shared.size.records all (trail_of before) reached
  pub last : trail_of after' ≡ with_met reached after'.met

-- The clock came to its end. The records below one were settled, and in all this was done for them; of that record a writing again was
-- due, for which there was no clock.
pub record StopsPost (before after' : PostView) : Type 0 where
  pub rid : ℕ
  pub within : rid < before.shared.size.records
  pub settled : AreSettled rid after'.bounds.counts
  pub all : Settled
  pub between : Trail
  pub first : SettlesFirst before.shared.size before.seat rid all (trail_of before) between
  pub searched : Observed
  pub due : IsDue before.shared.size.seats before.seat rid between.log between.observed searched
  pub reached : Observed
  pub runs_out : RunsOut before.shared.size before.seat rid (before.clock + all.rewritten) after'.clock searched reached
  pub last : trail_of after' ≡ with_met (seeing between reached) after'.met
