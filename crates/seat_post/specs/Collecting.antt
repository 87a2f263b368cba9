-- A queue of versions to be collected below: what it has, what becomes of its items, and what shows it.
use Rattle.std.specs.Prelude.{◌≡◌, ◌≢◌, ◌↔◌, ℕ, suc, ◌<◌, ◌≤◌, List, [], ◌∷◌, ◌++◌, length, map, false, IsSome}
use Rattle.word_layout.specs.Name.{lock, floor}
use Rattle.core_rule.specs.View.{View, Load}
use Rattle.core_rule.specs.Paths.{load}
use Rattle.core_rule.specs.Views.{Among}
use Rattle.core_rule.specs.Deciding.{entry_of}
use Rattle.rapid_gc.specs.declared.queue.Queued.{Queued}
use Rattle.rapid_gc.specs.declared.fate.Fate.{Fate}
use Rattle.rapid_gc.specs.declared.fate.Fate.TheVariants.{Late, Locked, Dropped, Cut as CutBelow}
use Rattle.rapid_gc.specs.declared.collecting.Collected.{Collected}
use Rattle.rapid_gc.specs.Chains.{Follows, FindsVersion, counted}
use Rattle.rapid_gc.specs.Ends.{Ended, items_of, remaining, how_many, late_one, locked_one, dropped_one, cut_one}
use Rattle.plain_data.specs.declared.entry.Entry.{Entry}
use Rattle.record_store.specs.Meaning.{value_at}
use Rattle.seat_post.specs.Seats.{Observed, Removed, observed_of, removed_of}
use Rattle.seat_post.specs.Observing.{with_load, RaisesBoth}
use Rattle.seat_post.specs.Post.{PostView}

-- a commit entry of the log writes the record at the stamp
pub record IsQueued (records : ℕ) (log : List Entry) (i : Queued) : Type 0 where
  pub within : i.rid < records
  pub entry : Entry
  pub among : Among entry log
  pub commit : entry.snapshot ≡ false
  pub at : entry.stamp ≡ i.stamp
  pub writes : IsSome (value_at entry.writes i.rid)

abbrev pub AreQueued : (records : ℕ) → List Entry → List Queued → Type 0
AreQueued records log items = (i : Queued) → Among i items → IsQueued records log i

-- Each item was late, locked, dropped or cut below: late exactly above the minimum of read stamps that was reached. The late and the
-- locked ones stay, in their order.
pub record Collects (before after' : List Queued) (tally : Collected) : Type 0 where
  pub reached : ℕ
  pub ended : List Ended
  pub each_item : items_of ended ≡ before
  pub stay : after' ≡ remaining ended
  pub late_exactly : (e : Ended) → Among e ended → (e.end ≡ Late) ↔ (reached < e.item.stamp)
  pub late : tally.late ≡ counted (how_many late_one ended)
  pub locked : tally.locked ≡ counted (how_many locked_one ended)
  pub dropped : tally.dropped ≡ counted (how_many dropped_one ended)
  pub cut : tally.cut ≡ counted (how_many cut_one ended)

-- ---- what shows it

-- what a seat's steps have come upon, what they have cut off and freed, and the seat's log
pub record Trail : Type 0 where
  pub observed : Observed
  pub gone : Removed
  pub log : List Entry

abbrev pub trail_of : PostView → Trail
trail_of p = record { observed = p.observed; gone = p.gone; log = p.log }

abbrev pub trail_in : View → Trail
trail_in v = record { observed = observed_of v; gone = removed_of v; log = map entry_of v.log }

-- its steps came upon this instead
abbrev pub seeing : Trail → Observed → Trail
seeing t observed = record t { observed = observed }

-- the lock of its record was met held by another seat
pub record MeetsHeld (seat : ℕ) (i : Queued) (before after' : Trail) : Type 0 where
  pub holder : ℕ
  pub held : holder ≢ 0
  pub another : holder ≢ suc seat
  pub after : after' ≡ record before { observed = record before.observed { lost = before.observed.lost ++ load (lock i.rid) holder ∷ [] } }

-- the floor of its record, loaded under the lock, is above it
pub record IsUnder (i : Queued) (before after' : Trail) : Type 0 where
  pub floor_read : ℕ
  pub under : i.stamp < floor_read
  pub after : after' ≡ record before { observed = with_load before.observed (load (floor i.rid) floor_read) }

-- It is not. The version was found in a place, and what its link named was cut off, so it was the last of its list then; each place from
-- that link on was freed, down to the end.
pub record IsLastNow (i : Queued) (before after' : Trail) : Type 0 where
  pub floor_read : ℕ
  pub not_under : floor_read ≤ i.stamp
  pub place : ℕ
  pub to : ℕ
  pub found : List Load
  pub finds : FindsVersion i.rid i.stamp place (before.observed.loads ++ load (floor i.rid) floor_read ∷ []) found
  pub freed : List ℕ
  pub links : List Load
  pub follows : Follows to freed links 0
  pub loads : after'.observed.loads ≡ found ++ links
  pub lost : after'.observed.lost ≡ before.observed.lost
  pub cuts : after'.gone.cuts ≡ before.gone.cuts ++ record { record_number = i.rid; stamp = i.stamp; place = place; to = to } ∷ []
  pub gone : after'.gone.freed ≡ before.gone.freed ++ freed
  pub log : after'.log ≡ before.log

-- what shows what became of an item
abbrev pub IsShown : (seat reached : ℕ) → Queued → Fate → (before after' : Trail) → Type 0
IsShown seat reached i Late before after' = (reached < i.stamp) × (after' ≡ before)
IsShown seat reached i Locked before after' = (i.stamp ≤ reached) × MeetsHeld seat i before after'
IsShown seat reached i Dropped before after' = (i.stamp ≤ reached) × IsUnder i before after'
IsShown seat reached i CutBelow before after' = (i.stamp ≤ reached) × IsLastNow i before after'

-- this became of the items, one after another from the last to the first
pub data AreShown (seat reached : ℕ) : List Ended → Trail → Trail → Type 0 where
  none_yet : (t : Trail) → AreShown seat reached [] t t
  one_more : (es : List Ended) (e : Ended) (t u w : Trail) → AreShown seat reached es t u → IsShown seat reached e.item e.end u w → AreShown seat reached (e ∷ es) t w

-- so many places were freed
pub record Frees (places : ℕ) (before after' : Removed) : Type 0 where
  pub freed : List ℕ
  pub gone : after'.freed ≡ before.freed ++ freed
  pub count : places ≡ counted (length freed)

-- The published write words were loaded to raise `min_wts`, where the own one was published before, and the published read words to raise
-- `min_rts`, which came to the minimum that was reached. Then this became of the items, and nothing else was cut off or freed.
pub record CollectsPost (before after' : PostView) (items items' : List Queued) (tally : Collected) : Type 0 where
  pub queue : Collects items items' tally
  pub prepared : Observed
  pub raises : RaisesBoth before.shared.size.seats before.seat after'.published after'.met queue.reached before.observed prepared
  pub goes : AreShown before.seat queue.reached queue.ended (record { observed = prepared; gone = before.gone; log = before.log }) (trail_of after')
  pub places : Frees tally.places before.gone after'.gone
