-- What looking for the absent records changes.
use Rattle.std.specs.Prelude.{◌≡◌, ℕ, ◌-◌, max, if◌then◌else◌, Bool, List, [], ◌∷◌, ◌++◌}
use Rattle.std.specs.List.{range_with_len}
use Rattle.stamp_base.specs.Stamp.{bound_of_clock}
use Rattle.word_layout.specs.Name.{min_write}
use Rattle.core_rule.specs.View.{View, Load}
use Rattle.core_rule.specs.Paths.{EndsAt, load}
use Rattle.core_rule.specs.Searching.{Rests, Ends}
use Rattle.version_search.specs.Finding.{status_of}
use Rattle.validate_core.specs.OneByOne.{OneByOne}
use Rattle.seat_post.specs.Seats.{Observed}
use Rattle.seat_post.specs.Observing.{with_load, MeetsMinimum}
use Rattle.seat_post.specs.Snapshot.{first_snapshot}
use Rattle.seat_post.specs.Post.{PostView}

-- searches change what they have in flight, and what was loaded, and lose no exchange
pub record Looks (v w : View) : Type 0 where
  pub view : w ≡ record v { work = w.work; seen = w.seen }
  pub lost : w.seen.lost ≡ v.seen.lost
  pub rests : Rests w.work.search
  pub ends : Ends v.work → Ends w.work

-- loads led to the version of the record that is visible below this stamp: a deleted one where the record is absent, else a committed one
pub record Searches (limit rid : ℕ) (absent : Bool) (before after' : List Load) : Type 0 where
  pub place : ℕ
  pub version : ℕ
  pub path : EndsAt limit rid place version (status_of absent) before after'

-- what was loaded and which numbers are listed: the record was searched, and its number was put at the end of the list where it is absent
pub record LooksAt (limit rid : ℕ) (before after' : List Load × List ℕ) : Type 0 where
  pub absent : Bool
  pub searches : Searches limit rid absent before.0 after'.0
  pub listed : after'.1 ≡ (if absent then before.1 ++ rid ∷ [] else before.1)

-- `min_wts` was raised by the published write words, the own one among them as it was published, and then loaded, when it was this; it was
-- this again when it was loaded at the end. Between, the records of this range were searched below what was published, once each and by
-- rising number, the absent ones were listed, and nothing else was loaded or lost.
pub record LooksOver (seats seat met published fixed records : ℕ) (spare : List ℕ) (before after' : Observed) : Type 0 where
  pub raised : Observed
  pub minimum : MeetsMinimum seats seat published met before raised
  pub searched : Observed
  pub each : OneByOne (LooksAt published) (range_with_len fixed (records - fixed)) (raised.loads, []) (searched.loads, spare)
  pub lost : searched.lost ≡ raised.lost
  pub last : after' ≡ with_load searched (load min_write met)

-- The bound of the clock is published and is the greatest minimum met, one less is the read stamp, where nothing was read yet.
abbrev pub looked_over : PostView → PostView
looked_over p = record p {
  published = max p.published (bound_of_clock p.clock);
  met = max p.published (bound_of_clock p.clock);
  placed = [];
  snapshot = first_snapshot (max p.published (bound_of_clock p.clock) - 1);
}
