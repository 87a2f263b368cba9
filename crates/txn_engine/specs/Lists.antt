-- What a seat that is alone knows of the records' lists of versions: after a commit, after a collection, and where no commit may want for
-- a place.
use Rattle.std.specs.Prelude.{◌≡◌, ◌⊎◌, ℕ, suc, ◌≤◌, List, length, Some}
use Rattle.core_rule.specs.Views.{Among}
use Rattle.core_rule.specs.Searching.{known_of, newest_stamp}
use Rattle.rapid_gc.specs.declared.queue.Queued.{Queued}
use Rattle.seat_post.specs.Seats.{Bounds}
use Rattle.txn_engine.specs.Pass.{PassView}
use Rattle.seat_post.specs.Lists.{HasOutside, IsFullAt, HasLinked, IsRoomyAt}

-- the newest version of the record is queued to be collected below
pub record IsQueuedNewest (queue : List Queued) (bounds : Bounds) (r : ℕ) : Type 0 where
  pub item : Queued
  pub among : Among item queue
  pub of_record : item.rid ≡ r
  pub stamp : ℕ
  pub newest : newest_stamp bounds.tops r ≡ Some stamp
  pub low : stamp ≤ item.stamp

-- Each record has one version linked at most; one at most outside its inline place. And the same of each record but those whose newest
-- version is queued, which a collection by a seat that is alone brings down to one.
abbrev pub IsTidy : PassView → Type 0
IsTidy p = (r : ℕ) → suc r ≤ p.shared.size.records → HasLinked 1 (known_of p.bounds.counts r)

abbrev pub IsRoomy : PassView → Type 0
IsRoomy p = IsRoomyAt p.shared.size p.bounds

abbrev pub IsTidyOnceCollected : PassView → Type 0
IsTidyOnceCollected p = (r : ℕ) → suc r ≤ p.shared.size.records → HasLinked 1 (known_of p.bounds.counts r) ⊎ IsQueuedNewest p.queue p.bounds r

abbrev pub IsRoomyOnceCollected : PassView → Type 0
IsRoomyOnceCollected p = (r : ℕ) → suc r ≤ p.shared.size.records → HasOutside 1 (known_of p.bounds.counts r) ⊎ IsQueuedNewest p.queue p.bounds r

abbrev pub IsFull : PassView → Type 0
IsFull p = IsFullAt p.shared.size p.bounds (length p.writes)
