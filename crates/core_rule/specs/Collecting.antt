-- How the collection of a version goes on.
use Rattle.std.specs.Prelude.{◌≡◌, ℕ, ◌==◌, false, if◌then◌else◌, List, Option, Some, None}
use Rattle.core_rule.specs.View.{Write, Logged, Stage, seeks, passes, found, floored, cut_off, freeing, Item, no_item, collects}
use Rattle.core_rule.specs.Views.{Among}

-- a commit entry of the log writes record r at this stamp
pub record HasEntry (r stamp : ℕ) (log : List Logged) : Type 0 where
  pub entry : Logged
  pub among : Among entry log
  pub commit : entry.snapshot ≡ false
  pub at : entry.stamp ≡ stamp
  pub write : Write
  pub writes : Among write entry.writes
  pub of_record : write.record_number ≡ r

-- the lock is held; places are cut off and not yet freed
abbrev pub HasLock : Stage → Type 0
HasLock (freeing to left) = ⊥
HasLock stage = Unit {0}

abbrev pub HasChain : Stage → Type 0
HasChain (cut_off to) = Unit {0}
HasChain (freeing to left) = Unit {0}
HasChain stage = ⊥

-- the seat works under the lock of record r; it has cut off places
abbrev pub Locking : ℕ → Item → Type 0
Locking r no_item = ⊥
Locking r (collects q stamp stage) = (q ≡ r) × HasLock stage

abbrev pub Frees : Item → Type 0
Frees no_item = ⊥
Frees (collects r stamp stage) = HasChain stage

-- with this link to go on from
abbrev pub rests_at : (r stamp to : ℕ) → Item
rests_at r stamp to = if to == 0 then no_item else collects r stamp (freeing to None)

-- the record and the version that are collected below, and what the stage has: the place, and the number beside it
abbrev pub record_in : Item → ℕ
record_in no_item = 0
record_in (collects r stamp stage) = r

abbrev pub version_in : Item → ℕ
version_in no_item = 0
version_in (collects r stamp stage) = stamp

abbrev pub place_of : Option ℕ → ℕ
place_of None = 0
place_of (Some p) = p

abbrev pub stage_place : Stage → ℕ
stage_place (seeks p under) = p
stage_place (passes p stamp) = p
stage_place (found p) = p
stage_place (floored p) = p
stage_place (freeing to left) = place_of left
stage_place stage = 0

abbrev pub stage_number : Stage → ℕ
stage_number (seeks p under) = under
stage_number (passes p stamp) = stamp
stage_number (cut_off to) = to
stage_number (freeing to left) = to
stage_number stage = 0

abbrev pub place_in : Item → ℕ
place_in no_item = 0
place_in (collects r stamp stage) = stage_place stage

abbrev pub number_in : Item → ℕ
number_in no_item = 0
number_in (collects r stamp stage) = stage_number stage
