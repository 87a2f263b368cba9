-- What a log leaves of a record: the value of its last write, or none.
use Rattle.std.specs.Prelude.{◌≡◌, ℕ, ◌<◌, ◌≤◌, List, Bool, true, false, Option, None, Some, All, Contains}
use Rattle.std.specs.List.Sorted.{IsStrictlyIncreasing}
use Rattle.plain_data.specs.declared.entry.Entry.{Entry}
use Rattle.histories.specs.History.{IsValue}
use Rattle.spare_numbers.specs.Spare.{is_on}

-- the entries of a log that are stamped below a limit
abbrev pub StampedBelow : List Entry → (limit : ℕ) → Entry → Type 0
StampedBelow log limit e = Contains log e × (e.stamp < limit)

-- Its commit entries below the limit leave this value of record r. Either one of them writes it, with this value, and none that writes it
-- is stamped above that one; or none of them writes it, and the value is none.
abbrev pub LeavesValue : List Entry → (r limit : ℕ) → Option (List ℕ) → Type 0
LeavesValue log r limit value = IsValue (StampedBelow log limit) r value

-- each value read is what they leave
abbrev pub AreLeft : List Entry → (limit : ℕ) → (reads : List (ℕ × Option (List ℕ))) → Type 0
AreLeft log limit reads = All (λ read. LeavesValue log read.0 limit read.1) reads

-- they leave a value
abbrev pub LeavesSome : List Entry → (r limit : ℕ) → Type 0
LeavesSome log r limit = (words : List ℕ) × LeavesValue log r limit (Some words)

-- all of its commit entries leave a value
abbrev pub IsPresent : List Entry → (r : ℕ) → Type 0
IsPresent log r = (words : List ℕ) × IsValue (Contains log) r (Some words)

-- the record is absent, or has a value
abbrev pub LeavesAs : List Entry → (r limit : ℕ) → (absent : Bool) → Type 0
LeavesAs log r limit true = LeavesValue log r limit None
LeavesAs log r limit false = LeavesSome log r limit

-- these are the absent ones of the records in this range, rising
pub record AreAbsent (log : List Entry) (limit from to : ℕ) (rids : List ℕ) : Type 0 where
  pub rising : IsStrictlyIncreasing rids
  pub in_range : (r : ℕ) → is_on rids r ≡ true → (from ≤ r) × (r < to)
  pub each : (r : ℕ) → from ≤ r → r < to → LeavesAs log r limit (is_on rids r)
