-- Histories: lists of entries, what they leave of each record, and which lists are those of transactions that ran one
-- after another.
use Rattle.std.specs.Prelude.{◌≡◌, ◌≢◌, ℕ, ◌+◌, ◌*◌, ◌<◌, ◌≤◌, Bool, false, List, [], ◌∷◌, All, AllPairs, Contains, Any, Option, None, ◌⊎◌, if◌then◌else◌}
use Rattle.std.specs.List.Sorted.{IsPermutation}
use Rattle.plain_data.specs.declared.entry.Entry.{Entry}
use Rattle.plain_data.specs.State.{State, IsEntry, IsState, Agrees, overlay, empty_state}

-- the place in time of a stamp and a kind: by stamps, a commit before a snapshot of the same stamp
abbrev pub time : ℕ → Bool → ℕ
time stamp snapshot = 2 * stamp + (if snapshot then 1 else 0)

abbrev pub time_of : Entry → ℕ
time_of entry = time entry.stamp entry.snapshot

-- two commit entries have different stamps
abbrev pub StampsDiffer : Entry → Entry → Type 0
StampsDiffer a b = a.snapshot ≡ false → b.snapshot ≡ false → a.stamp ≢ b.stamp

-- ---- the fold of a sorted list

-- entries one after another from a state: each one's reads are the values of the state before it, its writes give the
-- next, and every state is kept
abbrev pub Folds : (State → Type 0) → State → List Entry → Type 0
Folds kept state [] = kept state
Folds kept state (entry ∷ entries) = kept state × Agrees state entry.reads × Folds kept (overlay entry.writes state) entries

-- a lawful history: commit stamps differ, and the entries, sorted by time, fold from the empty state
pub record Lawful (kept : State → Type 0) (records : ℕ) (entries : List Entry) : Type 0 where
  pub each : All (IsEntry records) entries
  pub apart : AllPairs StampsDiffer entries
  pub sorted : List Entry
  pub same : IsPermutation entries sorted
  pub in_order : AllPairs (λ a b. time_of a ≤ time_of b) sorted
  pub folds : Folds kept empty_state sorted

-- ---- what commit entries leave, by pairs of them

-- a commit entry that writes the record
pub record Writes (rid : ℕ) (entry : Entry) : Type 0 where
  pub commit : entry.snapshot ≡ false
  pub at : Any (λ write. write.0 ≡ rid) entry.writes

-- the entry has the greatest stamp among those that write the record, and its write has the value x
pub record IsLastWrite (among : Entry → Type 0) (rid : ℕ) (x : Option (List ℕ)) (entry : Entry) : Type 0 where
  pub there : among entry
  pub commit : entry.snapshot ≡ false
  pub value : Contains entry.writes (rid, x)
  pub last : (other : Entry) → among other → Writes rid other → other.stamp ≤ entry.stamp

-- the value that the commit entries among some leave of a record: that of the last write, or absent
abbrev pub IsValue : (Entry → Type 0) → ℕ → Option (List ℕ) → Type 0
IsValue among rid x = ((entry : Entry) × IsLastWrite among rid x entry) ⊎ ((x ≡ None) × ((other : Entry) → among other → Writes rid other → ⊥))

-- the state that they leave
abbrev pub Leaves : (Entry → Type 0) → State → Type 0
Leaves among state = (rid : ℕ) → IsValue among rid (state rid)

-- the entries that lie before one, and those up to a stamp
abbrev pub Before : List Entry → Entry → Entry → Type 0
Before entries entry other = Contains entries other × (time_of other < time_of entry)

abbrev pub UpTo : List Entry → ℕ → Entry → Type 0
UpTo entries stamp other = Contains entries other × (other.stamp ≤ stamp)

-- each read of an entry has the value of the write before it; so has each read of each entry
abbrev pub ReadsObey : List Entry → Entry → Type 0
ReadsObey entries entry = All (λ read. IsValue (Before entries entry) read.0 read.1) entry.reads

abbrev pub ObeysWriteBefore : List Entry → Type 0
ObeysWriteBefore entries = All (ReadsObey entries) entries

-- entries leave this state, which is kept
pub record LeavesKept (kept : State → Type 0) (records : ℕ) (among : Entry → Type 0) (state : State) : Type 0 where
  pub left : Leaves among state
  pub is_state : IsState records state
  pub is_kept : kept state
