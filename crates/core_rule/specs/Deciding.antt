-- The entries that transactions and snapshots make, and when a transaction may decide.
use Rattle.std.specs.Prelude.{◌≡◌, ℕ, true, false, ◌==◌, if◌then◌else◌, List, [], ◌∷◌, ◌++◌, map, Contains, Option, Some, None}
use Rattle.plain_data.specs.declared.entry.Entry.{Entry}
use Rattle.plain_data.specs.State.{State, Agrees, Fits}
use Rattle.histories.specs.History.{Lawful, LeavesKept, Before}
use Rattle.core_rule.specs.Status.{status_word}
use Rattle.core_rule.specs.declared.status.Status.TheVariants.{Deleted}
use Rattle.core_rule.specs.View.{Flight, resting, writing, Write, Read, Work, Logged}
use Rattle.core_rule.specs.Views.{Among}
use Rattle.core_rule.specs.Searching.{IsWhole}

-- the value of a version that was read, and of one that was written: none where it is a deletion
abbrev pub read_value : Read → Option (List ℕ)
read_value d = if d.status == status_word Deleted then None else Some d.cells

abbrev pub value_of : List ℕ → Option (List ℕ)
value_of [] = None
value_of (x ∷ xs) = Some (x ∷ xs)

abbrev pub read_values : List Read → List (ℕ × Option (List ℕ))
read_values [] = []
read_values (d ∷ ds) = (d.record_number, read_value d) ∷ read_values ds

abbrev pub written_values : List Write → List (ℕ × Option (List ℕ))
written_values [] = []
written_values (u ∷ us) = (u.record_number, value_of u.cells) ∷ written_values us

-- the entry of a history that stands in the log
abbrev pub entry_of : Logged → Entry
entry_of e = record { stamp = e.stamp; snapshot = e.snapshot; reads = read_values e.reads; writes = written_values e.writes }

-- the stamp in flight
abbrev pub stamp_in : Flight → ℕ
stamp_in (writing t) = t
stamp_in resting = 0

abbrev pub commit_of : Flight → (reads : List Read) → List Write → Logged
commit_of f ds us = record { stamp = stamp_in f; snapshot = false; reads = ds; writes = us }

abbrev pub snapshot_of : (stamp : ℕ) → List Read → Logged
snapshot_of t ds = record { stamp = t; snapshot = true; reads = ds; writes = [] }

-- each read is one of those found, and whole; no record is read twice
abbrev pub AreReads : List Read → List Read → Type 0
AreReads [] found = Unit {0}
AreReads (d ∷ ds) found = Among d found × IsWhole d × ((c : Read) → Among c ds → c.record_number ≡ d.record_number → ⊥) × AreReads ds found

-- its writes leave a kept state
abbrev pub IsFitting : (State → Type 0) → (records : ℕ) → Logged → Type 0
IsFitting kept records e = Fits kept records (entry_of e)

-- the log is a lawful history
abbrev pub IsLawfulLog : (State → Type 0) → (records : ℕ) → List Logged → Type 0
IsLawfulLog kept records es = Lawful kept records (map entry_of es)

-- an entry stands at the end of this log: the entries of all seats are a lawful history, these among them, and those before this
-- one leave a kept state, which agrees with its reads
pub record StoodAt (kept : State → Type 0) (records : ℕ) (log : List Logged) (e : Logged) : Type 0 where
  pub history : List Entry
  pub lawful : Lawful kept records history
  pub own : (c : Logged) → Among c (log ++ e ∷ []) → Contains history (entry_of c)
  pub state : State
  pub left : LeavesKept kept records (Before history (entry_of e)) state
  pub agrees : Agrees state (read_values e.reads)

-- nothing was decided or stored yet
pub record IsUndecided (w : Work) : Type 0 where
  pub undecided : w.decided ≡ false
  pub unsettled : w.settled ≡ []
