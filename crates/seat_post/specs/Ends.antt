-- What a decided transaction tells of the history.
use Rattle.std.specs.Prelude.{ℕ, List, [], ◌∷◌, ◌++◌, Contains}
use Rattle.plain_data.specs.declared.entry.Entry.{Entry}
use Rattle.plain_data.specs.State.{State, Agrees}
use Rattle.histories.specs.History.{Lawful, LeavesKept, Before}

-- the entry stands at the end of this log: the entries of all seats are a lawful history, these among them, and those before this one
-- leave a kept state, which agrees with its reads
pub record Stood (kept : State → Type 0) (records : ℕ) (log : List Entry) (entry : Entry) : Type 0 where
  pub history : List Entry
  pub lawful : Lawful kept records history
  pub own : (e : Entry) → Contains (log ++ entry ∷ []) e → Contains history e
  pub state : State
  pub left : LeavesKept kept records (Before history entry) state
  pub agrees : Agrees state entry.reads
