-- How a walk over an index went on its store, whatever it answers.
use Rattle.std.specs.Prelude.{◌≡◌, ℕ, List, Option, Result}
use Rattle.record_store.specs.Calls.{Reads, ReadFault, Calls, CallFault}
use Rattle.record_store.specs.Meaning.{Meaning}
use Rattle.record_store.specs.Walks.{IfStore, IfNoMemory, OnlyReads, ReadsGrow}
use Rattle.record_store.specs.Writes.{GivesAtMost, GivesFewer}
use Rattle.record_store.specs.declared.walk.Walk.{Walk}

-- by reads alone; a fault is that of the last one
pub record GoesByReads {S F T : Type 0} (read_gives : S → ℕ → Result (Option (List ℕ)) F → S → Type 0) (meaning : S → Meaning) (first last : S)
    (result : Result T (Walk F)) : Type 0 where
  pub calls : Reads read_gives first last
  pub fault : IfStore result (ReadFault read_gives first last)
  pub only : OnlyReads (meaning first) (meaning last)

-- by calls, of which so many asked for a new record; a fault is that of the last one, and each ask is counted, and may be made; one that
-- was refused gave nothing
pub record GoesByCalls {S F T : Type 0} (read_gives : S → ℕ → Result (Option (List ℕ)) F → S → Type 0) (write_gives : S → ℕ → Option (List ℕ)
    → Result (Unit {0}) F → S → Type 0) (fresh_gives : S → Result ℕ F → S → Type 0) (meaning : S → Meaning) (MayAsk : ℕ → Type 0) (asked : ℕ)
    (first last : S) (result : Result T (Walk F)) : Type 0 where
  pub calls : Calls read_gives write_gives fresh_gives first asked last
  pub fault : IfStore result (CallFault read_gives write_gives fresh_gives
      (λ asks. MayAsk asks × GivesFewer asks (meaning first) (meaning last)) first last)
  pub given : GivesAtMost asked (meaning first) (meaning last)
  pub grow : ReadsGrow (meaning first) (meaning last)

-- a walk that reads alone: it takes no memory, and keeps what no call changes
pub record WalksByReads {S F T R : Type 0} (read_gives : S → ℕ → Result (Option (List ℕ)) F → S → Type 0) (meaning : S → Meaning) (rest : S → R)
    (first last : S) (result : Result T (Walk F)) : Type 0 where
  pub by : GoesByReads read_gives meaning first last result
  pub memory : IfNoMemory result ⊥
  pub kept : rest last ≡ rest first

-- a walk that changes its index, and asks so often for a new record
pub record WalksByCalls {S F T R : Type 0} (read_gives : S → ℕ → Result (Option (List ℕ)) F → S → Type 0) (write_gives : S → ℕ → Option (List ℕ)
    → Result (Unit {0}) F → S → Type 0) (fresh_gives : S → Result ℕ F → S → Type 0) (meaning : S → Meaning) (rest : S → R) (MayAsk : ℕ → Type 0)
    (asked : ℕ) (first last : S) (result : Result T (Walk F)) : Type 0 where
  pub by : GoesByCalls read_gives write_gives fresh_gives meaning MayAsk asked first last result
  pub memory : IfNoMemory result ⊥
  pub kept : rest last ≡ rest first

-- one whose asks depend on what it met: which may be made, and how many were, is told of what the store meant before and after
pub record WalksCounting {S F T R : Type 0} (read_gives : S → ℕ → Result (Option (List ℕ)) F → S → Type 0) (write_gives : S → ℕ → Option (List ℕ)
    → Result (Unit {0}) F → S → Type 0) (fresh_gives : S → Result ℕ F → S → Type 0) (meaning : S → Meaning) (rest : S → R)
    (MayAsk : Meaning → Meaning → ℕ → Type 0) (Asks : Meaning → Meaning → Result T (Walk F) → ℕ → Type 0) (first last : S)
    (result : Result T (Walk F)) : Type 0 where
  pub asked : ℕ
  pub walk : WalksByCalls read_gives write_gives fresh_gives meaning rest (MayAsk (meaning first) (meaning last)) asked first last result
  pub asks : Asks (meaning first) (meaning last) result asked
