-- What a log leaves of a record.
use Rattle.std.specs.Prelude.{◌≡◌, ◌⊎◌, ℕ, ◌<◌, ◌≤◌, true, false, List}
use Rattle.core_rule.specs.Status.{status_word}
use Rattle.core_rule.specs.declared.status.Status.TheVariants.{Deleted}
use Rattle.core_rule.specs.View.{Write, Logged}
use Rattle.core_rule.specs.Views.{Among}
use Rattle.core_rule.specs.Searching.{shown_at}
use Rattle.core_rule.specs.Collecting.{HasEntry}

-- no commit entry of the log writes record r between the stamp w and the limit
abbrev pub NoneAbove : List Logged → (r limit w : ℕ) → Type 0
NoneAbove log r limit w = (e : Logged) (u : Write) → Among e log → e.snapshot ≡ false → Among u e.writes → u.record_number ≡ r → e.stamp < limit → e.stamp ≤ w

-- no commit entry of the log writes record r below the limit
abbrev pub NoneBelow : List Logged → (r limit : ℕ) → Type 0
NoneBelow log r limit = (e : Logged) (u : Write) → Among e log → e.snapshot ≡ false → Among u e.writes → u.record_number ≡ r → e.stamp < limit → ⊥

-- a commit entry of the log writes record r at the stamp w, by a version that shows this status
pub record IsWritten (log : List Logged) (r w status : ℕ) : Type 0 where
  pub entry : HasEntry r w log
  pub shows : status ≡ shown_at true entry.write.cells

-- the version of record r at the stamp w, with this status, is what the log leaves below the limit: its last write, or,
-- where there is none, the deleted version 0
pub record IsLeft (log : List Logged) (r limit w status : ℕ) : Type 0 where
  pub last : NoneAbove log r limit w
  pub from : ((w ≡ 0) × (status ≡ status_word Deleted) × NoneBelow log r limit) ⊎ IsWritten log r w status

-- the last write of record r below the limit is that at the stamp w, with these cells
pub record LeavesCells (log : List Logged) (r limit w : ℕ) (cells : List ℕ) : Type 0 where
  pub last : NoneAbove log r limit w
  pub entry : HasEntry r w log
  pub value : entry.write.cells ≡ cells
