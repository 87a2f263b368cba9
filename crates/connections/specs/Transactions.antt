-- How a transaction of a connection begins and ends at its pass.
use Rattle.std.specs.Prelude.{◌≡◌, ◌⊎◌, ℕ, ◌+◌, ◌≤◌, nat_eq, Result, Ok, Err, OnOk, OnErr, IfErr}
use Rattle.std.specs.List.{IsDistinct}
use Rattle.stamp_base.specs.Limits.{greatest_clock}
use Rattle.engine_answers.specs.declared.committed.Committed.{Committed}
use Rattle.engine_answers.specs.declared.faults.CommitFault.{CommitFault}
use Rattle.engine_answers.specs.declared.faults.CommitFault.TheVariants as commit
use Rattle.seat_post.specs.Leaves.{AreLeft}
use Rattle.seat_post.specs.Logs.{IsAbove}
use Rattle.txn_engine.specs.Commits.{Commits}
use Rattle.txn_engine.specs.Leaves.{HoldsAbsent}
use Rattle.txn_engine.specs.Pass.{PassView, IsAlone, aborted, begun, next_clock}
use Rattle.txn_engine.specs.Snapshot.{Finishes}
use Rattle.connections.specs.Connection.{StandsForRows}
use Rattle.connections.specs.declared.fault.CallFault.{CallFault}
use Rattle.connections.specs.declared.fault.CallFault.TheVariants.{Conflict, PlacesOut, NoMemory, ClockOut}
use Rattle.connections.specs.declared.opened.Opened.{Opened}
use Rattle.connections.specs.declared.opened.Opened.TheVariants.{Nothing, Transaction, Spoiled, Snapshot, Closed}

-- it begins with the next clock at this reading, unless no clock is left or the allocator had no room; then all is as before
pub record BeginsTxn (reading : ℕ) (answer : Result (Unit {0}) CallFault) (before after' : PassView) : Type 0 where
  pub ok : OnOk answer (after' ≡ begun before (next_clock before reading))
  pub above : OnOk answer (IsAbove before.log after'.stamp)
  pub each_once : OnOk answer (IsDistinct nat_eq after'.spare)
  pub absent : HoldsAbsent before → OnOk answer (HoldsAbsent after')
  pub in_range : OnOk answer (next_clock before reading ≤ greatest_clock)
  pub fault : IfErr answer (λ f. (f ≡ NoMemory) ⊎ ((f ≡ ClockOut) × (next_clock before reading ≡ greatest_clock + 1)))
  pub err : OnErr answer (after' ≡ before)

-- what a connection answers for a commit: the stamp as a number
abbrev pub answer_of_commit : Result Committed CommitFault → Result ℕ CallFault
answer_of_commit (Ok told) = Ok told.stamp
answer_of_commit (Err (commit.Conflict conflict)) = Err (Conflict conflict)
answer_of_commit (Err commit.PlacesOut) = Err PlacesOut

-- it commits, or is refused, as the engine's record of a commit says
pub record CommitsTxn (answer : Result ℕ CallFault) (before after' : PassView) : Type 0 where
  pub told : Result Committed CommitFault
  pub answered : answer ≡ answer_of_commit told
  pub commits : Commits StandsForRows before after' told

-- it ends without an entry
pub record AbortsTxn (before after' : PassView) : Type 0 where
  pub after : after' ≡ aborted before
  pub read_left : IsAlone before → AreLeft before.log before.stamp before.reads

-- the transaction is given up: one that goes on ends, and one that a fault has ended leaves nothing to do
abbrev pub GivesUp : Opened → PassView → PassView → Type 0
GivesUp Nothing before after' = ⊥
GivesUp Transaction before after' = AbortsTxn before after'
GivesUp Spoiled before after' = after' ≡ before
GivesUp Snapshot before after' = ⊥
GivesUp Closed before after' = ⊥

-- a snapshot ends with its entry, and gives its stamp
abbrev pub FinishesSnapshot : Result ℕ CallFault → PassView → PassView → Type 0
FinishesSnapshot (Ok stamp) before after' = Finishes StandsForRows before after' stamp
FinishesSnapshot (Err fault) before after' = ⊥
