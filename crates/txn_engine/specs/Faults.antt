-- Which answers refuse a transaction, and what a conflict says.
use Rattle.std.specs.Prelude.{◌≡◌, ℕ, Result, Ok, Err, ⊤}
use Rattle.validate_core.specs.declared.conflict.Conflict.{Conflict}
use Rattle.validate_core.specs.declared.conflict.Conflict.TheVariants.{Pending, ReadLater, Overtaken}
use Rattle.engine_answers.specs.declared.faults.TxnFault.{TxnFault}
use Rattle.engine_answers.specs.declared.faults.TxnFault.TheVariants as txn
use Rattle.engine_answers.specs.declared.faults.CommitFault.{CommitFault}
use Rattle.engine_answers.specs.declared.faults.CommitFault.TheVariants as commit
use Rattle.seat_post.specs.Conflicts.{ShowsPending, Touches, IsLoaded}
use Rattle.seat_post.specs.Placing.{WantsPlaceAt}
use Rattle.seat_post.specs.Post.{IsShownAt}
use Rattle.seat_post.specs.Reading.{StopsAt}
use Rattle.seat_post.specs.Seats.{Observed}
use Rattle.txn_engine.specs.Pass.{PassView}

-- where a call of a transaction answers a conflict, this holds of it
abbrev pub IfConflict : TxnFault → (Conflict → Type 0) → Type 0
IfConflict (txn.Conflict conflict) P = P conflict
IfConflict txn.RecordsOut P = ⊤
IfConflict txn.NoMemory P = ⊤

-- what holds of a commit's fault, by its variant
abbrev pub MatchStopped : CommitFault → (Conflict → Type 0) → Type 0 → Type 0
MatchStopped (commit.Conflict conflict) P Q = P conflict
MatchStopped commit.PlacesOut P Q = Q

-- an answer of a seat with what a pass answers in place of its fault
abbrev pub told_by : {A F G : Type 0} → (F → G) → Result A F → Result A G
told_by told (Ok value) = Ok value
told_by told (Err fault) = Err (told fault)

-- what a conflict says of the transaction of a pass; and what one says that a read met
abbrev pub IsShown : PassView → Conflict → Type 0
IsShown p conflict = IsShownAt p.post conflict

abbrev pub IsPending : PassView → Conflict → Type 0
IsPending p conflict = ShowsPending p.shared.size p.seat p.others p.stamp conflict

-- between the two its steps loaded what the conflict names
abbrev pub WasLoaded : (before after' : PassView) → Conflict → Type 0
WasLoaded before after' conflict = IsLoaded before.stamp conflict before.observed after'.observed

-- between the two there was no place for one of its writes, after versions of those before it were linked
abbrev pub WantsPlace : (before after' : PassView) → Type 0
WantsPlace before after' = WantsPlaceAt before.post after'.post

-- it is of a record that the transaction has read or written
abbrev pub IsTouched : PassView → Conflict → Type 0
IsTouched p conflict = Touches p.reads p.writes conflict

-- the conflict that a read of this record meets: its search stopped at a pending version
abbrev pub StopsRead : (stamp rid : ℕ) (before after' : Observed) → Conflict → Type 0
StopsRead stamp rid before after' (Pending at wts) = (at ≡ rid) × StopsAt stamp rid wts before after'
StopsRead stamp rid before after' (ReadLater at wts rts) = ⊥
StopsRead stamp rid before after' (Overtaken at seen now) = ⊥
