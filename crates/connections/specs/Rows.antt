-- What calls on rows do at the pass of a connection: in a transaction, and in a snapshot.
use Rattle.std.specs.Prelude.{◌≡◌, ℕ, Bool, true, false, List, Option, Result, Ok, Err, OnErr, IfOk, IfErr}
use Rattle.plain_data.specs.State.{State, IsState, Agrees}
use Rattle.record_store.specs.Calls.{Calls as StoreCalls, CallFault as StoreFault}
use Rattle.record_store.specs.Goes.{GoesByCalls}
use Rattle.record_store.specs.Meaning.{Meaning}
use Rattle.record_store.specs.Walks.{IfNoMemory, IfStore, IfTorn, OnlyReads, ReadsGrow}
use Rattle.record_store.specs.Writes.{WritesAtMost}
use Rattle.record_store.specs.declared.walk.Walk.{Walk}
use Rattle.record_store.specs.declared.walk.Walk.TheVariants as walk
use Rattle.replay_model.specs.declared.command.Command.TheVariants.{Put, Del}
use Rattle.replay_model.specs.TableMap.{Row}
use Rattle.stored_tables.specs.Answers.{Held, Stands, DueBy}
use Rattle.stored_tables.specs.Declare.{Declares}
use Rattle.stored_tables.specs.OneRow.{SetsRow}
use Rattle.stored_tables.specs.Plan.{plan}
use Rattle.stored_tables.specs.Reclaim.{Clears, ClearsBy}
use Rattle.stored_tables.specs.Runs.{Looks, Runs}
use Rattle.stored_tables.specs.Tables.{EachTables}
use Rattle.validate_core.specs.declared.conflict.Conflict.{Conflict as Met}
use Rattle.engine_answers.specs.declared.faults.CommitFault.TheVariants as commit
use Rattle.engine_answers.specs.declared.faults.NoFault.{NoFault}
use Rattle.engine_answers.specs.declared.faults.TxnFault.{TxnFault}
use Rattle.engine_answers.specs.declared.faults.TxnFault.TheVariants as txn
use Rattle.txn_engine.specs.Commits.{Commits}
use Rattle.txn_engine.specs.Pass.{PassView, IsIdle, aborted, frame, meaning_of_pass}
use Rattle.txn_engine.specs.Snapshot.{FindsSeen, ReadsLeft, meaning_of_snapshot, unread}
use Rattle.txn_engine.specs.Txn.{Reads, Writes, Gives, Undoes}
use Rattle.connections.specs.Connection.{StandsForRows}
use Rattle.connections.specs.declared.fault.CallFault.{CallFault}
use Rattle.connections.specs.declared.fault.CallFault.TheVariants.{Conflict, RecordsOut, NoMemory}
use Rattle.connections.specs.declared.opened.Opened.{Opened}
use Rattle.connections.specs.declared.opened.Opened.TheVariants.{Nothing, Transaction, Spoiled, Snapshot, Closed}

-- ---- in a transaction

-- its calls, as those of a store that is seen as the pass
abbrev pub ReadGives : PassView → ℕ → Result (Option (List ℕ)) TxnFault → PassView → Type 0
ReadGives p rid answer q = Reads p q rid answer

abbrev pub WriteGives : PassView → ℕ → Option (List ℕ) → Result (Unit {0}) TxnFault → PassView → Type 0
WriteGives p rid value answer q = Writes p q rid value answer

abbrev pub FreshGives : PassView → Result ℕ TxnFault → PassView → Type 0
FreshGives p answer q = Gives p q answer

-- A call of tables that reads alone, at this pass: what it found. It wants memory, and leaves all as it is, only where it may.
pub record LooksAt {T : Type 0} (Memory Still : Type 0) (Found : T → State → Held → Type 0) (p q : PassView) (told : Result T (Walk TxnFault)) : Type 0 where
  pub looks : Looks ReadGives meaning_of_pass (Stands (meaning_of_pass p)) Found p q told
  pub memory : IfNoMemory told Memory
  pub still : Still → q ≡ p

-- one that changes them
abbrev pub RunsAt : {T : Type 0} → (ℕ → State → Held → Type 0) → (Meaning → T → ℕ → State → Held → Type 0) → ℕ → PassView → PassView → Result T (Walk TxnFault) → Type 0
RunsAt Due Did most p q told = Runs ReadGives WriteGives FreshGives meaning_of_pass (Stands (meaning_of_pass p)) Due (Did (meaning_of_pass q)) most p q told

-- a row is set
abbrev pub PutsAt : (table key : ℕ) → Row → PassView → PassView → Result (Unit {0}) (Walk TxnFault) → Type 0
PutsAt table key row p q told = RunsAt (DueBy (plan (Put table key row))) (λ now u. SetsRow table key row now) 128 p q told

-- A row is taken out, and the leaves that it left empty are given back. No new record is asked for, and where there is no row nothing is
-- written.
pub record RemovesAt (table key : ℕ) (p q : PassView) (told : Result Bool (Walk TxnFault)) : Type 0 where
  pub runs : RunsAt (DueBy (plan (Del table key))) (λ now taken. Clears table key now taken) 10 p q told
  pub halves : IfOk told (λ taken. taken ≡ true → ClearsBy ReadGives WriteGives FreshGives meaning_of_pass table key p q)
  pub asks_nothing : GoesByCalls ReadGives WriteGives FreshGives meaning_of_pass (λ asks. ⊥) 0 p q told
  pub kept : IfOk told (λ taken. taken ≡ false → OnlyReads (meaning_of_pass p) (meaning_of_pass q))

-- what a connection answers for a fault of the store
abbrev pub fault_of : TxnFault → CallFault
fault_of (txn.Conflict conflict) = Conflict conflict
fault_of txn.RecordsOut = RecordsOut
fault_of txn.NoMemory = NoMemory

-- an index is declared, or none: one record is written at most, and no new one is asked for; without it nothing is written
pub record DeclaresAt (table column : ℕ) (p q : PassView) (told : Result Bool (Walk TxnFault)) : Type 0 where
  pub declared : IfOk told (λ declared. EachTables (meaning_of_pass p) (meaning_of_pass q) (λ state places tables. Declares table column (meaning_of_pass q) declared state (places, tables)))
  pub torn : IfTorn told (λ rid. EachTables (meaning_of_pass p) (meaning_of_pass q) (λ _ _ _. ⊥))
  pub fault : IfStore told (StoreFault ReadGives WriteGives FreshGives (λ asks. ⊥) p q)
  pub calls : StoreCalls ReadGives WriteGives FreshGives p 0 q
  pub few : WritesAtMost 1 (meaning_of_pass p) (meaning_of_pass q)
  pub after : ReadsGrow (meaning_of_pass p) (meaning_of_pass q)
  pub refused : OnErr told (OnlyReads (meaning_of_pass p) (meaning_of_pass q))
  pub unchanged : IfOk told (λ declared. declared ≡ false → OnlyReads (meaning_of_pass p) (meaning_of_pass q))

-- no lawful tables of so many records agree with these reads
abbrev pub NoneAgree : (records : ℕ) → List (ℕ × Option (List ℕ)) → Type 0
NoneAgree records reads = (state : State) → IsState records state → StandsForRows state → Agrees state reads → ⊥

-- so it is of what the transaction has read, which does not commit; and of what the snapshot has
pub record IsDoomed (p : PassView) : Type 0 where
  pub none : NoneAgree p.shared.size.records p.reads

pub record IsUnlawful (p : PassView) : Type 0 where
  pub none : NoneAgree p.shared.size.records (meaning_of_snapshot p).reads

-- No lawful tables agree with what it has read: its writes are dropped, and its commit is refused by this conflict.
pub record IsOvertaken (p q : PassView) (conflict : Met) : Type 0 where
  pub undone : PassView
  pub undoes : Undoes p undone
  pub commits : Commits StandsForRows undone q (Err (commit.Conflict conflict))

-- how a transaction ends in which tables answered so, and what is answered: a fault ends it without an entry
abbrev pub EndsBy : Walk TxnFault → PassView → PassView → CallFault → Type 0
EndsBy (walk.Store f) p q answer = (answer ≡ fault_of f) × (q ≡ aborted p)
EndsBy (walk.Torn rid) p q answer = (conflict : Met) × (answer ≡ Conflict conflict) × IsOvertaken p q conflict
EndsBy walk.NoMemory p q answer = (answer ≡ NoMemory) × (q ≡ aborted p)

-- it goes on behind an answer of the tables
abbrev pub GoesOn : {T : Type 0} → Result T (Walk TxnFault) → PassView → PassView → Result T CallFault → Type 0
GoesOn (Ok value) p q answer = (answer ≡ Ok value) × (q ≡ p)
GoesOn (Err why) p q (Ok value) = ⊥
GoesOn (Err why) p q (Err f) = EndsBy why p q f

-- A call of tables in a transaction, told of what it answered and of the pass that it left. Nothing else has changed there. It goes on, or a
-- fault has ended it without an entry.
pub record InTxn {T : Type 0} (Call : PassView → PassView → Result T (Walk TxnFault) → Type 0) (answer : Result T CallFault) (before after' : PassView) : Type 0
  where
    pub ran : PassView
    pub told : Result T (Walk TxnFault)
    pub call : Call before ran told
    pub rest : frame ran ≡ frame before
    pub ends : GoesOn told ran after' answer
    pub ended : OnErr answer (IsIdle after')
    pub no_entry : OnErr answer (after'.log ≡ before.log)

-- ---- in a snapshot

abbrev pub SeeGives : PassView → ℕ → Result (Option (List ℕ)) NoFault → PassView → Type 0
SeeGives p rid answer q = IfOk answer (ReadsLeft p rid) × IfOk answer (FindsSeen p q rid)

-- what tables answered, where nothing but want of memory is in the way
abbrev pub told_of : {T : Type 0} → Result T CallFault → Result T (Walk NoFault)
told_of (Ok value) = Ok value
told_of (Err fault) = Err walk.NoMemory

-- A call of tables in a snapshot, which goes on. Nothing but what was read has changed, and the tables that it reads are lawful: only
-- memory may be in the way.
pub record InSnapshot {T : Type 0} (Memory Still : Type 0) (Found : T → State → Held → Type 0) (answer : Result T CallFault) (before after' : PassView) : Type 0 where
  pub looks : Looks SeeGives meaning_of_snapshot (Stands (meaning_of_snapshot before)) Found before after' (told_of answer)
  pub rest : unread after' ≡ unread before
  pub fault : IfErr answer (λ f. (f ≡ NoMemory) × Memory)
  pub still : Still → after' ≡ before

-- a call that reads rows, in whichever is open
abbrev pub ReadsRows : {T : Type 0} → (Memory Still : Type 0) → (T → State → Held → Type 0) → Opened → Result T CallFault → PassView → PassView → Type 0
ReadsRows Memory Still Found Nothing answer p q = ⊥
ReadsRows Memory Still Found Transaction answer p q = InTxn (LooksAt Memory Still Found) answer p q
ReadsRows Memory Still Found Spoiled answer p q = ⊥
ReadsRows Memory Still Found Snapshot answer p q = InSnapshot Memory Still Found answer p q
ReadsRows Memory Still Found Closed answer p q = ⊥

-- what is open after a call on rows
abbrev pub after_rows : {T : Type 0} → Opened → Result T CallFault → Opened
after_rows opened (Ok value) = opened
after_rows Transaction (Err f) = Spoiled
after_rows Nothing (Err f) = Nothing
after_rows Spoiled (Err f) = Spoiled
after_rows Snapshot (Err f) = Snapshot
after_rows Closed (Err f) = Closed
