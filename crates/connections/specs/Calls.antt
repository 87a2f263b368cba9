-- Which calls fit what is open, and what each call of a connection promises: when it is refused, and that nothing has changed then.
use Rattle.std.specs.Prelude.{◌≡◌, ◌↔◌, ◌⊎◌, Bool, true, false, Some, Result, Ok, Err, OnErr, IfOk}
use Rattle.number_queue.specs.Passes.{NumberPassView}
use Rattle.txn_engine.specs.Pass.{PassView}
use Rattle.connections.specs.declared.fault.CallFault.{CallFault}
use Rattle.connections.specs.declared.fault.CallFault.TheVariants.{Conflict, PlacesOut, RecordsOut, NoMemory, ClockOut, Range, Misused}
use Rattle.connections.specs.declared.opened.Opened.{Opened}
use Rattle.connections.specs.declared.opened.Opened.TheVariants.{Nothing, Transaction, Spoiled, Snapshot, Closed}
use Rattle.connections.specs.Connection.{ConnectionView, with_pass, with_seat}

-- whether nothing is open, and whether the seat is still there
abbrev pub is_at_rest : Opened → Bool
is_at_rest Nothing = true
is_at_rest Transaction = false
is_at_rest Spoiled = false
is_at_rest Snapshot = false
is_at_rest Closed = false

abbrev pub is_there : Opened → Bool
is_there Nothing = true
is_there Transaction = true
is_there Spoiled = true
is_there Snapshot = true
is_there Closed = false

-- whether a transaction goes on, and whether there is one to give up
abbrev pub is_in_transaction : Opened → Bool
is_in_transaction Nothing = false
is_in_transaction Transaction = true
is_in_transaction Spoiled = false
is_in_transaction Snapshot = false
is_in_transaction Closed = false

abbrev pub has_transaction : Opened → Bool
has_transaction Nothing = false
has_transaction Transaction = true
has_transaction Spoiled = true
has_transaction Snapshot = false
has_transaction Closed = false

-- whether a snapshot is open, and whether rows can be read
abbrev pub is_in_snapshot : Opened → Bool
is_in_snapshot Nothing = false
is_in_snapshot Transaction = false
is_in_snapshot Spoiled = false
is_in_snapshot Snapshot = true
is_in_snapshot Closed = false

abbrev pub can_read : Opened → Bool
can_read Nothing = false
can_read Transaction = true
can_read Spoiled = false
can_read Snapshot = true
can_read Closed = false

-- the fault is one of a call that fits, and whose numbers are in range
abbrev pub IsOfCall : CallFault → Type 0
IsOfCall (Conflict conflict) = Unit {0}
IsOfCall PlacesOut = Unit {0}
IsOfCall RecordsOut = Unit {0}
IsOfCall NoMemory = Unit {0}
IsOfCall ClockOut = Unit {0}
IsOfCall Range = ⊥
IsOfCall Misused = ⊥

-- the pass went from one state to another, where this is open now, and so it was done; all else is as before
pub record Goes (Does : PassView → PassView → Type 0) (opened : Opened) (before after' : ConnectionView) : Type 0 where
  pub from : PassView
  pub to : PassView
  pub was : before.pass ≡ Some from
  pub is : after' ≡ with_pass before opened to
  pub does : Does from to

-- the same of the pass and of the numbers that are handed round
pub record Hands (Does : (p q : PassView) → (v w : NumberPassView) → Type 0) (opened : Opened) (before after' : ConnectionView) : Type 0 where
  pub from : PassView
  pub to : PassView
  pub was : before.pass ≡ Some from
  pub is : after' ≡ with_seat before opened to after'.numbers
  pub does : Does from to before.numbers after'.numbers

-- A call that fits where this is true of what is open, and whose numbers are in range where this holds. It answers `Misused` exactly where it
-- does not fit, and `Range` exactly where it fits and a number is out of range; all is as before then. Else this is what it does.
pub record Calls {T : Type 0} (fits : Bool) (InRange Does : Type 0) (before after' : ConnectionView) (answer : Result T CallFault) : Type 0
  where
    pub misused : (answer ≡ Err Misused) ↔ (fits ≡ false)
    pub range : (answer ≡ Err Range) ↔ ((fits ≡ true) × (InRange → ⊥))
    pub refused : (fits ≡ false) ⊎ (InRange → ⊥) → after' ≡ before
    pub goes : fits ≡ true → InRange → Does

-- one of these, by the answer
abbrev pub by_answer : {T : Type 0} → Result T CallFault → Opened → Opened → Opened
by_answer (Ok value) ok err = ok
by_answer (Err fault) ok err = err

-- a call that only tells something of the pass
pub record Tells {T : Type 0} (fits : Bool) (told : PassView → T) (c : ConnectionView) (answer : Result T CallFault) : Type 0 where
  pub misused : (answer ≡ Err Misused) ↔ (fits ≡ false)
  pub only : OnErr answer (answer ≡ Err Misused)
  pub value : IfOk answer (λ value. (p : PassView) × (c.pass ≡ Some p) × (value ≡ told p))
