-- What contracts see of a connection, and what it keeps.
use Rattle.std.specs.Prelude.{◌≡◌, ◌≤◌, Option, None, Some, MatchOption}
use Rattle.number_queue.specs.Passes.{NumberPassView}
use Rattle.plain_data.specs.State.{State, Fits}
use Rattle.record_store.specs.Limits.{record_limit}
use Rattle.seat_post.specs.declared.phase.Phase.TheVariants.{Open}
use Rattle.stored_tables.specs.Kept.{StandsForTables}
use Rattle.txn_engine.specs.Pass.{EngineView, PassView, IsIdleOf, engine_of, entry_of}
use Rattle.txn_engine.specs.Retired.{RetiredView}
use Rattle.txn_engine.specs.Snapshot.{HasSnapshot}
use Rattle.connections.specs.declared.opened.Opened.{Opened}
use Rattle.connections.specs.declared.opened.Opened.TheVariants.{Nothing, Transaction, Spoiled, Snapshot, Closed}

-- its engine, what it hands record numbers round with, what is open, and its seat: the pass, and once it is closed what the pass has left
pub record ConnectionView : Type 0 where
  pub engine : EngineView
  pub numbers : NumberPassView
  pub opened : Opened
  pub pass : Option PassView
  pub retired : Option RetiredView

-- this is open at another state of its pass, and all else is as before
abbrev pub with_pass : ConnectionView → Opened → PassView → ConnectionView
with_pass c opened p = record c { opened = opened; pass = Some p }

-- the same, and numbers were handed round
abbrev pub with_seat : ConnectionView → Opened → PassView → NumberPassView → ConnectionView
with_seat c opened p numbers = record c { opened = opened; pass = Some p; numbers = numbers }

-- one at whose pass nothing is open; and one that has retired
abbrev pub at_rest : EngineView → NumberPassView → PassView → ConnectionView
at_rest engine numbers p = record { engine = engine; numbers = numbers; opened = Nothing; pass = Some p; retired = None }

abbrev pub at_end : EngineView → NumberPassView → RetiredView → ConnectionView
at_end engine numbers r = record { engine = engine; numbers = numbers; opened = Closed; pass = None; retired = Some r }

-- ---- what it keeps

-- its engine keeps the states of records that stand for some tables
abbrev pub StandsForRows : State → Type 0
StandsForRows state = StandsForTables record_limit state

-- the records that tables have at places of their own are there, and are never given out
pub record HoldsTables (engine : EngineView) : Type 0 where
  pub size : 4112 ≤ engine.size.records
  pub fixed : 4112 ≤ engine.fixed

-- the numbers that are handed round are those of its records which may be given out
abbrev pub AreNumbersOf : EngineView → NumberPassView → Type 0
AreNumbersOf engine numbers = (numbers.fixed ≡ engine.fixed) × (numbers.records ≡ engine.size.records)

-- from each state that stands for tables and agrees with its reads, the writes of the transaction leave one that does
abbrev pub LeavesTables : PassView → Type 0
LeavesTables p = Fits (StandsForTables p.shared.size.records) p.shared.size.records (entry_of p)

-- a transaction is open there
pub record IsOpenOf (engine : EngineView) (p : PassView) : Type 0 where
  pub of : engine_of p ≡ engine
  pub open_there : p.phase ≡ Open
  pub lawful : LeavesTables p

-- a snapshot is
pub record IsSeenOf (engine : EngineView) (p : PassView) : Type 0 where
  pub of : IsIdleOf engine p
  pub snapshot : HasSnapshot p

-- what is so of the pass while this is open there
abbrev pub IsAt : Opened → EngineView → PassView → Type 0
IsAt Nothing engine p = IsIdleOf engine p
IsAt Transaction engine p = IsOpenOf engine p
IsAt Spoiled engine p = IsIdleOf engine p
IsAt Snapshot engine p = IsSeenOf engine p
IsAt Closed engine p = ⊥

-- while it is not closed it has a pass at which this is open, and then what the pass has left
pub record IsConnection (c : ConnectionView) : Type 0 where
  pub tables : HoldsTables c.engine
  pub limits : AreNumbersOf c.engine c.numbers
  pub at_pass : MatchOption c.pass (c.opened ≡ Closed) (IsAt c.opened c.engine)
  pub left : c.opened ≡ Closed → MatchOption c.retired ⊥ (λ r. r.engine ≡ c.engine)
