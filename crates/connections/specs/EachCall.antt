-- What each call of a connection promises, of the connection before it and behind it and of what it answers.
use Rattle.std.specs.Prelude.{◌≡◌, ◌⊎◌, ◌<◌, ℕ, max, List, Bool, Option, Result}
use Rattle.number_queue.specs.Passes.{reading_for}
use Rattle.rapid_gc.specs.declared.collecting.Collected.{Collected}
use Rattle.replay_model.specs.Input.{IsColumn}
use Rattle.replay_model.specs.TableMap.{Row}
use Rattle.stamp_base.specs.Stamp.{IsStamp}
use Rattle.stored_tables.specs.Answers.{IsScanned}
use Rattle.stored_tables.specs.OneRow.{IsRowAt}
use Rattle.stored_tables.specs.RowLists.{IsFoundBy}
use Rattle.txn_engine.specs.Snapshot.{Begins}
use Rattle.connections.specs.Calls.{Calls, Goes, Hands, by_answer, can_read, has_transaction, is_at_rest, is_in_snapshot, is_in_transaction}
use Rattle.connections.specs.Connection.{ConnectionView}
use Rattle.connections.specs.Handing.{TakesFirst, ThenGives}
use Rattle.connections.specs.Resting.{Collects, Hears, Ticks}
use Rattle.connections.specs.Rows.{DeclaresAt, InTxn, PutsAt, ReadsRows, RemovesAt, after_rows}
use Rattle.connections.specs.Transactions.{BeginsTxn, CommitsTxn, FinishesSnapshot, GivesUp}
use Rattle.connections.specs.declared.fault.CallFault.{CallFault}
use Rattle.connections.specs.declared.opened.Opened.TheVariants as opened

-- a call with this answer
abbrev pub Call : Type 0 → Type 1
Call T = ConnectionView → ConnectionView → Result T CallFault → Type 0

-- It begins with a reading above the stamps up to which the number that waits may have been used.
abbrev pub Begin : ℕ → Call (Unit {0})
Begin reading before after' answer =
    Calls (is_at_rest before.opened) (Unit {0}) (Goes (BeginsTxn (max reading (reading_for before.numbers)) answer) (by_answer answer opened.Transaction opened.Nothing) before after')
    before after' answer

abbrev pub Commit : Call ℕ
Commit before after' answer =
    Calls (is_in_transaction before.opened) (Unit {0}) (Hands (ThenGives (CommitsTxn answer)) opened.Nothing before after') before after' answer

abbrev pub Abort : Call (Unit {0})
Abort before after' answer =
    Calls (has_transaction before.opened) (Unit {0}) (Hands (ThenGives (GivesUp before.opened)) opened.Nothing before after') before after' answer

abbrev pub Snapshot : Call (Unit {0})
Snapshot before after' answer = Calls (is_at_rest before.opened) (Unit {0}) (Goes Begins opened.Snapshot before after') before after' answer

abbrev pub Finish : Call ℕ
Finish before after' answer =
    Calls (is_in_snapshot before.opened) (Unit {0}) (Goes (FinishesSnapshot answer) opened.Nothing before after') before after' answer

abbrev pub Get : (table key : ℕ) → Call (Option Row)
Get table key before after' answer =
    Calls (can_read before.opened) (table < 8) (Goes (ReadsRows ⊥ ⊥ (IsRowAt table key) before.opened answer) (after_rows before.opened answer) before after')
    before after' answer

abbrev pub Put : (table key : ℕ) → Row → Call (Unit {0})
Put table key row before after' answer =
    Calls (is_in_transaction before.opened) (table < 8)
    (Hands (TakesFirst (InTxn (PutsAt table key row) answer)) (after_rows before.opened answer) before after') before after' answer

abbrev pub Remove : (table key : ℕ) → Call Bool
Remove table key before after' answer =
    Calls (is_in_transaction before.opened) (table < 8) (Goes (InTxn (RemovesAt table key) answer) (after_rows before.opened answer) before after')
    before after' answer

abbrev pub Rows : Type 0
Rows = List (ℕ × Row)

abbrev pub ListRows : (table lo hi limit : ℕ) → Call Rows
ListRows table lo hi limit before after' answer =
    Calls (can_read before.opened) (table < 8)
    (Goes (ReadsRows (Unit {0}) ((limit ≡ 0) ⊎ (hi < lo)) (IsScanned table lo hi limit) before.opened answer) (after_rows before.opened answer) before after')
    before after' answer

abbrev pub FindRows : (table column lo hi limit : ℕ) → Call (Option Rows)
FindRows table column lo hi limit before after' answer =
    Calls (can_read before.opened) ((table < 8) × IsColumn column)
    (Goes (ReadsRows (Unit {0}) ⊥ (IsFoundBy table column lo hi limit) before.opened answer) (after_rows before.opened answer) before after')
    before after' answer

abbrev pub DeclareIndex : (table column : ℕ) → Call Bool
DeclareIndex table column before after' answer =
    Calls (is_in_transaction before.opened) ((table < 8) × IsColumn column)
    (Goes (InTxn (DeclaresAt table column) answer) (after_rows before.opened answer) before after') before after' answer

abbrev pub Collect : Call Collected
Collect before after' answer =
    Calls (is_at_rest before.opened) (Unit {0}) (Hands (ThenGives (Collects answer)) opened.Nothing before after') before after' answer

abbrev pub Hear : ℕ → Call (Unit {0})
Hear number before after' answer =
    Calls (is_at_rest before.opened) (IsStamp number) (Goes (Hears number answer) opened.Nothing before after') before after' answer

abbrev pub Tick : ℕ → Call ℕ
Tick reading before after' answer =
    Calls (is_at_rest before.opened) (Unit {0}) (Goes (Ticks reading answer) opened.Nothing before after') before after' answer
