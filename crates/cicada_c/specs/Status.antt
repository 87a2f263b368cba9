-- What calls answer, as numbers, and what they write beside.
use Rattle.std.specs.Prelude.{◌≡◌, ℕ, ℤ, pos, List, length, Bool, true, false, Option, None, Some, Result, Ok, Err}
use Rattle.rapid_gc.specs.declared.collecting.Collected.{Collected}
use Rattle.validate_core.specs.Named.{stamp_named}
use Rattle.validate_core.specs.declared.conflict.Conflict.{Conflict as Met}
use Rattle.validate_core.specs.declared.conflict.Conflict.TheVariants.{Pending, ReadLater, Overtaken}
use Rattle.connections.specs.declared.fault.CallFault.{CallFault}
use Rattle.connections.specs.declared.fault.CallFault.TheVariants.{Conflict, PlacesOut, RecordsOut, NoMemory, ClockOut, Range, Misused}
use Rattle.connections.specs.declared.opened.Opened.{Opened}
use Rattle.connections.specs.declared.opened.Opened.TheVariants as opened
use Rattle.connections.specs.Calls.{Tells, is_there}
use Rattle.txn_engine.specs.Pass.{PassView}
use Rattle.connections.specs.EachCall.{Call}
use Rattle.cicada_c.specs.declared.resting.CicadaCounts.{CicadaCounts}
use Rattle.cicada_c.specs.declared.handle.CicadaHandle.{CicadaHandle}
use Rattle.cicada_c.specs.declared.status.CicadaConflict.{CicadaConflict}

-- ---- the numbers: 0 done, 1 absent, and one for each fault

abbrev pub coded_fault : CallFault → ℤ
coded_fault (Conflict conflict) = pos 2
coded_fault PlacesOut = pos 3
coded_fault RecordsOut = pos 4
coded_fault NoMemory = pos 5
coded_fault ClockOut = pos 6
coded_fault Range = pos 7
coded_fault Misused = pos 8

abbrev pub coded : {T : Type 0} → Result T CallFault → ℤ
coded (Ok value) = pos 0
coded (Err fault) = coded_fault fault

-- of what may be absent
abbrev pub coded_option : {T : Type 0} → Result (Option T) CallFault → ℤ
coded_option (Ok (Some value)) = pos 0
coded_option (Ok None) = pos 1
coded_option (Err fault) = coded_fault fault

-- of what was there, or was not
abbrev pub coded_bool : Result Bool CallFault → ℤ
coded_bool (Ok true) = pos 0
coded_bool (Ok false) = pos 1
coded_bool (Err fault) = coded_fault fault

abbrev pub coded_opened : Opened → ℕ
coded_opened opened.Nothing = 0
coded_opened opened.Transaction = 1
coded_opened opened.Spoiled = 2
coded_opened opened.Snapshot = 3
coded_opened opened.Closed = 4

-- ---- what is written beside: the conflict at a conflict alone, and a value where there is one

abbrev pub record_named : Met → ℕ
record_named (Pending rid wts) = rid
record_named (ReadLater rid wts rts) = rid
record_named (Overtaken rid seen now) = rid

abbrev pub told : Met → CicadaConflict
told conflict = record { stamp = stamp_named conflict; rid = record_named conflict }

abbrev pub noted_fault : CicadaConflict → CallFault → CicadaConflict
noted_fault before (Conflict conflict) = told conflict
noted_fault before PlacesOut = before
noted_fault before RecordsOut = before
noted_fault before NoMemory = before
noted_fault before ClockOut = before
noted_fault before Range = before
noted_fault before Misused = before

abbrev pub noted : {T : Type 0} → CicadaConflict → Result T CallFault → CicadaConflict
noted before (Ok value) = before
noted before (Err fault) = noted_fault before fault

abbrev pub value_or : {T : Type 0} → T → Result T CallFault → T
value_or before (Ok value) = value
value_or before (Err fault) = before

abbrev pub some_or : {T : Type 0} → T → Result (Option T) CallFault → T
some_or before (Ok (Some value)) = value
some_or before (Ok None) = before
some_or before (Err fault) = before

abbrev pub places_or : ℕ → Result Collected CallFault → ℕ
places_or before (Ok collected) = collected.places
places_or before (Err fault) = before

abbrev pub counted_or : {T : Type 0} → ℕ → Result (List T) CallFault → ℕ
counted_or before (Ok rows) = length rows
counted_or before (Err fault) = before

abbrev pub counted_option : {T : Type 0} → ℕ → Result (Option (List T)) CallFault → ℕ
counted_option before (Ok (Some rows)) = length rows
counted_option before (Ok None) = before
counted_option before (Err fault) = before

-- what is told of a connection: how many of its transactions committed, and how many were refused; how many numbers of records it has left, and
-- how many versions are queued
abbrev pub counts_of : PassView → CicadaCounts
counts_of p = record { commits = p.commits; refusals = p.refusals; records = length p.spare; queued = length p.queue }

abbrev pub Counts : Call CicadaCounts
Counts before after' answer = (after' ≡ before) × Tells (is_there before.opened) counts_of before answer

-- ---- an export

-- The connection behind the handle made the call, the status is the code of its answer, and what is written beside goes by the answer.
pub record Answers {T : Type 0} (Makes : Call T) (code : Result T CallFault → ℤ) (Writes : Result T CallFault → Type 0) (before after' : CicadaHandle) (status : ℤ) : Type 0 where
  pub answer : Result T CallFault
  pub call : Makes before.value after'.value answer
  pub same_pointer : after'.at ≡ before.at
  pub status_of : status ≡ code answer
  pub writes : Writes answer
