-- How a run with dumps ends: the text that is due, and what each status says of what was received and written.
use Rattle.std.specs.Prelude.{◌≡◌, ◌≢◌, ◌⊎◌, ℕ, ◌<◌, ◌≤◌, List, [], ◌++◌, length, map, All, Option, None, IsSome, IfSome, ◌↔◌}
use Rattle.std.specs.Io.KnownBytes.{append_known, IsAtEnd}
use Rattle.outside_io.specs.declared.sink.SinkFault.{SinkFault}
use Rattle.outside_io.specs.declared.sink.SinkFault.TheVariants.{Failed, NoMemory as NoRoom}
use Rattle.replay_model.specs.declared.input.Input.{Input as InputValue}
use Rattle.replay_model.specs.declared.outcome.Placed.{Placed}
use Rattle.replay_model.specs.Order.{IsOrder}
use Rattle.replay_model.specs.Report.{report}
use Rattle.replay_model.specs.TableMap.{TableMap}
use Rattle.txn_engine.specs.Alone.{AloneView}
use Rattle.txn_engine.specs.Pass.{PassView}
use Rattle.input_runner.specs.Ran.{IsSeenIn, AreBelowLater, AreSnapshotsOf}
use Rattle.txn_script.specs.declared.fault.InputFault.{InputFault}
use Rattle.txn_script.specs.Grammar.{IsInput}
use Rattle.cicada_top.specs.declared.finish.Finish.{Finish}
use Rattle.cicada_top.specs.declared.finish.Status.{Status}
use Rattle.cicada_top.specs.declared.finish.Status.TheVariants.{Done, Usage, Input, TooLong, ReadFault, WriteFault, NoMemory, Differs}
use Rattle.program_io.specs.declared.mode.Mode.TheVariants.{Run}
use Rattle.program_io.specs.Received.{most_input, Receives}
use Rattle.cicada_top.specs.Due.{IsDueAt}
use Rattle.cicada_top.specs.Ending.{IsLawfulEnd, IsHistoryOf}
use Rattle.cicada_top.specs.Delivery.{EndsAs, WritesNothing}
use Rattle.cicada_top.specs.Runs.{GoesWith, IsDecided, Streams}
use Rattle.dump_top.specs.Parts.{IsWrittenInPart}
use Rattle.dump_top.specs.Texts.{dumps_text}
use Rattle.dump_top.specs.Words.{Text, AsksFor, AreTaken, AreRefusedHere}

-- THE TEXT: the report of the input in the order, and behind it exactly the asked number of dumps, each of the tables that the transaction
-- blocks of the order leave whose stamps are not above its own, in that order, over the loaded rows
pub record IsReportWithDumps (words : List Text) (bytes : List ℕ) (order : List Placed) (due : List ℕ) : Type 0 where
  pub short : length bytes ≤ most_input
  pub input : InputValue
  pub accepted : IsInput bytes input
  pub ordered : IsOrder input order
  pub stamps : List ℕ
  pub asked : AsksFor words (length stamps)
  pub said : due ≡ report input order ++ dumps_text input order stamps

-- THE STAMPS: each is that of a snapshot of the run that left this seat. Its log is lawful and the history of the input in the order; it has
-- an entry of its own for each snapshot, in their order and not below the loading nor below the one before, and what that read are the tables
-- that are shown. The dump of number i, counted from 0, is stamped below each transaction that the first seat ran, but its first i + 1.
pub record AreStampsOf (input : InputValue) (order : List Placed) (end : PassView) (stamps : List ℕ) : Type 0 where
  pub lawful : IsLawfulEnd end
  pub history : IsHistoryOf input order end
  pub readings : List (ℕ × TableMap)
  pub stamps_are : stamps ≡ map (λ (reading : ℕ × TableMap). reading.0) readings
  pub shown : All (IsSeenIn input order) readings
  pub snapshots : AreSnapshotsOf input order end readings
  pub beside : AreBelowLater order readings

-- the bytes are refused, and the text says so; nothing was run
pub record IsRefusal (bytes : List ℕ) (order : List Placed) (end : Option AloneView) (due : List ℕ) : Type 0 where
  pub status : Status
  pub fault : Option InputFault
  pub is_due : IsDueAt status Run bytes order fault due
  pub refuses : status ≢ Done
  pub no_end : end ≡ None

-- so many bytes of a text were written that the dumps behind its report were begun; a run that wants for memory may have written all of the
-- report
abbrev pub BeginsDumps : Status → (report_length sent_length : ℕ) → Type 0
BeginsDumps WriteFault report_length sent_length = report_length ≤ sent_length
BeginsDumps _ report_length sent_length = report_length < sent_length

-- Of the report with the dumps `sent` was written. The seat that the run left is there where the dumps were begun, and only behind the whole
-- report; then the stamps are those of that run.
pub record IsReportInPart (words : List Text) (status : Status) (bytes : List ℕ) (order : List Placed) (end : Option AloneView) (sent rest : List ℕ) : Type 0 where
  pub whole : IsReportWithDumps words bytes order (sent ++ rest)
  pub begun : BeginsDumps status (length (report whole.input order)) (length sent) → IsSome end
  pub reported : IsSome end → length (report whole.input order) ≤ length sent
  pub stamps : IfSome end (λ e. AreStampsOf whole.input order e.pass whole.stamps)

abbrev pub IsDueHere : List Text → Status → List ℕ → List Placed → Option AloneView → (sent rest : List ℕ) → Type 0
IsDueHere words status bytes order end sent rest = IsReportInPart words status bytes order end sent rest ⊎ IsRefusal bytes order end (sent ++ rest)

-- bytes were received, and the report and the dumps of them were written whole; the stamps are those of the run, which left this seat
pub record WritesDumps (words : List Text) (order : List Placed) (end : Option AloneView) (left left' before after : Option (List ℕ)) : Type 0 where
  pub bytes : List ℕ
  pub received : Receives most_input left left' bytes
  pub at_end : IsAtEnd left'
  pub due : List ℕ
  pub is_due : IsReportWithDumps words bytes order due
  pub there : IsSome end
  pub stamps : IfSome end (λ e. AreStampsOf is_due.input order e.pass is_due.stamps)
  pub written : after ≡ append_known before due

-- bytes were received, and of the text due for them `sent` was written, and `rest` was not
pub record WritesPart (words : List Text) (status : Status) (order : List Placed) (end : Option AloneView) (left left' before after : Option (List ℕ)) (sent rest : List ℕ) : Type 0 where
  pub bytes : List ℕ
  pub received : Receives most_input left left' bytes
  pub is_due : IsDueHere words status bytes order end sent rest
  pub written : after ≡ append_known before sent

-- THE TABLE: at a refusal and at a fault of the source a run with dumps ends as a run does, and leaves no seat
abbrev pub EndsWithDumps : Status → List Text → List Placed → Option InputFault → Option AloneView → (left left' before after : Option (List ℕ)) → Type 0
EndsWithDumps Done words order fault end left left' before after = WritesDumps words order end left left' before after × (fault ≡ None)
EndsWithDumps Usage words order fault end left left' before after = WritesNothing order fault before after × (end ≡ None)
EndsWithDumps Input words order fault end left left' before after = EndsAs Input Run order fault left left' before after × (end ≡ None)
EndsWithDumps TooLong words order fault end left left' before after = EndsAs TooLong Run order fault left left' before after × (end ≡ None)
EndsWithDumps ReadFault words order fault end left left' before after = EndsAs ReadFault Run order fault left left' before after × (end ≡ None)
EndsWithDumps WriteFault words order fault end left left' before after =
    (sent : List ℕ) × (rest : List ℕ) × WritesPart words WriteFault order end left left' before after sent rest × (0 < length rest) × (fault ≡ None)
EndsWithDumps NoMemory words order fault end left left' before after =
    ((sent : List ℕ) × (rest : List ℕ) × WritesPart words NoMemory order end left left' before after sent rest × (0 < length sent) × (fault ≡ None))
    ⊎ (WritesNothing order fault before after × (end ≡ None))
EndsWithDumps Differs words order fault end left left' before after = ⊥

-- ---- the whole contract

-- What comes of a run with dumps whose words are taken: the table, and what goes with a status as in a run without.
pub record DumpsAs (words : List Text) (finish : Finish) (before after : Streams) : Type 0 where
  pub ends : EndsWithDumps finish.status words finish.order.items finish.fault finish.end before.left after.left before.taken after.taken
  pub beside : GoesWith Run finish before after

-- What comes of a run with dumps that words ask for: where they are refused, that is said; where they are taken, what the source holds
-- decides.
pub record DumpsBy (words : List Text) (finish : Finish) (before after : Streams) : Type 0 where
  pub asked : DumpsAs words finish before after
  pub usage : finish.status ≡ Usage → AreRefusedHere words
  pub refused : AreRefusedHere words → (finish.status ≡ Usage) ⊎ (finish.status ≡ NoMemory)
  pub usage_text : IsSome finish.usage ↔ (finish.status ≡ Usage)
  pub complete : (dumps : ℕ) → AreTaken words dumps → IsDecided Run finish.status before after

-- ---- the dumps behind a report

-- the status where a sink stops
abbrev pub status_at : SinkFault → Status
status_at Failed = WriteFault
status_at NoRoom = NoMemory

-- a run that was done and whose dumps the sink stopped: all that it answered stays but the status
abbrev pub stopped : SinkFault → Finish → Finish
stopped why finish = record finish { status = status_at why }

-- the dumps of a run that is done were written in part
pub record StopsInDumps (before after' : Finish) (text : List ℕ) (taken taken' : Option (List ℕ)) : Type 0 where
  pub why : SinkFault
  pub is : after' ≡ stopped why before
  pub part : IsWrittenInPart text taken taken'

-- they were written whole, and nothing else is changed; or in part
abbrev pub DeliversDumps : (before after' : Finish) (text : List ℕ) (taken taken' : Option (List ℕ)) → Type 0
DeliversDumps before after' text taken taken' = ((after' ≡ before) × (taken' ≡ append_known taken text)) ⊎ StopsInDumps before after' text taken taken'
