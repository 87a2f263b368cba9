-- THE CONTRACT OF A RUN: what is answered, what was read and what was written, between two states of a source and a sink.
use Rattle.std.specs.Prelude.{◌≡◌, ◌⊎◌, ◌↔◌, ℕ, ◌≤◌, List, [], length, Option, IsSome, IfSome, IfNone, All}
use Rattle.std.specs.Io.KnownBytes.{append_known}
use Rattle.outside_io.specs.Faults.{HasRisen}
use Rattle.replay_model.specs.declared.input.Input.{Input}
use Rattle.replay_model.specs.Input.{IsWellFormed}
use Rattle.replay_model.specs.TableMap.{TableMap}
use Rattle.txn_engine.specs.Pass.{PassView}
use Rattle.input_runner.specs.Ran.{IsSeenIn, AreSnapshotsOf}
use Rattle.cicada_top.specs.declared.finish.Finish.{Finish}
use Rattle.cicada_top.specs.declared.finish.Status.{Status}
use Rattle.cicada_top.specs.declared.finish.Status.TheVariants.{Done, Usage, ReadFault, WriteFault, NoMemory, Differs}
use Rattle.program_io.specs.declared.mode.Mode.{Mode}
use Rattle.program_io.specs.declared.mode.Settings.{Settings}
use Rattle.program_io.specs.Words.{AreAccepted, AreRefused, IsPlainly, mode_of, settings_of}
use Rattle.cicada_top.specs.Ending.{RunsBlocks, ChecksReport, IsInputFor, IsLawfulEnd, IsHistoryOf}
use Rattle.program_io.specs.Received.{HoldsFor, ReceivesFor, ReadsAtMostFor, IsGenerated}
use Rattle.cicada_top.specs.Due.{Causes, IsAnswer, IsJudged}
use Rattle.cicada_top.specs.Delivery.{EndsAs}

-- What contracts see of a source and a sink: which bytes the one has left and the other has taken, where they tell them, and how often
-- each has failed.
pub record Streams : Type 0 where
  pub left : Option (List ℕ)
  pub taken : Option (List ℕ)
  pub read_faults : ℕ
  pub write_faults : ℕ

abbrev pub streams : (left taken : Option (List ℕ)) → (read_faults write_faults : ℕ) → Streams
streams left taken read_faults write_faults = record { left = left; taken = taken; read_faults = read_faults; write_faults = write_faults }

-- where neither of them fails, what the source holds decides the status, want of memory aside
abbrev pub IsDecided : Mode → Status → (before after : Streams) → Type 0
IsDecided mode status before after =
    ¬ HasRisen before.read_faults after.read_faults
    → ¬ HasRisen before.write_faults after.write_faults
    → (bytes : List ℕ) → HoldsFor mode before.left bytes
    → (cause : Status) → Causes mode bytes cause
    → (status ≡ cause) ⊎ (status ≡ NoMemory)

-- What goes with the status of a run that is asked for so, whatever text is due at it.
pub record GoesWith (mode : Mode) (finish : Finish) (before after : Streams) : Type 0 where
  -- the causes of faults; those of the sink do not become fewer
  pub read_cause : finish.status ≡ ReadFault → HasRisen before.read_faults after.read_faults
  pub write_cause : finish.status ≡ WriteFault → HasRisen before.write_faults after.write_faults
  pub never_falls : before.write_faults ≤ after.write_faults
  -- Of a seat that is alone at the end, the log of all transactions is a lawful history, and over a source that tells its bytes it is that of
  -- the input: an entry for each block of the order, and at each of them the tables of the replay.
  pub lawful : IfSome finish.end (λ end. IsLawfulEnd end.pass)
  pub history : (bytes : List ℕ) → HoldsFor mode before.left bytes
      → IfSome finish.end (λ end. (input : Input) → IsInputFor mode bytes input → IsHistoryOf input finish.order.items end.pass)
  -- the tables that the input declares are answered where that seat is, and else none
  pub tables : (bytes : List ℕ) → HoldsFor mode before.left bytes
      → IfSome finish.end (λ _. (input : Input) → IsInputFor mode bytes input → finish.tables ≡ input.tables)
  pub no_tables : IfNone finish.end (finish.tables ≡ [])
  -- the verdict on a report is there exactly where it was written whole
  pub told : IsSome finish.verdict ↔ (((finish.status ≡ Done) ⊎ (finish.status ≡ Differs)) × ChecksReport mode)
  pub judged : (bytes : List ℕ) → HoldsFor mode before.left bytes → IfSome finish.verdict (λ verdict. (input : Input) × IsJudged bytes input verdict)
  -- at every outcome, at most one byte more than a text may have was read
  pub reads : ReadsAtMostFor mode before.left after.left

-- What comes of a run that is asked for so.
pub record RunsAs (mode : Mode) (finish : Finish) (before after : Streams) : Type 0 where
  -- the table of statuses; at `Done`, where blocks are run, it is the report theorem
  pub ends : EndsAs finish.status mode finish.order.items finish.fault before.left after.left before.taken after.taken
  -- the seat that is alone at the end is there exactly where blocks were run and all was written
  pub end : IsSome finish.end ↔ ((finish.status ≡ Done) × RunsBlocks mode)
  pub beside : GoesWith mode finish before after

-- What comes of a run that words ask for: where they are refused, that is said; where they are accepted, what the source holds decides.
pub record RunsBy (words : List (List ℕ)) (finish : Finish) (before after : Streams) : Type 0 where
  pub asked : RunsAs (mode_of words) finish before after
  pub usage : finish.status ≡ Usage → AreRefused words
  pub refused : AreRefused words → (finish.status ≡ Usage) ⊎ (finish.status ≡ NoMemory)
  pub usage_text : IsSome finish.usage ↔ (finish.status ≡ Usage)
  pub complete : AreAccepted words → IsDecided (mode_of words) finish.status before after

-- THE CALL, over a source and a sink of whatever type.
pub record Answers {S K : Type 0} (words : List (List ℕ)) (finish : Finish) (source source' : S) (sink sink' : K) (before after : Streams) : Type 0 where
  -- what is answered, read and written: at `Done`, where the words ask for a run, it is the report theorem
  pub runs : RunsBy words finish before after
  -- where the words are refused nothing is touched, and where the input is generated the source is not
  pub words_first : AreRefused words → (source' ≡ source) × (sink' ≡ sink)
  pub unread : IsGenerated (mode_of words) → source' ≡ source
  -- plain words are accepted, and ask for what they say
  pub plain_words : (given : List (List ℕ)) (settings : Settings) → IsPlainly given settings → AreAccepted given × (settings_of given ≡ settings)

-- What belongs together where blocks were run and all was written, also over a source that does not tell its bytes: the bytes that were
-- received, the text that was written for them in this order, and of the input whose blocks were run its history, the tables that it
-- declares and the rows that were read beside its lanes, by snapshots that stand in that history.
pub record BelongsTogether (mode : Mode) (finish : Finish) (end : PassView) (before after : Streams) (seen : List (ℕ × TableMap)) : Type 0 where
  pub bytes : List ℕ
  pub received : ReceivesFor mode before.left after.left bytes
  pub due : List ℕ
  pub answers : IsAnswer mode bytes finish.order.items due
  pub written : after.taken ≡ append_known before.taken due
  pub input : Input
  pub is_input : IsInputFor mode bytes input
  pub well_formed : IsWellFormed input
  pub declared : finish.tables ≡ input.tables
  pub history : IsHistoryOf input finish.order.items end
  pub seen_in : All (IsSeenIn input finish.order.items) seen
  pub snapshots : AreSnapshotsOf input finish.order.items end seen

-- Where blocks were run and all was written, all rows were read so often beside the lanes, and what was read at a stamp are the rows that
-- the transaction blocks of the order up to it leave. Each was read by a snapshot of that stamp of its own in the log of the seat that is
-- alone, behind the loading, and none at a stamp below that of an earlier one; they were made beside the transactions of the first seat.
pub record Sees (mode : Mode) (finish : Finish) (before after : Streams) (due : ℕ) (seen : List (ℕ × TableMap)) : Type 0 where
  pub count : IfSome finish.end (λ _. length seen ≡ due)
  pub each : (bytes : List ℕ) → HoldsFor mode before.left bytes
      → IfSome finish.end (λ _. (input : Input) → IsInputFor mode bytes input → All (IsSeenIn input finish.order.items) seen)
  pub snapshots : (bytes : List ℕ) → HoldsFor mode before.left bytes
      → IfSome finish.end (λ end. (input : Input) → IsInputFor mode bytes input → AreSnapshotsOf input finish.order.items end.pass seen)
  pub together : IfSome finish.end (λ end. BelongsTogether mode finish end.pass before after seen)
