-- THE TEXTS: what is due for what was received, and the status at which a run ends that writes it whole.
use Rattle.std.specs.Prelude.{◌≡◌, ◌≢◌, ◌⊎◌, ℕ, ◌<◌, ◌≤◌, ◌++◌, List, [], length, codes, decimal, Option, None, Some}
use Rattle.replay_model.specs.declared.input.Input.{Input as InputValue}
use Rattle.replay_model.specs.declared.outcome.Placed.{Placed}
use Rattle.replay_model.specs.Order.{IsOrder}
use Rattle.replay_model.specs.Replay.{last_tables}
use Rattle.replay_model.specs.Report.{report, line}
use Rattle.txn_script.specs.declared.fault.InputFault.{InputFault}
use Rattle.txn_script.specs.declared.fault.Kind.{Kind}
use Rattle.txn_script.specs.Grammar.{IsInput, IsFault}
use Rattle.txn_script.specs.Kinds.{input_fault}
use Rattle.report_check.specs.declared.checking.Verdict.{Verdict}
use Rattle.report_check.specs.declared.checking.Verdict.TheVariants.{Yes, NoOrder, NoLine}
use Rattle.report_check.specs.Printed.{printed}
use Rattle.report_check.specs.Verdicts.{IsVerdict}
use Rattle.load_gen.specs.Load.{lines, spelled}
use Rattle.load_gen.specs.Summary.{summary_lines}
use Rattle.cicada_top.specs.declared.finish.Status.{Status}
use Rattle.cicada_top.specs.declared.finish.Status.TheVariants.{Done, Usage, Input, TooLong, ReadFault, WriteFault, NoMemory, Differs}
use Rattle.program_io.specs.declared.mode.Mode.{Mode}
use Rattle.program_io.specs.declared.mode.Mode.TheVariants.{Run, Generate, Check}
use Rattle.program_io.specs.Received.{most_input, most_checked}
use Rattle.program_io.specs.Parts.{input_part, report_part}

-- ---- an order, and the texts made of it

-- the bytes are an input, the order is one of it, and the text is its report
pub record IsReport (bytes : List ℕ) (order : List Placed) (due : List ℕ) : Type 0 where
  pub short : length bytes ≤ most_input
  pub input : InputValue
  pub accepted : IsInput bytes input
  pub ordered : IsOrder input order
  pub reported : due ≡ report input order

-- the order is one of the input that is generated from a number, and the text sums up what it comes to
pub record IsSummary (seed : ℕ) (order : List Placed) (due : List ℕ) : Type 0 where
  pub input : InputValue
  pub accepted : IsInput (spelled (lines seed)) input
  pub ordered : IsOrder input order
  pub summed : due ≡ spelled (summary_lines input (last_tables input order))

-- ---- refusals

-- the line that refuses a text for a fault
abbrev pub refusal_text : InputFault → List ℕ
refusal_text fault = line (codes "refused " ++ decimal fault.line ++ codes " " ++ decimal fault.kind)

-- the line that refuses a text for its length
abbrev pub long_text : List ℕ
long_text = line (codes "refused 0 long")

-- the bytes have this first faulty line, and the text says so
pub record IsRefusal (bytes : List ℕ) (answered : Option InputFault) (due : List ℕ) : Type 0 where
  pub number : ℕ
  pub kind : Kind
  pub refused : IsFault bytes number kind
  pub told : answered ≡ Some (input_fault number kind)
  pub said : due ≡ refusal_text (input_fault number kind)

-- ---- verdicts

-- neither the bytes nor the input that they begin with are too long
pub record IsCheckable (bytes : List ℕ) : Type 0 where
  pub short : length bytes ≤ most_checked
  pub short_input : length (input_part bytes) ≤ most_input

abbrev pub verdict_text : Verdict → List ℕ
verdict_text Yes = line (codes "yes")
verdict_text (NoOrder test) = line (codes "no order " ++ decimal test)
verdict_text (NoLine number) = line (codes "no line " ++ decimal number)

-- the bytes begin with an input, and this is found of the report behind it
pub record IsJudged (bytes : List ℕ) (input : InputValue) (verdict : Verdict) : Type 0 where
  pub checkable : IsCheckable bytes
  pub accepted : IsInput (input_part bytes) input
  pub found : IsVerdict input (report_part bytes) verdict

-- it is the report of the input in the order that it prints, and the text says so
pub record IsConfirmed (bytes : List ℕ) (order : List Placed) (due : List ℕ) : Type 0 where
  pub input : InputValue
  pub judged : IsJudged bytes input Yes
  pub ordered : order ≡ printed input (report_part bytes)
  pub said : due ≡ verdict_text Yes

-- it is not, and the text says why
pub record IsDenied (bytes due : List ℕ) : Type 0 where
  pub input : InputValue
  pub verdict : Verdict
  pub judged : IsJudged bytes input verdict
  pub denies : verdict ≢ Yes
  pub said : due ≡ verdict_text verdict

-- what is answered with a verdict: the order that a right report prints
abbrev pub TellsVerdict : InputValue → List ℕ → Verdict → Status → List Placed → Option InputFault → List ℕ → Type 0
TellsVerdict input report Yes status order fault due = (status ≡ Done) × (order ≡ printed input report) × (fault ≡ None) × (due ≡ verdict_text Yes)
TellsVerdict input report (NoOrder test) status order fault due = (status ≡ Differs) × (order ≡ []) × (fault ≡ None) × (due ≡ verdict_text (NoOrder test))
TellsVerdict input report (NoLine number) status order fault due = (status ≡ Differs) × (order ≡ []) × (fault ≡ None) × (due ≡ verdict_text (NoLine number))

-- ---- the table

abbrev pub IsAnswer : Mode → List ℕ → List Placed → List ℕ → Type 0
IsAnswer Run bytes order due = IsReport bytes order due
IsAnswer (Generate seed) bytes order due = IsSummary seed order due
IsAnswer Check bytes order due = IsConfirmed bytes order due

abbrev pub IsRefused : Mode → List ℕ → Option InputFault → List ℕ → Type 0
IsRefused Run bytes fault due = (length bytes ≤ most_input) × IsRefusal bytes fault due
IsRefused (Generate seed) bytes fault due = ⊥
IsRefused Check bytes fault due = IsCheckable bytes × IsRefusal (input_part bytes) fault due

abbrev pub IsTooLong : Mode → List ℕ → Type 0
IsTooLong Run bytes = most_input < length bytes
IsTooLong (Generate seed) bytes = ⊥
IsTooLong Check bytes = (most_checked < length bytes) ⊎ (most_input < length (input_part bytes))

abbrev pub IsOtherwise : Mode → List ℕ → List ℕ → Type 0
IsOtherwise Run bytes due = ⊥
IsOtherwise (Generate seed) bytes due = ⊥
IsOtherwise Check bytes due = IsDenied bytes due

-- the text due at each status, with the order and the fault that are answered with it
abbrev pub IsDueAt : Status → Mode → List ℕ → List Placed → Option InputFault → List ℕ → Type 0
IsDueAt Done mode bytes order fault due = IsAnswer mode bytes order due × (fault ≡ None)
IsDueAt Usage mode bytes order fault due = ⊥
IsDueAt Input mode bytes order fault due = IsRefused mode bytes fault due × (order ≡ [])
IsDueAt TooLong mode bytes order fault due = IsTooLong mode bytes × (due ≡ long_text) × (order ≡ []) × (fault ≡ None)
IsDueAt ReadFault mode bytes order fault due = ⊥
IsDueAt WriteFault mode bytes order fault due = ⊥
IsDueAt NoMemory mode bytes order fault due = ⊥
IsDueAt Differs mode bytes order fault due = IsOtherwise mode bytes due × (order ≡ []) × (fault ≡ None)

-- ---- the causes: at which status a run over these bytes ends, where it writes all that is due

abbrev pub IsAnswered : Mode → List ℕ → Type 0
IsAnswered Run bytes = (length bytes ≤ most_input) × (input : InputValue) × IsInput bytes input
IsAnswered (Generate seed) bytes = Unit {0}
IsAnswered Check bytes = (input : InputValue) × IsJudged bytes input Yes

abbrev pub HasFault : Mode → List ℕ → Type 0
HasFault Run bytes = (length bytes ≤ most_input) × (number : ℕ) × (kind : Kind) × IsFault bytes number kind
HasFault (Generate seed) bytes = ⊥
HasFault Check bytes = IsCheckable bytes × (number : ℕ) × (kind : Kind) × IsFault (input_part bytes) number kind

abbrev pub IsFoundOther : Mode → List ℕ → Type 0
IsFoundOther Run bytes = ⊥
IsFoundOther (Generate seed) bytes = ⊥
IsFoundOther Check bytes = (input : InputValue) × (verdict : Verdict) × IsJudged bytes input verdict × (verdict ≢ Yes)

abbrev pub Causes : Mode → List ℕ → Status → Type 0
Causes mode bytes Done = IsAnswered mode bytes
Causes mode bytes Usage = ⊥
Causes mode bytes Input = HasFault mode bytes
Causes mode bytes TooLong = IsTooLong mode bytes
Causes mode bytes ReadFault = ⊥
Causes mode bytes WriteFault = ⊥
Causes mode bytes NoMemory = ⊥
Causes mode bytes Differs = IsFoundOther mode bytes
