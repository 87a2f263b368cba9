-- What is due, and how a run ends that offers it.
use Rattle.std.proofs.Common.{◌≡◌, ◌∙◌, ◌⊎◌, ℕ, ◌<◌, ◌≤◌, List, [], ◌++◌, length, take, drop, Option, None, Some, refl, sym, ap, subst, inl, inr, arith, lit≤, append-nil, length-drop, length-take, length-append}
use Rattle.std.proofs.lemmas.List.{take-append-drop}
use Rattle.std.proofs.lemmas.Option.{none-some, same_Some}
use Rattle.std.specs.Io.KnownBytes.{append_known, IsAtEnd}
use Rattle.std.specs.Prelude.{IsSome, IfSome}
use Rattle.std.proofs.KnownBytes.{prepend_known-nil}
use Rattle.replay_model.specs.declared.outcome.Placed.{Placed}
use Rattle.replay_model.specs.declared.input.Input.{Input as InputValue}
use Rattle.txn_script.specs.declared.fault.InputFault.{InputFault}
use Rattle.txn_script.specs.declared.fault.Kind.{Kind}
use Rattle.txn_script.specs.Grammar.{IsInput, IsFault}
use Rattle.cicada_top.specs.declared.finish.Status.{Status}
use Rattle.cicada_top.specs.declared.finish.Status.TheVariants.{Done, Usage, Input, TooLong, ReadFault, WriteFault, NoMemory, Differs}
use Rattle.program_io.specs.declared.mode.Mode.{Mode}
use Rattle.program_io.specs.declared.mode.Mode.TheVariants.{Run, Generate, Check}
use Rattle.report_check.specs.declared.checking.Verdict.{Verdict}
use Rattle.report_check.specs.declared.checking.Verdict.TheVariants.{Yes, NoOrder, NoLine}
use Rattle.report_check.specs.Verdicts.{IsVerdict}
use Rattle.program_io.specs.Parts.{input_part, report_part}
use Rattle.program_io.specs.Received.{most_input, most_checked, Receives, ReceivesFor, HoldsFor, HasReadAll, ReadsAtMostFor}
use Rattle.cicada_top.specs.Due.{IsCheckable, IsJudged, TellsVerdict, IsDueAt, Causes}
use Rattle.cicada_top.specs.Delivery.{order_kept, IsPart, WritesAs, EndsAs}
use Rattle.cicada_top.specs.Ending.{ChecksReport, IsInputFor}

-- no text is due at a status of a sink that fails
pub due-not_WriteFault : (status : Status) (mode : Mode) (bytes : List ℕ) (order : List Placed) (fault : Option InputFault) (text : List ℕ)
    → IsDueAt status mode bytes order fault text → status ≡ WriteFault → ⊥
due-not_WriteFault Done mode bytes order fault text due = λ e. cc
due-not_WriteFault Usage mode bytes order fault text due = absurd due
due-not_WriteFault Input mode bytes order fault text due = λ e. cc
due-not_WriteFault TooLong mode bytes order fault text due = λ e. cc
due-not_WriteFault ReadFault mode bytes order fault text due = absurd due
due-not_WriteFault WriteFault mode bytes order fault text due = absurd due
due-not_WriteFault NoMemory mode bytes order fault text due = absurd due
due-not_WriteFault Differs mode bytes order fault text due = λ e. cc

-- ---- where a sink stopped

append_known-nothing : (known : Option (List ℕ)) → append_known known [] ≡ known
append_known-nothing None = refl
append_known-nothing (Some xs) = ap Some (append-nil xs)

-- what was taken of a text due, and what was not
part_of : (status : Status) (mode : Mode) (bytes text : List ℕ) (made_of order : List Placed) (fault : Option InputFault) (sent : ℕ) (before after : Option (List ℕ))
    → IsDueAt status mode bytes made_of fault text → order ≡ order_kept mode made_of → after ≡ append_known before (take sent text)
    → IsPart mode bytes order (take sent text) (drop sent text) before after
part_of status mode bytes text made_of order fault sent before after due kept written = record {
  is_due = record {
    status = status;
    made_of = made_of;
    fault = fault;
    is_due = subst (λ (t : List ℕ). IsDueAt status mode bytes made_of fault t) (sym (take-append-drop sent text)) due;
    kept = kept;
  };
  written = written;
}

-- the same under other names
pub as_said : (s t : Status) (o p : List Placed) (f g : Option InputFault) (mode : Mode) (bytes : List ℕ) (before after : Option (List ℕ))
    → s ≡ t → o ≡ p → f ≡ g → WritesAs t mode bytes p g before after → WritesAs s mode bytes o f before after
as_said s t o p f g mode bytes before after is_status is_order is_fault h =
    subst (λ (x : Status). WritesAs x mode bytes o f before after) (sym is_status)
    (subst (λ (x : List Placed). WritesAs t mode bytes x f before after) (sym is_order)
    (subst (λ (x : Option InputFault). WritesAs t mode bytes p x before after) (sym is_fault) h))

pub failed_writes : (status : Status) (mode : Mode) (bytes text : List ℕ) (made_of order : List Placed) (fault : Option InputFault) (sent : ℕ) (before after : Option (List ℕ))
    → IsDueAt status mode bytes made_of fault text → order ≡ order_kept mode made_of → after ≡ append_known before (take sent text) → sent < length text
    → WritesAs WriteFault mode bytes order None before after
failed_writes status mode bytes text made_of order fault sent before after due kept written short = (
  record {
    sent = take sent text;
    rest = drop sent text;
    part = part_of status mode bytes text made_of order fault sent before after due kept written;
    unfinished = omega (arith, length-drop sent text);
  },
  refl,
)

pub begun_writes : (status : Status) (mode : Mode) (bytes text : List ℕ) (made_of order : List Placed) (fault : Option InputFault) (sent : ℕ) (before after : Option (List ℕ))
    → IsDueAt status mode bytes made_of fault text → order ≡ order_kept mode made_of → after ≡ append_known before (take sent text) → sent < length text → 0 < sent
    → WritesAs NoMemory mode bytes order None before after
begun_writes status mode bytes text made_of order fault sent before after due kept written short some = inl (
  record {
    sent = take sent text;
    rest = drop sent text;
    part = part_of status mode bytes text made_of order fault sent before after due kept written;
    begun = omega (arith, length-take sent text);
  },
  refl,
)

pub nothing_writes : (mode : Mode) (bytes text : List ℕ) (sent : ℕ) (before after : Option (List ℕ)) → after ≡ append_known before (take sent text) → sent ≡ 0
    → WritesAs NoMemory mode bytes [] None before after
nothing_writes mode bytes text sent before after written none =
    inr (record { unordered = refl; faultless = refl; kept = written ∙ ap (λ (n : ℕ). append_known before (take n text)) none ∙ append_known-nothing before })

-- ---- one cause alone

pub only_input : (bytes : List ℕ) (input : InputValue) → length bytes ≤ most_input → IsInput bytes input
    → ((i : InputValue) (line : ℕ) (kind : Kind) → IsInput bytes i → IsFault bytes line kind → ⊥)
    → (status : Status) → Causes Run bytes status → status ≡ Done
only_input bytes input short is never Done cause = refl
only_input bytes input short is never Usage cause = absurd cause
only_input bytes input short is never Input cause = absurd (never input cause.1 cause.2 is cause.3)
only_input bytes input short is never TooLong cause = absurd (omega arith)
only_input bytes input short is never ReadFault cause = absurd cause
only_input bytes input short is never WriteFault cause = absurd cause
only_input bytes input short is never NoMemory cause = absurd cause
only_input bytes input short is never Differs cause = absurd cause

pub only_generated : (seed : ℕ) (bytes : List ℕ) (status : Status) → Causes (Generate seed) bytes status → status ≡ Done
only_generated seed bytes Done cause = refl
only_generated seed bytes Usage cause = absurd cause
only_generated seed bytes Input cause = absurd cause
only_generated seed bytes TooLong cause = absurd cause
only_generated seed bytes ReadFault cause = absurd cause
only_generated seed bytes WriteFault cause = absurd cause
only_generated seed bytes NoMemory cause = absurd cause
only_generated seed bytes Differs cause = absurd cause

pub only_fault : (bytes : List ℕ) (line : ℕ) (kind : Kind) → length bytes ≤ most_input → IsFault bytes line kind
    → ((i : InputValue) (line : ℕ) (kind : Kind) → IsInput bytes i → IsFault bytes line kind → ⊥)
    → (status : Status) → Causes Run bytes status → status ≡ Input
only_fault bytes line kind short is never Done cause = absurd (never cause.1 line kind cause.2 is)
only_fault bytes line kind short is never Usage cause = absurd cause
only_fault bytes line kind short is never Input cause = refl
only_fault bytes line kind short is never TooLong cause = absurd (omega arith)
only_fault bytes line kind short is never ReadFault cause = absurd cause
only_fault bytes line kind short is never WriteFault cause = absurd cause
only_fault bytes line kind short is never NoMemory cause = absurd cause
only_fault bytes line kind short is never Differs cause = absurd cause

-- ---- verdicts

-- a cause speaks of the same input and verdict
same_verdict : (bytes : List ℕ) (input : InputValue) (verdict : Verdict) → IsInput (input_part bytes) input → IsVerdict input (report_part bytes) verdict
    → ((a b : InputValue) → IsInput (input_part bytes) a → IsInput (input_part bytes) b → a ≡ b)
    → ((a b : Verdict) → IsVerdict input (report_part bytes) a → IsVerdict input (report_part bytes) b → a ≡ b)
    → (other : InputValue) (found : Verdict) → IsJudged bytes other found → found ≡ verdict
same_verdict bytes input verdict is holds one alone other found judged =
    alone found verdict (subst (λ (i : InputValue). IsVerdict i (report_part bytes) found) (one other input judged.accepted is) judged.found) holds

pub only_verdict : (bytes : List ℕ) (input : InputValue) (verdict : Verdict) (status : Status) (order : List Placed) (fault : Option InputFault) (text : List ℕ)
    → IsCheckable bytes → IsInput (input_part bytes) input → IsVerdict input (report_part bytes) verdict
    → TellsVerdict input (report_part bytes) verdict status order fault text
    → ((a b : InputValue) → IsInput (input_part bytes) a → IsInput (input_part bytes) b → a ≡ b)
    → ((i : InputValue) (line : ℕ) (kind : Kind) → IsInput (input_part bytes) i → IsFault (input_part bytes) line kind → ⊥)
    → ((a b : Verdict) → IsVerdict input (report_part bytes) a → IsVerdict input (report_part bytes) b → a ≡ b)
    → (cause : Status) → Causes Check bytes cause → cause ≡ status
only_verdict bytes input verdict status order fault text short is holds tells one never alone cause given =
    by_cause cause given
  where
    same : (other : InputValue) (found : Verdict) → IsJudged bytes other found → found ≡ verdict
    same = same_verdict bytes input verdict is holds one alone

    at_yes : (v : Verdict) → Yes ≡ v → TellsVerdict input (report_part bytes) v status order fault text → Done ≡ status
    at_yes Yes e told = sym told.0
    at_yes (NoOrder test) e told = cc
    at_yes (NoLine line) e told = cc

    at_other : (v : Verdict) → (v ≡ Yes → ⊥) → TellsVerdict input (report_part bytes) v status order fault text → Differs ≡ status
    at_other Yes e told = absurd (e refl)
    at_other (NoOrder test) e told = sym told.0
    at_other (NoLine line) e told = sym told.0

    by_cause : (s : Status) → Causes Check bytes s → s ≡ status
    by_cause Done h = at_yes verdict (same h.0 Yes h.1) tells
    by_cause Usage h = absurd h
    by_cause Input h = absurd (never input h.1 h.2 is h.3)
    by_cause TooLong h =
        elim h [ inl long ↦ let fits = short.short in absurd (omega arith) | inr long ↦ let fits = short.short_input in absurd (omega arith) ]
    by_cause ReadFault h = absurd h
    by_cause WriteFault h = absurd h
    by_cause NoMemory h = absurd h
    by_cause Differs h = at_other verdict (λ e. h.3 (same h.0 h.1 h.2 ∙ e)) tells

pub only_fault_checked : (bytes : List ℕ) (line : ℕ) (kind : Kind) → IsCheckable bytes → IsFault (input_part bytes) line kind
    → ((i : InputValue) (line : ℕ) (kind : Kind) → IsInput (input_part bytes) i → IsFault (input_part bytes) line kind → ⊥)
    → (status : Status) → Causes Check bytes status → status ≡ Input
only_fault_checked bytes line kind short is never Done h = absurd (never h.0 line kind h.1.accepted is)
only_fault_checked bytes line kind short is never Usage h = absurd h
only_fault_checked bytes line kind short is never Input h = refl
only_fault_checked bytes line kind short is never TooLong h =
    elim h [ inl long ↦ let fits = short.short in absurd (omega arith) | inr long ↦ let fits = short.short_input in absurd (omega arith) ]
only_fault_checked bytes line kind short is never ReadFault h = absurd h
only_fault_checked bytes line kind short is never WriteFault h = absurd h
only_fault_checked bytes line kind short is never NoMemory h = absurd h
only_fault_checked bytes line kind short is never Differs h = absurd (never h.0 line kind h.2.accepted is)

-- ---- what was received of what the source held

same_or_long : (most : ℕ) (left left' : Option (List ℕ)) (all bytes : List ℕ) → left ≡ Some all → Receives most left left' bytes
    → (bytes ≡ all) ⊎ ((most < length bytes) × (most < length all))
same_or_long most left None all bytes told got = absurd (none-some all (sym (sym told ∙ got.given)))
same_or_long most left (Some rest) all bytes told got =
    let parts : all ≡ bytes ++ rest = same_Some all (bytes ++ rest) (sym told ∙ got.given) in
    elim got.enough [
      | inl end ↦ inl (sym (parts ∙ ap (λ (r : List ℕ). bytes ++ r) end ∙ append-nil bytes))
      | inr full ↦ inr (omega (arith, full), omega (arith, full, ap length parts, length-append bytes rest))
    ]

long_run : (bytes all : List ℕ) → most_input < length bytes → most_input < length all → (status : Status) → Causes Run all status → Causes Run bytes status
long_run bytes all long long' Done h = let fits = h.0 in absurd (omega arith)
long_run bytes all long long' Usage h = h
long_run bytes all long long' Input h = let fits = h.0 in absurd (omega arith)
long_run bytes all long long' TooLong h = long
long_run bytes all long long' ReadFault h = h
long_run bytes all long long' WriteFault h = h
long_run bytes all long long' NoMemory h = h
long_run bytes all long long' Differs h = h

long_check : (bytes all : List ℕ) → most_checked < length bytes → most_checked < length all → (status : Status) → Causes Check all status → Causes Check bytes status
long_check bytes all long long' Done h = let fits = h.1.checkable.short in absurd (omega arith)
long_check bytes all long long' Usage h = h
long_check bytes all long long' Input h = let fits = h.0.short in absurd (omega arith)
long_check bytes all long long' TooLong h = inl long
long_check bytes all long long' ReadFault h = h
long_check bytes all long long' WriteFault h = h
long_check bytes all long long' NoMemory h = h
long_check bytes all long long' Differs h = let fits = h.2.checkable.short in absurd (omega arith)

-- the cause of a status holds of what was received
pub received_cause : (mode : Mode) (left left' : Option (List ℕ)) (all bytes : List ℕ) → ReceivesFor mode left left' bytes → HoldsFor mode left all
    → (status : Status) → Causes mode all status → Causes mode bytes status
received_cause Run left left' all bytes got told status h =
    elim (same_or_long most_input left left' all bytes told got) [
      | inl same ↦ subst (λ (b : List ℕ). Causes Run b status) (sym same) h
      | inr long ↦ long_run bytes all long.0 long.1 status h
    ]
received_cause (Generate seed) left left' all bytes got told status h =
    subst (λ (b : List ℕ). Causes (Generate seed) b status) (told ∙ sym got.1) h
received_cause Check left left' all bytes got told status h =
    elim (same_or_long most_checked left left' all bytes told got) [
      | inl same ↦ subst (λ (b : List ℕ). Causes Check b status) (sym same) h
      | inr long ↦ long_check bytes all long.0 long.1 status h
    ]

-- and so does which input it is
pub received_input : (mode : Mode) (left left' : Option (List ℕ)) (all bytes : List ℕ) (input : InputValue) → ReceivesFor mode left left' bytes → HoldsFor mode left all → IsInputFor mode all input → IsInputFor mode bytes input
received_input Run left left' all bytes input got told is =
    elim (same_or_long most_input left left' all bytes told got) [
      | inl same ↦ subst (λ (b : List ℕ). IsInputFor Run b input) (sym same) is
      | inr long ↦ let short = is.0 in let over = long.1 in absurd (omega arith)
    ]
received_input (Generate seed) left left' all bytes input got told is = is
received_input Check left left' all bytes input got told is = absurd is

-- and so does the verdict on a report, where there is one
pub received_judged : (mode : Mode) (left left' : Option (List ℕ)) (all bytes : List ℕ) (verdict : Option Verdict) → ReceivesFor mode left left' bytes
    → HoldsFor mode left all → (IsSome verdict → ChecksReport mode) → IfSome verdict (λ v. (input : InputValue) × IsJudged bytes input v)
    → IfSome verdict (λ v. (input : InputValue) × IsJudged all input v)
received_judged Run left left' all bytes None got told checks judged = tt
received_judged Run left left' all bytes (Some v) got told checks judged = absurd (checks refl)
received_judged (Generate seed) left left' all bytes None got told checks judged = tt
received_judged (Generate seed) left left' all bytes (Some v) got told checks judged = absurd (checks refl)
received_judged Check left left' all bytes None got told checks judged = tt
received_judged Check left left' all bytes (Some v) got told checks judged =
    elim (same_or_long most_checked left left' all bytes told got) [
      | inl same ↦ subst (λ (b : List ℕ). (input : InputValue) × IsJudged b input v) same judged
      | inr long ↦ let short = judged.1.checkable.short in let over = long.0 in absurd (omega arith)
    ]

-- what was received whole
whole : (most : ℕ) (left left' : Option (List ℕ)) (bytes : List ℕ) → Receives most left left' bytes → length bytes ≤ most → IsAtEnd left'
whole most left left' bytes got fits = elim got.enough [ inl end ↦ end | inr full ↦ absurd (omega arith) ]

read_at_done : (mode : Mode) (left left' : Option (List ℕ)) (bytes : List ℕ) (order : List Placed) (fault : Option InputFault) (text : List ℕ)
    → ReceivesFor mode left left' bytes → IsDueAt Done mode bytes order fault text → HasReadAll mode left'
read_at_done Run left left' bytes order fault text got due = whole most_input left left' bytes got due.0.short
read_at_done (Generate seed) left left' bytes order fault text got due = tt
read_at_done Check left left' bytes order fault text got due = whole most_checked left left' bytes got due.0.judged.checkable.short

read_at_input : (mode : Mode) (left left' : Option (List ℕ)) (bytes : List ℕ) (order : List Placed) (fault : Option InputFault) (text : List ℕ)
    → ReceivesFor mode left left' bytes → IsDueAt Input mode bytes order fault text → HasReadAll mode left'
read_at_input Run left left' bytes order fault text got due = whole most_input left left' bytes got due.0.0
read_at_input (Generate seed) left left' bytes order fault text got due = tt
read_at_input Check left left' bytes order fault text got due = whole most_checked left left' bytes got due.0.0.short

read_at_differs : (mode : Mode) (left left' : Option (List ℕ)) (bytes : List ℕ) (order : List Placed) (fault : Option InputFault) (text : List ℕ)
    → ReceivesFor mode left left' bytes → IsDueAt Differs mode bytes order fault text → HasReadAll mode left'
read_at_differs Run left left' bytes order fault text got due = absurd due.0
read_at_differs (Generate seed) left left' bytes order fault text got due = tt
read_at_differs Check left left' bytes order fault text got due = whole most_checked left left' bytes got due.0.judged.checkable.short

pub answered_ends : (status : Status) (mode : Mode) (order : List Placed) (fault : Option InputFault) (left left' before after : Option (List ℕ)) (bytes : List ℕ)
    → ReceivesFor mode left left' bytes → WritesAs status mode bytes order fault before after → EndsAs status mode order fault left left' before after
answered_ends Done mode order fault left left' before after bytes got writes =
    (record { bytes = bytes; received = got; writes = writes }, read_at_done mode left left' bytes order fault writes.due got writes.is_due)
answered_ends Usage mode order fault left left' before after bytes got writes = absurd writes
answered_ends Input mode order fault left left' before after bytes got writes =
    (record { bytes = bytes; received = got; writes = writes }, read_at_input mode left left' bytes order fault writes.due got writes.is_due)
answered_ends TooLong mode order fault left left' before after bytes got writes = record { bytes = bytes; received = got; writes = writes }
answered_ends ReadFault mode order fault left left' before after bytes got writes = absurd writes
answered_ends WriteFault mode order fault left left' before after bytes got writes = record { bytes = bytes; received = got; writes = writes }
answered_ends NoMemory mode order fault left left' before after bytes got writes = inl (record { bytes = bytes; received = got; writes = writes })
answered_ends Differs mode order fault left left' before after bytes got writes =
    (record { bytes = bytes; received = got; writes = writes }, read_at_differs mode left left' bytes order fault writes.due got writes.is_due)

-- nothing was read
pub reads-nothing : (mode : Mode) (left : Option (List ℕ)) → ReadsAtMostFor mode left left
reads-nothing Run left = record { bytes = []; given = sym (prepend_known-nil left); bounded = lit≤ tt }
reads-nothing (Generate seed) left = refl
reads-nothing Check left = record { bytes = []; given = sym (prepend_known-nil left); bounded = lit≤ tt }
