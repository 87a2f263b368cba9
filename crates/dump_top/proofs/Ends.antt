-- How a run with dumps ends, by how its run ends and how the dumps are written.
use Rattle.std.proofs.Common.{◌≡◌, ◌≢◌, ◌⊎◌, ℕ, ◌+◌, ◌<◌, ◌≤◌, List, [], ◌∷◌, ◌++◌, length, map, Option, None, Some, true, false, append_assoc, length-append, inl, inr, refl, sym, ap, subst, ◌∙◌, arith}
use Rattle.std.specs.Prelude.{IfNone, IfSome, IsSome, codes, is_some}
use Rattle.std.specs.List.{range_with_len}
use Rattle.std.specs.Io.KnownBytes.{append_known, IsAtEnd}
use Rattle.std.proofs.lemmas.List.{length-map}
use Rattle.std.proofs.lemmas.List.FromFn.{length-map-range_with_len}
use Rattle.replay_model.specs.declared.input.Input.{Input as InputValue}
use Rattle.replay_model.specs.declared.outcome.Placed.{Placed}
use Rattle.replay_model.specs.Order.{IsOrder}
use Rattle.replay_model.specs.Report.{line, report}
use Rattle.replay_model.specs.TableMap.{TableMap}
use Rattle.txn_engine.specs.Alone.{AloneView}
use Rattle.txn_script.specs.declared.fault.InputFault.{InputFault}
use Rattle.txn_script.proofs.Unique.{one_input}
use Rattle.outside_io.specs.Faults.{HasRisen, count_end}
use Rattle.outside_io.specs.declared.sink.SinkFault.{SinkFault}
use Rattle.outside_io.specs.declared.sink.SinkFault.TheVariants.{Failed, NoMemory as NoRoom}
use Rattle.cicada_top.specs.declared.finish.Finish.{Finish}
use Rattle.cicada_top.specs.declared.finish.Status.{Status}
use Rattle.cicada_top.specs.declared.finish.Status.TheVariants.{Done, Usage, Input, TooLong, ReadFault, WriteFault, NoMemory, Differs}
use Rattle.program_io.specs.declared.mode.Mode.TheVariants.{Run}
use Rattle.cicada_top.specs.Due.{IsDueAt}
use Rattle.cicada_top.specs.Delivery.{Answers, EndsAs, IsDue, StopsBegun, StopsShort, WritesNothing}
use Rattle.cicada_top.specs.Ending.{IsLawfulEnd}
use Rattle.program_io.specs.Received.{ReadsAtMostFor}
use Rattle.cicada_top.specs.Runs.{BelongsTogether, GoesWith, IsDecided, RunsAs, Streams}
use Rattle.snap_dump.specs.declared.dump.Dump.{Dump}
use Rattle.snap_dump.specs.Dumps.{seen_in}
use Rattle.dump_top.specs.Endings.{AreStampsOf, BeginsDumps, DeliversDumps, DumpsAs, EndsWithDumps, IsDueHere, IsReportWithDumps, WritesDumps, WritesPart, status_at, stopped}
use Rattle.dump_top.specs.Parts.{IsWrittenInPart}
use Rattle.dump_top.specs.Texts.{dumps_text, readings_text}
use Rattle.dump_top.specs.Words.{AsksFor, Text}
use Rattle.cicada_top.proofs.DueLaws.{reads-nothing}
use Rattle.dump_top.proofs.Readings.{append_known-append, shown, stamps_of}

-- ---- what is there, and what is not

module _ {X : Type 0} (o : Option X) (none : o ≡ None) where
  not_there : IsSome o → ⊥
  not_there some = absurd (let no : false ≡ true = ap is_some (sym none) ∙ some in cc)

  if_there : (P : X → Type 0) → IfSome o P
  if_there P = subst (λ (x : Option X). IfSome x P) (sym none) tt

  if_not : (P : Type 0) → P → IfNone o P
  if_not P p = subst (λ (x : Option X). IfNone x P) (sym none) p

pub none_of : {X : Type 0} (o : Option X) → (IsSome o → ⊥) → o ≡ None
none_of None not = refl
none_of (Some x) not = absurd (not refl)

module _ (words : List Text) (dumps : ℕ) (asks : AsksFor words dumps) where
  -- ---- where the run wrote no whole report

  abbrev some_stamps : List ℕ
  some_stamps = map (λ (n : ℕ). n) (range_with_len 0 dumps)

  asked : AsksFor words (length some_stamps)
  asked = subst (AsksFor words) (sym (length-map-range_with_len (λ (n : ℕ). n) 0 dumps)) asks

  -- a part of a text that is due of a run is a part of one that is due with dumps, of which none was begun
  pub due_here : (at : Status) (bytes : List ℕ) (order : List Placed) (end : Option AloneView) (sent rest : List ℕ) → end ≡ None → ((n : ℕ) → n ≡ length sent + length rest → BeginsDumps at n (length sent) → ⊥)
      → IsDue Run bytes order (sent ++ rest) → (rest' : List ℕ) × IsDueHere words at bytes order end sent rest' × (0 < length rest → 0 < length rest')
  due_here at bytes order end sent rest no_end short is = by is.status is.is_due where
    by : (status : Status) → IsDueAt status Run bytes is.made_of is.fault (sent ++ rest) → (rest' : List ℕ) × IsDueHere words at bytes order end sent rest' × (0 < length rest → 0 < length rest')
    by Done due =
        let of = due.0 in
        let more : List ℕ = dumps_text of.input order some_stamps in
        let is_report : sent ++ rest ≡ report of.input order = of.reported ∙ ap (report of.input) (sym is.kept) in (
          rest ++ more,
          inl (record {
            whole = record {
              short = of.short;
              input = of.input;
              accepted = of.accepted;
              ordered = subst (IsOrder of.input) (sym is.kept) of.ordered;
              stamps = some_stamps;
              asked = asked;
              said = sym (append_assoc sent rest more) ∙ ap (λ text. text ++ more) is_report;
            };
            begun = λ begins. absurd (short _ (sym (ap (λ (text : List ℕ). length text) is_report) ∙ length-append sent rest) begins);
            reported = λ some. absurd (not_there end no_end some);
            stamps = if_there end no_end _;
          }),
          λ some. omega (arith, length-append rest more, some),
        )
    by Usage due = absurd due
    by Input due = (rest, inr (record { status = Input; fault = is.fault; is_due = subst (λ (o : List Placed). IsDueAt Input Run bytes o is.fault (sent ++ rest)) (sym is.kept) due; refuses = λ e. cc; no_end = no_end }), λ some. some)
    by TooLong due = (rest, inr (record { status = TooLong; fault = is.fault; is_due = subst (λ (o : List Placed). IsDueAt TooLong Run bytes o is.fault (sent ++ rest)) (sym is.kept) due; refuses = λ e. cc; no_end = no_end }), λ some. some)
    by ReadFault due = absurd due
    by WriteFault due = absurd due
    by NoMemory due = absurd due
    by Differs due = absurd due.0

  module _ (order : List Placed) (fault : Option InputFault) (end : Option AloneView) (no_end : end ≡ None) (left left' before after : Option (List ℕ)) where
    short_here : (is : Answers WriteFault Run order fault left left' before after) → StopsShort Run is.bytes order before after × (fault ≡ None)
        → (sent : List ℕ) × (rest : List ℕ) × WritesPart words WriteFault order end left left' before after sent rest × (0 < length rest) × (fault ≡ None)
    short_here is stops =
        let some = stops.0.unfinished in
        let due = due_here WriteFault is.bytes order end stops.0.sent stops.0.rest no_end (λ n all begins. omega (arith, all, begins, some)) stops.0.part.is_due in
        (stops.0.sent, due.0, record { bytes = is.bytes; received = is.received; is_due = due.1; written = stops.0.part.written }, due.2 stops.0.unfinished, stops.1)

    begun_here : (is : Answers NoMemory Run order fault left left' before after) → StopsBegun Run is.bytes order before after × (fault ≡ None)
        → (sent : List ℕ) × (rest : List ℕ) × WritesPart words NoMemory order end left left' before after sent rest × (0 < length sent) × (fault ≡ None)
    begun_here is stops =
        let due = due_here NoMemory is.bytes order end stops.0.sent stops.0.rest no_end (λ n all begins. omega (arith, all, begins)) stops.0.part.is_due in
        (stops.0.sent, due.0, record { bytes = is.bytes; received = is.received; is_due = due.1; written = stops.0.part.written }, stops.0.begun, stops.1)

    pub ends_as_run : (status : Status) → status ≢ Done → EndsAs status Run order fault left left' before after → EndsWithDumps status words order fault end left left' before after
    ends_as_run Done other ends = absurd (other refl)
    ends_as_run Usage other ends = (ends, no_end)
    ends_as_run Input other ends = (ends, no_end)
    ends_as_run TooLong other ends = (ends, no_end)
    ends_as_run ReadFault other ends = (ends, no_end)
    ends_as_run WriteFault other ends = short_here ends ends.writes
    ends_as_run NoMemory other (inl answers) = elim answers.writes [
      | inl begun ↦ inl (begun_here answers begun)
      | inr nothing ↦ inr (nothing, no_end)
    ]
    ends_as_run NoMemory other (inr nothing) = inr (nothing, no_end)
    ends_as_run Differs other ends = absurd ends.0.writes.is_due.0

-- ---- faults, one part behind the other

pub risen_still : (a b c : ℕ) → b ≤ c → (b ≡ count_end → c ≡ count_end) → HasRisen a b → HasRisen a c
risen_still a b c later ended (inl more) = inl (omega (arith, later, more))
risen_still a b c later ended (inr end) = inr (ended end)

pub risen_later : (a b c : ℕ) → a ≤ b → HasRisen b c → HasRisen a c
risen_later a b c later (inl more) = inl (omega (arith, later, more))
risen_later a b c later (inr end) = inr end

-- ---- where it wrote the report whole

-- the stamps of dumps are those of what was read
stamps_seen : (made : List Dump) → stamps_of made ≡ map (λ (reading : ℕ × TableMap). reading.0) (seen_in made)
stamps_seen [] = refl
stamps_seen (dump ∷ made) = ap (λ (stamps : List ℕ). dump.stamp ∷ stamps) (stamps_seen made)

module _ (words : List Text) (finish : Finish) (made : List Dump) (before mid : Streams) (asks : AsksFor words (length (seen_in made))) (end : AloneView) (is_end : finish.end ≡ Some end) (lawful : IsLawfulEnd end.pass)
    (one : BelongsTogether Run finish end.pass before mid (seen_in made)) where
  abbrev dumped : List ℕ
  dumped = dumps_text one.input finish.order.items (stamps_of made)

  text_is : readings_text finish.tables (seen_in made) ≡ dumped
  text_is = ap (λ (declared : List (List ℕ × ℕ)). readings_text declared (seen_in made)) one.declared ∙ shown one.input finish.order.items made one.seen_in

  same_input : one.answers.input ≡ one.input
  same_input = one_input one.bytes one.answers.input one.input one.answers.accepted one.is_input.1

  stamps_of_run : AreStampsOf one.input finish.order.items end.pass (stamps_of made)
  stamps_of_run = record {
    lawful = lawful;
    history = one.history;
    readings = seen_in made;
    stamps_are = stamps_seen made;
    shown = one.seen_in;
    snapshots = one.snapshots;
    beside = one.snapshots.beside;
  }

  -- the seat of the run is there, and the stamps are of its history
  is_there : IsSome finish.end
  is_there = subst IsSome (sym is_end) refl

  stamps_there : IfSome finish.end (λ e. AreStampsOf one.input finish.order.items e.pass (stamps_of made))
  stamps_there = subst (λ (o : Option AloneView). IfSome o (λ e. AreStampsOf one.input finish.order.items e.pass (stamps_of made))) (sym is_end) stamps_of_run

  reported_as : one.due ≡ report one.input finish.order.items
  reported_as = one.answers.reported ∙ ap (λ (i : InputValue). report i finish.order.items) same_input

  abbrev is_report : (due : List ℕ) → due ≡ one.due ++ dumped → IsReportWithDumps words one.bytes finish.order.items due
  is_report due is = record {
    short = one.answers.short;
    input = one.input;
    accepted = one.is_input.1;
    ordered = subst (λ (i : InputValue). IsOrder i finish.order.items) same_input one.answers.ordered;
    stamps = stamps_of made;
    asked = subst (AsksFor words) (length-map made _ ∙ sym (length-map made _)) asks;
    said = is ∙ ap (λ text. text ++ dumped) reported_as;
  }

  -- the text of a run has some bytes
  report_some : 0 < length one.due
  report_some = subst (λ (text : List ℕ). 0 < length text) (sym one.answers.reported) (some _ (line (codes "done")) (omega (arith, length-append (codes "done") (10 ∷ [])))) where
    some : (a b : List ℕ) → 0 < length b → 0 < length (a ++ b)
    some a b low = omega (arith, length-append a b, low)

  module _ (after : Option (List ℕ)) where
    writes_whole : IsAtEnd mid.left → after ≡ append_known mid.taken (readings_text finish.tables (seen_in made)) → WritesDumps words finish.order.items finish.end before.left mid.left before.taken after
    writes_whole at_end written = record {
      bytes = one.bytes;
      received = one.received;
      at_end = at_end;
      due = one.due ++ dumped;
      is_due = is_report (one.due ++ dumped) refl;
      there = is_there;
      stamps = stamps_there;
      written = written ∙ ap (append_known mid.taken) text_is ∙ ap (λ o. append_known o dumped) one.written ∙ sym (append_known-append before.taken one.due dumped);
    }

    writes_part : (status : Status) (part : IsWrittenInPart (readings_text finish.tables (seen_in made)) mid.taken after) → WritesPart words status finish.order.items finish.end before.left mid.left before.taken after (one.due ++ part.sent) part.rest
    writes_part status part = record {
      bytes = one.bytes;
      received = one.received;
      is_due = inl (record {
        whole = is_report ((one.due ++ part.sent) ++ part.rest) (append_assoc one.due part.sent part.rest ∙ ap (λ text. one.due ++ text) (sym part.text_is ∙ text_is));
        begun = λ begins. is_there;
        reported = λ some. (let all = ap (λ (text : List ℕ). length text) reported_as in let sum = length-append one.due part.sent in omega (arith, all, sum));
        stamps = stamps_there;
      });
      written = part.written ∙ ap (λ o. append_known o part.sent) one.written ∙ sym (append_known-append before.taken one.due part.sent);
    }

    ends_stopped : (why : SinkFault) → finish.fault ≡ None → IsWrittenInPart (readings_text finish.tables (seen_in made)) mid.taken after
        → EndsWithDumps (stopped why finish).status words (stopped why finish).order.items (stopped why finish).fault (stopped why finish).end before.left mid.left before.taken after
    ends_stopped Failed faultless part = (one.due ++ part.sent, part.rest, writes_part WriteFault part, part.unfinished, faultless)
    ends_stopped NoRoom faultless part = inl (one.due ++ part.sent, part.rest, writes_part NoMemory part, omega (arith, length-append one.due part.sent, report_some), faultless)

-- ---- the dumps of a run that is done

some_at : {X : Type 0} (o : Option X) → IsSome o → (x : X) × (o ≡ Some x)
some_at None some = absurd (let no : false ≡ true = some in cc)
some_at (Some x) some = (x, refl)

pub some_of : {X : Type 0} (o : Option X) (P : Type 0) → IsSome o → IfSome o (λ _. P) → P
some_of None P some told = absurd (let no : false ≡ true = some in cc)
some_of (Some x) P some told = told

-- where the sink stopped
beside_stopped : (why : SinkFault) (finish : Finish) (before mid after : Streams) → GoesWith Run finish before mid → after.left ≡ mid.left → mid.write_faults ≤ after.write_faults
    → ((stopped why finish).status ≡ WriteFault → HasRisen mid.write_faults after.write_faults) → GoesWith Run (stopped why finish) before after
beside_stopped why finish before mid after beside same later failed = record {
  read_cause = λ is. absurd (no_read why is);
  write_cause = λ is. risen_later before.write_faults mid.write_faults after.write_faults beside.never_falls (failed is);
  never_falls = (let so_far = beside.never_falls in omega (arith, so_far, later));
  lawful = beside.lawful;
  history = beside.history;
  tables = beside.tables;
  no_tables = beside.no_tables;
  told = (λ some. absurd (beside.told.0 some).1, λ is. absurd is.1);
  judged = beside.judged;
  reads = subst (λ (left : Option (List ℕ)). ReadsAtMostFor Run before.left left) (sym same) beside.reads;
} where
  no_read : (why : SinkFault) → status_at why ≡ ReadFault → ⊥
  no_read Failed is = cc
  no_read NoRoom is = cc

-- where all of them were written
beside_whole : (finish : Finish) (before mid after : Streams) → GoesWith Run finish before mid → finish.status ≡ Done → after.left ≡ mid.left → after.read_faults ≡ mid.read_faults → mid.write_faults ≤ after.write_faults → GoesWith Run finish before after
beside_whole finish before mid after beside done same reads later = record {
  read_cause = λ is. absurd (let both : Done ≡ ReadFault = sym done ∙ is in cc);
  write_cause = λ is. absurd (let both : Done ≡ WriteFault = sym done ∙ is in cc);
  never_falls = (let so_far = beside.never_falls in omega (arith, so_far, later));
  lawful = beside.lawful;
  history = beside.history;
  tables = beside.tables;
  no_tables = beside.no_tables;
  told = beside.told;
  judged = beside.judged;
  reads = subst (λ (left : Option (List ℕ)). ReadsAtMostFor Run before.left left) (sym same) beside.reads;
}

module _ (words : List Text) (finish result : Finish) (made : List Dump) (before mid after : Streams) (done : finish.status ≡ Done) (ran : RunsAs Run finish before mid)
    (same : after.left ≡ mid.left) (reads : after.read_faults ≡ mid.read_faults) (later : mid.write_faults ≤ after.write_faults) (failed : result.status ≡ WriteFault → HasRisen mid.write_faults after.write_faults)
    (asks : AsksFor words (length (seen_in made))) (together : IfSome finish.end (λ e. BelongsTogether Run finish e.pass before mid (seen_in made))) where
  there : (end : AloneView) × (finish.end ≡ Some end)
  there = some_at finish.end (ran.end.1 (done, tt))

  lawful : IsLawfulEnd there.0.pass
  lawful = subst (λ (o : Option AloneView). IfSome o (λ e. IsLawfulEnd e.pass)) there.1 ran.beside.lawful

  one : BelongsTogether Run finish there.0.pass before mid (seen_in made)
  one = subst (λ (o : Option AloneView). IfSome o (λ e. BelongsTogether Run finish e.pass before mid (seen_in made))) there.1 together

  whole : EndsAs Done Run finish.order.items finish.fault before.left mid.left before.taken mid.taken
  whole = subst (λ (s : Status). EndsAs s Run finish.order.items finish.fault before.left mid.left before.taken mid.taken) done ran.ends

  pub dumps_as : DeliversDumps finish result (readings_text finish.tables (seen_in made)) mid.taken after.taken → DumpsAs words result before after
  dumps_as (inl written) = subst (λ (r : Finish). DumpsAs words r before after) (sym written.0) (record {
    ends = subst (λ (left : Option (List ℕ)). EndsWithDumps finish.status words finish.order.items finish.fault finish.end before.left left before.taken after.taken) (sym same)
        (subst (λ (s : Status). EndsWithDumps s words finish.order.items finish.fault finish.end before.left mid.left before.taken after.taken) (sym done)
        (writes_whole words finish made before mid asks there.0 there.1 lawful one after.taken whole.1 written.1, whole.0.writes.is_due.1));
    beside = beside_whole finish before mid after ran.beside done same reads later;
  })
  dumps_as (inr stop) = subst (λ (r : Finish). DumpsAs words r before after) (sym stop.is) (record {
    ends = subst (λ (left : Option (List ℕ)). EndsWithDumps (stopped stop.why finish).status words finish.order.items finish.fault finish.end before.left left before.taken after.taken) (sym same)
        (ends_stopped words finish made before mid asks there.0 there.1 lawful one after.taken stop.why whole.0.writes.is_due.1 stop.part);
    beside = beside_stopped stop.why finish before mid after ran.beside same later (λ is. failed (ap (λ (r : Finish). r.status) stop.is ∙ is));
  })

-- the status is that of the run where no count rises, want of memory aside
pub still_decided : (finish result : Finish) (text : List ℕ) (before mid after : Streams) → IsDecided Run finish.status before mid → after.left ≡ mid.left → after.read_faults ≡ mid.read_faults → mid.write_faults ≤ after.write_faults
    → (mid.write_faults ≡ count_end → after.write_faults ≡ count_end) → before.write_faults ≤ mid.write_faults → (result.status ≡ WriteFault → HasRisen mid.write_faults after.write_faults)
    → DeliversDumps finish result text mid.taken after.taken → IsDecided Run result.status before after
still_decided finish result text before mid after decided same reads later ended so_far failed delivers unread unwritten bytes holds cause causes =
    let by_run = decided (λ risen. unread (subst (HasRisen before.read_faults) (sym reads) risen)) (λ risen. unwritten (risen_still before.write_faults mid.write_faults after.write_faults later ended risen)) bytes holds cause causes in
    by delivers by_run
  where
    by_why : (why : SinkFault) → result.status ≡ status_at why → (result.status ≡ cause) ⊎ (result.status ≡ NoMemory)
    by_why Failed is = absurd (unwritten (risen_later before.write_faults mid.write_faults after.write_faults so_far (failed is)))
    by_why NoRoom is = inr is

    by : DeliversDumps finish result text mid.taken after.taken → (finish.status ≡ cause) ⊎ (finish.status ≡ NoMemory) → (result.status ≡ cause) ⊎ (result.status ≡ NoMemory)
    by (inl written) (inl is) = inl (ap (λ (r : Finish). r.status) written.0 ∙ is)
    by (inl written) (inr is) = inr (ap (λ (r : Finish). r.status) written.0 ∙ is)
    by (inr stop) _ = by_why stop.why (ap (λ (r : Finish). r.status) stop.is)

-- ---- where nothing was begun

pub dumps_not_begun : (words : List Text) (finish : Finish) (at : Streams) → (finish.status ≡ Usage) ⊎ (finish.status ≡ NoMemory) → finish.order.items ≡ [] → finish.fault ≡ None → finish.end ≡ None → finish.tables ≡ [] → finish.verdict ≡ None
    → DumpsAs words finish at at
dumps_not_begun words finish at which none_ordered faultless no_end no_tables no_verdict = record {
  ends = elim which as (λ _. EndsWithDumps finish.status words finish.order.items finish.fault finish.end at.left at.left at.taken at.taken) [
    | inl usage ↦ subst (λ (s : Status). EndsWithDumps s words finish.order.items finish.fault finish.end at.left at.left at.taken at.taken) (sym usage) (nothing, no_end)
    | inr memory ↦ subst (λ (s : Status). EndsWithDumps s words finish.order.items finish.fault finish.end at.left at.left at.taken at.taken) (sym memory) (inr (nothing, no_end))
  ];
  beside = record {
    read_cause = λ is. absurd (other ReadFault is (λ e. cc) (λ e. cc));
    write_cause = λ is. absurd (other WriteFault is (λ e. cc) (λ e. cc));
    never_falls = omega arith;
    lawful = if_there finish.end no_end _;
    history = λ bytes holds. if_there finish.end no_end _;
    tables = λ bytes holds. if_there finish.end no_end _;
    no_tables = if_not finish.end no_end _ no_tables;
    told = (λ some. absurd (not_there finish.verdict no_verdict some), λ is. absurd is.1);
    judged = λ bytes holds. if_there finish.verdict no_verdict _;
    reads = reads-nothing Run at.left;
  };
} where
  nothing : WritesNothing finish.order.items finish.fault at.taken at.taken
  nothing = record { unordered = none_ordered; faultless = faultless; kept = refl }

  other : (status : Status) → finish.status ≡ status → status ≢ Usage → status ≢ NoMemory → ⊥
  other status is not_usage not_memory = elim which as (λ _. ⊥) [
    | inl usage ↦ not_usage (sym is ∙ usage)
    | inr memory ↦ not_memory (sym is ∙ memory)
  ]

-- a sink that stopped a run at a fault of its own has failed
pub why_failed : (why : SinkFault) → status_at why ≡ WriteFault → why ≡ Failed
why_failed Failed is = refl
why_failed NoRoom is = cc
