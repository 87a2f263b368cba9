-- Walks behind each other, and what one call of a store makes of a walk.
use Rattle.std.proofs.Common.{◌≡◌, ℕ, ◌+◌, Bool, List, Option, Result, Ok, Err, ◌∙◌, refl, subst, arith}
use Rattle.std.specs.Prelude.{IsErrAnd, IfOk, OnErr}
use Rattle.record_store.specs.Calls.Reads.{none as no_reads, read as then_read}
use Rattle.record_store.specs.Calls.Calls.{none as no_calls, write as then_write, fresh as then_fresh}
use Rattle.record_store.specs.Calls.CallFault.{by_write, by_fresh}
use Rattle.record_store.specs.Goes.{GoesByReads, GoesByCalls, WalksByReads, WalksByCalls}
use Rattle.record_store.specs.Into.{value_if, told_into}
use Rattle.record_store.specs.Meaning.{Meaning, after_read, after_write, after_fresh}
use Rattle.record_store.specs.Walks.{IfStore, IfNoMemory}
use Rattle.record_store.specs.declared.walk.Walk.{Walk}
use Rattle.record_store.specs.declared.walk.Walk.TheVariants.{Store}
use Rattle.record_store.proofs.Agreement.{OnlyReads-refl, OnlyReads-trans, OnlyReads-after_read, ReadsGrow-only, ReadsGrow-refl, ReadsGrow-same, ReadsGrow-fresh, ReadsGrow-write, ReadsGrow-trans}
use Rattle.record_store.proofs.Known.{gives-none, gives-weaken, gives-reads, gives-trans, fewer-behind, fewer-refused, goes-same, goes-fresh}
use Rattle.record_store.proofs.Paths.{Reads-trans, ReadFault-behind, Calls-reads, Calls-trans, CallFault-read, CallFault-behind}
use Rattle.record_store.proofs.Refusals.{store_fault, fault_moved, memory_moved, IfStore-map}

-- an answer that hands no fault on and does not want memory
abbrev pub Quiet : {T F : Type 0} → Result T (Walk F) → Type 0
Quiet result = IfStore result (λ _. ⊥) × IfNoMemory result ⊥

quiet_fault : {T F : Type 0} (result : Result T (Walk F)) (P : F → Type 0) → IfStore result (λ _. ⊥) → IfStore result P
quiet_fault result P quiet = IfStore-map result (λ fault never. absurd never) quiet

store_memory : {T F : Type 0} (result : Result T (Walk F)) (fault : F) → IsErrAnd result (λ walk. walk ≡ Store fault) → IfNoMemory result ⊥
store_memory (Ok value) fault is = tt
store_memory (Err walk) fault is = rw is tt

value_of : {T E : Type 0} (answer : Result T E) (P : T → Type 0) (value : T) → answer ≡ Ok value → IfOk answer P → P value
value_of answer P value is holds = rw is at holds

error_of : {T E : Type 0} (answer : Result T E) (P : Type 0) (error : E) → answer ≡ Err error → OnErr answer P → P
error_of answer P error is holds = rw is at holds

-- ---- by reads alone

module _ {S F : Type 0} {read_gives : S → ℕ → Result (Option (List ℕ)) F → S → Type 0} {meaning : S → Meaning} where
  pub by_reads_none : {T : Type 0} (first : S) (result : Result T (Walk F)) → IfStore result (λ _. ⊥)
      → GoesByReads read_gives meaning first first result
  by_reads_none first result quiet = record {
    calls = no_reads first;
    fault = quiet_fault result _ quiet;
    only = OnlyReads-refl (meaning first);
  }

  -- one read, refused or answered
  pub by_read_refused : {T : Type 0} (first last : S) (rid : ℕ) (fault : F) (answer : Result Bool F) (cells : List ℕ) (result : Result T (Walk F))
      → answer ≡ Err fault → read_gives first rid (told_into answer cells) last → OnErr answer (meaning last ≡ meaning first)
      → IsErrAnd result (λ walk. walk ≡ Store fault) → GoesByReads read_gives meaning first last result
  by_read_refused first last rid fault answer cells result was gives same is =
      let A : Result Bool F → Type 0 = λ a. read_gives first rid (told_into a cells) last in
      record {
        calls = then_read first first last rid (told_into answer cells) (no_reads first) gives;
        fault = store_fault result fault _ is (record { before = first; rid = rid; calls = no_reads first; answer = subst A was gives });
        only = rw (error_of answer _ fault was same) (OnlyReads-refl (meaning first));
      }

  pub by_read_done : {T : Type 0} (first last : S) (rid : ℕ) (present : Bool) (answer : Result Bool F) (cells : List ℕ) (result : Result T (Walk F))
      → answer ≡ Ok present → read_gives first rid (told_into answer cells) last
      → IfOk answer (λ p. meaning last ≡ after_read (meaning first) rid (value_if p cells))
      → IfStore result (λ _. ⊥) → GoesByReads read_gives meaning first last result
  by_read_done first last rid present answer cells result was gives after quiet = record {
    calls = then_read first first last rid (told_into answer cells) (no_reads first) gives;
    fault = quiet_fault result _ quiet;
    only = OnlyReads-after_read (meaning first) (meaning last) rid (value_if present cells) (value_of answer _ present was after);
  }

  pub by_reads_moved : {T V : Type 0} (first last : S) (result : Result T (Walk F)) (other : Result V (Walk F)) (walk : Walk F) → other ≡ Err walk
      → IsErrAnd result (λ w. w ≡ walk) → GoesByReads read_gives meaning first last other → GoesByReads read_gives meaning first last result
  by_reads_moved first last result other walk was is by = record {
    calls = by.calls;
    fault = fault_moved result other walk _ was is by.fault;
    only = by.only;
  }

  pub by_reads_quiet : {T V : Type 0} (first last : S) (result : Result T (Walk F)) (other : Result V (Walk F)) → IfStore result (λ _. ⊥)
      → GoesByReads read_gives meaning first last other → GoesByReads read_gives meaning first last result
  by_reads_quiet first last result other quiet by = record { calls = by.calls; fault = quiet_fault result _ quiet; only = by.only }

  pub by_reads_then : {T V : Type 0} (first middle last : S) (early : Result V (Walk F)) (result : Result T (Walk F))
      → GoesByReads read_gives meaning first middle early → GoesByReads read_gives meaning middle last result
      → GoesByReads read_gives meaning first last result
  by_reads_then first middle last early result a b = record {
    calls = Reads-trans first middle last a.calls b.calls;
    fault = IfStore-map result (λ fault. ReadFault-behind first middle last fault a.calls) b.fault;
    only = OnlyReads-trans (meaning first) (meaning middle) (meaning last) a.only b.only;
  }

module _ {S F R : Type 0} {read_gives : S → ℕ → Result (Option (List ℕ)) F → S → Type 0} {meaning : S → Meaning} {rest : S → R} where
  -- nothing was read
  pub reads_none : {T : Type 0} (first : S) (result : Result T (Walk F)) → Quiet result → WalksByReads read_gives meaning rest first first result
  reads_none first result quiet = record { by = by_reads_none first result quiet.0; memory = quiet.1; kept = refl }

  -- a read that was refused
  pub reads_refused : {T : Type 0} (first last : S) (rid : ℕ) (fault : F) (answer : Result Bool F) (cells : List ℕ) (result : Result T (Walk F))
      → answer ≡ Err fault → read_gives first rid (told_into answer cells) last → OnErr answer (meaning last ≡ meaning first)
      → rest last ≡ rest first → IsErrAnd result (λ walk. walk ≡ Store fault) → WalksByReads read_gives meaning rest first last result
  reads_refused first last rid fault answer cells result was gives same kept is = record {
    by = by_read_refused first last rid fault answer cells result was gives same is;
    memory = store_memory result fault is;
    kept = kept;
  }

  -- a read that was answered
  pub reads_done : {T : Type 0} (first last : S) (rid : ℕ) (present : Bool) (answer : Result Bool F) (cells : List ℕ) (result : Result T (Walk F))
      → answer ≡ Ok present → read_gives first rid (told_into answer cells) last
      → IfOk answer (λ p. meaning last ≡ after_read (meaning first) rid (value_if p cells))
      → rest last ≡ rest first → Quiet result → WalksByReads read_gives meaning rest first last result
  reads_done first last rid present answer cells result was gives after kept quiet = record {
    by = by_read_done first last rid present answer cells result was gives after quiet.0;
    memory = quiet.1;
    kept = kept;
  }

  -- a refusal handed on
  pub reads_moved : {T V : Type 0} (first last : S) (result : Result T (Walk F)) (other : Result V (Walk F)) (walk : Walk F) → other ≡ Err walk
      → IsErrAnd result (λ w. w ≡ walk) → WalksByReads read_gives meaning rest first last other
      → WalksByReads read_gives meaning rest first last result
  reads_moved first last result other walk was is went = record {
    by = by_reads_moved first last result other walk was is went.by;
    memory = memory_moved result other walk _ was is went.memory;
    kept = went.kept;
  }

  -- another answer
  pub reads_quiet : {T V : Type 0} (first last : S) (result : Result T (Walk F)) (other : Result V (Walk F)) → Quiet result
      → WalksByReads read_gives meaning rest first last other → WalksByReads read_gives meaning rest first last result
  reads_quiet first last result other quiet went = record {
    by = by_reads_quiet first last result other quiet.0 went.by;
    memory = quiet.1;
    kept = went.kept;
  }

  -- a later walk
  pub reads_then : {T V : Type 0} (first middle last : S) (early : Result V (Walk F)) (result : Result T (Walk F))
      → WalksByReads read_gives meaning rest first middle early → WalksByReads read_gives meaning rest middle last result
      → WalksByReads read_gives meaning rest first last result
  reads_then first middle last early result a b = record {
    by = by_reads_then first middle last early result a.by b.by;
    memory = b.memory;
    kept = b.kept ∙ a.kept;
  }

-- ---- by calls

module _ {S F : Type 0} {read_gives : S → ℕ → Result (Option (List ℕ)) F → S → Type 0} {write_gives : S → ℕ → Option (List ℕ)
    → Result (Unit {0}) F → S → Type 0} {fresh_gives : S → Result ℕ F → S → Type 0} {meaning : S → Meaning} where
  pub by_calls_reads : {T : Type 0} (MayAsk : ℕ → Type 0) (first last : S) (result : Result T (Walk F))
      → GoesByReads read_gives meaning first last result → GoesByCalls read_gives write_gives fresh_gives meaning MayAsk 0 first last result
  by_calls_reads MayAsk first last result by = record {
    calls = Calls-reads first last by.calls;
    fault = IfStore-map result (λ fault. CallFault-read _ first last fault) by.fault;
    given = gives-reads (meaning first) (meaning last) by.only;
    grow = ReadsGrow-only (meaning first) (meaning last) by.only;
  }

  -- one write, refused or done
  pub by_write_refused : {T : Type 0} (MayAsk : ℕ → Type 0) (first last : S) (rid : ℕ) (value : Option (List ℕ)) (fault : F) (answer : Result (Unit {0}) F)
      (result : Result T (Walk F)) → answer ≡ Err fault → write_gives first rid value answer last → OnErr answer (meaning last ≡ meaning first)
      → IsErrAnd result (λ walk. walk ≡ Store fault) → GoesByCalls read_gives write_gives fresh_gives meaning MayAsk 0 first last result
  by_write_refused MayAsk first last rid value fault answer result was gives unchanged is =
      let A : Result (Unit {0}) F → Type 0 = λ a. write_gives first rid value a last in
      let same : meaning last ≡ meaning first = error_of answer _ fault was unchanged in
      record {
        calls = then_write first first last 0 rid value answer (no_calls first) gives;
        fault = store_fault result fault _ is (by_write first 0 rid value (no_calls first) (subst A was gives));
        given = (goes-same (λ _. ⊥) (meaning first) (meaning last) same).given;
        grow = ReadsGrow-same (meaning first) (meaning first) (meaning last) (ReadsGrow-refl (meaning first)) same;
      }

  pub by_write_done : {T : Type 0} (MayAsk : ℕ → Type 0) (first last : S) (rid : ℕ) (value : Option (List ℕ)) (answer : Result (Unit {0}) F)
      (result : Result T (Walk F)) → write_gives first rid value answer last → meaning last ≡ after_write (meaning first) rid value
      → IfStore result (λ _. ⊥) → GoesByCalls read_gives write_gives fresh_gives meaning MayAsk 0 first last result
  by_write_done MayAsk first last rid value answer result gives is quiet = record {
    calls = then_write first first last 0 rid value answer (no_calls first) gives;
    fault = quiet_fault result _ quiet;
    given = gives-none (meaning first) (meaning last) (rw is refl);
    grow = ReadsGrow-write (meaning first) (meaning first) (meaning last) rid value (ReadsGrow-refl (meaning first)) is;
  }

  -- one ask for a new record, refused or answered
  pub by_fresh_refused : {T : Type 0} (MayAsk : ℕ → Type 0) (first last : S) (fault : F) (answer : Result ℕ F) (result : Result T (Walk F))
      → MayAsk 1 → answer ≡ Err fault → fresh_gives first answer last → OnErr answer (meaning last ≡ meaning first)
      → IsErrAnd result (λ walk. walk ≡ Store fault) → GoesByCalls read_gives write_gives fresh_gives meaning MayAsk 1 first last result
  by_fresh_refused MayAsk first last fault answer result may was gives unchanged is =
      let A : Result ℕ F → Type 0 = λ a. fresh_gives first a last in
      let same : meaning last ≡ meaning first = error_of answer _ fault was unchanged in
      let none = (goes-same (λ _. ⊥) (meaning first) (meaning last) same).given in
      record {
        calls = then_fresh first first last 0 answer (no_calls first) gives;
        fault = store_fault result fault _ is (by_fresh first 0 (no_calls first) (subst A was gives)
            (may, fewer-refused 0 1 (meaning first) (meaning last) (omega arith) none));
        given = gives-weaken 0 1 (meaning first) (meaning last) (omega arith) none;
        grow = ReadsGrow-same (meaning first) (meaning first) (meaning last) (ReadsGrow-refl (meaning first)) same;
      }

  pub by_fresh_done : {T : Type 0} (MayAsk : ℕ → Type 0) (first last : S) (rid : ℕ) (answer : Result ℕ F) (result : Result T (Walk F))
      → fresh_gives first answer last → meaning last ≡ after_fresh (meaning first) rid → IfStore result (λ _. ⊥)
      → GoesByCalls read_gives write_gives fresh_gives meaning MayAsk 1 first last result
  by_fresh_done MayAsk first last rid answer result gives is quiet = record {
    calls = then_fresh first first last 0 answer (no_calls first) gives;
    fault = quiet_fault result _ quiet;
    given = (goes-fresh (λ _. ⊥) (meaning first) (meaning last) rid is).given;
    grow = ReadsGrow-fresh (meaning first) (meaning first) (meaning last) rid (ReadsGrow-refl (meaning first)) is;
  }

  pub by_calls_moved : {T V : Type 0} {MayAsk : ℕ → Type 0} {asked : ℕ} (first last : S) (result : Result T (Walk F)) (other : Result V (Walk F)) (walk : Walk F)
      → other ≡ Err walk → IsErrAnd result (λ w. w ≡ walk) → GoesByCalls read_gives write_gives fresh_gives meaning MayAsk asked first last other
      → GoesByCalls read_gives write_gives fresh_gives meaning MayAsk asked first last result
  by_calls_moved first last result other walk was is by = record {
    calls = by.calls;
    fault = fault_moved result other walk _ was is by.fault;
    given = by.given;
    grow = by.grow;
  }

  pub by_calls_quiet : {T V : Type 0} {Other : ℕ → Type 0} {asked : ℕ} (MayAsk : ℕ → Type 0) (first last : S) (result : Result T (Walk F)) (other : Result V (Walk F))
      → IfStore result (λ _. ⊥) → GoesByCalls read_gives write_gives fresh_gives meaning Other asked first last other
      → GoesByCalls read_gives write_gives fresh_gives meaning MayAsk asked first last result
  by_calls_quiet MayAsk first last result other quiet by = record {
    calls = by.calls;
    fault = quiet_fault result _ quiet;
    given = by.given;
    grow = by.grow;
  }

  -- what may be asked later is counted from the earlier asks on
  pub by_calls_then : {T V : Type 0} {Early Later : ℕ → Type 0} (MayAsk : ℕ → Type 0) (n m : ℕ) (first middle last : S) (early : Result V (Walk F)) (result : Result T (Walk F))
      → GoesByCalls read_gives write_gives fresh_gives meaning Early n first middle early
      → GoesByCalls read_gives write_gives fresh_gives meaning Later m middle last result
      → ((asks : ℕ) → Later asks → MayAsk (n + asks))
      → GoesByCalls read_gives write_gives fresh_gives meaning MayAsk (n + m) first last result
  by_calls_then MayAsk n m first middle last early result a b more = record {
    calls = Calls-trans first middle last n m a.calls b.calls;
    fault = IfStore-map result (λ fault. CallFault-behind _ _ first middle last n fault a.calls
        (λ asks both. (more asks both.0, fewer-behind n asks (meaning first) (meaning middle) (meaning last) a.given both.1))) b.fault;
    given = gives-trans n m (meaning first) (meaning middle) (meaning last) a.given b.given;
    grow = ReadsGrow-trans (meaning first) (meaning middle) (meaning last) a.grow b.grow;
  }

  by_calls_at : {T : Type 0} {MayAsk : ℕ → Type 0} (n m : ℕ) (first last : S) (result : Result T (Walk F)) → n ≡ m
      → GoesByCalls read_gives write_gives fresh_gives meaning MayAsk n first last result
      → GoesByCalls read_gives write_gives fresh_gives meaning MayAsk m first last result
  by_calls_at {T} {MayAsk} n m first last result same by =
      let P : ℕ → Type 0 = λ k. GoesByCalls read_gives write_gives fresh_gives meaning MayAsk k first last result in subst P same by

  -- one that asks for nothing, behind another
  pub by_calls_never : {T V : Type 0} {Early : ℕ → Type 0} (MayAsk : ℕ → Type 0) (n : ℕ) (first middle last : S) (early : Result V (Walk F)) (result : Result T (Walk F))
      → GoesByCalls read_gives write_gives fresh_gives meaning Early n first middle early
      → GoesByCalls read_gives write_gives fresh_gives meaning (λ _. ⊥) 0 middle last result
      → GoesByCalls read_gives write_gives fresh_gives meaning MayAsk n first last result
  by_calls_never MayAsk n first middle last early result a b =
      by_calls_at (n + 0) n first last result (omega arith) (by_calls_then MayAsk n 0 first middle last early result a b (λ asks never. absurd never))

  -- what may be asked, told in other words
  pub by_calls_map : {T : Type 0} {Other : ℕ → Type 0} (MayAsk : ℕ → Type 0) (n : ℕ) (first last : S) (result : Result T (Walk F))
      → GoesByCalls read_gives write_gives fresh_gives meaning Other n first last result → ((asks : ℕ) → Other asks → MayAsk asks)
      → GoesByCalls read_gives write_gives fresh_gives meaning MayAsk n first last result
  by_calls_map MayAsk n first last result by more =
      by_calls_at (0 + n) n first last result (omega arith)
      (by_calls_then MayAsk 0 n first first last (Ok (tt {0})) result
      (by_calls_reads (λ _. ⊥) first first (Ok (tt {0})) (by_reads_none first (Ok (tt {0})) tt)) by
      (λ asks other. (let same : asks ≡ 0 + asks = omega arith in subst MayAsk same (more asks other))))

module _ {S F R : Type 0} {read_gives : S → ℕ → Result (Option (List ℕ)) F → S → Type 0} {write_gives : S → ℕ → Option (List ℕ)
    → Result (Unit {0}) F → S → Type 0} {fresh_gives : S → Result ℕ F → S → Type 0} {meaning : S → Meaning} {rest : S → R} where
  -- reads ask for no new record
  pub calls_reads : {T : Type 0} (MayAsk : ℕ → Type 0) (first last : S) (result : Result T (Walk F)) → WalksByReads read_gives meaning rest first last result
      → WalksByCalls read_gives write_gives fresh_gives meaning rest MayAsk 0 first last result
  calls_reads MayAsk first last result went = record {
    by = by_calls_reads MayAsk first last result went.by;
    memory = went.memory;
    kept = went.kept;
  }

  -- a write that was refused
  pub write_refused : {T : Type 0} (MayAsk : ℕ → Type 0) (first last : S) (rid : ℕ) (value : Option (List ℕ)) (fault : F) (answer : Result (Unit {0}) F)
      (result : Result T (Walk F)) → answer ≡ Err fault → write_gives first rid value answer last → OnErr answer (meaning last ≡ meaning first)
      → rest last ≡ rest first → IsErrAnd result (λ walk. walk ≡ Store fault)
      → WalksByCalls read_gives write_gives fresh_gives meaning rest MayAsk 0 first last result
  write_refused MayAsk first last rid value fault answer result was gives unchanged kept is = record {
    by = by_write_refused MayAsk first last rid value fault answer result was gives unchanged is;
    memory = store_memory result fault is;
    kept = kept;
  }

  -- a write that was done
  pub write_done : {T : Type 0} (MayAsk : ℕ → Type 0) (first last : S) (rid : ℕ) (value : Option (List ℕ)) (answer : Result (Unit {0}) F)
      (result : Result T (Walk F)) → write_gives first rid value answer last → meaning last ≡ after_write (meaning first) rid value
      → rest last ≡ rest first → Quiet result → WalksByCalls read_gives write_gives fresh_gives meaning rest MayAsk 0 first last result
  write_done MayAsk first last rid value answer result gives is kept quiet = record {
    by = by_write_done MayAsk first last rid value answer result gives is quiet.0;
    memory = quiet.1;
    kept = kept;
  }

  -- an ask for a new record that was refused
  pub fresh_refused : {T : Type 0} (MayAsk : ℕ → Type 0) (first last : S) (fault : F) (answer : Result ℕ F) (result : Result T (Walk F))
      → MayAsk 1 → answer ≡ Err fault → fresh_gives first answer last → OnErr answer (meaning last ≡ meaning first) → rest last ≡ rest first
      → IsErrAnd result (λ walk. walk ≡ Store fault)
      → WalksByCalls read_gives write_gives fresh_gives meaning rest MayAsk 1 first last result
  fresh_refused MayAsk first last fault answer result may was gives unchanged kept is = record {
    by = by_fresh_refused MayAsk first last fault answer result may was gives unchanged is;
    memory = store_memory result fault is;
    kept = kept;
  }

  -- one that was answered
  pub fresh_done : {T : Type 0} (MayAsk : ℕ → Type 0) (first last : S) (rid : ℕ) (answer : Result ℕ F) (result : Result T (Walk F))
      → fresh_gives first answer last → meaning last ≡ after_fresh (meaning first) rid → rest last ≡ rest first → Quiet result
      → WalksByCalls read_gives write_gives fresh_gives meaning rest MayAsk 1 first last result
  fresh_done MayAsk first last rid answer result gives is kept quiet = record {
    by = by_fresh_done MayAsk first last rid answer result gives is quiet.0;
    memory = quiet.1;
    kept = kept;
  }

  -- a refusal handed on
  pub calls_moved : {T V : Type 0} {MayAsk : ℕ → Type 0} {asked : ℕ} (first last : S) (result : Result T (Walk F)) (other : Result V (Walk F)) (walk : Walk F)
      → other ≡ Err walk → IsErrAnd result (λ w. w ≡ walk)
      → WalksByCalls read_gives write_gives fresh_gives meaning rest MayAsk asked first last other
      → WalksByCalls read_gives write_gives fresh_gives meaning rest MayAsk asked first last result
  calls_moved first last result other walk was is went = record {
    by = by_calls_moved first last result other walk was is went.by;
    memory = memory_moved result other walk _ was is went.memory;
    kept = went.kept;
  }

  -- another answer
  pub calls_quiet : {T V : Type 0} {Other : ℕ → Type 0} {asked : ℕ} (MayAsk : ℕ → Type 0) (first last : S) (result : Result T (Walk F)) (other : Result V (Walk F))
      → Quiet result → WalksByCalls read_gives write_gives fresh_gives meaning rest Other asked first last other
      → WalksByCalls read_gives write_gives fresh_gives meaning rest MayAsk asked first last result
  calls_quiet MayAsk first last result other quiet went = record {
    by = by_calls_quiet MayAsk first last result other quiet.0 went.by;
    memory = quiet.1;
    kept = went.kept;
  }

  -- a later walk
  pub calls_then : {T V : Type 0} {Early Later : ℕ → Type 0} (MayAsk : ℕ → Type 0) (n m : ℕ) (first middle last : S) (early : Result V (Walk F)) (result : Result T (Walk F))
      → WalksByCalls read_gives write_gives fresh_gives meaning rest Early n first middle early
      → WalksByCalls read_gives write_gives fresh_gives meaning rest Later m middle last result
      → ((asks : ℕ) → Later asks → MayAsk (n + asks))
      → WalksByCalls read_gives write_gives fresh_gives meaning rest MayAsk (n + m) first last result
  calls_then MayAsk n m first middle last early result a b more = record {
    by = by_calls_then MayAsk n m first middle last early result a.by b.by more;
    memory = b.memory;
    kept = b.kept ∙ a.kept;
  }

  -- one that asks for nothing, behind another
  pub calls_never : {T V : Type 0} {Early : ℕ → Type 0} (MayAsk : ℕ → Type 0) (n : ℕ) (first middle last : S) (early : Result V (Walk F)) (result : Result T (Walk F))
      → WalksByCalls read_gives write_gives fresh_gives meaning rest Early n first middle early
      → WalksByCalls read_gives write_gives fresh_gives meaning rest (λ _. ⊥) 0 middle last result
      → WalksByCalls read_gives write_gives fresh_gives meaning rest MayAsk n first last result
  calls_never MayAsk n first middle last early result a b = record {
    by = by_calls_never MayAsk n first middle last early result a.by b.by;
    memory = b.memory;
    kept = b.kept ∙ a.kept;
  }

  -- by another name of the number
  pub calls_at : {T : Type 0} {MayAsk : ℕ → Type 0} (n m : ℕ) (first last : S) (result : Result T (Walk F)) → n ≡ m
      → WalksByCalls read_gives write_gives fresh_gives meaning rest MayAsk n first last result
      → WalksByCalls read_gives write_gives fresh_gives meaning rest MayAsk m first last result
  calls_at n m first last result same went = record {
    by = by_calls_at n m first last result same went.by;
    memory = went.memory;
    kept = went.kept;
  }

  -- one behind reads
  pub calls_behind : {T V : Type 0} {Later : ℕ → Type 0} (MayAsk : ℕ → Type 0) (n : ℕ) (first middle last : S) (early : Result V (Walk F)) (result : Result T (Walk F))
      → WalksByReads read_gives meaning rest first middle early
      → WalksByCalls read_gives write_gives fresh_gives meaning rest Later n middle last result → ((asks : ℕ) → Later asks → MayAsk asks)
      → WalksByCalls read_gives write_gives fresh_gives meaning rest MayAsk n first last result
  calls_behind MayAsk n first middle last early result a b more = record {
    by = by_calls_at (0 + n) n first last result (omega arith)
        (by_calls_then MayAsk 0 n first middle last early result (by_calls_reads (λ _. ⊥) first middle early a.by) b.by
        (λ asks later. (let same : asks ≡ 0 + asks = omega arith in subst MayAsk same (more asks later))));
    memory = b.memory;
    kept = b.kept ∙ a.kept;
  }

  -- what may be asked, told in other words
  pub calls_map : {T : Type 0} {Other : ℕ → Type 0} (MayAsk : ℕ → Type 0) (n : ℕ) (first last : S) (result : Result T (Walk F))
      → WalksByCalls read_gives write_gives fresh_gives meaning rest Other n first last result → ((asks : ℕ) → Other asks → MayAsk asks)
      → WalksByCalls read_gives write_gives fresh_gives meaning rest MayAsk n first last result
  calls_map MayAsk n first last result went more = record {
    by = by_calls_map MayAsk n first last result went.by more;
    memory = went.memory;
    kept = went.kept;
  }
