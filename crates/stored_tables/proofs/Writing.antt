-- One write of a record, and one ask for a new one.
use Rattle.std.proofs.Common.{◌≡◌, ℕ, List, Option, None, Result, Ok, Err, refl, ap, subst, arith}
use Rattle.std.specs.Prelude.{IsErrAnd}
use Rattle.plain_data.specs.State.{State, Agrees, overlay}
use Rattle.record_store.specs.Meaning.{Meaning, after_write, after_fresh, after_read}
use Rattle.record_store.specs.Store.{IsFresh}
use Rattle.record_store.specs.declared.walk.Walk.{Walk}
use Rattle.record_store.specs.declared.walk.Walk.TheVariants.{Store}
use Rattle.record_store.proofs.Agreement.{known-overlay}
use Rattle.record_store.specs.Writes.{IsKnown}
use Rattle.record_store.proofs.Known.{few-same, goes-same, goes-fresh}
use Rattle.record_store.proofs.Going.{by_write_refused, by_write_done, by_fresh_refused, by_fresh_done}
use Rattle.record_store.proofs.Steps.{known_unwritten}
use Rattle.record_store.proofs.Writes.{writes-none, writes-one}
use Rattle.stored_tables.specs.Runs.{Runs}
use Rattle.stored_tables.proofs.Knowing.{MayWrite, known_write}
use Rattle.stored_tables.proofs.Runs.{no_ok}
use Rattle.stored_tables.proofs.Looking.{no_torn}

-- a new record is absent in each state that agrees
pub fresh_absent : (before after : Meaning) (rid : ℕ) (state : State) → IsFresh before rid → after ≡ after_fresh before rid
    → Agrees state after.reads → overlay before.writes state rid ≡ None
fresh_absent before after rid state new is agrees =
    let R : Meaning → Type 0 = λ m. Agrees state m.reads in
    known-overlay (after_read before rid None) state rid None (known_unwritten before rid new.absent new.not_written) (subst R is agrees)

module _ {S F : Type 0} {read_gives : S → ℕ → Result (Option (List ℕ)) F → S → Type 0} {write_gives : S → ℕ → Option (List ℕ)
    → Result (Unit {0}) F → S → Type 0} {fresh_gives : S → Result ℕ F → S → Type 0} {meaning : S → Meaning} where
  pub write_refused : {T X : Type 0} (Stands : State → X → Type 0) (Due : ℕ → State → X → Type 0) (Did : T → ℕ → State → X → Type 0)
      (most : ℕ) (first last : S) (rid : ℕ) (value : Option (List ℕ)) (fault : F) (result : Result T (Walk F))
      → write_gives first rid value (Err fault) last → meaning last ≡ meaning first → IsErrAnd result (λ w. w ≡ Store fault)
      → Runs read_gives write_gives fresh_gives meaning Stands Due Did most first last result
  write_refused Stands Due Did most first last rid value fault result gives same is = record {
    asked = 0;
    by = by_write_refused _ first last rid value fault (Err fault) result refl gives same is;
    may = λ some. absurd (omega arith);
    did = no_ok result (Store fault) _ is;
    torn = no_torn result fault _ is;
    few = few-same most (meaning first) (meaning last) same;
    writes = λ state x agrees stands. (goes-same (IsKnown (meaning first).fixed state) (meaning first) (meaning last) same).only;
  }

  pub write_done : {T X : Type 0} (Stands : State → X → Type 0) (Due : ℕ → State → X → Type 0) (Did : T → ℕ → State → X → Type 0)
      (first last : S) (rid : ℕ) (value : Option (List ℕ)) (new : T) → write_gives first rid value (Ok tt) last
      → meaning last ≡ after_write (meaning first) rid value → ((state : State) (x : X) → Stands state x
      → MayWrite (meaning first) state rid) → ((state : State) (x : X) → Agrees state (meaning first).reads → Stands state x
      → Did new 0 state x) → Runs {F = F} read_gives write_gives fresh_gives meaning Stands Due Did 1 first last (Ok new)
  write_done Stands Due Did first last rid value new gives is may_write did =
      let reads : (meaning last).reads ≡ (meaning first).reads = ap (λ (m : Meaning). m.reads) is in
      record {
        asked = 0;
        by = by_write_done _ first last rid value (Ok tt) (Ok new) gives is tt;
        may = λ some. absurd (omega arith);
        did = λ state x agrees stands. did state x (let R : List (ℕ × Option (List ℕ)) → Type 0 = Agrees state in subst R reads agrees)
            stands;
        torn = tt;
        few = writes-one (meaning first) (meaning last) rid value (ap (λ (m : Meaning). m.writes) is);
        writes = λ state x agrees stands. known_write (meaning first) (meaning last) rid value state is (may_write state x stands);
      }

  pub fresh_refused : {T X : Type 0} (Stands : State → X → Type 0) (Due : ℕ → State → X → Type 0) (Did : T → ℕ → State → X → Type 0)
      (most : ℕ) (first last : S) (fault : F) (result : Result T (Walk F)) → fresh_gives first (Err fault) last
      → meaning last ≡ meaning first → IsErrAnd result (λ w. w ≡ Store fault)
      → ((state : State) (x : X) → Stands state x → Due 1 state x) → Runs read_gives write_gives fresh_gives meaning Stands Due Did most
      first last result
  fresh_refused Stands Due Did most first last fault result gives same is due = record {
    asked = 1;
    by = by_fresh_refused _ first last fault (Err fault) result (λ state x agrees stands. due state x stands) refl gives same is;
    may = λ some state x agrees stands. due state x stands;
    did = no_ok result (Store fault) _ is;
    torn = no_torn result fault _ is;
    few = few-same most (meaning first) (meaning last) same;
    writes = λ state x agrees stands. (goes-same (IsKnown (meaning first).fixed state) (meaning first) (meaning last) same).only;
  }

  pub fresh_done : {X : Type 0} (Stands : State → X → Type 0) (Due : ℕ → State → X → Type 0) (first last : S) (rid : ℕ)
      → fresh_gives first (Ok rid) last → IsFresh (meaning first) rid → meaning last ≡ after_fresh (meaning first) rid
      → ((state : State) (x : X) → Stands state x → Due 1 state x) → Runs {F = F} read_gives write_gives fresh_gives meaning Stands Due
      (λ new asked state x. (asked ≡ 1) × (overlay (meaning first).writes state new ≡ None)) 0 first last (Ok rid)
  fresh_done Stands Due first last rid gives new is due = record {
    asked = 1;
    by = by_fresh_done _ first last rid (Ok rid) (Ok rid) gives is tt;
    may = λ some state x agrees stands. due state x stands;
    did = λ state x agrees stands. (refl, fresh_absent (meaning first) (meaning last) rid state new is agrees);
    torn = tt;
    few = writes-none (meaning first) (meaning last) (ap (λ (m : Meaning). m.writes) is);
    writes = λ state x agrees stands. (goes-fresh (IsKnown (meaning first).fixed state) (meaning first) (meaning last) rid is).only;
  }
