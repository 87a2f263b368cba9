-- Parts of a run behind each other.
use Rattle.std.proofs.Common.{◌≡◌, ℕ, ◌+◌, ◌<◌, ◌≤◌, Bool, true, false, List, Option, Result, Ok, Err, refl, zero, suc, subst, arith}
use Rattle.std.specs.Prelude.{IsErrAnd, IfOk}
use Rattle.plain_data.specs.State.{State, Agrees}
use Rattle.record_store.specs.Meaning.{Meaning}
use Rattle.record_store.specs.declared.walk.Walk.{Walk}
use Rattle.record_store.specs.declared.walk.Walk.TheVariants.{Torn, NoMemory}
use Rattle.record_store.proofs.Agreement.{agrees-extends}
use Rattle.record_store.proofs.Going.{by_reads_none, by_reads_moved, by_reads_quiet, by_reads_then, by_calls_reads, by_calls_map, by_calls_moved, by_calls_quiet, by_calls_then}
use Rattle.record_store.proofs.Known.{few-reads, known-reads}
use Rattle.record_store.proofs.Refusals.{torn_moved, IfTorn-map}
use Rattle.record_store.proofs.Writes.{writes-trans, writes-weaken}
use Rattle.stored_tables.specs.Runs.{Looks, Runs}
use Rattle.record_store.specs.States.{Each}
use Rattle.stored_tables.proofs.Knowing.{known_trans}

pub unlike : (b : Bool) → b ≡ true → b ≡ false → ⊥
unlike b is other = cc

pub ok_of : {T E : Type 0} (result : Result T E) (P : T → Type 0) (value : T) → result ≡ Ok value → IfOk result P → P value
ok_of (Ok v) P value is holds = let same : v ≡ value = cc in subst P same holds
ok_of (Err e) P value is holds = cc

pub no_ok : {T E : Type 0} (result : Result T E) (walk : E) (P : T → Type 0) → IsErrAnd result (λ w. w ≡ walk) → IfOk result P
no_ok (Ok v) walk P is = absurd is
no_ok (Err e) walk P is = tt

pub IfOk-map : {T E : Type 0} (result : Result T E) {P Q : T → Type 0} → ((value : T) → P value → Q value) → IfOk result P → IfOk result Q
IfOk-map (Ok v) more holds = more v holds
IfOk-map (Err e) more holds = tt

at_value : {T E : Type 0} (result : Result T E) (value : T) (P : T → Type 0) → result ≡ Ok value → IfOk result P
    → IfOk result (λ _. P value)
at_value (Ok v) value P is holds = let same : v ≡ value = cc in subst P same holds
at_value (Err e) value P is holds = tt

-- by the number of a later part's asks
pub asks_of : (n : ℕ) (P : Type 0) → (n ≡ 0 → P) → (0 < n → P) → P
asks_of zero P none some = none refl
asks_of (suc n) P none some = some (omega arith)

module _ {S F : Type 0} {read_gives : S → ℕ → Result (Option (List ℕ)) F → S → Type 0} {meaning : S → Meaning} where
  -- what is found, told in other words
  pub looks_map : {T X Y : Type 0} (Stands : State → X → Type 0) {Inner : State → Y → Type 0} {Found : T → State → Y → Type 0}
      (Other : T → State → X → Type 0) (first last : S) (result : Result T (Walk F))
      → Looks read_gives meaning Inner Found first last result → ((state : State) (x : X) → Agrees state (meaning last).reads
      → Stands state x → (y : Y) × Inner state y × ((value : T) → Found value state y → Other value state x))
      → Looks read_gives meaning Stands Other first last result
  looks_map Stands Other first last result l glue = record {
    by = l.by;
    found = IfOk-map result
        (λ value each state x agrees stands. (let g = glue state x agrees stands in g.2 value (each state g.0 agrees g.1))) l.found;
    torn = IfTorn-map result (λ rid none state x agrees stands. (let g = glue state x agrees stands in none state g.0 agrees g.1)) l.torn;
  }

  -- nothing was looked at
  pub looks_begin : {T X : Type 0} (Stands : State → X → Type 0) (Found : T → State → X → Type 0) (first : S) (value : T)
      → ((state : State) (x : X) → Stands state x → Found value state x) → Looks {F = F} read_gives meaning Stands Found first first
      (Ok value)
  looks_begin Stands Found first value found = record {
    by = by_reads_none first (Ok value) tt;
    found = λ state x agrees stands. found state x stands;
    torn = tt;
  }

  -- want of memory says nothing
  pub looks_memory : {T V X : Type 0} {Stands : State → X → Type 0} {Found : V → State → X → Type 0} (Other : T → State → X → Type 0)
      (first last : S) (other : Result V (Walk F)) → Looks read_gives meaning Stands Found first last other
      → Looks {F = F} read_gives meaning Stands Other first last (Err NoMemory)
  looks_memory Other first last other l = record { by = by_reads_quiet first last (Err NoMemory) other tt l.by; found = tt; torn = tt }

  -- a refusal handed on
  pub looks_moved : {T V X : Type 0} {Stands : State → X → Type 0} {Found : V → State → X → Type 0} (Other : T → State → X → Type 0)
      (first last : S) (result : Result T (Walk F)) (other : Result V (Walk F)) (walk : Walk F)
      → Looks read_gives meaning Stands Found first last other → other ≡ Err walk → IsErrAnd result (λ w. w ≡ walk)
      → Looks read_gives meaning Stands Other first last result
  looks_moved Other first last result other walk l was is = record {
    by = by_reads_moved first last result other walk was is l.by;
    found = no_ok result walk _ is;
    torn = torn_moved result other walk _ was is l.torn;
  }

  -- another value
  pub looks_value : {T V X : Type 0} {Stands : State → X → Type 0} {Found : V → State → X → Type 0} (Other : T → State → X → Type 0)
      (first last : S) (other : Result V (Walk F)) (value : V) (new : T) → Looks read_gives meaning Stands Found first last other
      → other ≡ Ok value → ((state : State) (x : X) → Agrees state (meaning last).reads → Stands state x → Found value state x
      → Other new state x) → Looks {F = F} read_gives meaning Stands Other first last (Ok new)
  looks_value Other first last other value new l was more = record {
    by = by_reads_quiet first last (Ok new) other tt l.by;
    found = λ state x agrees stands. more state x agrees stands (ok_of other _ value was l.found state x agrees stands);
    torn = tt;
  }

  -- what a later part found, told of where the earlier one began
  pub looks_then : {T V X Y : Type 0} {Stands : State → X → Type 0} {Found : T → State → X → Type 0} {Inner : State → Y
      → Type 0} {Later : V → State → Y → Type 0} (Other : V → State → X → Type 0) (first middle last : S) (early : Result T (Walk F))
      (value : T) (result : Result V (Walk F)) → Looks read_gives meaning Stands Found first middle early → early ≡ Ok value
      → Looks read_gives meaning Inner Later middle last result → ((state : State) (x : X) → Agrees state (meaning middle).reads
      → Stands state x → Found value state x → (y : Y) × Inner state y × ((w : V) → Later w state y → Other w state x))
      → Looks read_gives meaning Stands Other first last result
  looks_then Other first middle last early value result a was b glue =
      let back : (state : State) → Agrees state (meaning last).reads
      → Agrees state (meaning middle).reads = λ state agrees. agrees-extends (meaning middle).reads (meaning last).reads state
      b.by.only.reads agrees in
      record {
        by = by_reads_then first middle last early result a.by b.by;
        found = IfOk-map result
            (λ w each state x agrees stands. (let g = glue state x (back state agrees) stands
            (ok_of early _ value was a.found state x (back state agrees) stands) in g.2 w (each state g.0 agrees g.1))) b.found;
        torn = IfTorn-map result
            (λ rid none state x agrees stands. (let g = glue state x (back state agrees) stands
            (ok_of early _ value was a.found state x (back state agrees) stands) in none state g.0 agrees g.1)) b.torn;
      }

module _ {S F : Type 0} {read_gives : S → ℕ → Result (Option (List ℕ)) F → S → Type 0} {write_gives : S → ℕ → Option (List ℕ)
    → Result (Unit {0}) F → S → Type 0} {fresh_gives : S → Result ℕ F → S → Type 0} {meaning : S → Meaning} where
  -- what was done is done in no state that stands so
  pub runs_torn : {T V X : Type 0} {Stands : State → X → Type 0} {Due : ℕ → State → X → Type 0} {Did : V → ℕ → State → X → Type 0}
      (Other : T → ℕ → State → X → Type 0) (few most : ℕ) (less : few ≤ most) (first last : S) (other : Result V (Walk F)) (value : V) (rid : ℕ)
      → Runs read_gives write_gives fresh_gives meaning Stands Due Did few first last other → other ≡ Ok value
      → ((asked : ℕ) (state : State) (x : X) → Agrees state (meaning last).reads → Stands state x → Did value asked state x → ⊥)
      → Runs {F = F} read_gives write_gives fresh_gives meaning Stands Due Other most first last (Err (Torn rid))
  runs_torn Other few most less first last other value rid r was never = record {
    asked = r.asked;
    by = by_calls_quiet _ first last (Err (Torn rid)) other tt r.by;
    may = r.may;
    did = tt;
    torn = λ state x agrees stands. never r.asked state x agrees stands (ok_of other _ value was r.did state x agrees stands);
    few = writes-weaken few most (meaning first) (meaning last) less r.few;
    writes = r.writes;
  }

  -- want of memory says nothing
  pub runs_memory : {T V X : Type 0} {Stands : State → X → Type 0} {Due : ℕ → State → X → Type 0} {Did : V → ℕ → State → X → Type 0}
      (Other : T → ℕ → State → X → Type 0) (few most : ℕ) (less : few ≤ most) (first last : S) (other : Result V (Walk F))
      → Runs read_gives write_gives fresh_gives meaning Stands Due Did few first last other
      → Runs {F = F} read_gives write_gives fresh_gives meaning Stands Due Other most first last (Err NoMemory)
  runs_memory Other few most less first last other r = record {
    asked = r.asked;
    by = by_calls_quiet _ first last (Err NoMemory) other tt r.by;
    may = r.may;
    did = tt;
    torn = tt;
    few = writes-weaken few most (meaning first) (meaning last) less r.few;
    writes = r.writes;
  }

  -- a part that reads alone asks for nothing
  pub looks_runs : {T X : Type 0} {Stands : State → X → Type 0} {Found : T → State → X → Type 0} (Due : ℕ → State → X → Type 0)
      (Did : T → ℕ → State → X → Type 0) (most : ℕ) (first last : S) (result : Result T (Walk F))
      → Looks read_gives meaning Stands Found first last result
      → ((value : T) (state : State) (x : X) → Agrees state (meaning last).reads → Stands state x → Found value state x
      → Did value 0 state x) → Runs read_gives write_gives fresh_gives meaning Stands Due Did most first last result
  looks_runs Due Did most first last result l more = record {
    asked = 0;
    by = by_calls_reads _ first last result l.by;
    writes = λ state x agrees stands. known-reads (meaning first) (meaning last) l.by.only state agrees;
    may = λ some. absurd (omega arith);
    did = IfOk-map result (λ value each state x agrees stands. more value state x agrees stands (each state x agrees stands)) l.found;
    torn = l.torn;
    few = few-reads most (meaning first) (meaning last) l.by.only;
  }

  pub runs_map : {T X Y : Type 0} {Inner : State → Y → Type 0} {Later : ℕ → State → Y → Type 0} {Did : T → ℕ → State → Y → Type 0}
      (Stands : State → X → Type 0) (Due : ℕ → State → X → Type 0) (Other : T → ℕ → State → X → Type 0) (few most : ℕ) (first last : S)
      (result : Result T (Walk F)) → few ≤ most → Runs read_gives write_gives fresh_gives meaning Inner Later Did few first last result
      → ((state : State) (x : X) → Agrees state (meaning last).reads → Stands state x → (y : Y) × Inner state y
      × ((asks : ℕ) → Later asks state y → Due asks state x) × ((value : T) (asked : ℕ) → Did value asked state y
      → Other value asked state x)) → Runs read_gives write_gives fresh_gives meaning Stands Due Other most first last result
  runs_map Stands Due Other few most first last result less r glue = record {
    asked = r.asked;
    by = by_calls_map _ r.asked first last result r.by
        (λ asks each state x agrees stands. (let g = glue state x agrees stands in g.2 asks (each state g.0 agrees g.1)));
    may = λ some state x agrees stands. (let g = glue state x agrees stands in g.2 r.asked (r.may some state g.0 agrees g.1));
    did = IfOk-map result
        (λ value each state x agrees stands. (let g = glue state x agrees stands in g.3 value r.asked (each state g.0 agrees g.1))) r.did;
    torn = IfTorn-map result (λ rid none state x agrees stands. (let g = glue state x agrees stands in none state g.0 agrees g.1)) r.torn;
    few = writes-weaken few most (meaning first) (meaning last) less r.few;
    writes = λ state x agrees stands. (let g = glue state x agrees stands in r.writes state g.0 agrees g.1);
  }

  -- what was done, told of the value
  pub runs_at : {T X : Type 0} {Stands : State → X → Type 0} {Due : ℕ → State → X → Type 0} (Did : T → ℕ → State → X → Type 0) (most : ℕ)
      (first last : S) (result : Result T (Walk F)) (value : T) → result ≡ Ok value
      → Runs read_gives write_gives fresh_gives meaning Stands Due Did most first last result
      → Runs read_gives write_gives fresh_gives meaning Stands Due (λ _. Did value) most first last result
  runs_at {T} {X} {Stands} {Due} Did most first last result value was r = record {
    asked = r.asked;
    by = r.by;
    may = r.may;
    did = at_value result value (λ v. Each Stands (meaning last) (Did v r.asked)) was r.did;
    torn = r.torn;
    few = r.few;
    writes = r.writes;
  }

  -- what was done, told in other words
  pub runs_did : {T X : Type 0} {Stands : State → X → Type 0} {Due : ℕ → State → X → Type 0} {Did : T → ℕ → State → X → Type 0}
      (Other : T → ℕ → State → X → Type 0) (few most : ℕ) (first last : S) (result : Result T (Walk F)) → few ≤ most
      → Runs read_gives write_gives fresh_gives meaning Stands Due Did few first last result
      → ((value : T) (asked : ℕ) (state : State) (x : X) → Stands state x → Did value asked state x → Other value asked state x)
      → Runs read_gives write_gives fresh_gives meaning Stands Due Other most first last result
  runs_did {T} {X} {Stands} {Due} {Did} Other few most first last result less r more =
      runs_map Stands Due Other few most first last result less r
      (λ state x agrees stands. (x, stands, λ asks due. due, λ value asked did. more value asked state x stands did))

  pub runs_moved : {T V X : Type 0} {Stands : State → X → Type 0} {Due : ℕ → State → X → Type 0} {Did : V → ℕ → State → X → Type 0}
      (Other : T → ℕ → State → X → Type 0) (few most : ℕ) (less : few ≤ most) (first last : S) (result : Result T (Walk F)) (other : Result V (Walk F))
      (walk : Walk F) → Runs read_gives write_gives fresh_gives meaning Stands Due Did few first last other → other ≡ Err walk
      → IsErrAnd result (λ w. w ≡ walk) → Runs read_gives write_gives fresh_gives meaning Stands Due Other most first last result
  runs_moved Other few most less first last result other walk r was is = record {
    asked = r.asked;
    by = by_calls_moved first last result other walk was is r.by;
    may = r.may;
    did = no_ok result walk _ is;
    torn = torn_moved result other walk _ was is r.torn;
    few = writes-weaken few most (meaning first) (meaning last) less r.few;
    writes = r.writes;
  }

  pub runs_value : {T V X : Type 0} {Stands : State → X → Type 0} {Due : ℕ → State → X → Type 0} {Did : V → ℕ → State → X → Type 0}
      (Other : T → ℕ → State → X → Type 0) (few most : ℕ) (first last : S) (other : Result V (Walk F)) (value : V) (new : T) → few ≤ most
      → Runs read_gives write_gives fresh_gives meaning Stands Due Did few first last other → other ≡ Ok value
      → ((asked : ℕ) (state : State) (x : X) → Agrees state (meaning last).reads → Stands state x → Did value asked state x
      → Other new asked state x) → Runs {F = F} read_gives write_gives fresh_gives meaning Stands Due Other most first last (Ok new)
  runs_value Other few most first last other value new less r was more = record {
    asked = r.asked;
    by = by_calls_quiet _ first last (Ok new) other tt r.by;
    may = r.may;
    did = λ state x agrees stands. more r.asked state x agrees stands (ok_of other _ value was r.did state x agrees stands);
    torn = tt;
    few = writes-weaken few most (meaning first) (meaning last) less r.few;
    writes = r.writes;
  }

  pub runs_then : {T V X Y : Type 0} {Stands : State → X → Type 0} {Due : ℕ → State → X → Type 0} {Did : T → ℕ → State → X
      → Type 0} {Inner : State → Y → Type 0} {Later : ℕ → State → Y → Type 0} {Does : V → ℕ → State → Y → Type 0} (Other : V → ℕ → State
      → X → Type 0) (n m : ℕ) (first middle last : S) (early : Result T (Walk F)) (value : T) (result : Result V (Walk F))
      → Runs read_gives write_gives fresh_gives meaning Stands Due Did n first middle early → early ≡ Ok value
      → Runs read_gives write_gives fresh_gives meaning Inner Later Does m middle last result
      → ((before : ℕ) (state : State) (x : X) → Agrees state (meaning middle).reads → Stands state x → Did value before state x
      → (y : Y) × Inner state y × ((asks : ℕ) → Later asks state y → Due (before + asks) state x)
      × ((w : V) (asked : ℕ) → Does w asked state y → Other w (before + asked) state x))
      → Runs read_gives write_gives fresh_gives meaning Stands Due Other (n + m) first last result
  runs_then {T} {V} {X} {Y} {Stands} {Due} {Did} {Inner} {Later} {Does} Other n m first middle last early value result a was b glue =
      let back : (state : State) → Agrees state (meaning last).reads
      → Agrees state (meaning middle).reads = λ state agrees. agrees-extends (meaning middle).reads (meaning last).reads state
      b.by.grow.reads agrees in
      let done : (state : State) (x : X) → Agrees state (meaning last).reads → Stands state x
      → Did value a.asked state x = λ state x agrees stands. ok_of early _ value was a.did state x (back state agrees) stands in
      let at : (state : State) (x : X) → Agrees state (meaning last).reads → Stands state x → (y : Y) × Inner state y
      × ((asks : ℕ) → Later asks state y → Due (a.asked + asks) state x) × ((w : V) (asked : ℕ) → Does w asked state y
      → Other w (a.asked + asked) state x) = λ state x agrees stands. glue a.asked state x (back state agrees) stands
      (done state x agrees stands) in
      record {
        asked = a.asked + b.asked;
        by = by_calls_then _ a.asked b.asked first middle last early result a.by b.by
            (λ asks each state x agrees stands. (let g = at state x agrees stands in g.2 asks (each state g.0 agrees g.1)));
        may = λ some state x agrees stands. asks_of b.asked (Due (a.asked + b.asked) state x)
            (λ none. (let same : a.asked ≡ a.asked + b.asked = omega (arith, none) in let P : ℕ
            → Type 0 = λ k. Due k state x in subst P same (a.may (omega (arith, some, none)) state x (back state agrees) stands)))
            (λ more. (let g = at state x agrees stands in g.2 b.asked (b.may more state g.0 agrees g.1)));
        did = IfOk-map result
            (λ w each state x agrees stands. (let g = at state x agrees stands in g.3 w b.asked (each state g.0 agrees g.1))) b.did;
        torn = IfTorn-map result (λ rid none state x agrees stands. (let g = at state x agrees stands in none state g.0 agrees g.1))
            b.torn;
        few = writes-trans n m (meaning first) (meaning middle) (meaning last) a.few b.few;
        writes = λ state x agrees stands. (let g = at state x agrees stands in known_trans b.asked (meaning first) (meaning middle)
            (meaning last) state a.by.grow.fixed (a.writes state x (back state agrees) stands) b.by.given (b.writes state g.0 agrees g.1));
      }
