-- Calls over a store of records, told of what the store is seen as.
use Rattle.std.proofs.Common.{◌≡◌, ℕ, List, Option, Result, Ok, Err, refl, subst}
use Rattle.plain_data.specs.State.{State}
use Rattle.record_store.specs.Calls.{Reads, ReadFault, Calls, CallFault}
use Rattle.record_store.specs.Calls.Reads.{none, read}
use Rattle.record_store.specs.Calls.Calls.{none as no_calls, read as then_read, write as then_write, fresh as then_fresh}
use Rattle.record_store.specs.Calls.CallFault.{by_read, by_write, by_fresh}
use Rattle.record_store.specs.Goes.{GoesByCalls}
use Rattle.record_store.specs.Meaning.{Meaning}
use Rattle.record_store.specs.Walks.{IfNoMemory, IfStore, IfTorn}
use Rattle.record_store.specs.declared.walk.Walk.{Walk}
use Rattle.record_store.specs.declared.walk.Walk.TheVariants.{Store, Torn, NoMemory}
use Rattle.stored_tables.specs.Runs.{Looks, Runs}

pub store_map : {T F : Type 0} (result : Result T (Walk F)) {P Q : F → Type 0} → ((fault : F) → P fault → Q fault) → IfStore result P → IfStore result Q
store_map (Ok value) more holds = tt
store_map (Err (Store fault)) more holds = more fault holds
store_map (Err (Torn rid)) more holds = tt
store_map (Err NoMemory) more holds = tt

pub torn_map : {T F : Type 0} (result : Result T (Walk F)) {P Q : ℕ → Type 0} → ((rid : ℕ) → P rid → Q rid) → IfTorn result P → IfTorn result Q
torn_map (Ok value) more holds = tt
torn_map (Err (Store fault)) more holds = tt
torn_map (Err (Torn rid)) more holds = more rid holds
torn_map (Err NoMemory) more holds = tt

-- memory may be wanted
pub any_memory : {T F : Type 0} (result : Result T (Walk F)) → IfNoMemory result (Unit {0})
any_memory (Ok value) = tt
any_memory (Err (Store fault)) = tt
any_memory (Err (Torn rid)) = tt
any_memory (Err NoMemory) = tt

-- each call on the store is the same one on what it is seen as
pub record SeesReads {S S' F : Type 0} (see : S → S') (gives : S → ℕ → Result (Option (List ℕ)) F → S → Type 0) (gives' : S' → ℕ → Result (Option (List ℕ)) F → S' → Type 0) : Type 0
  where
    pub each : (s t : S) (rid : ℕ) (answer : Result (Option (List ℕ)) F) → gives s rid answer t → gives' (see s) rid answer (see t)

pub record SeesWrites {S S' F : Type 0} (see : S → S') (gives : S → ℕ → Option (List ℕ) → Result (Unit {0}) F → S → Type 0) (gives' : S' → ℕ → Option (List ℕ) → Result (Unit {0}) F → S' → Type 0) : Type 0
  where
    pub each : (s t : S) (rid : ℕ) (value : Option (List ℕ)) (answer : Result (Unit {0}) F) → gives s rid value answer t → gives' (see s) rid value answer (see t)

pub record SeesFresh {S S' F : Type 0} (see : S → S') (gives : S → Result ℕ F → S → Type 0) (gives' : S' → Result ℕ F → S' → Type 0) : Type 0 where
  pub each : (s t : S) (answer : Result ℕ F) → gives s answer t → gives' (see s) answer (see t)

module _ {S S' F : Type 0} {see : S → S'} {gives : S → ℕ → Result (Option (List ℕ)) F → S → Type 0} {gives' : S' → ℕ → Result (Option (List ℕ)) F → S' → Type 0} (sees : SeesReads see gives gives') where
  see_reads : (first last : S) → Reads gives first last → Reads gives' (see first) (see last)
  see_reads first last (none s) = none (see s)
  see_reads first last (read s before t rid answer calls is) = read (see s) (see before) (see t) rid answer (see_reads s before calls) (sees.each before t rid answer is)

  see_fault : (first last : S) (fault : F) → ReadFault gives first last fault → ReadFault gives' (see first) (see last) fault
  see_fault first last fault is = record {
    before = see is.before;
    rid = is.rid;
    calls = see_reads first is.before is.calls;
    answer = sees.each is.before last is.rid (Err fault) is.answer;
  }

-- what was found by reads alone
pub see_looks : {S S' F T X : Type 0} {gives : S → ℕ → Result (Option (List ℕ)) F → S → Type 0} {meaning : S → Meaning} {Stands : State → X → Type 0} {Found : T → State → X → Type 0} {first last : S} {result : Result T (Walk F)}
    → Looks gives meaning Stands Found first last result → (see : S → S') (gives' : S' → ℕ → Result (Option (List ℕ)) F → S' → Type 0) (meaning' : S' → Meaning) → meaning ≡ (λ s. meaning' (see s)) → SeesReads see gives gives'
    → Looks gives' meaning' Stands Found (see first) (see last) result
see_looks {S} {S'} {F} {T} {X} {gives} {meaning} {Stands} {Found} {first} {last} {result} looks see gives' meaning' same sees =
    let here : Looks gives (λ s. meaning' (see s)) Stands Found first last result = subst (λ (m : S → Meaning). Looks gives m Stands Found first last result) same looks in
    record {
      by = record {
        calls = see_reads sees first last here.by.calls;
        fault = store_map result (λ fault is. see_fault sees first last fault is) here.by.fault;
        only = here.by.only;
      };
      found = here.found;
      torn = here.torn;
    }

module _ {S S' F : Type 0} {see : S → S'} {read_gives : S → ℕ → Result (Option (List ℕ)) F → S → Type 0} {read_gives' : S' → ℕ → Result (Option (List ℕ)) F → S' → Type 0}
    {write_gives : S → ℕ → Option (List ℕ) → Result (Unit {0}) F → S → Type 0} {write_gives' : S' → ℕ → Option (List ℕ) → Result (Unit {0}) F → S' → Type 0} {fresh_gives : S → Result ℕ F → S → Type 0}
    {fresh_gives' : S' → Result ℕ F → S' → Type 0} (reads : SeesReads see read_gives read_gives') (writes : SeesWrites see write_gives write_gives') (asks : SeesFresh see fresh_gives fresh_gives') where
  pub see_calls : (first last : S) (asked : ℕ) → Calls read_gives write_gives fresh_gives first asked last → Calls read_gives' write_gives' fresh_gives' (see first) asked (see last)
  see_calls first last asked (no_calls s) = no_calls (see s)
  see_calls first last asked (then_read s before t n rid answer calls is) = then_read (see s) (see before) (see t) n rid answer (see_calls s before n calls) (reads.each before t rid answer is)
  see_calls first last asked (then_write s before t n rid value answer calls is) = then_write (see s) (see before) (see t) n rid value answer (see_calls s before n calls) (writes.each before t rid value answer is)
  see_calls first last asked (then_fresh s before t n answer calls is) = then_fresh (see s) (see before) (see t) n answer (see_calls s before n calls) (asks.each before t answer is)

  pub see_call_fault : (May : ℕ → Type 0) (first last : S) (fault : F) → CallFault read_gives write_gives fresh_gives May first last fault → CallFault read_gives' write_gives' fresh_gives' May (see first) (see last) fault
  see_call_fault May first last fault (by_read before asked rid calls is) = by_read (see before) asked rid (see_calls first before asked calls) (reads.each before last rid (Err fault) is)
  see_call_fault May first last fault (by_write before asked rid value calls is) = by_write (see before) asked rid value (see_calls first before asked calls) (writes.each before last rid value (Err fault) is)
  see_call_fault May first last fault (by_fresh before asked calls is may) = by_fresh (see before) asked (see_calls first before asked calls) (asks.each before last (Err fault) is) may

-- how a part went by calls
pub see_goes : {S S' F T : Type 0} {read_gives : S → ℕ → Result (Option (List ℕ)) F → S → Type 0} {write_gives : S → ℕ → Option (List ℕ) → Result (Unit {0}) F → S → Type 0} {fresh_gives : S → Result ℕ F → S → Type 0}
    {meaning : S → Meaning} {May : ℕ → Type 0} {asked : ℕ} {first last : S} {result : Result T (Walk F)} → GoesByCalls read_gives write_gives fresh_gives meaning May asked first last result
    → (see : S → S') (read_gives' : S' → ℕ → Result (Option (List ℕ)) F → S' → Type 0) (write_gives' : S' → ℕ → Option (List ℕ) → Result (Unit {0}) F → S' → Type 0) (fresh_gives' : S' → Result ℕ F → S' → Type 0) (meaning' : S' → Meaning)
    → meaning ≡ (λ s. meaning' (see s)) → SeesReads see read_gives read_gives' → SeesWrites see write_gives write_gives' → SeesFresh see fresh_gives fresh_gives'
    → GoesByCalls read_gives' write_gives' fresh_gives' meaning' May asked (see first) (see last) result
see_goes {S} {S'} {F} {T} {read_gives} {write_gives} {fresh_gives} {meaning} {May} {asked} {first} {last} {result} goes see read_gives' write_gives' fresh_gives' meaning' same reads writes asks =
    let here : GoesByCalls read_gives write_gives fresh_gives (λ s. meaning' (see s)) May asked first last result = subst (λ (m : S → Meaning). GoesByCalls read_gives write_gives fresh_gives m May asked first last result) same goes in
    record {
      calls = see_calls reads writes asks first last asked here.calls;
      fault = store_map result (λ fault is. see_call_fault reads writes asks _ first last fault is) here.fault;
      given = here.given;
      grow = here.grow;
    }

-- what was done by a part that changes
pub see_runs : {S S' F T X : Type 0} {read_gives : S → ℕ → Result (Option (List ℕ)) F → S → Type 0} {write_gives : S → ℕ → Option (List ℕ) → Result (Unit {0}) F → S → Type 0} {fresh_gives : S → Result ℕ F → S → Type 0} {meaning : S → Meaning}
    {Stands : State → X → Type 0} {Due : ℕ → State → X → Type 0} {Did : T → ℕ → State → X → Type 0} {most : ℕ} {first last : S} {result : Result T (Walk F)} → Runs read_gives write_gives fresh_gives meaning Stands Due Did most first last result
    → (see : S → S') (read_gives' : S' → ℕ → Result (Option (List ℕ)) F → S' → Type 0) (write_gives' : S' → ℕ → Option (List ℕ) → Result (Unit {0}) F → S' → Type 0) (fresh_gives' : S' → Result ℕ F → S' → Type 0) (meaning' : S' → Meaning)
    → meaning ≡ (λ s. meaning' (see s)) → SeesReads see read_gives read_gives' → SeesWrites see write_gives write_gives' → SeesFresh see fresh_gives fresh_gives'
    → Runs read_gives' write_gives' fresh_gives' meaning' Stands Due Did most (see first) (see last) result
see_runs {S} {S'} {F} {T} {X} {read_gives} {write_gives} {fresh_gives} {meaning} {Stands} {Due} {Did} {most} {first} {last} {result} runs see read_gives' write_gives' fresh_gives' meaning' same reads writes asks =
    let here : Runs read_gives write_gives fresh_gives (λ s. meaning' (see s)) Stands Due Did most first last result = subst (λ (m : S → Meaning). Runs read_gives write_gives fresh_gives m Stands Due Did most first last result) same runs in
    record {
      asked = here.asked;
      by = see_goes here.by see read_gives' write_gives' fresh_gives' meaning' refl reads writes asks;
      may = here.may;
      did = here.did;
      torn = here.torn;
      few = here.few;
      writes = here.writes;
    }
