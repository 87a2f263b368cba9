-- Calls over the transaction that is open at a pass, told of that pass.
use Rattle.std.proofs.Common.{◌≡◌, ℕ, Bool, true, List, Option, Some, Result, Ok, Err, IfOk, refl, subst}
use Rattle.plain_data.specs.State.{State}
use Rattle.record_store.specs.Calls.{Calls, CallFault}
use Rattle.record_store.specs.Goes.{GoesByCalls}
use Rattle.record_store.specs.Meaning.{Meaning}
use Rattle.record_store.specs.Walks.{IfNoMemory, IfStore}
use Rattle.record_store.specs.declared.walk.Walk.{Walk}
use Rattle.stored_tables.specs.Answers.{Held, Stands}
use Rattle.stored_tables.specs.Reclaim.{ClearsBy}
use Rattle.stored_tables.specs.Runs.{Looks, Runs}
use Rattle.engine_answers.specs.declared.faults.TxnFault.{TxnFault}
use Rattle.txn_engine.specs.Faults.{told_by}
use Rattle.txn_engine.specs.Pass.{PassView, meaning_of_pass}
use Rattle.txn_engine.specs.Txn.{Gives, Reads, TxnFrame, Writes}
use Rattle.connections.specs.Rows.{FreshGives, LooksAt, ReadGives, WriteGives}
use Rattle.connections.proofs.Stores.{SeesFresh, SeesReads, SeesWrites, see_call_fault, see_calls, see_goes, see_looks, see_runs, store_map}

pub pass_frame : {x y : TxnFrame (Unit {0})} → x ≡ y → x.of_pass ≡ y.of_pass
pass_frame {x} {y} same = λ i. (same i).of_pass

-- a pass answers the fault itself
told_same : {A : Type 0} (answer : Result A TxnFault) → told_by (λ f. f) answer ≡ answer
told_same (Ok value) = refl
told_same (Err fault) = refl

module _ {S : Type 0} (first last : S) (see : S → PassView) where
  abbrev reads : S → ℕ → Result (Option (List ℕ)) TxnFault → S → Type 0
  reads t rid answer t' = Reads (see t) (see t') rid (told_by (λ f. f) answer)

  abbrev writes : S → ℕ → Option (List ℕ) → Result (Unit {0}) TxnFault → S → Type 0
  writes t rid value answer t' = Writes (see t) (see t') rid value (told_by (λ f. f) answer)

  abbrev gives : S → Result ℕ TxnFault → S → Type 0
  gives t answer t' = Gives (see t) (see t') (told_by (λ f. f) answer)

  abbrev meaning : S → Meaning
  meaning t = meaning_of_pass (see t)

  sees_reads : SeesReads see reads ReadGives
  sees_reads = record { each = λ s t rid answer is. subst (λ (told : Result (Option (List ℕ)) TxnFault). Reads (see s) (see t) rid told) (told_same answer) is }

  sees_writes : SeesWrites see writes WriteGives
  sees_writes = record { each = λ s t rid value answer is. subst (λ (told : Result (Unit {0}) TxnFault). Writes (see s) (see t) rid value told) (told_same answer) is }

  sees_gives : SeesFresh see gives FreshGives
  sees_gives = record { each = λ s t answer is. subst (λ (told : Result ℕ TxnFault). Gives (see s) (see t) told) (told_same answer) is }

  pub looks_there : {T Memory Still : Type 0} {Found : T → State → Held → Type 0} (told : Result T (Walk TxnFault)) → Looks reads meaning (Stands (meaning first)) Found first last told → IfNoMemory told Memory
      → (Still → see last ≡ see first) → LooksAt Memory Still Found (see first) (see last) told
  looks_there told looks memory still = record { looks = see_looks looks see ReadGives meaning_of_pass refl sees_reads; memory = memory; still = still }

  pub runs_there : {T : Type 0} {Due : ℕ → State → Held → Type 0} {Did : T → ℕ → State → Held → Type 0} {most : ℕ} (told : Result T (Walk TxnFault)) → Runs reads writes gives meaning (Stands (meaning first)) Due Did most first last told
      → Runs ReadGives WriteGives FreshGives meaning_of_pass (Stands (meaning first)) Due Did most (see first) (see last) told
  runs_there told runs = see_runs runs see ReadGives WriteGives FreshGives meaning_of_pass refl sees_reads sees_writes sees_gives

  pub goes_there : {T : Type 0} {May : ℕ → Type 0} {asked : ℕ} (told : Result T (Walk TxnFault)) → GoesByCalls reads writes gives meaning May asked first last told
      → GoesByCalls ReadGives WriteGives FreshGives meaning_of_pass May asked (see first) (see last) told
  goes_there told goes = see_goes goes see ReadGives WriteGives FreshGives meaning_of_pass refl sees_reads sees_writes sees_gives

  pub calls_there : (asked : ℕ) → Calls reads writes gives first asked last → Calls ReadGives WriteGives FreshGives (see first) asked (see last)
  calls_there asked calls = see_calls sees_reads sees_writes sees_gives first last asked calls

  pub fault_there : {T : Type 0} (May : ℕ → Type 0) (told : Result T (Walk TxnFault)) → IfStore told (CallFault reads writes gives May first last) → IfStore told (CallFault ReadGives WriteGives FreshGives May (see first) (see last))
  fault_there May told fault = store_map told (λ f is. see_call_fault sees_reads sees_writes sees_gives May first last f is) fault

-- the two halves of a removal that gives leaves back
halves_at : {S : Type 0} (first last : S) (see : S → PassView) (table key : ℕ) → ClearsBy (reads first last see) (writes first last see) (gives first last see) (meaning first last see) table key first last
    → ClearsBy ReadGives WriteGives FreshGives meaning_of_pass table key (see first) (see last)
halves_at first last see table key by = record {
  middle = see by.middle;
  taken = by.taken;
  took = runs_there first by.middle see (Ok (Some by.taken)) by.took;
  gave = runs_there by.middle last see (Ok (tt {0})) by.gave;
}

pub halves_there : {S : Type 0} (first last : S) (see : S → PassView) (table key : ℕ) (told : Result Bool (Walk TxnFault))
    → IfOk told (λ taken. taken ≡ true → ClearsBy (reads first last see) (writes first last see) (gives first last see) (meaning first last see) table key first last)
    → IfOk told (λ taken. taken ≡ true → ClearsBy ReadGives WriteGives FreshGives meaning_of_pass table key (see first) (see last))
halves_there first last see table key (Ok taken) by = λ yes. halves_at first last see table key (by yes)
halves_there first last see table key (Err why) by = tt
