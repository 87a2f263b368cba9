-- Calls of tables in a snapshot: what it reads is lawful, and what it answers.
use Rattle.std.proofs.Common.{◌≡◌, ℕ, true, List, Option, None, Some, Result, Ok, Err, IfErr, refl, sym, subst}
use Rattle.std.specs.Prelude.{IfSome}
use Rattle.plain_data.specs.State.{State, overlay}
use Rattle.record_store.specs.Meaning.{Meaning}
use Rattle.record_store.specs.States.{Each}
use Rattle.record_store.specs.Walks.{IfNoMemory, IfTorn, OnlyReads}
use Rattle.record_store.specs.declared.walk.Walk.{Walk}
use Rattle.record_store.specs.declared.walk.Walk.TheVariants.{Torn}
use Rattle.seat_post.specs.Ends.{Stood}
use Rattle.seat_post.specs.Snapshot.{SnapshotView, entry_of_snapshot}
use Rattle.stored_tables.specs.Answers.{Held, Stands}
use Rattle.stored_tables.specs.Kept.{KeepsTables}
use Rattle.stored_tables.specs.Runs.{Looks}
use Rattle.stored_tables.specs.Tables.{StandsFor}
use Rattle.txn_engine.specs.Pass.{PassView}
use Rattle.engine_answers.specs.declared.faults.NoFault.{NoFault}
use Rattle.txn_engine.specs.Snapshot.{Finishes, HasSnapshot, has_snapshot_in, meaning_of_snapshot, snapshot_store, unread}
use Rattle.connections.specs.declared.fault.CallFault.{CallFault}
use Rattle.connections.specs.declared.fault.CallFault.TheVariants.{NoMemory}
use Rattle.connections.specs.Connection.{StandsForRows}
use Rattle.connections.specs.Rows.{InSnapshot, IsUnlawful, NoneAgree, SeeGives, told_of}
use Rattle.connections.proofs.Finished.{no_snapshot}
use Rattle.connections.proofs.Laws.{at_passes}
use Rattle.connections.proofs.Stores.{see_looks, torn_map}

-- where tables that it reads are torn, no lawful ones agree with what it has read
module _ (q : PassView) (m : Meaning) (keeps : KeepsTables StandsForRows) where
  none_at : (s : Option SnapshotView) → has_snapshot_in q.phase s q.met ≡ true → OnlyReads m (snapshot_store q s) → Each (Stands m) (snapshot_store q s) (λ _ _. ⊥) → NoneAgree q.shared.size.records (snapshot_store q s).reads
  none_at None has only torn = absurd (no_snapshot q.phase q.met has)
  none_at (Some g) has only torn = λ state is_state is_kept agrees.
      let held = keeps.stands q.shared.size.records state is_state is_kept in
      let here : Held = (held.1.0, held.0) in
      let there : Stands (snapshot_store q (Some g)) state here = held.1.1 in
      torn state here agrees (subst (λ (n : Meaning). StandsFor n.size (overlay n.writes state) here.0 here.1) only.rest there)

  pub torn_unlawful : {T : Type 0} (q' : PassView) (told : Result T (Walk NoFault)) → q' ≡ q → HasSnapshot q → OnlyReads m (meaning_of_snapshot q) → IfTorn told (λ _. Each (Stands m) (meaning_of_snapshot q) (λ _ _. ⊥)) → IfTorn told (λ _. IsUnlawful q')
  torn_unlawful q' told there has only torn = torn_map told (λ rid none. subst IsUnlawful (sym there) (record { none = none_at q.snapshot has only none })) torn

-- what is so where they are torn, where they are
pub torn_at : {T : Type 0} (P : Type 0) (told : Result T (Walk NoFault)) (why : Walk NoFault) (rid : ℕ) → told ≡ Err why → why ≡ Torn rid → IfTorn told (λ _. P) → P
torn_at {T} P told why rid is torn holds = subst (λ (w : Walk NoFault). IfTorn {T = T} (Err w) (λ _. P)) torn (subst (λ (r : Result T (Walk NoFault)). IfTorn r (λ _. P)) is holds)

-- its end shows some that do
module _ (q : PassView) where
  some_at : (s : Option SnapshotView) → has_snapshot_in q.phase s q.met ≡ true → NoneAgree q.shared.size.records (snapshot_store q s).reads
      → IfSome s (λ g. Stood StandsForRows q.shared.size.records q.log (entry_of_snapshot g)) → ⊥
  some_at None has none stood = no_snapshot q.phase q.met has
  some_at (Some g) has none stood = none stood.state stood.left.is_state stood.left.is_kept stood.agrees

  pub never_unlawful : (r : PassView) (told : ℕ) → HasSnapshot q → IsUnlawful q → Finishes StandsForRows q r told → ⊥
  never_unlawful r told has unlawful finishes = some_at q.snapshot has unlawful.none finishes.stood

memory_wanted : {T : Type 0} (Memory : Type 0) (answer : Result T CallFault) (told : Result T (Walk NoFault)) → told_of answer ≡ told → IfNoMemory told Memory → IfErr answer (λ f. f ≡ NoMemory) → IfErr answer (λ f. (f ≡ NoMemory) × Memory)
memory_wanted Memory (Ok value) told same memory is = tt
memory_wanted {T} Memory (Err f) told same memory is = (is, subst (λ (r : Result T (Walk NoFault)). IfNoMemory r Memory) (sym same) memory)

-- what it answers; p is the pass before, and the pass that the call left is there still
module _ {S : Type 0} (first last : S) (see : S → PassView) (p q' : PassView) (here : see first ≡ p) (there : q' ≡ see last) where
  abbrev reads : S → ℕ → Result (Option (List ℕ)) NoFault → S → Type 0
  reads s rid answer s' = SeeGives (see s) rid answer (see s')

  abbrev meaning : S → Meaning
  meaning s = meaning_of_snapshot (see s)

  pub in_snapshot : {T Memory Still : Type 0} {Found : T → State → Held → Type 0} (told : Result T (Walk NoFault)) (answer : Result T CallFault) → told_of answer ≡ told → IfErr answer (λ f. f ≡ NoMemory)
      → Looks reads meaning (Stands (meaning first)) Found first last told → unread (see last) ≡ unread (see first) → IfNoMemory told Memory → (Still → see last ≡ see first) → InSnapshot Memory Still Found answer p q'
  in_snapshot {T} {Memory} {Still} {Found} told answer same fault looks rest memory still =
      let seen : Looks SeeGives meaning_of_snapshot (Stands (meaning first)) Found (see first) (see last) told =
      see_looks looks see SeeGives meaning_of_snapshot refl (record { each = λ s t rid told is. is }) in
      at_passes (InSnapshot Memory Still Found answer) p (see first) (see last) q' here there (record {
        looks = subst (λ (r : Result T (Walk NoFault)). Looks SeeGives meaning_of_snapshot (Stands (meaning first)) Found (see first) (see last) r) (sym same) seen;
        rest = rest;
        fault = memory_wanted Memory answer told same memory fault;
        still = still;
      })
