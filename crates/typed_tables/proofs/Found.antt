-- What a typed search hands on of the search under it.
use Rattle.std.proofs.Common.{◌≡◌, ℕ, Bool, List, Option, Some, Result, Ok, Err}
use Rattle.record_store.specs.Meaning.{Meaning}
use Rattle.record_store.specs.Walks.{IfTorn, IfStore}
use Rattle.record_store.specs.declared.walk.Walk.{Walk as Walked}
use Rattle.record_store.specs.declared.walk.Walk.TheVariants.{Store, Torn, NoMemory}
use Rattle.replay_model.specs.TableMap.{Row}
use Rattle.stored_tables.specs.Answers.{Stands}
use Rattle.stored_tables.specs.RowLists.{IsFoundBy}
use Rattle.stored_tables.specs.Runs.{Looks}
use Rattle.stored_tables.proofs.Runs.{looks_memory, looks_value}
use Rattle.typed_tables.specs.declared.fault.TypedFault.{TypedFault}
use Rattle.typed_tables.specs.declared.fault.TypedFault.TheVariants.{Walk, Foreign}
use Rattle.typed_tables.specs.Typed.{TellsIndex, walked}

-- rows that could not be given are not torn
pub not_torn_at : (T : Type 0) {F : Type 0} (fault : TypedFault F) (P : ℕ → Type 0) → IfTorn (walked {T = Unit {0}} (Err fault)) (λ _. ⊥)
    → IfTorn (walked {T = T} (Err fault)) P
not_torn_at T (Walk (Store fault)) P not_torn = tt
not_torn_at T (Walk (Torn rid)) P not_torn = absurd not_torn
not_torn_at T (Walk NoMemory) P not_torn = tt
not_torn_at T (Foreign key columns) P not_torn = tt

module _ {S F : Type 0} {read_gives : S → ℕ → Result (Option (List ℕ)) F → S → Type 0} {meaning : S → Meaning} where
  -- rows were found, and could not be given: for want of memory, or since one of them is foreign
  pub index_refused : (table column lo hi limit : ℕ) (first last : S) (result : Result (Option (List (ℕ × Row))) (Walked F))
      (pairs : List (ℕ × Row)) (fault : TypedFault F)
      → Looks read_gives meaning (Stands (meaning first)) (IsFoundBy table column lo hi limit) first last result → result ≡ Ok (Some pairs)
      → IfTorn (walked {T = Unit {0}} (Err fault)) (λ _. ⊥) → IfStore (walked {T = Unit {0}} (Err fault)) (λ _. ⊥)
      → Looks read_gives meaning (Stands (meaning first)) (TellsIndex table column) first last (walked {T = Bool} (Err fault))
  index_refused table column lo hi limit first last result pairs (Walk (Store fault)) looks was not_torn no_fault = absurd no_fault
  index_refused table column lo hi limit first last result pairs (Walk (Torn rid)) looks was not_torn no_fault = absurd not_torn
  index_refused table column lo hi limit first last result pairs (Walk NoMemory) looks was not_torn no_fault =
      looks_memory (TellsIndex table column) first last result looks
  index_refused table column lo hi limit first last result pairs (Foreign key columns) looks was not_torn no_fault =
      looks_value (TellsIndex table column) first last result (Some pairs) _ looks was (λ state held agrees stands by. by.0)
