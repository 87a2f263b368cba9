-- One read of a record, and what is torn by it.
use Rattle.std.proofs.Common.{◌≡◌, ℕ, Bool, List, [], Option, Some, Result, Ok, Err, refl}
use Rattle.std.specs.Prelude.{IsErrAnd}
use Rattle.std.proofs.lemmas.List.{append_cancel_right}
use lib.ListN.{replicate}
use Rattle.plain_data.specs.State.{State, Agrees, overlay}
use Rattle.record_store.specs.Into.{value_if}
use Rattle.record_store.specs.Meaning.{Meaning, known, after_read}
use Rattle.record_store.specs.Walks.{IfTorn}
use Rattle.record_store.specs.declared.walk.Walk.{Walk}
use Rattle.record_store.specs.declared.walk.Walk.TheVariants.{Store, Torn}
use Rattle.record_store.proofs.Agreement.{answered}
use Rattle.replay_model.specs.TableMap.{Row}
use Rattle.record_store.proofs.Going.{by_read_refused, by_read_done, by_reads_quiet}
use Rattle.stored_tables.specs.Runs.{Looks}
use Rattle.stored_tables.specs.Tables.{row_words}
use Rattle.stored_tables.proofs.Runs.{no_ok, ok_of}

pub no_torn : {T F : Type 0} (result : Result T (Walk F)) (fault : F) (P : ℕ → Type 0) → IsErrAnd result (λ w. w ≡ Store fault)
    → IfTorn result P
no_torn (Ok v) fault P is = tt
no_torn (Err w) fault P is = rw is tt

-- words are those of one row
pub same_row : (a b : Row) → row_words a ≡ row_words b → a ≡ b
same_row a b same = append_cancel_right a b (replicate 26 0) same

module _ {S F : Type 0} {read_gives : S → ℕ → Result (Option (List ℕ)) F → S → Type 0} {meaning : S → Meaning} where
  pub read_refused : {T X : Type 0} (Stands : State → X → Type 0) (Other : T → State → X → Type 0) (first last : S) (rid : ℕ) (fault : F)
      (result : Result T (Walk F)) → read_gives first rid (Err fault) last → meaning last ≡ meaning first
      → IsErrAnd result (λ w. w ≡ Store fault) → Looks read_gives meaning Stands Other first last result
  read_refused Stands Other first last rid fault result gives same is = record {
    by = by_read_refused first last rid fault (Err fault) [] result refl gives same is;
    found = no_ok result (Store fault) _ is;
    torn = no_torn result fault _ is;
  }

  pub read_answered : {X : Type 0} (Stands : State → X → Type 0) (first last : S) (rid : ℕ) (present : Bool) (cells : List ℕ)
      → read_gives first rid (Ok (value_if present cells)) last → meaning last ≡ after_read (meaning first) rid (value_if present cells)
      → known (meaning last) rid ≡ Some (value_if present cells) → Looks {F = F} read_gives meaning Stands
      (λ found state x. overlay (meaning first).writes state rid ≡ found) first last (Ok (value_if present cells))
  read_answered Stands first last rid present cells gives is answer = record {
    by = by_read_done first last rid present (Ok present) cells (Ok (value_if present cells)) refl gives is tt;
    found = λ state x agrees stands. answered (meaning first) (meaning last) rid (value_if present cells) is answer state agrees;
    torn = tt;
  }

  -- what was found is found in no state that stands so
  pub looks_torn : {T V X : Type 0} {Stands : State → X → Type 0} {Found : V → State → X → Type 0} (Other : T → State → X → Type 0)
      (first last : S) (other : Result V (Walk F)) (value : V) (rid : ℕ) → Looks read_gives meaning Stands Found first last other
      → other ≡ Ok value → ((state : State) (x : X) → Agrees state (meaning last).reads → Stands state x → Found value state x → ⊥)
      → Looks {F = F} read_gives meaning Stands Other first last (Err (Torn rid))
  looks_torn Other first last other value rid l was never = record {
    by = by_reads_quiet first last (Err (Torn rid)) other tt l.by;
    found = tt;
    torn = λ state x agrees stands. never state x agrees stands (ok_of other _ value was l.found state x agrees stands);
  }
