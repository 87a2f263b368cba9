-- A row found by its key: its record from the table's chain, and the row there.
use Rattle.std.proofs.Common.{◌≡◌, ℕ, ◌<◌, List, Option, None, Some, Result, Ok, sym, ap, subst, ◌∙◌}
use Rattle.std.specs.Prelude.{IfOk}
use Rattle.plain_data.specs.State.{State, overlay}
use Rattle.record_store.specs.Goes.{GoesByReads}
use Rattle.record_store.specs.Meaning.{Meaning}
use Rattle.record_store.specs.Walks.{IfTorn, OnlyReads}
use Rattle.record_store.specs.declared.walk.Walk.{Walk}
use Rattle.record_store.proofs.Agreement.{writes_same, size_same}
use Rattle.record_store.proofs.Refusals.{IfTorn-map}
use Rattle.hash_index.specs.Chain.{EachChain, record_of}
use Rattle.hash_index.specs.Answers.{IsTornChain}
use Rattle.replay_model.specs.TableMap.{Row, value_at}
use Rattle.stored_tables.specs.Answers.{Held, Stands}
use Rattle.stored_tables.specs.Places.{base_of, table_limit}
use Rattle.stored_tables.specs.Runs.{Looks}
use Rattle.stored_tables.specs.Tables.{IsRow, StandsFor, row_words}
use Rattle.stored_tables.proofs.Runs.{IfOk-map, looks_then}

-- what stood stands after reads
pub stands_on : (first last : Meaning) (state : State) (held : Held) → OnlyReads first last → Stands first state held
    → Stands last state held
stands_on first last state held only stands =
    let P : Meaning → Type 0 = λ m. StandsFor first.size (overlay m.writes state) held.0 held.1 in
    let writes : StandsFor first.size (overlay last.writes state) held.0 held.1 = (let W : List (ℕ × Option (List ℕ))
    → Type 0 = λ ws. StandsFor first.size (overlay ws state) held.0 held.1 in subst W (sym (writes_same first last only)) stands) in
    let Z : ℕ → Type 0 = λ n. StandsFor n (overlay last.writes state) held.0 held.1 in
    subst Z (sym (size_same first last only)) writes

pub no_row_there : (state : State) (found : Option Row) (rid : Option ℕ) → rid ≡ None → IsRow state found rid → found ≡ None
no_row_there state found None is row = row
no_row_there state found (Some rid) is row = cc

pub row_there : (state : State) (found : Option Row) (rid : Option ℕ) (at : ℕ) → rid ≡ Some at → IsRow state found rid → (columns : Row)
    × (found ≡ Some columns) × (state at ≡ Some (row_words columns))
row_there state found None at is row = cc
row_there state found (Some rid) at is row = let same : rid ≡ at = cc in (row.0, row.1, ap state (sym same) ∙ row.3)

module _ {S F : Type 0} {read_gives : S → ℕ → Result (Option (List ℕ)) F → S → Type 0} {meaning : S → Meaning} where
  -- the chain says where the row is
  pub got : (table base key : ℕ) (first last : S) (result : Result (Option ℕ) (Walk F)) → table < table_limit → base ≡ base_of table
      → IfOk result (λ answer. EachChain base (meaning first) (meaning last) (λ _ rows. answer ≡ record_of rows key))
      → IfTorn result (IsTornChain base key (meaning first) (meaning last)) → GoesByReads read_gives meaning first last result
      → Looks read_gives meaning (Stands (meaning first)) (λ answer state held. held.0.row_at table key ≡ answer) first last result
  got table base key first last result low is ok torn by = record {
    by = by;
    found = IfOk-map result (λ answer each state held agrees stands. sym (stands.tied.chain table key low)
        ∙ sym (each state (held.0.rows table) agrees (rw is (stands.shape.chains table low)))) ok;
    torn = IfTorn-map result (λ rid torn state held agrees stands. torn.none state (held.0.rows table) agrees
        (rw is (stands.shape.chains table low))) torn;
  }

  -- and the row is there
  pub found_row : (table key rid : ℕ) (first middle last : S) (early : Result (Option ℕ) (Walk F)) (result : Result (List ℕ) (Walk F))
      → table < table_limit → Looks read_gives meaning (Stands (meaning first)) (λ answer state held. held.0.row_at table key ≡ answer)
      first middle early → early ≡ Ok (Some rid)
      → Looks read_gives meaning (λ state (words : List ℕ). overlay (meaning middle).writes state rid ≡ Some (row_words words))
      (λ row state words. row ≡ words) middle last result → Looks read_gives meaning (Stands (meaning first))
      (λ row state held. (held.0.row_at table key ≡ Some rid) × (value_at held.1 table key ≡ Some row)) first last result
  found_row table key rid first middle last early result low a was b =
      looks_then _ first middle last early (Some rid) result a was b
      (λ state held agrees stands at. (let row = row_there (overlay (meaning first).writes state) (value_at held.1 table key)
      (held.0.row_at table key) rid at (stands.tied.rows table key low) in (
        row.0,
        ap (λ ws. overlay ws state rid) (writes_same (meaning first) (meaning middle) a.by.only)
            ∙ row.2,
        λ w is. (at, row.1 ∙ ap Some (sym is)),
      )))
