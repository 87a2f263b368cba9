-- What typed calls hand on of the walks under them, told in other words.
use Rattle.std.proofs.Common.{◌≡◌, ℕ, Bool, true, false, List, ◌++◌, map, Option, Some, Result, Ok, Err, sym, ap, subst, ◌∙◌}
use Rattle.std.specs.Prelude.{IsErrAnd, OnOk}
use Rattle.plain_data.specs.State.{State, Agrees}
use Rattle.record_store.specs.Meaning.{Meaning}
use Rattle.record_store.specs.Walks.{IfTorn, IfStore}
use Rattle.record_store.specs.declared.walk.Walk.{Walk as Walked}
use Rattle.record_store.proofs.Refusals.{IfTorn-map, IfStore-map, torn_moved}
use Rattle.replay_model.specs.TableMap.{TableMap, Row}
use Rattle.stored_tables.specs.Answers.{Held, IsScanned, Stands}
use Rattle.stored_tables.specs.OneRow.{SetsRow, TakesRow}
use Rattle.record_store.specs.States.{Each}
use Rattle.stored_tables.specs.Tables.{EachTables}
use Rattle.typed_tables.specs.declared.fault.TypedFault.{TypedFault}
use Rattle.typed_tables.specs.declared.fault.TypedFault.TheVariants.{Walk, Foreign}
use Rattle.typed_tables.specs.Typed.{walked, read_as, AllTyped, AreTyped, IfForeign, IsForeignIn, LeavesTyped, Removes}
use Rattle.typed_tables.proofs.Tables.{put_typed, scanned_typed}

-- a refusal handed on is that of the walk
pub walked_err : {T F : Type 0} (answer : Result T (TypedFault F)) (walk : Walked F) → IsErrAnd answer (λ fault. fault ≡ Walk walk)
    → IsErrAnd (walked answer) (λ w. w ≡ walk)
walked_err (Ok value) walk is = is
walked_err (Err (Walk other)) walk is = cc
walked_err (Err (Foreign key columns)) walk is = cc

-- what is torn is so in each state that stands for tables
pub torn_on : {T V F : Type 0} (answer : Result T (TypedFault F)) (other : Result V (Walked F)) (walk : Walked F) (first last : Meaning)
    → other ≡ Err walk → IsErrAnd answer (λ fault. fault ≡ Walk walk)
    → IfTorn other (λ _. (state : State) (held : Held) → Agrees state last.reads → Stands first state held → ⊥)
    → IfTorn (walked answer) (λ _. EachTables first last (λ _ _ _. ⊥))
torn_on answer other walk first last was is torn =
    torn_moved (walked answer) other walk _ was (walked_err answer walk is)
    (IfTorn-map other (λ rid none state places tables agrees stands. none state (places, tables) agrees stands) torn)

-- a row that is set
pub leaves_typed : {R : Type 0} (row_of : Row → Option R) (columns_of : R → Row) (table key : ℕ) (row : R) (columns : Row) (now : Meaning)
    (asked : ℕ) (state : State) (held : Held) → columns ≡ columns_of row → row_of (columns_of row) ≡ Some row
    → SetsRow table key columns now asked state held → LeavesTyped row_of columns_of table key row now state held.1
leaves_typed row_of columns_of table key row columns now asked state held same again set =
    let P : Row → Type 0 = λ cs. SetsRow table key cs now asked state held in
    let these = subst P same set in
    record { leaves = (these.0, these.1); typed = put_typed row_of table key (columns_of row) row held.1 again }

-- a row that is taken out
pub removes : (table key : ℕ) (now : Meaning) (taken : Bool) (asked : ℕ) (state : State) (held : Held) → TakesRow table key now taken asked state held
    → Removes table key now taken state held.1
removes table key now true asked state held took = (took.0, (took.1.0, took.1.1))
removes table key now false asked state held took = (took.0, (held.0, took.2))

-- ---- scans

pub rows_on : {R F : Type 0} (row_of : Row → Option R) (columns_of : R → Row) (table lo hi limit : ℕ) (pairs : List (ℕ × Row)) (old new : List (ℕ × R)) (first last : Meaning)
    (read : Result (Unit {0}) (TypedFault F)) → Each (Stands first) last (IsScanned table lo hi limit pairs)
    → OnOk read ((rows : List (ℕ × R)) × (new ≡ old ++ rows) × AllTyped row_of columns_of pairs rows)
    → OnOk read ((rows : List (ℕ × R)) × (new ≡ old ++ rows) × EachTables first last (λ _ _ tables. AreTyped row_of columns_of table lo hi limit rows tables))
rows_on row_of columns_of table lo hi limit pairs old new first last (Ok done) listed typed = (
  typed.0,
  typed.1,
  λ state places tables agrees stands. record {
    typed = scanned_typed row_of table lo hi limit tables ∙ ap (map (read_as row_of)) (sym (listed state (places, tables) agrees stands)) ∙ typed.2.typed;
    written = sym (listed state (places, tables) agrees stands) ∙ typed.2.written;
  },
)
rows_on row_of columns_of table lo hi limit pairs old new first last (Err fault) listed typed = tt

pub foreign_on : {R T F : Type 0} (row_of : Row → Option R) (listed : TableMap → List (ℕ × Row)) (pairs : List (ℕ × Row)) (first last : Meaning)
    (read : Result T (TypedFault F)) → Each (Stands first) last (λ _ held. pairs ≡ listed held.1)
    → IfForeign read (λ key columns. IsForeignIn row_of pairs key columns)
    → IfForeign read (λ key columns. EachTables first last (λ _ _ tables. IsForeignIn row_of (listed tables) key columns))
foreign_on row_of listed pairs first last (Ok done) is foreign = tt
foreign_on row_of listed pairs first last (Err (Walk walk)) is foreign = tt
foreign_on row_of listed pairs first last (Err (Foreign key columns)) is foreign = λ state places tables agrees stands.
    let P : List (ℕ × Row) → Type 0 = λ ps. IsForeignIn row_of ps key columns in
    subst P (is state (places, tables) agrees stands) foreign

-- neither torn nor refused by the store
pub not_torn_on : {F : Type 0} (read : Result (Unit {0}) (TypedFault F)) (P : ℕ → Type 0) → IfTorn (walked read) (λ _. ⊥) → IfTorn (walked read) P
not_torn_on read P none = IfTorn-map (walked read) (λ rid no. absurd no) none

pub no_fault_on : {F : Type 0} (read : Result (Unit {0}) (TypedFault F)) (P : F → Type 0) → IfStore (walked read) (λ _. ⊥) → IfStore (walked read) P
no_fault_on read P none = IfStore-map (walked read) (λ fault no. absurd no) none
