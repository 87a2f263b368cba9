-- A row that is read, changed and written, as one run.
use Rattle.std.proofs.Common.{◌≡◌, ℕ, ◌+◌, List, Option, None, Some, Result, Ok, Err, refl, sym, ap, subst, arith}
use Rattle.std.specs.Prelude.{IfOk, IsErrAnd, option_map}
use Rattle.record_store.specs.Calls.{Reads, ReadFault}
use Rattle.record_store.specs.Meaning.{Meaning}
use Rattle.record_store.specs.Walks.{IfTorn, IfStore, OnlyReads}
use Rattle.record_store.specs.declared.walk.Walk.TheVariants.{Store, Torn, NoMemory}
use Rattle.record_store.proofs.Refusals.{IfTorn-map}
use Rattle.replay_model.specs.TableMap.{Row, value_at}
use Rattle.replay_model.specs.declared.command.Command.TheVariants.{Put}
use Rattle.plain_data.specs.State.{State}
use Rattle.stored_tables.specs.Answers.{DueBy, Held, Stands}
use Rattle.stored_tables.specs.OneRow.{SetsRow}
use Rattle.stored_tables.specs.Plan.{plan}
use Rattle.stored_tables.specs.Runs.{Looks, Runs}
use Rattle.stored_tables.specs.Tables.{EachTables}
use Rattle.stored_tables.proofs.Finding.{stands_on}
use Rattle.stored_tables.proofs.Runs.{looks_moved, looks_runs, looks_value, runs_moved, runs_then}
use Rattle.typed_tables.specs.declared.fault.TypedFault.{TypedFault}
use Rattle.typed_tables.specs.declared.fault.TypedFault.TheVariants.{Walk, Foreign}
use Rattle.typed_tables.specs.Typed.{DueByChange, IfForeign, SetsTyped, UpdatesTyped, walked}

-- a typed get's answer, as that of the walk under it: the columns of the row that stands there, or nothing is said where it is foreign
abbrev pub Has : {R : Type 0} → (R → Row) → ℕ → ℕ → Option (Option R) → State → Held → Type 0
Has columns_of table key None state held = Unit {0}
Has columns_of table key (Some row) state held = value_at held.1 table key ≡ option_map columns_of row

-- a refusal that is handed on
pub same_refusal : {T E : Type 0} (result : Result T E) (fault : E) → IsErrAnd result (λ e. e ≡ fault) → result ≡ Err fault
same_refusal (Ok value) fault is = absurd is
same_refusal (Err other) fault is = ap (λ e. Err e) is

-- which record was torn stays what it is where the value would have another type
pub torn_on : {T V F : Type 0} (result : Result T (TypedFault F)) (other : Result V (TypedFault F)) (fault : TypedFault F) (P : ℕ → Type 0) → other ≡ Err fault
    → result ≡ Err fault → IfTorn (walked other) P → IfTorn (walked result) P
torn_on result other (Foreign key columns) P was is torn = rw is tt
torn_on result other (Walk (Store fault)) P was is torn = rw is tt
torn_on result other (Walk (Torn rid)) P was is torn = let at_rid : P rid = rw was at torn in rw is at_rid
torn_on result other (Walk NoMemory) P was is torn = rw is tt

-- so many asks, behind none
as_many : (P : ℕ → Type 0) (before asks : ℕ) → before ≡ 0 → P asks → P (before + asks)
as_many P before asks none holds = let same : asks ≡ before + asks = omega (arith, none) in subst P same holds

-- the put that was made of the change, by its answer
abbrev pub Wrote : {R : Type 0} → (R → Row) → (R → R → Type 0) → ℕ → ℕ → R → Meaning → Option (Unit {0}) → ℕ → State → Held → Type 0
Wrote columns_of changes table key changed now None asked state held = ⊥
Wrote columns_of changes table key changed now (Some done) asked state held = UpdatesTyped columns_of changes table key now (Some (Some changed)) asked state held

wrote : {R : Type 0} (columns_of : R → Row) (changes : R → R → Type 0) (table key : ℕ) (row changed : R) (now : Meaning) (done : Option (Unit {0}))
    (state : State) (held : Held) → changes row changed → value_at held.1 table key ≡ Some (columns_of row) → (before asked : ℕ) → before ≡ 0
    → SetsTyped table key (columns_of changed) now done asked state held → Wrote columns_of changes table key changed now done (before + asked) state held
wrote columns_of changes table key row changed now None state held made has before asked none set = absurd set
wrote columns_of changes table key row changed now (Some done) state held made has before asked none set =
    (row, made, has, as_many (λ n. SetsRow table key (columns_of changed) now n state held) before asked none set)

module _ {S F : Type 0} {read_gives : S → ℕ → Result (Option (List ℕ)) F → S → Type 0} {meaning : S → Meaning} where
  -- a typed get is a part that reads alone
  pub typed_looks : {R : Type 0} (columns_of : R → Row) (table key : ℕ) (first last : S) (got : Result (Option R) (TypedFault F))
      → IfOk got (λ row. EachTables (meaning first) (meaning last) (λ _ _ tables. value_at tables table key ≡ option_map columns_of row))
      → IfTorn (walked got) (λ _. EachTables (meaning first) (meaning last) (λ _ _ _. ⊥)) → IfStore (walked got) (ReadFault read_gives first last)
      → Reads read_gives first last → OnlyReads (meaning first) (meaning last)
      → Looks read_gives meaning (Stands (meaning first)) (Has columns_of table key) first last (walked got)
  typed_looks columns_of table key first last (Ok row) columns torn fault calls only = record {
    by = record { calls = calls; fault = fault; only = only };
    found = λ state held agrees stands. columns state held.0 held.1 agrees stands;
    torn = tt;
  }
  typed_looks {R} columns_of table key first last (Err (Walk walk)) columns torn fault calls only = record {
    by = record { calls = calls; fault = fault; only = only };
    found = tt;
    torn = IfTorn-map (walked {T = Option R} (Err (Walk walk))) (λ rid none state held agrees stands. none state held.0 held.1 agrees stands) torn;
  }
  typed_looks columns_of table key first last (Err (Foreign at columns)) never torn fault calls only = record {
    by = record { calls = calls; fault = fault; only = only };
    found = λ state held agrees stands. tt;
    torn = tt;
  }

  -- what it found is all that comes of the run, unless it is a row
  stays : {R : Type 0} (columns_of : R → Row) (changes : R → R → Type 0) (table key : ℕ) (first last : S)
      (got : Result (Option R) (TypedFault F)) → ((row : R) → got ≡ Ok (Some row) → ⊥)
      → Looks read_gives meaning (Stands (meaning first)) (Has columns_of table key) first last (walked got)
      → Looks read_gives meaning (Stands (meaning first)) (λ value. UpdatesTyped columns_of changes table key (meaning last) value 0) first last (walked got)
  stays columns_of changes table key first last (Ok (Some row)) none looks = absurd (none row refl)
  stays columns_of changes table key first last (Ok None) none looks =
      looks_value _ first last _ (Some None) (Some None) looks refl
      (λ state held agrees stands has. (has, refl, stands_on (meaning first) (meaning last) state held looks.by.only stands))
  stays columns_of changes table key first last (Err (Walk walk)) none looks = looks_moved _ first last _ _ walk looks refl refl
  stays columns_of changes table key first last (Err (Foreign at columns)) none looks =
      looks_value _ first last _ None None looks refl
      (λ state held agrees stands has. (refl, stands_on (meaning first) (meaning last) state held looks.by.only stands))

module _ {S F : Type 0} {read_gives : S → ℕ → Result (Option (List ℕ)) F → S → Type 0} {write_gives : S → ℕ → Option (List ℕ)
    → Result (Unit {0}) F → S → Type 0} {fresh_gives : S → Result ℕ F → S → Type 0} {meaning : S → Meaning} where
  -- where no row was found there is no more of the run
  pub nothing_changed : {R : Type 0} (columns_of : R → Row) (changes : R → R → Type 0) (table key : ℕ) (first last : S)
      (got result : Result (Option R) (TypedFault F)) → result ≡ got → ((row : R) → got ≡ Ok (Some row) → ⊥)
      → Looks read_gives meaning (Stands (meaning first)) (Has columns_of table key) first last (walked got)
      → Runs read_gives write_gives fresh_gives meaning (Stands (meaning first)) (DueByChange columns_of changes table key)
      (UpdatesTyped columns_of changes table key (meaning last)) 128 first last (walked result)
  nothing_changed {R} columns_of changes table key first last got result same none looks =
      let P : Result (Option R) (TypedFault F) → Type 0 = λ r. Runs read_gives write_gives fresh_gives meaning (Stands (meaning first))
      (DueByChange columns_of changes table key) (UpdatesTyped columns_of changes table key (meaning last)) 128 first last (walked r) in
      subst P (sym same)
      (looks_runs (DueByChange columns_of changes table key) (UpdatesTyped columns_of changes table key (meaning last)) 128 first last (walked got)
      (stays columns_of changes table key first last got none looks) (λ value state held agrees stands did. did))

  -- what a put makes of the row that was read
  pub put_behind : {R : Type 0} (columns_of : R → Row) (changes : R → R → Type 0) (table key : ℕ) (row changed : R) (first middle last : S)
      (got : Result (Option R) (TypedFault F)) (put : Result (Unit {0}) (TypedFault F)) → got ≡ Ok (Some row) → changes row changed
      → Looks read_gives meaning (Stands (meaning first)) (Has columns_of table key) first middle (walked got)
      → Runs read_gives write_gives fresh_gives meaning (Stands (meaning middle)) (DueBy (plan (Put table key (columns_of changed))))
      (SetsTyped table key (columns_of changed) (meaning last)) 128 middle last (walked put)
      → Runs read_gives write_gives fresh_gives meaning (Stands (meaning first)) (DueByChange columns_of changes table key)
      (Wrote columns_of changes table key changed (meaning last)) 128 first last (walked put)
  put_behind {R} columns_of changes table key row changed first middle last got put was made looks b =
      let Read : Option (Option R) → ℕ → State → Held → Type 0 = λ v asked state held. (asked ≡ 0) × Has columns_of table key v state held in
      runs_then (Wrote columns_of changes table key changed (meaning last)) 0 128 first middle last (walked got) (Some (Some row)) (walked put)
      (looks_runs (DueByChange columns_of changes table key) Read 0 first middle (walked got) looks (λ value state held agrees stands has. (refl, has)))
      (ap walked was) b
      (λ before state held agrees stands read. (
        held,
        stands_on (meaning first) (meaning middle) state held looks.by.only stands,
        λ asks due. (row, changed, made, read.1, as_many (λ n. DueBy (plan (Put table key (columns_of changed))) n state held) before asks read.0 due),
        λ done asked did. wrote columns_of changes table key row changed (meaning last) done state held made read.1 before asked read.0 did,
      ))

  -- it was refused
  pub put_refused : {R : Type 0} (columns_of : R → Row) (changes : R → R → Type 0) (table key : ℕ) (changed : R) (first last : S)
      (put : Result (Unit {0}) (TypedFault F)) (fault : TypedFault F) → put ≡ Err fault → IfForeign put (λ _ _. ⊥)
      → Runs read_gives write_gives fresh_gives meaning (Stands (meaning first)) (DueByChange columns_of changes table key)
      (Wrote columns_of changes table key changed (meaning last)) 128 first last (walked put)
      → Runs read_gives write_gives fresh_gives meaning (Stands (meaning first)) (DueByChange columns_of changes table key)
      (UpdatesTyped columns_of changes table key (meaning last)) 128 first last (walked {T = Option R} (Err fault))
  put_refused columns_of changes table key changed first last put (Walk walk) was never r =
      runs_moved (UpdatesTyped columns_of changes table key (meaning last)) 128 128 (omega arith) first last _ (walked put) walk r (ap walked was) refl
  put_refused columns_of changes table key changed first last put (Foreign at columns) was never r =
      let P : Result (Unit {0}) (TypedFault F) → Type 0 = λ p. IfForeign p (λ _ _. ⊥) in
      absurd (subst P was never)
