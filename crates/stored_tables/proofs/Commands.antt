-- Commands on one row: what is looked up, and then a row that enters, changes or leaves.
use Rattle.std.proofs.Common.{◌≡◌, ℕ, ◌+◌, ◌^◌, ◌<◌, ◌≤◌, cond, List, Option, None, Some, Result, Ok, Err, refl, sym, ap, subst, ◌∙◌, arith, eq-eqb}
use Rattle.std.specs.Prelude.{◌-◌}
use Rattle.std.proofs.lemmas.Bool.Decides.{nat_tests}
use Rattle.plain_data.specs.State.{State}
use Rattle.record_store.specs.Meaning.{Meaning}
use Rattle.record_store.specs.declared.walk.Walk.{Walk}
use Rattle.replay_model.specs.declared.command.Command.{Command}
use Rattle.replay_model.specs.declared.command.Command.TheVariants.{Ins, Del}
use Rattle.replay_model.specs.declared.outcome.Answer.TheVariants.{Nothing}
use Rattle.replay_model.specs.declared.outcome.Cause.{Cause}
use Rattle.replay_model.specs.declared.outcome.Cause.TheVariants.{Exists, Missing, Over, Short}
use Rattle.replay_model.specs.Effect.{effect, change_at, store_at, sum_of, difference_of}
use Rattle.replay_model.specs.TableMap.{TableMap, Row, column_in, with_column, value_at, index_of, with_value, without}
use Rattle.stored_tables.specs.Answers.{Held, Stands, IsIndexed, IsFound, Becomes, Does, DueBy, enter_moves, leave_moves}
use Rattle.stored_tables.specs.declared.reading.Found.{Found}
use Rattle.stored_tables.specs.Change.{changed, command_with}
use Rattle.stored_tables.specs.declared.command.Change.{Change}
use Rattle.stored_tables.specs.declared.command.Change.TheVariants.{Plus, Minus}
use Rattle.stored_tables.specs.Plan.{Move, MayAsk, plan, moves_to, moves_at, moves_entry}
use Rattle.stored_tables.specs.Runs.{Looks, Runs}
use Rattle.stored_tables.proofs.Finding.{stands_on}
use Rattle.stored_tables.proofs.Maps.{with_value_rows, without_rows}
use Rattle.stored_tables.proofs.Runs.{looks_then, looks_runs, runs_then, runs_did}
use Rattle.stored_tables.proofs.Ties.{set_here}

-- ---- plans

row_set : (tables : TableMap) (table key : ℕ) (row : Row) → value_at (with_value tables table key row) table key ≡ Some row
row_set tables table key row = (with_value_rows tables table key row).rows table key
    ∙ set_here table key (Some row) (value_at tables) key ∙ ap (λ b. cond b (Some row) (value_at tables table key)) (eq-eqb key key refl)

row_gone : (tables : TableMap) (table key : ℕ) → value_at (without tables table key) table key ≡ None
row_gone tables table key = (without_rows tables table key).rows table key ∙ set_here table key None (value_at tables) key
    ∙ ap (λ b. cond b None (value_at tables table key)) (eq-eqb key key refl)

pub plan_enters : (tables : TableMap) (table key : ℕ) (index : Option ℕ) (row : Row) → index_of table tables ≡ index
    → value_at tables table key ≡ None → moves_at tables table key (value_at tables table key)
    (value_at (with_value tables table key row) table key) ≡ enter_moves table key index row
plan_enters tables table key index row is none =
    (λ i. moves_at tables table key (none i) (row_set tables table key row i)) ∙ ap (λ o. enter_moves table key o row) is

pub plan_changes : (tables : TableMap) (table key : ℕ) (index : Option ℕ) (old row : Row) → index_of table tables ≡ index
    → value_at tables table key ≡ Some old → moves_at tables table key (value_at tables table key)
    (value_at (with_value tables table key row) table key) ≡ moves_entry table key index old row
plan_changes tables table key index old row is there =
    (λ i. moves_at tables table key (there i) (row_set tables table key row i)) ∙ ap (λ o. moves_entry table key o old row) is

pub plan_leaves : (tables : TableMap) (table key : ℕ) (index : Option ℕ) (old : Row) → index_of table tables ≡ index
    → value_at tables table key ≡ Some old → moves_at tables table key (value_at tables table key)
    (value_at (without tables table key) table key) ≡ leave_moves table key index old
plan_leaves tables table key index old is there =
    (λ i. moves_at tables table key (there i) (row_gone tables table key i)) ∙ ap (λ o. leave_moves table key o old) is

-- ---- effects

pub ins_enters : (tables : TableMap) (table key : ℕ) (row : Row) → value_at tables table key ≡ None
    → effect (Ins table key row) tables ≡ Ok (Nothing, with_value tables table key row)
ins_enters tables table key row none = rw none refl

pub ins_exists : (tables : TableMap) (table key : ℕ) (row old : Row) → value_at tables table key ≡ Some old
    → effect (Ins table key row) tables ≡ Err Exists
ins_exists tables table key row old there = rw there refl

pub del_leaves : (tables : TableMap) (table key : ℕ) (old : Row) → value_at tables table key ≡ Some old
    → effect (Del table key) tables ≡ Ok (Nothing, without tables table key)
del_leaves tables table key old there = rw there refl

pub del_missing : (tables : TableMap) (table key : ℕ) → value_at tables table key ≡ None → effect (Del table key) tables ≡ Err Missing
del_missing tables table key none = rw none refl

pub sum_there : (by value sum : ℕ) → sum ≡ value + by → sum < 2 ^ 64 → sum_of by value ≡ Ok sum
sum_there by value sum is below = grind (arith, nat_tests)

pub sum_over : (by value : ℕ) → 2 ^ 64 ≤ value + by → sum_of by value ≡ Err Over
sum_over by value above = grind (arith, nat_tests)

pub difference_there : (by value rest : ℕ) → by ≤ value → rest ≡ value - by → difference_of by value ≡ Ok rest
difference_there by value rest fits is = grind (arith, nat_tests)

pub difference_short : (by value : ℕ) → value < by → difference_of by value ≡ Err Short
difference_short by value below = grind (arith, nat_tests)

change_is : (tables : TableMap) (table key column : ℕ) (change : ℕ → Result ℕ Cause) (row : Row) (value : ℕ)
    → value_at tables table key ≡ Some row → change (column_in column row) ≡ Ok value → change_at tables table key column change
    (value_at tables table key) ≡ Ok (Nothing, with_value tables table key (with_column column value row))
change_is tables table key column change row value there is = ap (change_at tables table key column change) there
    ∙ ap (store_at tables table key column row) is

change_not : (tables : TableMap) (table key column : ℕ) (change : ℕ → Result ℕ Cause) (row : Row) (cause : Cause)
    → value_at tables table key ≡ Some row → change (column_in column row) ≡ Err cause → change_at tables table key column change
    (value_at tables table key) ≡ Err cause
change_not tables table key column change row cause there is = ap (change_at tables table key column change) there
    ∙ ap (store_at tables table key column row) is

effect_with : (tables : TableMap) (table key column : ℕ) (change : Change) → effect (command_with table key column change) tables
    ≡ change_at tables table key column (changed change) (value_at tables table key)
effect_with tables table key column (Plus by) = refl
effect_with tables table key column (Minus by) = refl

pub plan_with : (tables : TableMap) (table key column : ℕ) (change : Change) → plan (command_with table key column change) tables
    ≡ moves_to tables table key (effect (command_with table key column change) tables)
plan_with tables table key column (Plus by) = refl
plan_with tables table key column (Minus by) = refl

pub column_changes : (tables : TableMap) (table key column value : ℕ) (change : Change) (row : Row) → value_at tables table key ≡ Some row
    → changed change (column_in column row) ≡ Ok value → effect (command_with table key column change) tables ≡ Ok
    (Nothing, with_value tables table key (with_column column value row))
column_changes tables table key column value change row there is = effect_with tables table key column change
    ∙ change_is tables table key column (changed change) row value there is

pub column_refused : (tables : TableMap) (table key column : ℕ) (cause : Cause) (change : Change) (row : Row) → value_at tables table key ≡ Some row
    → changed change (column_in column row) ≡ Err cause → effect (command_with table key column change) tables ≡ Err cause
column_refused tables table key column cause change row there is = effect_with tables table key column change
    ∙ change_not tables table key column (changed change) row cause there is

pub column_missing : (tables : TableMap) (table key column : ℕ) (change : Change) → value_at tables table key ≡ None
    → effect (command_with table key column change) tables ≡ Err Missing
column_missing tables table key column change none = effect_with tables table key column change
    ∙ ap (change_at tables table key column (changed change)) none

-- ---- what was looked up

-- the column of the index, and the row
abbrev pub Known : ℕ → ℕ → Option ℕ → Option Found → State → Held → Type 0
Known table key index found state held = IsIndexed table index state held × IsFound table key found state held

found_at : (table key : ℕ) (a b : Option Found) (state : State) (held : Held) → a ≡ b → IsFound table key a state held
    → IsFound table key b state held
found_at table key a b state held same is = let P : Option Found → Type 0 = λ f. IsFound table key f state held in subst P same is

module _ {S F : Type 0} {read_gives : S → ℕ → Result (Option (List ℕ)) F → S → Type 0} {meaning : S → Meaning} where
  pub index_then_row : (table key : ℕ) (index : Option ℕ) (first middle last : S) (early : Result (Option ℕ) (Walk F))
      (result : Result (Option Found) (Walk F)) → Looks read_gives meaning (Stands (meaning first)) (IsIndexed table) first middle early
      → early ≡ Ok index → Looks read_gives meaning (Stands (meaning middle)) (IsFound table key) middle last result
      → Looks read_gives meaning (Stands (meaning first)) (Known table key index) first last result
  index_then_row table key index first middle last early result a was b =
      looks_then (Known table key index) first middle last early index result a was b
      (λ state held agrees stands indexed. (
        held,
        stands_on (meaning first) (meaning middle) state held a.by.only
            stands,
        λ found is. (indexed, is),
      ))

  pub row_then_index : (table key : ℕ) (found : Option Found) (first middle last : S) (early : Result (Option Found) (Walk F))
      (result : Result (Option ℕ) (Walk F)) → Looks read_gives meaning (Stands (meaning first)) (IsFound table key) first middle early
      → early ≡ Ok found → Looks read_gives meaning (Stands (meaning middle)) (IsIndexed table) middle last result
      → Looks read_gives meaning (Stands (meaning first)) (λ index. Known table key index found) first last result
  row_then_index table key found first middle last early result a was b =
      looks_then (λ index. Known table key index found) first middle last early found result a was b
      (λ state held agrees stands is. (
        held,
        stands_on (meaning first) (meaning middle) state held a.by.only
            stands,
        λ index indexed. (indexed, is),
      ))

ask_as : (command : Command) (held : Held) (moves : List Move) (n m : ℕ) → plan command held.1 ≡ moves → n ≡ m → MayAsk moves held.0 n
    → MayAsk (plan command held.1) held.0 m
ask_as command held moves n m is same may =
    let P : List Move → Type 0 = λ l. MayAsk l held.0 m in
    let Q : ℕ → Type 0 = λ k. MayAsk moves held.0 k in
    subst P (sym is) (subst Q same may)

does_as : (command : Command) (held : Held) (moves : List Move) (tables : TableMap) (now : Meaning) (n m : ℕ) (state : State)
    → plan command held.1 ≡ moves → n ≡ m → Becomes moves tables now n state held → Becomes (plan command held.1) tables now m state held
does_as command held moves tables now n m state is same did =
    let P : List Move → Type 0 = λ l. Becomes l tables now m state held in
    let Q : ℕ → Type 0 = λ k. Becomes moves tables now k state held in
    subst P (sym is) (subst Q same did)

module _ {S F : Type 0} {read_gives : S → ℕ → Result (Option (List ℕ)) F → S → Type 0} {write_gives : S → ℕ → Option (List ℕ)
    → Result (Unit {0}) F → S → Type 0} {fresh_gives : S → Result ℕ F → S → Type 0} {meaning : S → Meaning} where
  -- a command that changes what was looked up
  pub then_command : {T : Type 0} {Found' : T → State → Held → Type 0} {Inner : State → Held → Type 0} (command : Command)
      (moves : List Move) (tables : Held → TableMap) (n most : ℕ) (first middle last : S) (early : Result T (Walk F)) (value : T)
      (result : Result (Unit {0}) (Walk F)) → Looks read_gives meaning (Stands (meaning first)) Found' first middle early
      → early ≡ Ok value → n ≤ most
      → Runs read_gives write_gives fresh_gives meaning Inner (DueBy (λ _. moves)) (λ _ asked state held. Becomes moves (tables held)
      (meaning last) asked state held) n middle last result
      → ((state : State) (held : Held) → Stands (meaning middle) state held → Found' value state held → Inner state held
      × (plan command held.1 ≡ moves) × (effect command held.1 ≡ Ok (Nothing, tables held)))
      → Runs read_gives write_gives fresh_gives meaning (Stands (meaning first)) (DueBy (plan command))
      (λ _. Does command (meaning last) (Ok Nothing)) most first last result
  then_command {T} {Found'} {Inner} command moves tables n most first middle last early value result look was less runs facts =
      let Saw : T → ℕ → State → Held → Type 0 = λ v asked state held. (asked ≡ 0) × Found' v state held in
      runs_did (λ _. Does command (meaning last) (Ok Nothing)) (0 + n) most first last result (omega (arith, less))
      (runs_then (λ _. Does command (meaning last) (Ok Nothing)) 0 n first middle last early value result
      (looks_runs (DueBy (plan command)) Saw 0 first middle early look (λ v state held agrees stands found. (refl, found))) was runs
      (λ before state held agrees stands saw. (
      let fact = facts state held (stands_on (meaning first) (meaning middle) state held look.by.only stands) saw.1 in (
        held,
        fact.0,
        λ asks may. ask_as command held moves asks (before + asks) fact.1 (omega (arith, saw.0)) may,
        λ w asked did. (
          tables held,
          fact.2,
          does_as command held moves (tables held) (meaning last) asked (before + asked) state fact.1
              (omega (arith, saw.0)) did,
        ),
      )
      )))
      (λ value asked state held stands did. did)
