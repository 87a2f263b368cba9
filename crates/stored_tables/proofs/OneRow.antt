-- A row that is read, set or taken out by itself.
use Rattle.std.proofs.Common.{◌≡◌, ℕ, Bool, true, false, Option, None, Some, Result, Ok, Err, refl, sym, ap, subst}
use Rattle.std.specs.Prelude.{IsSome, is_some, if◌then◌else◌}
use Rattle.plain_data.specs.State.{State}
use Rattle.record_store.specs.Meaning.{Meaning}
use Rattle.replay_model.specs.declared.command.Command.TheVariants.{Put, Del}
use Rattle.replay_model.specs.declared.outcome.Answer.{Answer}
use Rattle.replay_model.specs.declared.outcome.Answer.TheVariants.{Nothing}
use Rattle.replay_model.specs.declared.outcome.Cause.{Cause}
use Rattle.replay_model.specs.declared.outcome.Cause.TheVariants.{Missing}
use Rattle.replay_model.specs.TableMap.{TableMap, Row, value_at, with_value, without}
use Rattle.stored_tables.specs.Answers.{Held, Becomes, Does, IsFound, IsIndexed}
use Rattle.stored_tables.specs.Plan.{plan}
use Rattle.stored_tables.specs.OneRow.{IsRowAt, SetsRow, TakesOut, TakesRow}
use Rattle.stored_tables.specs.declared.leaving.Taken.{Taken}
use Rattle.stored_tables.specs.declared.reading.Found.{Found}
use Rattle.stored_tables.proofs.Commands.{del_missing}

-- ---- the row alone

pub found_alone : (table key : ℕ) (found : Option Found) (at : Found) (state : State) (held : Held) → found ≡ Some at
    → IsFound table key found state held → IsRowAt table key (Some at.row) state held
found_alone table key found at state held is there = let f = rw is at there in sym f.1

pub none_alone : (table key : ℕ) (found : Option Found) (state : State) (held : Held) → found ≡ None
    → IsFound table key found state held → IsRowAt table key None state held
none_alone table key found state held is there = let f = rw is at there in sym f.1

-- the tables of an effect that is known to be one
abbrev tables_of : TableMap → Result (Answer × TableMap) Cause → TableMap
tables_of other (Ok step) = step.1
tables_of other (Err cause) = other

-- ---- set

becomes_these : (table key : ℕ) (row : Row) (now : Meaning) (asked : ℕ) (state : State) (held : Held) (tables : TableMap)
    → with_value held.1 table key row ≡ tables → Becomes (plan (Put table key row) held.1) tables now asked state held
    → SetsRow table key row now asked state held
becomes_these table key row now asked state held tables same becomes =
    let P : TableMap → Type 0 = λ t. Becomes (plan (Put table key row) held.1) t now asked state held in
    subst P (sym same) becomes

-- a put is answered
pub row_set_by : (table key : ℕ) (row : Row) (now : Meaning) (ran : Result Answer Cause) (asked : ℕ) (state : State) (held : Held)
    → Does (Put table key row) now ran asked state held → SetsRow table key row now asked state held
row_set_by table key row now (Ok answer) asked state held did =
    let same : with_value held.1 table key row ≡ did.0 = ap (tables_of did.0) did.1 in
    becomes_these table key row now asked state held did.0 same did.2
row_set_by table key row now (Err cause) asked state held did = cc

-- ---- taken out

-- what taking a row out comes to, by the row that is there
abbrev taken_step : TableMap → ℕ → ℕ → Option Row → Result (Answer × TableMap) Cause
taken_step tables table key found = if is_some found then Ok (Nothing, without tables table key) else Err Missing

took : (tables after : TableMap) (table key : ℕ) (found : Option Row) → taken_step tables table key found ≡ Ok (Nothing, after)
    → IsSome found × (without tables table key ≡ after)
took tables after table key None is = cc
took tables after table key (Some row) is = (refl, ap (tables_of after) is)

pub row_taken_by : (table key : ℕ) (now : Meaning) (asked : ℕ) (state : State) (held : Held)
    → Does (Del table key) now (Ok Nothing) asked state held → TakesRow table key now true asked state held
row_taken_by table key now asked state held did =
    let both = took held.1 did.0 table key (value_at held.1 table key) did.1 in
    let P : TableMap → Type 0 = λ t. Becomes (plan (Del table key) held.1) t now asked state held in
    (both.0, subst P (sym both.1) did.2)

-- told of what was there
pub taken_out : (table key : ℕ) (now : Meaning) (taken : Taken) (rid asked : ℕ) (state : State) (held : Held)
    → Does (Del table key) now (Ok Nothing) asked state held → IsIndexed table taken.index state held × ((held.0.row_at table key ≡ Some rid) × (value_at held.1 table key ≡ Some taken.row))
    → TakesOut table key now (Some taken) asked state held
taken_out table key now taken rid asked state held did known = (row_taken_by table key now asked state held did, known.1.1, known.0)

-- and whether there was one
pub out_taken : (table key : ℕ) (now : Meaning) (taken : Option Taken) (asked : ℕ) (state : State) (held : Held)
    → TakesOut table key now taken asked state held → TakesRow table key now (is_some taken) asked state held
out_taken table key now None asked state held out = out
out_taken table key now (Some taken) asked state held out = out.0

pub told_as : (table key : ℕ) (now : Meaning) (taken : Option Taken) (there : Bool) (asked : ℕ) (state : State) (held : Held)
    → is_some taken ≡ there → TakesOut table key now taken asked state held → TakesRow table key now there asked state held
told_as table key now taken there asked state held is out =
    let P : Bool → Type 0 = λ b. TakesRow table key now b asked state held in
    subst P is (out_taken table key now taken asked state held out)

gone : (tables : TableMap) (table key : ℕ) (found : Option Row) → IsSome found
    → taken_step tables table key found ≡ Ok (Nothing, without tables table key)
gone tables table key None some = cc
gone tables table key (Some row) some = refl

pub taken_does : (table key : ℕ) (now : Meaning) (asked : ℕ) (state : State) (held : Held) → TakesRow table key now true asked state held
    → Does (Del table key) now (Ok Nothing) asked state held
taken_does table key now asked state held taken = (
  without held.1 table key,
  gone held.1 table key (value_at held.1 table key) taken.0,
  taken.1,
)

pub missing_does : (table key : ℕ) (now : Meaning) (asked : ℕ) (state : State) (held : Held)
    → TakesRow table key now false asked state held → Does (Del table key) now (Err Missing) asked state held
missing_does table key now asked state held taken = del_missing held.1 table key taken.0
