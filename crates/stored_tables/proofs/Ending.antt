-- What a whole block comes to.
use Rattle.std.proofs.Common.{◌≡◌, ℕ, ◌*◌, List, length, Option, Result, Ok, Err, refl, sym, ap, subst}
use Rattle.std.specs.Prelude.{IsErrAnd, IfOk, OnErr}
use Rattle.plain_data.specs.State.{State, Agrees}
use Rattle.record_store.specs.Calls.{CallFault}
use Rattle.record_store.specs.Meaning.{Meaning, after_undo}
use Rattle.record_store.specs.Walks.{IfTorn, IfStore, ReadsGrow}
use Rattle.record_store.specs.Writes.{GivesFewer}
use Rattle.record_store.specs.declared.walk.Walk.{Walk}
use Rattle.record_store.proofs.Refusals.{IfTorn-map, fault_moved}
use Rattle.replay_model.specs.declared.command.Command.{Command}
use Rattle.replay_model.specs.declared.outcome.Answer.{Answer}
use Rattle.replay_model.specs.declared.outcome.Cause.{Cause}
use Rattle.replay_model.specs.declared.outcome.Outcome.{Outcome}
use Rattle.replay_model.specs.declared.outcome.Outcome.TheVariants.{Done, Refused}
use Rattle.replay_model.specs.Running.{run_from, outcome_from, outcome_of, tables_from, tables_after}
use Rattle.replay_model.specs.TableMap.{TableMap}
use Rattle.stored_tables.specs.Answers.{Held, Stands, Becomes, DueBy}
use Rattle.stored_tables.specs.Blocks.{Called, Left, IfDone, IfRefused, LeavesTables, RanTo, SawTo}
use Rattle.stored_tables.specs.Places.{Places}
use Rattle.stored_tables.specs.Plan.{MayAsk, run_plan}
use Rattle.stored_tables.specs.Runs.{Runs}
use Rattle.record_store.specs.States.{Each}
use Rattle.stored_tables.specs.Tables.{EachTables}
use Rattle.stored_tables.proofs.Runs.{IfOk-map, ok_of}
use Rattle.record_store.specs.Goes.{GoesByCalls}
use Rattle.record_store.proofs.Going.{by_calls_map}

-- ---- outcomes

pub saw_outcome : (commands : List Command) (outcome : Outcome) (state : State) (held : Held) → SawTo commands outcome state held
    → outcome ≡ outcome_of commands held.1
saw_outcome commands (Done answers) state held saw = ap outcome_from (sym saw)
saw_outcome commands (Refused command cause) state held saw = ap outcome_from (sym saw)

pub ran_outcome : (commands : List Command) (now : Meaning) (outcome : Outcome) (asked : ℕ) (state : State) (held : Held)
    → RanTo commands now outcome asked state held → outcome ≡ outcome_of commands held.1
ran_outcome commands now (Done answers) asked state held ran = ap outcome_from (sym ran.1)
ran_outcome commands now (Refused command cause) asked state held ran = ap outcome_from (sym ran)

pub snap_outcome : {F : Type 0} (commands : List Command) (first last : Meaning) (result : Result Outcome (Walk F))
    → IfOk result (λ outcome. Each (Stands first) last (SawTo commands outcome))
    → IfOk result (λ outcome. EachTables first last (λ _ _ tables. outcome ≡ outcome_of commands tables))
snap_outcome commands first last result found = IfOk-map result (λ outcome each state places tables agrees stands. saw_outcome commands
    outcome state (places, tables) (each state (places, tables) agrees stands)) found

pub looks_torn_tables : {T F : Type 0} (first last : Meaning) (result : Result T (Walk F))
    → IfTorn result (λ _. (state : State) (held : Held) → Agrees state last.reads → Stands first state held → ⊥)
    → IfTorn result (λ _. EachTables first last (λ _ _ _. ⊥))
looks_torn_tables first last result torn = IfTorn-map result (λ rid none state places tables agrees stands. none state
    (places, tables) agrees stands) torn

-- ---- a block that may be undone

pub never_refused : {F : Type 0} (result : Result Outcome (Walk F)) (command : ℕ) (cause : Cause) → result ≡ Ok (Refused command cause)
    → IfRefused result ⊥ → ⊥
never_refused {F} result command cause is none = let P : Result Outcome (Walk F) → Type 0 = λ r. IfRefused r ⊥ in subst P is none

err_done : {F : Type 0} (result : Result Outcome (Walk F)) (walk : Walk F) (P : Type 0) → IsErrAnd result (λ w. w ≡ walk)
    → IfDone result P
err_done (Ok outcome) walk P is = absurd is
err_done (Err w) walk P is = tt

err_refused : {F : Type 0} (result : Result Outcome (Walk F)) (walk : Walk F) (P : Type 0) → IsErrAnd result (λ w. w ≡ walk)
    → IfRefused result P
err_refused (Ok outcome) walk P is = absurd is
err_refused (Err w) walk P is = tt

pub on_err : {T E : Type 0} (result : Result T E) (P : Type 0) → P → OnErr result P
on_err (Ok v) P holds = tt
on_err (Err e) P holds = holds

-- the tables that a block leaves
leaves : (commands : List Command) (answers : List Answer) (now : Meaning) (asked : ℕ) (state : State) (places : Places)
    (tables : TableMap) → Left commands answers now asked state (places, tables) → LeavesTables commands now asked state places tables
leaves commands answers now asked state places tables left =
    let same : tables_after commands tables ≡ left.0 = ap (tables_from tables) left.1 in
    let P : TableMap → Type 0 = λ t. Becomes (run_plan commands tables) t now asked state (places, tables) in
    subst P (sym same) left.2

may_tables : (commands : List Command) (first last : Meaning) (asks : ℕ) → Each (Stands first) last (DueBy (run_plan commands) asks)
    → EachTables first last (λ _ places tables. MayAsk (run_plan commands tables) places asks)
may_tables commands first last asks each = λ state places tables agrees stands. each state (places, tables) agrees stands

-- told of the same reads
may_after : (commands : List Command) (first last now : Meaning) (asks : ℕ) → now.reads ≡ last.reads
    → EachTables first last (λ _ places tables. MayAsk (run_plan commands tables) places asks)
    → EachTables first now (λ _ places tables. MayAsk (run_plan commands tables) places asks)
may_after commands first last now asks same may = λ state places tables agrees stands. (let A : List (ℕ × Option (List ℕ))
    → Type 0 = Agrees state in may state places tables (subst A same agrees) stands)

pub undone_reads : (before now : Meaning) → now ≡ after_undo before → now.reads ≡ before.reads
undone_reads before now is = ap (λ (m : Meaning). m.reads) is

pub undone_grows : (first before now : Meaning) → now ≡ after_undo before → ReadsGrow first before → ReadsGrow first now
undone_grows first before now is grow =
    let P : Meaning → Type 0 = λ m. ReadsGrow first m in
    subst P (sym is) (record { reads = grow.reads; size = grow.size; fixed = grow.fixed })

-- the outcome, once the writes are dropped
pub refused_outcome : (commands : List Command) (first before now : Meaning) (command : ℕ) (cause : Cause) → now ≡ after_undo before
    → Each (Stands first) before (λ (state : State) (held : Held). run_from 1 commands held.1 ≡ Err (command, cause))
    → EachTables first now (λ _ _ tables. Refused command cause ≡ outcome_of commands tables)
refused_outcome commands first before now command cause is each = λ state places tables agrees stands.
    let A : List (ℕ × Option (List ℕ)) → Type 0 = Agrees state in
    ap outcome_from (sym (each state (places, tables) (subst A (undone_reads before now is) agrees) stands))

pub done_outcome : (commands : List Command) (first last : Meaning) (answers : List Answer) (asked : ℕ)
    → Each (Stands first) last (Left commands answers last asked)
    → EachTables first last (λ _ _ tables. Done answers ≡ outcome_of commands tables)
done_outcome commands first last answers asked each = λ state places tables agrees stands. (let left = each state (places, tables) agrees
    stands in ap outcome_from (sym left.1))

pub fault_tables : {S F : Type 0} (read_gives : S → ℕ → Result (Option (List ℕ)) F → S → Type 0) (write_gives : S → ℕ → Option (List ℕ)
    → Result (Unit {0}) F → S → Type 0) (fresh_gives : S → Result ℕ F → S → Type 0) (meaning : S → Meaning) (commands : List Command)
    (asked : ℕ) (first last : S) (result other : Result Outcome (Walk F)) (walk : Walk F) → other ≡ Err walk → IsErrAnd result (λ w. w ≡ walk)
    → GoesByCalls read_gives write_gives fresh_gives meaning (λ asks. Each (Stands (meaning first)) (meaning last)
    (DueBy (run_plan commands) asks)) asked first last other
    → IfStore result (CallFault read_gives write_gives fresh_gives (λ asks. EachTables (meaning first) (meaning last)
    (λ _ places tables. MayAsk (run_plan commands tables) places asks) × GivesFewer asks (meaning first) (meaning last)) first last)
fault_tables read_gives write_gives fresh_gives meaning commands asked first last result other walk was is by =
    fault_moved result other walk _ was is
    (by_calls_map _ asked first last other by (λ asks each. may_tables commands (meaning first) (meaning last) asks each)).fault

module _ {S F : Type 0} {read_gives : S → ℕ → Result (Option (List ℕ)) F → S → Type 0} {write_gives : S → ℕ → Option (List ℕ)
    → Result (Unit {0}) F → S → Type 0} {fresh_gives : S → Result ℕ F → S → Type 0} {meaning : S → Meaning} (commands : List Command)
    (first last : S) where
  pub called_err : (result other : Result Outcome (Walk F)) (walk : Walk F) → Runs read_gives write_gives fresh_gives meaning
      (Stands (meaning first)) (DueBy (run_plan commands)) (RanTo commands (meaning last)) (128 * length commands) first last other
      → IsErrAnd result (λ w. w ≡ walk) → Called read_gives write_gives fresh_gives meaning commands first last result
  called_err result other walk r is = record {
    before = last;
    asked = r.asked;
    calls = r.by.calls;
    may = λ some. may_tables commands (meaning first) (meaning last) r.asked (r.may some);
    few = r.few;
    given = r.by.given;
    writes = λ state places tables agrees stands. r.writes state (places, tables) agrees stands;
    done = err_done result walk _ is;
    refused = err_refused result walk _ is;
    otherwise = on_err result _ refl;
  }

  pub called_done : (answers : List Answer) (other : Result Outcome (Walk F)) → other ≡ Ok (Done answers)
      → Runs read_gives write_gives fresh_gives meaning (Stands (meaning first)) (DueBy (run_plan commands)) (RanTo commands (meaning last))
      (128 * length commands) first last other → Called {F = F} read_gives write_gives fresh_gives meaning commands first last
      (Ok (Done answers))
  called_done answers other was r =
      let left : Each (Stands (meaning first)) (meaning last) (Left commands answers (meaning last) r.asked) = ok_of other
      (λ outcome. Each (Stands (meaning first)) (meaning last) (RanTo commands (meaning last) outcome r.asked))
      (Done answers) was r.did in
      record {
        before = last;
        asked = r.asked;
        calls = r.by.calls;
        may = λ some. may_tables commands (meaning first) (meaning last) r.asked (r.may some);
        few = r.few;
        given = r.by.given;
        writes = λ state places tables agrees stands. r.writes state (places, tables) agrees stands;
        done = (
          refl,
          λ state places tables agrees stands. leaves commands answers (meaning last) r.asked state places tables
              (left state (places, tables) agrees stands),
        );
        refused = tt;
        otherwise = tt;
      }

  pub called_refused : (now : S) (command : ℕ) (cause : Cause) (other : Result Outcome (Walk F)) → other ≡ Ok (Refused command cause)
      → meaning now ≡ after_undo (meaning last) → Runs read_gives write_gives fresh_gives meaning (Stands (meaning first))
      (DueBy (run_plan commands)) (RanTo commands (meaning last)) (128 * length commands) first last other
      → Called {F = F} read_gives write_gives fresh_gives meaning commands first now (Ok (Refused command cause))
  called_refused now command cause other was undone r = record {
    before = last;
    asked = r.asked;
    calls = r.by.calls;
    may = λ some. may_after commands (meaning first) (meaning last) (meaning now) r.asked
        (undone_reads (meaning last) (meaning now) undone) (may_tables commands (meaning first) (meaning last) r.asked (r.may some));
    few = r.few;
    given = r.by.given;
    writes = λ state places tables agrees stands. r.writes state (places, tables)
        (let A : List (ℕ × Option (List ℕ)) → Type 0 = Agrees state in subst A (undone_reads (meaning last) (meaning now) undone) agrees)
        stands;
    done = tt;
    refused = undone;
    otherwise = tt;
  }
