-- What a run of a block promises.
use Rattle.std.specs.Prelude.{◌≡◌, ℕ, ◌*◌, ◌<◌, List, length, Option, Result, Ok, Err, OnErr, ⊤}
use Rattle.plain_data.specs.State.{State}
use Rattle.record_store.specs.Calls.{Calls}
use Rattle.record_store.specs.Meaning.{Meaning, after_undo}
use Rattle.record_store.specs.Writes.{WritesAtMost, WritesKnown, GivesAtMost}
use Rattle.record_store.specs.declared.walk.Walk.{Walk}
use Rattle.replay_model.specs.declared.command.Command.{Command}
use Rattle.replay_model.specs.declared.outcome.Answer.{Answer}
use Rattle.replay_model.specs.declared.outcome.Outcome.{Outcome}
use Rattle.replay_model.specs.declared.outcome.Outcome.TheVariants.{Done, Refused}
use Rattle.replay_model.specs.Running.{run_from, tables_after}
use Rattle.replay_model.specs.TableMap.{TableMap}
use Rattle.stored_tables.specs.Answers.{Held, Becomes}
use Rattle.stored_tables.specs.Places.{Places}
use Rattle.stored_tables.specs.Plan.{MayAsk, run_plan}
use Rattle.stored_tables.specs.Tables.{EachTables}

-- the writes leave the tables after the block, at places to which so many asks led
abbrev pub LeavesTables : List Command → Meaning → ℕ → State → Places → TableMap → Type 0
LeavesTables commands now asked state places tables = Becomes (run_plan commands tables) (tables_after commands tables) now asked state
    (places, tables)

abbrev pub IfDone : {F : Type 0} → Result Outcome (Walk F) → Type 0 → Type 0
IfDone (Ok (Done answers)) P = P
IfDone (Ok (Refused command cause)) P = ⊤
IfDone (Err walk) P = ⊤

abbrev pub IfRefused : {F : Type 0} → Result Outcome (Walk F) → Type 0 → Type 0
IfRefused (Ok (Done answers)) P = ⊤
IfRefused (Ok (Refused command cause)) P = P
IfRefused (Err walk) P = ⊤

-- The calls that a block made on its store, up to the store `before`, and how often it asked for a new record. A block that is done
-- left its tables, a refused one was undone, and any other answer came at once. Up to there it was given no more records than it asked for;
-- and it wrote at most 128 records for each command, and only such as are never given out, are present in the state, or were given.
pub record Called {S F : Type 0} (read_gives : S → ℕ → Result (Option (List ℕ)) F → S → Type 0) (write_gives : S → ℕ → Option (List ℕ)
    → Result (Unit {0}) F → S → Type 0) (fresh_gives : S → Result ℕ F → S → Type 0) (meaning : S → Meaning) (commands : List Command)
    (first last : S) (result : Result Outcome (Walk F)) : Type 0 where
  pub before : S
  pub asked : ℕ
  pub calls : Calls read_gives write_gives fresh_gives first asked before
  pub may : 0 < asked → EachTables (meaning first) (meaning last) (λ _ places tables. MayAsk (run_plan commands tables) places asked)
  pub few : WritesAtMost (128 * length commands) (meaning first) (meaning before)
  pub given : GivesAtMost asked (meaning first) (meaning before)
  pub writes : EachTables (meaning first) (meaning last) (λ state _ _. WritesKnown (meaning first) (meaning before) state)
  pub done : IfDone result ((meaning last ≡ meaning before) × EachTables (meaning first) (meaning last)
      (LeavesTables commands (meaning last) asked))
  pub refused : IfRefused result (meaning last ≡ after_undo (meaning before))
  pub otherwise : OnErr result (meaning last ≡ meaning before)

-- the commands so far answered so, and left tables
abbrev pub Left : List Command → List Answer → Meaning → ℕ → State → Held → Type 0
Left commands answers now asked state held = (tables : TableMap) × (run_from 1 commands held.1 ≡ Ok (answers, tables))
    × Becomes (run_plan commands held.1) tables now asked state held

-- all of them ran, or one was refused; nothing is taken back
abbrev pub RanTo : List Command → Meaning → Outcome → ℕ → State → Held → Type 0
RanTo commands now (Done answers) asked state held = Left commands answers now asked state held
RanTo commands now (Refused command cause) asked state held = run_from 1 commands held.1 ≡ Err (command, cause)

-- the same of commands that read alone
abbrev pub Saw : List Command → List Answer → State → Held → Type 0
Saw commands answers state held = run_from 1 commands held.1 ≡ Ok (answers, held.1)

abbrev pub SawTo : List Command → Outcome → State → Held → Type 0
SawTo commands (Done answers) state held = Saw commands answers state held
SawTo commands (Refused command cause) state held = run_from 1 commands held.1 ≡ Err (command, cause)
