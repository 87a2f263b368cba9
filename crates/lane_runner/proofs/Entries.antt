-- What a block that ran over a transaction says of the states that stand for tables.
use Rattle.std.proofs.Common.{◌≡◌, ℕ, ◌<◌, ◌≤◌, List, [], ◌∷◌, Option, Result, Ok, Err, refl, sym, ap, subst}
use Rattle.std.specs.Prelude.{All, IfSome}
use Rattle.std.proofs.lemmas.List.Elements.{All-head, All-contains, Contains-push}
use Rattle.plain_data.specs.declared.entry.Entry.{Entry}
use Rattle.plain_data.specs.State.{State, IsEntry, Agrees, Fits, overlay}
use Rattle.record_store.specs.Limits.{record_limit}
use Rattle.record_store.specs.Meaning.{Meaning}
use Rattle.record_store.specs.Walks.{ReadsGrow}
use Rattle.replay_model.specs.declared.command.Command.{Command}
use Rattle.replay_model.specs.declared.outcome.Cause.{Cause}
use Rattle.replay_model.specs.declared.outcome.Answer.{Answer}
use Rattle.replay_model.specs.declared.outcome.Outcome.{Outcome}
use Rattle.replay_model.specs.declared.outcome.Outcome.TheVariants.{Done, Refused}
use Rattle.replay_model.specs.declared.outcome.Placed.{Placed}
use Rattle.replay_model.specs.Running.{outcome_of, outcome_from, tables_after, tables_from, run_from}
use Rattle.replay_model.specs.TableMap.{TableMap}
use Rattle.history_replay.specs.Results.{IsEntryOf}
use Rattle.stored_tables.specs.Blocks.{Called}
use Rattle.stored_tables.specs.Kept.{KeepsTables}
use Rattle.stored_tables.specs.Laws.{FitsRecords, FitsMore}
use Rattle.stored_tables.specs.Places.{Places}
use Rattle.stored_tables.specs.Tables.{StandsFor, EachTables}
use Rattle.seat_post.specs.Ends.{Stood}
use Rattle.seat_post.specs.FirstRead.{first_record}
use Rattle.lane_runner.specs.Rows.{stands}

-- with these reads and writes, from each state that agrees with the reads and stands for tables
pub record HasRun (records : ℕ) (commands : List Command) (outcome : Outcome) (reads writes : List (ℕ × Option (List ℕ))) : Type 0 where
  pub answers : (state : State) (places : Places) (tables : TableMap) → Agrees state reads → StandsFor records state places tables → outcome ≡ outcome_of commands tables
  pub leaves : (state : State) (places : Places) (tables : TableMap) → Agrees state reads → StandsFor records state places tables → (after : Places) × StandsFor records (overlay writes state) after (tables_after commands tables)

-- a refused block leaves the tables
pub refused_stays : (commands : List Command) (command : ℕ) (cause : Cause) (tables : TableMap) → Refused command cause ≡ outcome_of commands tables → tables_after commands tables ≡ tables
refused_stays commands command cause tables is = by_run (run_from 1 commands tables) is where
  by_run : (run : Result (List Answer × TableMap) (ℕ × Cause)) → Refused command cause ≡ outcome_from run → tables_from tables run ≡ tables
  by_run (Ok run) is = cc
  by_run (Err refusal) is = refl

-- what holds of a state holds of it with no writes laid over it
pub with_none : (size : ℕ) (writes : List (ℕ × Option (List ℕ))) (state : State) (places : Places) (tables : TableMap) → writes ≡ []
    → StandsFor size state places tables → StandsFor size (overlay writes state) places tables
with_none size writes state places tables none holds = subst (λ (ws : List (ℕ × Option (List ℕ))). StandsFor size (overlay ws state) places tables) (sym none) holds

module _ {S F : Type 0} (read_gives : S → ℕ → Result (Option (List ℕ)) F → S → Type 0) (write_gives : S → ℕ → Option (List ℕ) → Result (Unit {0}) F → S → Type 0)
    (fresh_gives : S → Result ℕ F → S → Type 0) (meaning : S → Meaning) (commands : List Command) (first last : S) where
  -- a block that ran over a store without writes
  pub has_run : (outcome : Outcome) → EachTables (meaning first) (meaning last) (λ _ _ tables. outcome ≡ outcome_of commands tables)
      → Called read_gives write_gives fresh_gives meaning commands first last (Ok outcome) → ReadsGrow (meaning first) (meaning last) → (meaning first).writes ≡ []
      → HasRun (meaning first).size commands outcome (meaning last).reads (meaning last).writes
  has_run (Done answers) told called grow none = record {
    answers = λ state places tables agrees holds. told state places tables agrees (with_none _ _ state places tables none holds);
    leaves = λ state places tables agrees holds.
        let left = called.done.1 state places tables agrees (with_none _ _ state places tables none holds) in
        (left.0, subst (λ (size : ℕ). StandsFor size (overlay (meaning last).writes state) left.0 (tables_after commands tables)) grow.size left.1);
  }
  has_run (Refused command cause) told called grow none = record {
    answers = λ state places tables agrees holds. told state places tables agrees (with_none _ _ state places tables none holds);
    leaves = λ state places tables agrees holds.
        let stays = refused_stays commands command cause tables (told state places tables agrees (with_none _ _ state places tables none holds)) in
        let here = with_none (meaning first).size (meaning last).writes state places tables (ap (λ (m : Meaning). m.writes) called.refused) holds in
        (places, subst (λ (after : TableMap). StandsFor (meaning first).size (overlay (meaning last).writes state) places after) (sym stays) here);
  }

-- its entry leaves kept states
pub fits_run : (kept : State → Type 0) (records : ℕ) (commands : List Command) (outcome : Outcome) (entry : Entry) → KeepsTables kept → records ≤ record_limit → HasRun records commands outcome entry.reads entry.writes → Fits kept records entry
fits_run kept records commands outcome entry keeps few run = λ state is_state is_kept agrees.
    let held = keeps.stands records state is_state is_kept in
    let left = run.leaves state held.1.0 held.0 agrees held.1.1 in
    keeps.keeps records (overlay entry.writes state) few (tables_after commands held.0, left)

-- and is that of the commands
pub is_entry_run : (records : ℕ) (commands : List Command) (outcome : Outcome) (placed : Placed) (entry : Entry) → FitsRecords → FitsMore → records ≤ record_limit → HasRun records commands outcome entry.reads entry.writes → entry.stamp ≡ placed.stamp → entry.snapshot ≡ placed.snap → IsEntryOf stands records commands placed outcome entry
is_entry_run records commands outcome placed entry fits more few run stamp kind = record {
  stamp = stamp;
  kind = kind;
  answers = λ state tables is_state holds agrees. run.answers state holds.0 tables agrees (fits record_limit records state holds.0 tables is_state holds.1);
  writes = λ commit state tables is_state holds agrees.
      let left = run.leaves state holds.0 tables agrees (fits record_limit records state holds.0 tables is_state holds.1) in
      (left.0, more records record_limit (overlay entry.writes state) left.0 (tables_after commands tables) few left.1);
}

-- an entry without writes leaves kept states
pub fits_none : (kept : State → Type 0) (records : ℕ) (entry : Entry) → entry.writes ≡ [] → Fits kept records entry
fits_none kept records entry none = λ state is_state is_kept agrees. subst (λ (writes : List (ℕ × Option (List ℕ))). kept (overlay writes state)) (sym none) is_kept

-- where no state that stands for tables agrees with what was read, no entry of these reads stood
pub never_stood : (kept : State → Type 0) (records : ℕ) (log : List Entry) (entry : Entry) → KeepsTables kept → Stood kept records log entry → ((state : State) (places : Places) (tables : TableMap) → Agrees state entry.reads → StandsFor records state places tables → ⊥) → ⊥
never_stood kept records log entry keeps stood torn =
    let held = keeps.stands records stood.state stood.left.is_state stood.left.is_kept in
    torn stood.state held.1.0 held.0 stood.agrees held.1.1

-- what was read first is a record
first_in : (records : ℕ) (reads : List (ℕ × Option (List ℕ))) → All (λ read. read.0 < records) reads → IfSome (first_record reads) (λ rid. rid < records)
first_in records [] within = tt
first_in records (read ∷ reads) within = All-head (λ (r : ℕ × Option (List ℕ)). r.0 < records) read reads within

pub first_below : (kept : State → Type 0) (records : ℕ) (log : List Entry) (entry : Entry) (first : Option ℕ) → Stood kept records log entry → first ≡ first_record entry.reads → IfSome first (λ rid. rid < records)
first_below kept records log entry first stood is =
    let one : IsEntry records entry = All-contains (IsEntry records) stood.history entry stood.lawful.each (stood.own entry (Contains-push log entry)) in
    rw is (first_in records entry.reads one.reads.in_range)
