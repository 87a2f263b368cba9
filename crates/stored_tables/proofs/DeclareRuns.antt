-- An index declared behind what was looked up.
use Rattle.std.proofs.Common.{◌≡◌, ℕ, ◌<◌, Bool, true, false, List, Option, None, Some, Result, Ok, sym, ap, subst, ◌∙◌, arith}
use Rattle.plain_data.specs.State.{State, Agrees}
use Rattle.record_store.specs.Meaning.{Meaning, after_write, with_value}
use Rattle.record_store.specs.Walks.{OnlyReads, ReadsGrow}
use Rattle.record_store.specs.Writes.{WritesAtMost}
use Rattle.record_store.specs.declared.walk.Walk.{Walk}
use Rattle.record_store.proofs.Agreement.{writes_same, written_after}
use Rattle.record_store.proofs.Writes.{writes-none, writes-one, writes-weaken}
use Rattle.replay_model.specs.Input.{IsColumn}
use Rattle.stored_tables.specs.Answers.{Held, Stands, IsIndexed}
use Rattle.stored_tables.specs.Declare.{Declares, TellsRows}
use Rattle.stored_tables.specs.Places.{head_of, table_limit}
use Rattle.stored_tables.specs.Runs.{Looks}
use Rattle.stored_tables.specs.Shape.{head_words}
use Rattle.stored_tables.specs.Tables.{EachTables}
use Rattle.stored_tables.proofs.Declaring.{declared}
use Rattle.stored_tables.proofs.Finding.{stands_on}
use Rattle.stored_tables.proofs.RowSteps.{WroteOne}
use Rattle.stored_tables.proofs.Runs.{looks_then}

-- no index, and whether there are rows
abbrev pub Unindexed : ℕ → Bool → State → Held → Type 0
Unindexed table rows state held = IsIndexed table None state held × TellsRows table rows state held

-- what was told of the table before the head is written
pub head_declared : (table column head : ℕ) (words : List ℕ) (first middle last : Meaning) → table < table_limit → IsColumn column
    → head ≡ head_of table → words ≡ head_words column → OnlyReads first middle → last ≡ after_write middle head (Some words)
    → ((state : State) (held : Held) → Agrees state middle.reads → Stands first state held → Unindexed table false state held)
    → EachTables first last (λ state places tables. Declares table column last true state (places, tables))
head_declared table column head words first middle last low is_column at same only wrote told = λ state places tables agrees stands.
    let A : List (ℕ × Option (List ℕ)) → Type 0 = Agrees state in
    let bare = told state (places, tables) (subst A (ap (λ (m : Meaning). m.reads) wrote) agrees) stands in
    let one : WroteOne middle last head (Some (head_words column)) = record {
      writes = ap (λ (m : Meaning). m.writes) wrote ∙ ap (λ ws. with_value middle.writes head (Some ws)) same;
      size = ap (λ (m : Meaning). m.size) wrote;
    } in
    declared table column head middle last state (places, tables) low is_column at one
    (stands_on first middle state (places, tables) only stands) bare.1 bare.0

module _ {S F : Type 0} {read_gives : S → ℕ → Result (Option (List ℕ)) F → S → Type 0} {meaning : S → Meaning} where
  pub index_then_rows : (table : ℕ) (first middle last : S) (early : Result (Option ℕ) (Walk F)) (result : Result Bool (Walk F))
      → Looks read_gives meaning (Stands (meaning first)) (IsIndexed table) first middle early → early ≡ Ok None
      → Looks read_gives meaning (Stands (meaning middle)) (TellsRows table) middle last result
      → Looks read_gives meaning (Stands (meaning first)) (Unindexed table) first last result
  index_then_rows table first middle last early result a was b =
      looks_then (Unindexed table) first middle last early None result a was b
      (λ state held agrees stands indexed. (
        held,
        stands_on (meaning first) (meaning middle) state held a.by.only
            stands,
        λ rows tells. (indexed, tells),
      ))

pub reads_few : (first last : Meaning) → OnlyReads first last → WritesAtMost 1 first last
reads_few first last only = writes-weaken 0 1 first last (omega arith) (writes-none first last (writes_same first last only))

pub write_few : (first middle last : Meaning) (rid : ℕ) (value : Option (List ℕ)) → OnlyReads first middle
    → last ≡ after_write middle rid value → WritesAtMost 1 first last
write_few first middle last rid value only wrote = writes-one first last rid value
    (written_after first middle last rid value only wrote).writes

pub write_grows : (first middle last : Meaning) (rid : ℕ) (value : Option (List ℕ)) → OnlyReads first middle
    → last ≡ after_write middle rid value → ReadsGrow first last
write_grows first middle last rid value only wrote = (written_after first middle last rid value only wrote).grow

pub same_only : (first middle last : Meaning) → OnlyReads first middle → last ≡ middle → OnlyReads first last
same_only first middle last only same = let P : Meaning → Type 0 = λ m. OnlyReads first m in subst P (sym same) only
