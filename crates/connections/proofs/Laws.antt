-- What a transaction of tables leaves, and what of one that read no lawful tables.
use Rattle.std.proofs.Common.{◌≡◌, ℕ, ◌≤◌, List, [], ◌∷◌, ◌++◌, Option, sym, ap, subst, ◌∙◌}
use Rattle.std.proofs.lemmas.List.Elements.{All-cons, All-head, All-nil, All-tail}
use Rattle.plain_data.specs.State.{State, IsState, Agrees, Fits, overlay}
use Rattle.record_store.specs.Limits.{record_limit}
use Rattle.record_store.specs.Meaning.{Meaning}
use Rattle.record_store.specs.States.{Each}
use Rattle.record_store.specs.Walks.{Extends, OnlyReads, ReadsGrow}
use Rattle.seat_post.specs.Ends.{Stood}
use Rattle.seat_post.specs.declared.phase.Phase.{Phase}
use Rattle.seat_post.specs.declared.phase.Phase.TheVariants.{Open}
use Rattle.stored_tables.specs.Answers.{Held, Stands}
use Rattle.stored_tables.specs.Kept.{KeepsTables, StandsForTables}
use Rattle.stored_tables.specs.Tables.{StandsFor}
use Rattle.txn_engine.specs.Pass.{PassView, entry_of, frame, meaning_of_pass, store_at, store_of}
use Rattle.connections.specs.Connection.{LeavesTables, StandsForRows}
use Rattle.connections.specs.Rows.{IsDoomed}

-- what is said of two passes is said of them by other names
pub at_passes : (Says : PassView → PassView → Type 0) (p p' q q' : PassView) → p' ≡ p → q' ≡ q → Says p' q → Says p q'
at_passes Says p p' q q' here there says = subst (λ (x : PassView). Says x q') here (subst (λ (y : PassView). Says p' y) (sym there) says)

-- where it has written nothing, it leaves what it found
pub leaves_none : (p : PassView) → p.writes ≡ [] → LeavesTables p
leaves_none p none = λ state is_state stands agrees. subst (λ (writes : List (ℕ × Option (List ℕ))). StandsForTables p.shared.size.records (overlay writes state)) (sym none) stands

-- the engine keeps what it leaves
pub fits_rows : (p : PassView) → KeepsTables StandsForRows → p.shared.size.records ≤ record_limit → LeavesTables p → Fits StandsForRows p.shared.size.records (entry_of p)
fits_rows p keeps few leaves = λ state is_state is_kept agrees.
    let records = p.shared.size.records in
    keeps.keeps records (overlay p.writes state) few (leaves state is_state (keeps.stands records state is_state is_kept) agrees)

pub meaning_open : (p : PassView) → p.phase ≡ Open → meaning_of_pass p ≡ store_of p
meaning_open p is_open = ap (λ (phase : Phase). store_at phase p) is_open

agrees_first : (reads more : List (ℕ × Option (List ℕ))) (state : State) → Agrees state (reads ++ more) → Agrees state reads
agrees_first [] more state agrees = All-nil (λ read. state read.0 ≡ read.1)
agrees_first (read ∷ reads) more state agrees =
    All-cons (λ read. state read.0 ≡ read.1) read reads (All-head (λ read. state read.0 ≡ read.1) read (reads ++ more) agrees) (agrees_first reads more state (All-tail (λ read. state read.0 ≡ read.1) read (reads ++ more) agrees))

agrees_before : (before after' : List (ℕ × Option (List ℕ))) (state : State) → Extends before after' → Agrees state after' → Agrees state before
agrees_before before after' state more agrees = agrees_first before more.0 state (subst (λ (reads : List (ℕ × Option (List ℕ))). Agrees state reads) more.1 agrees)

module _ (p q : PassView) (opened : p.phase ≡ Open) (rest : frame q ≡ frame p) (leaves : LeavesTables p) where
  pub still_open : q.phase ≡ Open
  still_open = ap (λ (f : PassView). f.phase) rest ∙ opened

  same_records : q.shared.size.records ≡ p.shared.size.records
  same_records = ap (λ (f : PassView). f.shared.size.records) rest

  -- a lawful state that agrees with what it has read, with its writes so far laid over it
  stood_before : ReadsGrow (meaning_of_pass p) (meaning_of_pass q) → (state : State) → IsState p.shared.size.records state → StandsForTables p.shared.size.records state → Agrees state q.reads
      → (held : Held) × Stands (meaning_of_pass p) state held
  stood_before grow state is_state stands agrees =
      let reads : Extends p.reads q.reads = subst (λ (m : Meaning). Extends m.reads q.reads) (meaning_open p opened) (subst (λ (m : Meaning). Extends (meaning_of_pass p).reads m.reads) (meaning_open q still_open) grow.reads) in
      let left = leaves state is_state stands (agrees_before p.reads q.reads state reads agrees) in
      ((left.1.0, left.0), subst (λ (m : Meaning). StandsFor m.size (overlay m.writes state) left.1.0 left.0) (sym (meaning_open p opened)) left.1.1)

  -- it goes on where each such state becomes a lawful one
  pub leaves_after : ReadsGrow (meaning_of_pass p) (meaning_of_pass q)
      → Each (Stands (meaning_of_pass p)) (meaning_of_pass q) (λ state held. (after' : Held) × Stands (meaning_of_pass q) state after') → LeavesTables q
  leaves_after grow each = λ state is_state stands agrees.
      let n : q.shared.size.records ≡ p.shared.size.records = same_records in
      let here = stood_before grow state (subst (λ (k : ℕ). IsState k state) n is_state) (subst (λ (k : ℕ). StandsForTables k state) n stands) agrees in
      let became = each state here.0 (subst (λ (m : Meaning). Agrees state m.reads) (sym (meaning_open q still_open)) agrees) here.1 in
      (became.0.1, (became.0.0, subst (λ (m : Meaning). StandsFor m.size (overlay m.writes state) became.0.0 became.0.1) (meaning_open q still_open) became.1))

  -- so it does where it only read
  pub leaves_reads : OnlyReads (meaning_of_pass p) (meaning_of_pass q) → ReadsGrow (meaning_of_pass p) (meaning_of_pass q) → LeavesTables q
  leaves_reads only grow = leaves_after grow
      (λ state held agrees stands. (held, subst (λ (m : Meaning). StandsFor m.size (overlay m.writes state) held.0 held.1) (sym only.rest) stands))

  -- where no such state is lawful, its reads do not commit
  pub doomed : KeepsTables StandsForRows → ReadsGrow (meaning_of_pass p) (meaning_of_pass q) → Each (Stands (meaning_of_pass p)) (meaning_of_pass q) (λ _ _. ⊥) → IsDoomed q
  doomed keeps grow torn = record {
    none = λ state is_state is_kept agrees.
        let n : q.shared.size.records ≡ p.shared.size.records = same_records in
        let there = subst (λ (k : ℕ). IsState k state) n is_state in
        let here = stood_before grow state there (keeps.stands p.shared.size.records state there is_kept) agrees in
        torn state here.0 (subst (λ (m : Meaning). Agrees state m.reads) (sym (meaning_open q still_open)) agrees) here.1;
  }

-- no entry of such reads stood
pub never_stood : (p q : PassView) → IsDoomed p → q.shared.size.records ≡ p.shared.size.records → q.reads ≡ p.reads → Stood StandsForRows q.shared.size.records q.log (entry_of q) → ⊥
never_stood p q doomed records reads stood = doomed.none stood.state (subst (λ (k : ℕ). IsState k stood.state) records stood.left.is_state) stood.left.is_kept
    (subst (λ (rs : List (ℕ × Option (List ℕ))). Agrees stood.state rs) reads stood.agrees)
