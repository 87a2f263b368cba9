-- Calls of tables in a transaction, told of the pass before and after: how it goes on.
use Rattle.std.proofs.Common.{◌≡◌, ℕ, Bool, true, false, List, [], Option, None, Some, Result, Ok, Err, OnOk, OnErr, IfOk, refl, sym, ap, subst, ◌∙◌}
use Rattle.plain_data.specs.State.{State, Fits, overlay}
use Rattle.record_store.specs.Meaning.{Meaning, after_undo}
use Rattle.record_store.specs.States.{Each}
use Rattle.record_store.specs.Walks.{IfTorn, OnlyReads, ReadsGrow}
use Rattle.record_store.specs.declared.walk.Walk.{Walk}
use Rattle.replay_model.specs.TableMap.{Row, index_of, with_value, without}
use Rattle.seat_post.specs.Ends.{Stood}
use Rattle.seat_post.specs.declared.phase.Phase.TheVariants.{Open}
use Rattle.stored_tables.specs.Answers.{Held, Stands}
use Rattle.stored_tables.specs.Declare.{Declares, with_index}
use Rattle.stored_tables.specs.Kept.{KeepsTables}
use Rattle.stored_tables.specs.OneRow.{SetsRow}
use Rattle.stored_tables.specs.Places.{with_head}
use Rattle.stored_tables.specs.Reclaim.{Clears, GivesEntry}
use Rattle.stored_tables.specs.Tables.{EachTables}
use Rattle.engine_answers.specs.declared.committed.Committed.{Committed}
use Rattle.engine_answers.specs.declared.faults.CommitFault.{CommitFault}
use Rattle.engine_answers.specs.declared.faults.CommitFault.TheVariants as commit
use Rattle.engine_answers.specs.declared.faults.TxnFault.{TxnFault}
use Rattle.validate_core.specs.declared.conflict.Conflict.{Conflict as Met}
use Rattle.txn_engine.specs.Commits.{Commits, EndsCommit}
use Rattle.txn_engine.specs.Faults.{told_by}
use Rattle.txn_engine.specs.Pass.{EngineView, PassView, IsIdle, IsIdleOf, engine_of, entry_of, frame, meaning_of_pass, store_of}
use Rattle.txn_engine.specs.Txn.{Undoes}
use Rattle.txn_engine.specs.Commits.{done_of, no_place_of, refused_of}
use Rattle.connections.specs.declared.fault.CallFault.{CallFault}
use Rattle.connections.specs.Connection.{IsOpenOf, LeavesTables, StandsForRows}
use Rattle.connections.specs.Rows.{GoesOn, InTxn, IsDoomed, IsOvertaken}
use Rattle.connections.proofs.Laws.{at_passes, doomed, leaves_after, leaves_reads, meaning_open, never_stood, still_open}
use Rattle.connections.proofs.Stores.{torn_map}

pub reads_grow : (before after' : Meaning) → OnlyReads before after' → ReadsGrow before after'
reads_grow before after' only = record { reads = only.reads; size = ap (λ (m : Meaning). m.size) only.rest; fixed = ap (λ (m : Meaning). m.fixed) only.rest }

-- p is the pass before, as the transaction was taken up there; q is what the call left there
module _ (e : EngineView) (p p' q : PassView) (here : p' ≡ p) (opened : IsOpenOf e p) (rest : frame q ≡ frame p') where
  opened' : IsOpenOf e p'
  opened' = subst (IsOpenOf e) (sym here) opened

  -- what it leaves is lawful where it only looked, where a row was set or taken out, and where an index was declared or not
  pub leaves_looked : {T : Type 0} (told : Result T (Walk TxnFault)) → OnlyReads (meaning_of_pass p') (meaning_of_pass q) → OnOk told (LeavesTables q)
  leaves_looked (Ok value) only = leaves_reads p' q opened'.open_there rest opened'.lawful only (reads_grow _ _ only)
  leaves_looked (Err why) only = tt

  leaves_each : ReadsGrow (meaning_of_pass p') (meaning_of_pass q) → Each (Stands (meaning_of_pass p')) (meaning_of_pass q) (λ state held. (after' : Held) × Stands (meaning_of_pass q) state after') → LeavesTables q
  leaves_each = leaves_after p' q opened'.open_there rest opened'.lawful

  pub leaves_put : (table key asked : ℕ) (row : Row) (told : Result (Unit {0}) (Walk TxnFault)) → ReadsGrow (meaning_of_pass p') (meaning_of_pass q)
      → IfOk told (λ _. Each (Stands (meaning_of_pass p')) (meaning_of_pass q) (λ state held. SetsRow table key row (meaning_of_pass q) asked state held)) → OnOk told (LeavesTables q)
  leaves_put table key asked row (Ok value) grow each = leaves_each grow (λ state held agrees stands. let became = each state held agrees stands in ((became.0, with_value held.1 table key row), became.1))
  leaves_put table key asked row (Err why) grow each = tt

  entry_stands : (table key : ℕ) (index : Option ℕ) (row : Row) (between : Meaning) (state : State) (held : Held) → GivesEntry table key index row between (meaning_of_pass q) state held → (after' : Held) × Stands (meaning_of_pass q) state after'
  entry_stands table key None row between state held gives = (held, gives.1)
  entry_stands table key (Some column) row between state held gives = ((gives.1.after, held.1), gives.1.stands)

  taken_stands : (table key asked : ℕ) (taken : Bool) (state : State) (held : Held) → Clears table key (meaning_of_pass q) taken asked state held → (after' : Held) × Stands (meaning_of_pass q) state after'
  taken_stands table key asked true state held clears = entry_stands table key (index_of table held.1) clears.row clears.given.between state (clears.given.by_key.after, without held.1 table key) clears.given.by_index
  taken_stands table key asked false state held clears = (held, clears.2)

  pub leaves_remove : (table key asked : ℕ) (told : Result Bool (Walk TxnFault)) → ReadsGrow (meaning_of_pass p') (meaning_of_pass q)
      → IfOk told (λ taken. Each (Stands (meaning_of_pass p')) (meaning_of_pass q) (λ state held. Clears table key (meaning_of_pass q) taken asked state held)) → OnOk told (LeavesTables q)
  leaves_remove table key asked (Ok taken) grow each = leaves_each grow (λ state held agrees stands. taken_stands table key asked taken state held (each state held agrees stands))
  leaves_remove table key asked (Err why) grow each = tt

  pub leaves_declare : (table column : ℕ) (told : Result Bool (Walk TxnFault)) → ReadsGrow (meaning_of_pass p') (meaning_of_pass q)
      → IfOk told (λ declared. EachTables (meaning_of_pass p') (meaning_of_pass q) (λ state places tables. Declares table column (meaning_of_pass q) declared state (places, tables)))
      → IfOk told (λ declared. declared ≡ false → OnlyReads (meaning_of_pass p') (meaning_of_pass q)) → OnOk told (LeavesTables q)
  leaves_declare table column (Ok true) grow each unchanged = leaves_each grow
      (λ state held agrees stands. let became = each state held.0 held.1 agrees stands in ((with_head held.0 table column, with_index held.1 table column), became.2))
  leaves_declare table column (Ok false) grow each unchanged = leaves_looked {T = Bool} (Ok false) (unchanged refl)
  leaves_declare table column (Err why) grow each unchanged = tt

-- q' is the same pass, as the transaction was left there
module _ (e : EngineView) (p p' q q' : PassView) (here : p' ≡ p) (there : q' ≡ q) (opened : IsOpenOf e p) (rest : frame q ≡ frame p') where
  opened_here : IsOpenOf e p'
  opened_here = opened' e p p' q here opened rest

  -- where the tables are torn, what it has read does not commit
  pub torn_doomed : {T : Type 0} (told : Result T (Walk TxnFault)) → KeepsTables StandsForRows → ReadsGrow (meaning_of_pass p') (meaning_of_pass q)
      → IfTorn told (λ _. Each (Stands (meaning_of_pass p')) (meaning_of_pass q) (λ _ _. ⊥)) → IfTorn told (λ _. IsDoomed q')
  torn_doomed told keeps grow torn = torn_map told (λ rid none. subst IsDoomed (sym there) (doomed p' q opened_here.open_there rest opened_here.lawful keeps grow none)) torn

  idle_of : {T : Type 0} (answer : Result T CallFault) (r : PassView) → OnErr answer (IsIdleOf e r) → OnErr answer (IsIdle r)
  idle_of (Ok value) r idle = tt
  idle_of (Err f) r idle = idle.1

  log_of : {T : Type 0} (answer : Result T CallFault) (r : PassView) → OnErr answer (r.log ≡ q'.log) → OnErr answer (r.log ≡ p'.log)
  log_of (Ok value) r same = tt
  log_of (Err f) r same = same ∙ ap (λ (x : PassView). x.log) there ∙ ap (λ (x : PassView). x.log) rest

  -- it goes on, or has ended
  pub in_txn : {T : Type 0} (Call : PassView → PassView → Result T (Walk TxnFault) → Type 0) (told : Result T (Walk TxnFault)) (answer : Result T CallFault) (r : PassView) → Call p' q told → GoesOn told q' r answer
      → OnErr answer (IsIdleOf e r) → OnErr answer (r.log ≡ q'.log) → InTxn Call answer p r
  in_txn {T} Call told answer r call goes idle same = at_passes (InTxn Call answer) p p' r r here refl (record {
    ran = q;
    told = told;
    call = call;
    rest = rest;
    ends = subst (λ (y : PassView). GoesOn told y r answer) there goes;
    ended = idle_of answer r idle;
    no_entry = log_of answer r same;
  })

  -- where it goes on it is open, if what it leaves is lawful
  pub open_on : {T : Type 0} (told : Result T (Walk TxnFault)) (answer : Result T CallFault) (r : PassView) → OnOk told (LeavesTables q) → GoesOn told q' r answer → OnOk answer (IsOpenOf e r)
  open_on (Ok value) (Ok other) r leaves goes = subst (IsOpenOf e) (sym (goes.1 ∙ there)) (record { of = ap engine_of rest ∙ opened_here.of; open_there = still_open p' q opened_here.open_there rest opened_here.lawful; lawful = leaves })
  open_on (Ok value) (Err f) r leaves goes = tt
  open_on (Err why) (Ok other) r leaves goes = absurd goes
  open_on (Err why) (Err f) r leaves goes = tt

-- ---- a transaction that read no lawful tables

-- its writes were dropped: it is open, and has written nothing
module _ (p p' u : PassView) (here : p' ≡ p) (opened : p.phase ≡ Open) (rest : frame u ≡ frame p') (undone : meaning_of_pass u ≡ after_undo (meaning_of_pass p')) where
  pub undone_open : u.phase ≡ Open
  undone_open = ap (λ (f : PassView). f.phase) rest ∙ ap (λ (x : PassView). x.phase) here ∙ opened

  undone_store : store_of u ≡ after_undo (store_of p)
  undone_store = sym (meaning_open u undone_open) ∙ undone ∙ ap (λ (x : PassView). after_undo (meaning_of_pass x)) here ∙ ap after_undo (meaning_open p opened)

  pub undone_writes : u.writes ≡ []
  undone_writes = ap (λ (m : Meaning). m.writes) undone_store

  pub undone_fits : Fits StandsForRows u.shared.size.records (entry_of u)
  undone_fits = λ state is_state is_kept agrees. subst (λ (writes : List (ℕ × Option (List ℕ))). StandsForRows (overlay writes state)) (sym undone_writes) is_kept

  pub undone_never : IsDoomed p → Stood StandsForRows u.shared.size.records u.log (entry_of u) → ⊥
  undone_never doomed stood = never_stood p u doomed (ap (λ (f : PassView). f.shared.size.records) rest ∙ ap (λ (x : PassView). x.shared.size.records) here) (ap (λ (m : Meaning). m.reads) undone_store) stood

  -- so its commit is refused by a conflict, and leaves no entry
  pub met_conflict : {q : PassView} (answer : Result Committed CommitFault) → IsDoomed p → EndsCommit StandsForRows u q (told_by (λ f. f) answer) → (conflict : Met) × (answer ≡ Err (commit.Conflict conflict))
  met_conflict (Ok told) doomed ends = absurd (undone_never doomed (done_of ends).stood)
  met_conflict (Err (commit.Conflict conflict)) doomed ends = (conflict, refl)
  met_conflict (Err commit.PlacesOut) doomed ends = absurd ((no_place_of ends).written undone_writes)

  pub no_entry : {q : PassView} {why : CommitFault} → EndsCommit StandsForRows u q (Err why) → q.log ≡ p.log
  no_entry ends = ap (λ (x : PassView). x.log) (refused_of ends) ∙ ap (λ (f : PassView). f.log) rest ∙ ap (λ (x : PassView). x.log) here

  pub overtaken : (q q' : PassView) (conflict : Met) → q' ≡ q → Undoes p' u → Commits StandsForRows u q (Err (commit.Conflict conflict)) → IsOvertaken p q' conflict
  overtaken q q' conflict there undoes commits = at_passes (λ x y. IsOvertaken x y conflict) p p' q q' here there (record { undone = u; undoes = undoes; commits = commits })

-- the same of tables that are told of in parts
pub tables_torn : {T : Type 0} (before after' : Meaning) (told : Result T (Walk TxnFault)) → IfTorn told (λ _. EachTables before after' (λ _ _ _. ⊥)) → IfTorn told (λ _. Each (Stands before) after' (λ _ _. ⊥))
tables_torn before after' told torn = torn_map told (λ rid none state held agrees stands. none state held.0 held.1 agrees stands) torn
