-- A transaction of the seat that is alone, from its begin to the collection behind its commit.
use Rattle.std.proofs.Common.{◌≡◌, ◌⊎◌, ℕ, ◌+◌, ◌<◌, ◌≤◌, Bool, true, List, [], ◌∷◌, ◌++◌, append-nil, IsSome, Contains, length, refl, sym, ap, subst, ◌∙◌}
use Rattle.plain_data.specs.declared.entry.Entry.{Entry}
use Rattle.plain_data.specs.State.{State, Agrees, Fits, overlay}
use Rattle.stored_tables.specs.Declare.{Declares, with_index}
use Rattle.stored_tables.specs.Kept.{KeepsTables}
use Rattle.stored_tables.specs.Places.{Places, with_head, fixed_records}
use Rattle.stored_tables.specs.Plan.{MayAsk, run_plan}
use Rattle.stored_tables.specs.Tables.{StandsFor, EachTables}
use Rattle.histories.specs.History.{Lawful, Leaves}
use Rattle.histories.specs.Laws.{NextStateIsOverlay}
use Rattle.history_replay.specs.Results.{StandsForSome}
use Rattle.record_store.specs.Limits.{record_limit}
use Rattle.record_store.specs.Meaning.{Meaning, value_at}
use Rattle.record_store.specs.Writes.{WritesKnown, IsKnown, GivesFewer}
use Rattle.replay_model.specs.declared.command.Command.{Command}
use Rattle.replay_model.specs.declared.outcome.Outcome.{Outcome}
use Rattle.txn_engine.specs.Alone.{AloneView}
use Rattle.stored_tables.specs.Weight.{all_add}
use Rattle.stored_tables.specs.Weights.{AreKnown, RecordLeft}
use Rattle.lane_runner.proofs.Asked.{known_writes, few_given, no_ask_refused}
use Rattle.replay_model.specs.TableMap.{TableMap}
use Rattle.seat_post.specs.Leaves.{AreLeft}
use Rattle.txn_engine.specs.Leaves.{HoldsAbsent, NoneRemains}
use Rattle.txn_engine.specs.Lists.{IsRoomy}
use Rattle.txn_engine.specs.Pass.{EngineView, PassView, frame, IsIdle, IsAlone, begun, committed, with_bounds, entry_of, store_of, meaning_of_pass, engine_of, desk_of, observing, placing}
use Rattle.seat_post.specs.Logs.{IsAbove}
use Rattle.txn_engine.specs.Accounts.{accounted, KeepsAbsent}
use Rattle.seat_post.specs.Seats.{Bounds}
use Rattle.lane_runner.specs.Rows.{stands}
use Rattle.lane_runner.specs.Room.{clock_after}
use Rattle.lane_runner.specs.Adds.{Adds}
use Rattle.lane_runner.specs.Weighs.{LeadsTo}
use Rattle.lane_runner.specs.Lanes.{AddsSome}
use Rattle.lane_runner.proofs.Adding.{Adds-trans}
use Rattle.lane_runner.specs.Holding.{Holds, Awaits, Enters, HasRecords, LeavesAt, KeepsShared}
use Rattle.lane_runner.specs.Loading.{EntersIndex}
use Rattle.lane_runner.proofs.Begun.{kept_frame, is_open, same_records, none_written, meaning_open, Adds-committed}
use Rattle.lane_runner.proofs.Entries.{with_none}
use Rattle.lane_runner.proofs.Held.{agrees_open, roomy_open, absent_open}
use Rattle.lane_runner.proofs.Within.{within_more, within_at}

module _ (p b q : PassView) (clock : ℕ) (began : b ≡ begun p clock) (rest : frame q ≡ frame b) where
  -- what was said of its meaning holds of what it has read and written
  pub leads_at : (tables tables' : TableMap) (Step : Places → Places → Type 0) → LeadsTo (meaning_of_pass b).size (meaning_of_pass q).reads (meaning_of_pass q).writes tables tables' Step → LeadsTo p.shared.size.records q.reads q.writes tables tables' Step
  leads_at tables tables' Step leads =
      let size : (meaning_of_pass b).size ≡ p.shared.size.records = ap (λ (x : PassView). (meaning_of_pass x).size) began in
      let sized : LeadsTo p.shared.size.records (meaning_of_pass q).reads (meaning_of_pass q).writes tables tables' Step = subst (λ (n : ℕ). LeadsTo n (meaning_of_pass q).reads (meaning_of_pass q).writes tables tables' Step) size leads in
      subst (λ (m : Meaning). LeadsTo p.shared.size.records m.reads m.writes tables tables' Step) (meaning_open q (is_open p b q clock began rest)) sized

  -- so does what is said of each state
  pub each_at : (P : State → Places → TableMap → Type 0) → EachTables (meaning_of_pass b) (meaning_of_pass q) P → (state : State) (places : Places) (tables : TableMap) → Agrees state q.reads → StandsFor p.shared.size.records state places tables → P state places tables
  each_at P each state places tables agrees holds =
      let size : (meaning_of_pass b).size ≡ p.shared.size.records = ap (λ (x : PassView). (meaning_of_pass x).size) began in
      each state places tables
      (subst (λ (m : Meaning). Agrees state m.reads) (sym (meaning_open q (is_open p b q clock began rest))) agrees)
      (with_none (meaning_of_pass b).size (meaning_of_pass b).writes state places tables (none_written p b q clock began rest) (subst (λ (n : ℕ). StandsFor n state places tables) (sym size) holds))

  -- what was written and given
  pub known_at : (state : State) → WritesKnown (meaning_of_pass b) (meaning_of_pass q) state → (rid : ℕ) → IsSome (value_at q.writes rid) → Contains q.given rid ⊎ IsKnown q.fixed state rid
  known_at state known rid written =
      let stored : WritesKnown (meaning_of_pass b) (store_of q) state = subst (λ (m : Meaning). WritesKnown (meaning_of_pass b) m state) (meaning_open q (is_open p b q clock began rest)) known in
      let fixed : (meaning_of_pass b).fixed ≡ q.fixed = ap (λ (x : PassView). (meaning_of_pass x).fixed) began ∙ sym (ap (λ (f : PassView). f.fixed) (kept_frame p b q clock began rest)) in
      subst (λ (n : ℕ). Contains q.given rid ⊎ IsKnown n state rid) fixed (known_writes (meaning_of_pass b) (store_of q) state (none_written p b q clock began rest) stored rid written)

  pub given_at : (asks : ℕ) → GivesFewer asks (meaning_of_pass b) (meaning_of_pass q) → length q.given < asks
  given_at asks fewer =
      let none : (meaning_of_pass b).given ≡ [] = ap (λ (x : PassView). (meaning_of_pass x).given) began in
      subst (λ (m : Meaning). length m.given < asks) (meaning_open q (is_open p b q clock began rest)) (few_given asks (meaning_of_pass b) (meaning_of_pass q) none fewer)

  pub lawful_at : Lawful (StandsForSome stands) p.shared.size.records p.log → Lawful (StandsForSome stands) q.shared.size.records q.log
  lawful_at lawful = subst (λ (f : PassView). Lawful (StandsForSome stands) f.shared.size.records f.log) (sym (kept_frame p b q clock began rest)) lawful

  pub few_at : length (meaning_of_pass q).writes ≤ 8192 → length q.writes ≤ 8192
  few_at few = subst (λ (m : Meaning). length m.writes ≤ 8192) (meaning_open q (is_open p b q clock began rest)) few

  pub above_at : IsAbove p.log b.stamp → IsAbove p.log q.stamp
  above_at above = subst (λ (n : ℕ). IsAbove p.log n) (sym (ap (λ (f : PassView). f.stamp) rest)) above

  pub engine_at : (engine : EngineView) → engine_of p ≡ engine → engine_of q ≡ engine
  engine_at engine is = ap engine_of (kept_frame p b q clock began rest) ∙ is

-- an index was declared
module _ (p b q : PassView) (clock : ℕ) (began : b ≡ begun p clock) (rest : frame q ≡ frame b) (table column : ℕ) where
  pub leads_declared : EachTables (meaning_of_pass b) (meaning_of_pass q) (λ state places tables. Declares table column (meaning_of_pass q) true state (places, tables)) → (tables : TableMap) → LeadsTo p.shared.size.records q.reads q.writes tables (with_index tables table column) (λ places after. after ≡ with_head places table column)
  leads_declared each tables state places agrees holds =
      let declared = each_at p b q clock began rest (λ state places tables. Declares table column (meaning_of_pass q) true state (places, tables)) each state places tables agrees holds in
      let stored : StandsFor q.shared.size.records (overlay q.writes state) (with_head places table column) (with_index tables table column) =
      subst (λ (m : Meaning). StandsFor m.size (overlay m.writes state) (with_head places table column) (with_index tables table column)) (meaning_open q (is_open p b q clock began rest)) declared.2 in
      (with_head places table column, subst (λ (n : ℕ). StandsFor n (overlay q.writes state) (with_head places table column) (with_index tables table column)) (same_records p b q clock began rest) stored, refl)

-- writes that lead from tables to tables keep what is kept
pub fits_leads : (kept : State → Type 0) (records : ℕ) (entry : Entry) (after' : TableMap → TableMap) (Step : Places → Places → Type 0) → KeepsTables kept → records ≤ record_limit → ((tables : TableMap) → LeadsTo records entry.reads entry.writes tables (after' tables) Step) → Fits kept records entry
fits_leads kept records entry after' Step keeps few leads = λ state is_state is_kept agrees.
    let held = keeps.stands records state is_state is_kept in
    let step = leads held.0 state held.1.0 agrees held.1.1 in
    keeps.keeps records (overlay entry.writes state) few (after' held.0, (step.0, step.1))

-- what the log leaves once such a transaction has committed
pub leaves_committed : (p q r w : PassView) (clock : ℕ) (tables tables' : TableMap) (Step : Places → Places → Type 0) (Such Then : Places → Type 0) → ((places after : Places) → Step places after → Such places → Then after) → NextStateIsOverlay → frame q ≡ frame (begun p clock) → Lawful (StandsForSome stands) p.shared.size.records p.log
    → Adds p r (entry_of q ∷ []) → Lawful (StandsForSome stands) r.shared.size.records r.log → IsAbove p.log q.stamp → AreLeft q.log q.stamp q.reads
    → LeadsTo p.shared.size.records q.reads q.writes tables tables' Step → Adds p w (entry_of q ∷ []) → LeavesAt p.shared.size.records p.log tables Such → LeavesAt w.shared.size.records w.log tables' Then
leaves_committed p q r w clock tables tables' Step Such Then goes overlays kept lawful committed told above left leads adds within =
    let at_log : Lawful (StandsForSome stands) r.shared.size.records (p.log ++ entry_of q ∷ []) = subst (λ (log : List Entry). Lawful (StandsForSome stands) r.shared.size.records log) committed.log told in
    let next : Lawful (StandsForSome stands) p.shared.size.records (p.log ++ entry_of q ∷ []) = subst (λ (e : EngineView). Lawful (StandsForSome stands) e.size.records (p.log ++ entry_of q ∷ [])) committed.engine at_log in
    let reads : AreLeft p.log q.stamp q.reads = subst (λ (log : List Entry). AreLeft log q.stamp q.reads) (ap (λ (f : PassView). f.log) kept) left in
    within_at p w (entry_of q ∷ []) tables' Then adds (within_more (StandsForSome stands) p.shared.size.records p.log (entry_of q) tables tables' Step Such Then goes overlays lawful next.each refl above reads leads within)

-- ---- the way of such a transaction

-- it was begun at p and has come to q
pub record Opened (p b q : PassView) : Type 0 where
  pub clock : ℕ
  pub later : p.clock < clock
  pub drawn : clock ≤ clock_after p.clock 1
  pub began : b ≡ begun p clock
  pub rest : frame q ≡ frame b
  pub above : IsAbove p.log q.stamp
  pub absent : HoldsAbsent q
  pub roomy : IsRoomy q

pub opened : (p b q : PassView) (clock : ℕ) → p.clock < clock → clock ≤ clock_after p.clock 1 → b ≡ begun p clock → frame q ≡ frame b → IsAbove p.log b.stamp → IsAlone p → KeepsAbsent b → accounted q ≡ accounted b → HoldsAbsent b → IsRoomy p → Opened p b q
opened p b q clock later drawn began rest above alone keeps accounts absent roomy = record {
  clock = clock;
  later = later;
  drawn = drawn;
  began = began;
  rest = rest;
  above = above_at p b q clock began rest above;
  absent = absent_open p b q clock began alone keeps rest accounts absent;
  roomy = roomy_open p q clock (kept_frame p b q clock began rest) roomy;
}

-- where what the log leaves finds room with what the commands add, it does not run out of records
pub never_out : (p b q : PassView) (o : Opened p b q) (commands : List Command) (asks : ℕ) → RecordLeft → Lawful (StandsForSome stands) p.shared.size.records p.log → AreLeft q.log q.stamp q.reads → HasRecords p (all_add commands)
    → AreKnown commands → fixed_records ≤ p.fixed → EachTables (meaning_of_pass b) (meaning_of_pass q) (λ _ places tables. MayAsk (run_plan commands tables) places asks) → GivesFewer asks (meaning_of_pass b) (meaning_of_pass q)
    → EachTables (meaning_of_pass b) (meaning_of_pass q) (λ state _ _. WritesKnown (meaning_of_pass b) (meaning_of_pass q) state) → NoneRemains q → ⊥
never_out p b q o commands asks left lawful reads has known fixed may fewer written none =
    let kept = kept_frame p b q o.clock o.began o.rest in
    let engine = ap engine_of kept in
    let state = has.leaves.state in
    let agrees : Agrees state q.reads = agrees_open p q o.clock has.tables _ kept lawful o.above reads has.leaves in
    no_ask_refused (StandsForSome stands) q commands asks has.most state has.leaves.places has.tables left none (lawful_at p b q o.clock o.began o.rest lawful)
    (subst (λ (log : List Entry). Leaves (Contains log) state) (sym (ap (λ (f : PassView). f.log) kept)) has.leaves.left)
    (subst (λ (e : EngineView). StandsFor e.size.records state has.leaves.places has.tables) (sym engine) has.leaves.stands_for) has.leaves.are known
    (each_at p b q o.clock o.began o.rest (λ _ places tables. MayAsk (run_plan commands tables) places asks) may state has.leaves.places has.tables agrees has.leaves.stands_for)
    (subst (λ (e : EngineView). fixed_records ≤ e.fixed) (sym engine) fixed)
    (subst (λ (e : EngineView). e.fixed + (has.most + all_add commands has.tables) ≤ e.size.records) (sym engine) has.room)
    (given_at p b q o.clock o.began o.rest asks fewer)
    (known_at p b q o.clock o.began o.rest state (each_at p b q o.clock o.began o.rest (λ s _ _. WritesKnown (meaning_of_pass b) (meaning_of_pass q) s) written state has.leaves.places has.tables agrees has.leaves.stands_for))

-- it has committed
module _ (p b q r : PassView) (known : Bounds) (o : Opened p b q) (ends : r ≡ observing (placing (committed (with_bounds q known)) r.placed) r.observed) where
  pub adds_entered : Adds p r (entry_of q ∷ [])
  adds_entered = Adds-committed p q r o.clock known o.later o.above (kept_frame p b q o.clock o.began o.rest) ends

  pub leaves_entered : NextStateIsOverlay → Holds p → AreLeft q.log q.stamp q.reads → Lawful (StandsForSome stands) r.shared.size.records r.log → (tables tables' : TableMap) (Step : Places → Places → Type 0) (Such Then : Places → Type 0) → ((places after : Places) → Step places after → Such places → Then after)
      → LeadsTo p.shared.size.records q.reads q.writes tables tables' Step → LeavesAt p.shared.size.records p.log tables Such → LeavesAt r.shared.size.records r.log tables' Then
  leaves_entered overlays holds left lawful tables tables' Step Such Then goes leads within =
      leaves_committed p q r r o.clock tables tables' Step Such Then goes overlays (kept_frame p b q o.clock o.began o.rest) holds.lawful adds_entered lawful o.above left leads adds_entered within

  pub clock_entered : r.clock ≤ clock_after p.clock 1
  clock_entered =
      let e : r.clock ≡ o.clock = ap (λ (x : PassView). x.clock) ends ∙ ap (λ (f : PassView). f.clock) (kept_frame p b q o.clock o.began o.rest) in
      subst (λ (n : ℕ). n ≤ clock_after p.clock 1) (sym e) o.drawn

  pub idle_entered : IsIdle r
  idle_entered = ap desk_of ends

-- ---- the seat as it is known where the call ends

pub enters_as : (commands : List Command) (a there here : AloneView) (stamp : ℕ) (snap : Bool) (outcome : Outcome) → Enters commands a there stamp snap outcome → here ≡ there → Enters commands a here stamp snap outcome
enters_as commands a there here stamp snap outcome enters same = subst (λ (x : AloneView). Enters commands a x stamp snap outcome) (sym same) enters

pub index_as : (table column : ℕ) (a there here : AloneView) → EntersIndex table column a there → here ≡ there → EntersIndex table column a here
index_as table column a there here enters same = subst (λ (x : AloneView). EntersIndex table column a x) (sym same) enters

pub shared_as : (a there here : AloneView) → there.shared ≡ a.shared → here ≡ there → KeepsShared a here
shared_as a there here is same = record { shared = ap (λ (x : AloneView). x.shared) same ∙ is }

pub awaits_as : (there here : AloneView) → Awaits there → here ≡ there → Awaits here
awaits_as there here awaits same = subst (λ (x : AloneView). Awaits x) (sym same) awaits

-- ---- once it is closed

pub leaves_closed : (r w : PassView) (tables : TableMap) (Such : Places → Type 0) → Adds r w [] → LeavesAt r.shared.size.records r.log tables Such → LeavesAt w.shared.size.records w.log tables Such
leaves_closed r w tables Such adds within = within_at r w [] tables Such adds (subst (λ (log : List Entry). LeavesAt r.shared.size.records log tables Such) (sym (append-nil r.log)) within)

pub some_closed : (p r w : PassView) → AddsSome p r → Adds r w [] → AddsSome p w
some_closed p r w some none = (some.0 ++ [], Adds-trans p r w some.0 [] some.1 none)
