-- A snapshot of the seat that is alone, once it is finished and its log was told: what it adds, and that what the log leaves agrees with it.
use Rattle.std.proofs.Common.{◌≡◌, ℕ, ◌+◌, ◌<◌, ◌≤◌, true, false, List, [], ◌∷◌, ◌++◌, Option, None, Some, Result, Ok, Err, Contains, refl, sym, ap, subst, ◌∙◌, arith, inl, inr, ⊎_elim}
use Rattle.std.specs.Prelude.{option_map, IfSome}
use Rattle.std.proofs.lemmas.Bool.{cases_Bool}
use Rattle.std.proofs.lemmas.List.Elements.{All-contains, Contains-push, Contains-push_cases}
use Rattle.plain_data.specs.declared.entry.Entry.{Entry}
use Rattle.plain_data.specs.State.{State, IsState, Agrees, overlay}
use Rattle.core_rule.specs.Views.{Among}
use Rattle.histories.specs.History.{Lawful, Leaves, LeavesKept, Before}
use Rattle.histories.specs.Laws.{LawfulHasStates}
use Rattle.histories.proofs.Lists.{Contains-nil, Contains-cases}
use Rattle.histories.proofs.States.{time-commit, time-snapshot, one_value, IsValue-same}
use Rattle.record_store.specs.Meaning.{Meaning}
use Rattle.record_store.specs.Walks.{IfTorn}
use Rattle.record_store.specs.declared.walk.Walk.{Walk}
use Rattle.record_store.specs.declared.walk.Walk.TheVariants.{Store, Torn, NoMemory}
use Rattle.replay_model.specs.TableMap.{TableMap}
use Rattle.seat_post.specs.Ends.{Stood}
use Rattle.seat_post.specs.Snapshot.{SnapshotView, first_snapshot, entry_of_snapshot}
use Rattle.seat_post.specs.Logs.{IsAbove}
use Rattle.stored_tables.specs.Kept.{KeepsTables}
use Rattle.stored_tables.specs.Places.{Places}
use Rattle.stored_tables.specs.Tables.{StandsFor, EachTables}
use Rattle.txn_engine.specs.Pass.{PassView, IsAlone, IsIdle, next_clock, ticked, engine_of, desk_of, observing, with_met}
use Rattle.txn_engine.specs.Snapshot.{Begins, finished, snapshot_store, snapshot_begun, meaning_of_snapshot, unread}
use Rattle.input_runner.specs.Reading.{AddsSnapshot, clock_read}

-- ---- what was read

abbrev stamp_in : Option SnapshotView → ℕ
stamp_in None = 0
stamp_in (Some g) = g.stamp

-- a snapshot that has read still is one, at its stamp
still_there : (snapshot : Option SnapshotView) (stamp : ℕ) → option_map (λ (g : SnapshotView). record g { reads = [] }) snapshot ≡ first_snapshot stamp → (g : SnapshotView) × (snapshot ≡ Some g) × (g.stamp ≡ stamp)
still_there None stamp is = cc
still_there (Some g) stamp is = (g, refl, ap stamp_in is)

-- so of what was told of it, which is what the snapshot left
pub record IsTold (f r : PassView) : Type 0 where
  pub after : r ≡ observing (with_met f r.met) r.observed
  pub not_back : f.met ≤ r.met

pub clock_later : (p : PassView) (reading : ℕ) → p.clock < next_clock p reading
clock_later p reading = omega arith

pub clock_drawn : (p : PassView) (reading : ℕ) → next_clock p reading ≤ clock_read p
clock_drawn p reading = omega arith

-- what is known of it
pub record Sought (p s0 s1 r : PassView) : Type 0 where
  pub snapshot : SnapshotView
  pub seen : s1.snapshot ≡ Some snapshot
  pub adds : AddsSnapshot p r
  pub log : r.log ≡ p.log ++ entry_of_snapshot snapshot ∷ []
  pub behind : (e : Entry) → Among e p.log → e.stamp ≤ snapshot.stamp
  pub records : s1.shared.size.records ≡ p.shared.size.records
  pub kept_records : r.shared.size.records ≡ p.shared.size.records
  pub size : (meaning_of_snapshot s0).size ≡ p.shared.size.records
  pub none : (meaning_of_snapshot s0).writes ≡ []
  pub reads : (meaning_of_snapshot s1).reads ≡ snapshot.reads

pub sought : (p t s0 s1 f r : PassView) (clock : ℕ) → Begins t s0 → t ≡ ticked p clock → unread s1 ≡ unread s0 → IfSome s1.snapshot (λ g. f ≡ observing (finished s1 g) f.observed) → IsTold f r → IsIdle p → IsAlone p → IsAbove p.log t.published → p.clock < clock → clock ≤ clock_read p → Sought p s0 s1 r
sought p t s0 s1 f r clock begins tick rest ends told idle alone above later drawn =
    let tells = told.after in
    let not_back = told.not_back in
    let found = still_there s1.snapshot begins.stamp (ap (λ (x : PassView). x.snapshot) (rest ∙ ap unread begins.pass)) in
    let g = found.0 in
    let ended : f ≡ observing (finished s1 g) f.observed = subst (λ (o : Option SnapshotView). IfSome o (λ g. f ≡ observing (finished s1 g) f.observed)) found.1 ends in
    let whole : unread s1 ≡ unread (snapshot_begun (ticked p clock) begins.stamp) = rest ∙ ap unread (begins.pass ∙ ap (λ (x : PassView). observing (snapshot_begun x begins.stamp) s0.observed) tick) in
    let stamped : g.stamp ≡ begins.stamp = found.2 in
    let grown : r.log ≡ p.log ++ entry_of_snapshot g ∷ [] = ap (λ (x : PassView). x.log) tells ∙ ap (λ (x : PassView). x.log) ended ∙ ap (λ (x : PassView). x.log ++ entry_of_snapshot g ∷ []) whole in
    let engine : engine_of r ≡ engine_of p = ap engine_of tells ∙ ap engine_of ended ∙ ap engine_of whole in
    let at : r.clock ≡ clock = ap (λ (x : PassView). x.clock) tells ∙ ap (λ (x : PassView). x.clock) ended ∙ ap (λ (x : PassView). x.clock) whole in
    let met : p.met ≤ begins.stamp + 1 = subst (λ (x : PassView). x.met ≤ begins.stamp + 1) tick begins.met in
    let ended_met : f.met ≡ begins.stamp + 1 = ap (λ (x : PassView). x.met) ended ∙ ap (λ (x : PassView). x.met) whole in
    let published : t.published ≤ begins.stamp + 1 = begins.alone (subst (λ (x : PassView). IsAlone x) (sym tick) alone) in
    let behind : (e : Entry) → Among e p.log → e.stamp ≤ g.stamp = λ e among. ⊎_elim
    (λ kind. (let below : e.stamp < begins.stamp + 1 = begins.snapshots e (subst (λ (log : List Entry). Among e log) (sym (ap (λ (x : PassView). x.log) tick)) among) kind in omega (arith, below, stamped)))
    (λ commit. (let below : e.stamp < t.published = above e among commit in omega (arith, below, published, stamped)))
    (cases_Bool e.snapshot) in
    record {
      snapshot = g;
      seen = found.1;
      adds = record {
        entry = entry_of_snapshot g;
        snapshot = refl;
        log = grown;
        behind = behind;
        met = let here : p.met ≤ g.stamp + 1 = omega (arith, met, stamped) in here;
        not_back = omega (arith, met, ended_met, not_back);
        engine = engine;
        seat = ap (λ (x : PassView). x.seat) tells ∙ ap (λ (x : PassView). x.seat) ended ∙ ap (λ (x : PassView). x.seat) whole;
        others = ap (λ (x : PassView). x.others) tells ∙ ap (λ (x : PassView). x.others) ended ∙ ap (λ (x : PassView). x.others) whole;
        refusals = ap (λ (x : PassView). x.refusals) tells ∙ ap (λ (x : PassView). x.refusals) ended ∙ ap (λ (x : PassView). x.refusals) whole;
        idle = ap desk_of tells ∙ ap desk_of ended ∙ ap desk_of whole ∙ idle;
        later = omega (arith, at, later);
        clock = subst (λ (n : ℕ). n ≤ clock_read p) (sym at) drawn;
      };
      log = grown;
      behind = behind;
      records = ap (λ (x : PassView). x.shared.size.records) whole;
      kept_records = ap (λ e. e.size.records) engine;
      size = ap (λ (x : PassView). (meaning_of_snapshot x).size) (begins.pass ∙ ap (λ (x : PassView). observing (snapshot_begun x begins.stamp) s0.observed) tick);
      none = ap (λ (x : PassView). (meaning_of_snapshot x).writes) begins.pass;
      reads = ap (λ (o : Option SnapshotView). (snapshot_store s1 o).reads) found.1;
    }

-- where what a torn answer says does not hold, no answer is torn
pub not_torn : {T F : Type 0} (told : Result T (Walk F)) (P : Type 0) → IfTorn told (λ _. P) → (P → ⊥) → IfTorn told (λ _. ⊥)
not_torn (Ok value) P torn never = tt
not_torn (Err (Store fault)) P torn never = tt
not_torn (Err (Torn rid)) P torn never = never torn
not_torn (Err NoMemory) P torn never = tt

-- ---- what holds of each state that agrees with it

pub each_told : (records : ℕ) (m m' : Meaning) (reads : List (ℕ × Option (List ℕ))) (P : TableMap → Type 0) → m.size ≡ records → m.writes ≡ [] → m'.reads ≡ reads → EachTables m m' (λ _ _ tables. P tables)
    → (state : State) (places : Places) (tables : TableMap) → Agrees state reads → StandsFor records state places tables → P tables
each_told records m m' reads P size none same each state places tables agrees stands =
    each state places tables (subst (λ (rs : List (ℕ × Option (List ℕ))). Agrees state rs) (sym same) agrees)
    (subst (λ (ws : List (ℕ × Option (List ℕ))). StandsFor m.size (overlay ws state) places tables) (sym none) (subst (λ (n : ℕ). StandsFor n state places tables) (sym size) stands))

-- no tables were torn
pub never_torn : (kept : State → Type 0) (p s0 s1 r : PassView) (s : Sought p s0 s1 r) → KeepsTables kept → IfSome s1.snapshot (λ g. Stood kept s1.shared.size.records s1.log (entry_of_snapshot g)) → EachTables (meaning_of_snapshot s0) (meaning_of_snapshot s1) (λ _ _ _. ⊥) → ⊥
never_torn kept p s0 s1 r s keeps stood torn =
    let here : Stood kept s1.shared.size.records s1.log (entry_of_snapshot s.snapshot) = subst (λ (o : Option SnapshotView). IfSome o (λ g. Stood kept s1.shared.size.records s1.log (entry_of_snapshot g))) s.seen stood in
    let held = keeps.stands s1.shared.size.records here.state here.left.is_state here.left.is_kept in
    each_told s1.shared.size.records (meaning_of_snapshot s0) (meaning_of_snapshot s1) s.snapshot.reads (λ _. ⊥) (s.size ∙ sym s.records) s.none s.reads torn here.state held.1.0 held.0 here.agrees held.1.1

-- ---- what the log leaves agrees with it

among_of : (log : List Entry) (e : Entry) → Contains log e → Among e log
among_of [] e there = absurd (Contains-nil e there)
among_of (x ∷ log) e there = ⊎_elim (λ same. inl same) (λ later. inr (among_of log e later)) (Contains-cases x log e there)

pub record IsLeft (records : ℕ) (state : State) (reads : List (ℕ × Option (List ℕ))) : Type 0 where
  pub agrees : Agrees state reads
  pub is_state : IsState records state

-- the last entry is a snapshot behind all commit entries, so it read what they leave
pub left_agrees : (kept : State → Type 0) (records : ℕ) (log : List Entry) (entry : Entry) (state : State) → LawfulHasStates kept → Lawful kept records (log ++ entry ∷ []) → entry.snapshot ≡ true → ((e : Entry) → Among e log → e.stamp ≤ entry.stamp) → Leaves (Contains (log ++ entry ∷ [])) state → IsLeft records state entry.reads
left_agrees kept records log entry state has lawful snapshot behind left =
    let all = log ++ entry ∷ [] in
    let Met : Entry → Type 0 = λ e. (before : State) × LeavesKept kept records (Before all e) before × Agrees before e.reads in
    let at : Met entry = All-contains Met all entry (has records all lawful).0 (Contains-push log entry) in
    let earlier : (e : Entry) → e.snapshot ≡ false → Contains all e → Before all entry e = λ e commit there. (
      there,
      ⊎_elim
          (λ own. (let low : e.stamp ≤ entry.stamp = behind e (among_of log e own) in omega (arith, low, time-commit e commit, time-snapshot entry snapshot)))
          (λ same. (let both : e.snapshot ≡ true = ap (λ (x : Entry). x.snapshot) (sym same) ∙ snapshot in absurd (cc)))
          (Contains-push_cases log entry e there),
    ) in
    let same : state ≡ at.0 = λ i rid. one_value records all (Before all entry) rid (state rid) (at.0 rid) lawful.each lawful.apart (λ e b. b.0) (IsValue-same (Contains all) (Before all entry) rid (state rid) earlier (λ e commit b. b.0) (left rid)) (at.1.left rid) i in
    record {
      agrees = subst (λ (s : State). Agrees s entry.reads) (sym same) at.2;
      is_state = subst (λ (s : State). IsState records s) (sym same) at.1.is_state;
    }
