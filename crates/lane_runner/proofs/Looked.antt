-- A snapshot of the seat that is alone: what it adds, and what it leaves.
use Rattle.std.proofs.Common.{◌≡◌, ◌⊎◌, ℕ, ◌+◌, ◌<◌, ◌≤◌, Bool, true, false, List, [], ◌∷◌, ◌++◌, Option, None, Some, option_map, IfSome, if◌then◌else◌, Result, Ok, Err, refl, sym, ap, subst, ◌∙◌, arith, inl, inr, All}
use Rattle.std.proofs.lemmas.List.Elements.{All-head, All-tail}
use Rattle.plain_data.specs.declared.entry.Entry.{Entry}
use Rattle.plain_data.specs.State.{State, Agrees, overlay}
use Rattle.core_rule.specs.Views.{Among}
use Rattle.record_store.specs.Limits.{record_limit}
use Rattle.record_store.specs.Meaning.{Meaning}
use Rattle.replay_model.specs.declared.command.Command.{Command}
use Rattle.replay_model.specs.declared.command.Command.TheVariants.{Get, Put, Ins, Del, Add, Sub, Scan, Find}
use Rattle.replay_model.specs.declared.outcome.Answer.{Answer}
use Rattle.replay_model.specs.declared.outcome.Answer.TheVariants.{Pairs}
use Rattle.replay_model.specs.declared.outcome.Cause.{Cause}
use Rattle.replay_model.specs.declared.outcome.Cause.TheVariants.{Unindexed}
use Rattle.replay_model.specs.declared.outcome.Outcome.{Outcome}
use Rattle.replay_model.specs.declared.outcome.Placed.{Placed}
use Rattle.replay_model.specs.Effect.{effect, is_on, found}
use Rattle.replay_model.specs.Running.{answer_before, step_then, run_from, outcome_of, tables_from, tables_after}
use Rattle.replay_model.specs.TableMap.{TableMap, index_of}
use Rattle.history_replay.specs.Results.{IsEntryOf}
use Rattle.stored_tables.specs.Answers.{ReadsAlone}
use Rattle.stored_tables.specs.Laws.{FitsRecords}
use Rattle.stored_tables.specs.Places.{Places}
use Rattle.stored_tables.specs.Tables.{StandsFor, EachTables}
use Rattle.seat_post.specs.Snapshot.{SnapshotView}
use Rattle.txn_engine.specs.Leaves.{HoldsAbsent}
use Rattle.txn_engine.specs.Lists.{IsRoomy}
use Rattle.txn_engine.specs.Pass.{PassView, IsIdle, IsAlone, ticked, engine_of, desk_of, observing}
use Rattle.seat_post.specs.Logs.{IsAbove}
use Rattle.txn_engine.specs.Snapshot.{Begins, finished, snapshot_store, meaning_of_snapshot, unread, snapshot_begun}
use Rattle.seat_post.specs.Snapshot.{entry_of_snapshot}
use Rattle.lane_runner.specs.Rows.{stands}
use Rattle.lane_runner.specs.Room.{clock_after}
use Rattle.lane_runner.specs.Adds.{IsNext, Adds}
use Rattle.lane_runner.specs.Holding.{LeavesAt, LeavesAfter, IsBehind}
use Rattle.lane_runner.specs.Weighs.{RunsTo}
use Rattle.lane_runner.proofs.Held.{absent_same, roomy_same}
use Rattle.lane_runner.proofs.Within.{within_snapshot, within_weaker, within_at}

-- ---- commands that read alone leave the tables

-- the effect of such a command: it answers, or is refused
abbrev Stays : Command → TableMap → Type 0
Stays command tables = ((answer : Answer) × (effect command tables ≡ Ok (answer, tables))) ⊎ ((cause : Cause) × (effect command tables ≡ Err cause))

by_test : (b : Bool) (answer : Answer) (cause : Cause) (tables : TableMap) (step : Result (Answer × TableMap) Cause) → step ≡ (if b then Ok (answer, tables) else Err cause)
    → ((given : Answer) × (step ≡ Ok (given, tables))) ⊎ ((why : Cause) × (step ≡ Err why))
by_test true answer cause tables step is = inl (answer, is)
by_test false answer cause tables step is = inr (cause, is)

effect_stays : (command : Command) (tables : TableMap) → ReadsAlone command → Stays command tables
effect_stays (Get t k c) tables reads = inl (_, refl)
effect_stays (Scan t lo hi limit) tables reads = inl (_, refl)
effect_stays (Find t c lo hi limit) tables reads = by_test (is_on c (index_of t tables)) (Pairs (found t c lo hi limit tables)) Unindexed tables (effect (Find t c lo hi limit) tables) refl
effect_stays (Put t k row) tables reads = absurd reads
effect_stays (Ins t k row) tables reads = absurd reads
effect_stays (Del t k) tables reads = absurd reads
effect_stays (Add t k c by) tables reads = absurd reads
effect_stays (Sub t k c by) tables reads = absurd reads

answered : (answer : Answer) (tables : TableMap) (run : Result (List Answer × TableMap) (ℕ × Cause)) → tables_from tables (answer_before answer run) ≡ tables_from tables run
answered answer tables (Ok run) = refl
answered answer tables (Err refusal) = refl

run_stays : (n : ℕ) (commands : List Command) (tables : TableMap) → All ReadsAlone commands → tables_from tables (run_from n commands tables) ≡ tables
run_stays n [] tables reads = refl
run_stays n (command ∷ commands) tables reads = elim (effect_stays command tables (All-head ReadsAlone command commands reads)) as (λ _. tables_from tables (run_from n (command ∷ commands) tables) ≡ tables) [
  | inl done ↦ ap (λ (step : Result (Answer × TableMap) Cause). tables_from tables (step_then n step (λ left. run_from (n + 1) commands left))) done.1 ∙ answered done.0 tables (run_from (n + 1) commands tables) ∙ run_stays (n + 1) commands tables (All-tail ReadsAlone command commands reads)
  | inr refused ↦ ap (λ (step : Result (Answer × TableMap) Cause). tables_from tables (step_then n step (λ left. run_from (n + 1) commands left))) refused.1
]

pub reads_stay : (commands : List Command) (tables : TableMap) → All ReadsAlone commands → tables_after commands tables ≡ tables
reads_stay commands tables reads = run_stays 1 commands tables reads

before_later : (a b : ℕ) → a < b → a ≤ b
before_later a b later = omega arith

-- ---- what was read

cleared_is : (snapshot : Option SnapshotView) (stamp : ℕ) → option_map (λ (g : SnapshotView). record g { reads = [] }) snapshot ≡ Some (record { stamp = stamp; reads = [] }) → (g : SnapshotView) × (snapshot ≡ Some g) × (g.stamp ≡ stamp)
cleared_is None stamp is = cc
cleared_is (Some g) stamp is = (g, refl, (let same : Some (record g { reads = [] }) ≡ Some (record { stamp = stamp; reads = [] }) = is in stamp_of_some g stamp same)) where
  stamp_of : Option SnapshotView → ℕ
  stamp_of None = 0
  stamp_of (Some g) = g.stamp

  stamp_of_some : (g : SnapshotView) (stamp : ℕ) → Some (record g { reads = [] }) ≡ Some (record { stamp = stamp; reads = [] }) → g.stamp ≡ stamp
  stamp_of_some g stamp same = ap stamp_of same

-- a snapshot that was begun at t, after the reads
pub seen_at : (t s0 s1 : PassView) (begins : Begins t s0) → unread s1 ≡ unread s0 → (g : SnapshotView) × (s1.snapshot ≡ Some g) × (g.stamp ≡ begins.stamp)
seen_at t s0 s1 begins rest = cleared_is s1.snapshot begins.stamp (ap (λ (x : PassView). x.snapshot) (rest ∙ ap unread begins.pass))

module _ (p t s0 s1 f : PassView) (clock : ℕ) (begins : Begins t s0) (g : SnapshotView) (later : p.clock ≤ clock) (idle : IsIdle p) (tick : t ≡ ticked p clock) (rest : unread s1 ≡ unread s0) (stamp : g.stamp ≡ begins.stamp) (ends : f ≡ observing (finished s1 g) f.observed) where
  whole : unread s1 ≡ unread (snapshot_begun (ticked p clock) begins.stamp)
  whole = rest ∙ ap unread begins.pass ∙ ap (λ (x : PassView). unread (snapshot_begun x begins.stamp)) tick

  same_engine : engine_of f ≡ engine_of p
  same_engine = ap engine_of ends ∙ ap engine_of whole

  grown : f.log ≡ p.log ++ entry_of_snapshot g ∷ []
  grown = ap (λ (x : PassView). x.log) ends ∙ ap (λ (x : PassView). x.log ++ entry_of_snapshot g ∷ []) whole

  next_snapshot : IsNext p (entry_of_snapshot g)
  next_snapshot = record {
    commit_clock = λ is. cc;
    commit_log = λ is. cc;
    snapshot_met = λ _.
        let met : t.met ≤ begins.stamp + 1 = begins.met in
        let same : t.met ≡ p.met = ap (λ (x : PassView). x.met) tick in
        omega arith;
    snapshot_log = λ _ e among kind.
        let below : e.stamp < begins.stamp + 1 = begins.snapshots e (subst (λ (log : List Entry). Among e log) (sym (ap (λ (x : PassView). x.log) tick)) among) kind in
        omega arith;
  }

  pub Adds-snapshot : Adds p f (entry_of_snapshot g ∷ [])
  Adds-snapshot = record {
    engine = same_engine;
    seat = ap (λ (x : PassView). x.seat) ends ∙ ap (λ (x : PassView). x.seat) whole;
    others = ap (λ (x : PassView). x.others) ends ∙ ap (λ (x : PassView). x.others) whole;
    idle = ap desk_of ends ∙ ap desk_of whole ∙ idle;
    log = grown;
    each = only;
    in_order = (λ second among. absurd among, tt);
    clock = let is : f.clock ≡ clock = ap (λ (x : PassView). x.clock) ends ∙ ap (λ (x : PassView). x.clock) whole in omega arith;
    met =
        let is : f.met ≡ begins.stamp + 1 = ap (λ (x : PassView). x.met) ends ∙ ap (λ (x : PassView). x.met) whole in
        let met : t.met ≤ begins.stamp + 1 = begins.met in
        let same : t.met ≡ p.met = ap (λ (x : PassView). x.met) tick in
        omega arith;
    refusals = let is : f.refusals ≡ p.refusals = ap (λ (x : PassView). x.refusals) ends ∙ ap (λ (x : PassView). x.refusals) whole in omega arith;
  } where
    only : (entry : Entry) → Among entry (entry_of_snapshot g ∷ []) → IsNext p entry
    only entry (inl is) = subst (λ (e : Entry). IsNext p e) is next_snapshot
    only entry (inr among) = absurd among

  pub clock_looked : f.clock ≡ clock
  clock_looked = ap (λ (x : PassView). x.clock) ends ∙ ap (λ (x : PassView). x.clock) whole

  -- what the seat holds absent it holds while it reads
  pub absent_looked : HoldsAbsent p → HoldsAbsent s1
  absent_looked = absent_same p s1 (ap engine_of whole) (ap (λ (x : PassView). x.given) whole) (ap (λ (x : PassView). x.spare) whole) (ap (λ (x : PassView). x.log) whole)

  pub roomy_looked : IsRoomy p → IsRoomy f
  roomy_looked roomy = roomy_same p f same_engine (ap (λ (x : PassView). x.bounds) ends ∙ ap (λ (x : PassView). x.bounds) whole) roomy

  pub log_looked : f.log ≡ p.log ++ entry_of_snapshot g ∷ []
  log_looked = grown

  -- it is behind each commit entry
  pub behind_looked : IsAbove p.log t.published → t.published ≤ begins.stamp + 1 → IsBehind p.log g.stamp
  behind_looked above published e among commit =
      let below : e.stamp < t.published = above e among commit in
      omega arith

-- what is known of a snapshot once it is finished
pub record Sought (p s1 f : PassView) (stamp : ℕ) : Type 0 where
  pub snapshot : SnapshotView
  pub seen : s1.snapshot ≡ Some snapshot
  pub stamp_is : stamp ≡ snapshot.stamp
  pub adds : Adds p f (entry_of_snapshot snapshot ∷ [])
  pub absent : HoldsAbsent p → HoldsAbsent f
  pub roomy : IsRoomy p → IsRoomy f
  pub behind : IsBehind p.log snapshot.stamp
  pub clock : f.clock ≤ clock_after p.clock 1

pub sought : (p t s0 s1 f : PassView) (clock stamp : ℕ) (begins : Begins t s0) → p.clock < clock → clock ≤ clock_after p.clock 1 → IsIdle p → t ≡ ticked p clock → unread s1 ≡ unread s0 → IfSome s1.snapshot (λ g. f ≡ observing (finished s1 g) f.observed) → IfSome s1.snapshot (λ g. stamp ≡ g.stamp)
    → (HoldsAbsent s1 → HoldsAbsent f) → IsAlone p → IsAbove p.log t.published → Sought p s1 f stamp
sought p t s0 s1 f clock stamp begins later drawn idle tick rest ends is held alone above =
    let found = seen_at t s0 s1 begins rest in
    let g = found.0 in
    let ended : f ≡ observing (finished s1 g) f.observed = subst (λ (o : Option SnapshotView). IfSome o (λ g. f ≡ observing (finished s1 g) f.observed)) found.1 ends in
    let stamped : stamp ≡ g.stamp = subst (λ (o : Option SnapshotView). IfSome o (λ g. stamp ≡ g.stamp)) found.1 is in
    record {
      snapshot = g;
      seen = found.1;
      stamp_is = stamped;
      adds = Adds-snapshot p t s0 s1 f clock begins g (before_later p.clock clock later) idle tick rest found.2 ended;
      absent = λ absent. held (absent_looked p t s0 s1 f clock begins g (before_later p.clock clock later) idle tick rest found.2 ended absent);
      roomy = roomy_looked p t s0 s1 f clock begins g (before_later p.clock clock later) idle tick rest found.2 ended;
      behind = behind_looked p t s0 s1 f clock begins g (before_later p.clock clock later) idle tick rest found.2 ended above (begins.alone (subst (λ (x : PassView). IsAlone x) (sym tick) alone));
      clock = subst (λ (n : ℕ). n ≤ clock_after p.clock 1) (sym (clock_looked p t s0 s1 f clock begins g (before_later p.clock clock later) idle tick rest found.2 ended)) drawn;
    }

-- ---- its entry

module _ (p t s0 s1 : PassView) (clock : ℕ) (begins : Begins t s0) (tick : t ≡ ticked p clock) (snapshot : SnapshotView) (seen : s1.snapshot ≡ Some snapshot) where
  pub size_looked : (meaning_of_snapshot s0).size ≡ p.shared.size.records
  size_looked = ap (λ (x : PassView). (meaning_of_snapshot x).size) begins.pass ∙ ap (λ (x : PassView). x.shared.size.records) tick

  pub none_looked : (meaning_of_snapshot s0).writes ≡ []
  none_looked = ap (λ (x : PassView). (meaning_of_snapshot x).writes) begins.pass

  pub reads_looked : (meaning_of_snapshot s1).reads ≡ snapshot.reads
  reads_looked = ap (λ (o : Option SnapshotView). (snapshot_store s1 o).reads) seen

pub is_entry_looked : (records : ℕ) (m m' : Meaning) (commands : List Command) (outcome : Outcome) (placed : Placed) (g : SnapshotView) → FitsRecords
    → m.size ≡ records → m.writes ≡ [] → m'.reads ≡ g.reads → EachTables m m' (λ _ _ tables. outcome ≡ outcome_of commands tables)
    → g.stamp ≡ placed.stamp → placed.snap ≡ true → IsEntryOf stands records commands placed outcome (entry_of_snapshot g)
is_entry_looked records m m' commands outcome placed g fits size_is none reads told stamp kind = record {
  stamp = stamp;
  kind = sym kind;
  answers = λ state tables is_state holds agrees.
      told state holds.0 tables (subst (λ (rs : List (ℕ × Option (List ℕ))). Agrees state rs) (sym reads) agrees)
      (subst (λ (ws : List (ℕ × Option (List ℕ))). StandsFor m.size (overlay ws state) holds.0 tables) (sym none)
      (subst (λ (n : ℕ). StandsFor n state holds.0 tables) (sym size_is) (fits record_limit records state holds.0 tables is_state holds.1)));
  writes = λ commit. cc;
}

-- no state that stands for tables agrees with what was read: then it did not stand
pub torn_looked : (records : ℕ) (m m' : Meaning) (g : SnapshotView) → m.size ≡ records → m.writes ≡ [] → m'.reads ≡ g.reads → EachTables m m' (λ _ _ _. ⊥)
    → (state : State) (places : Places) (tables : TableMap) → Agrees state (entry_of_snapshot g).reads → StandsFor records state places tables → ⊥
torn_looked records m m' g size_is none reads torn state places tables agrees holds =
    torn state places tables (subst (λ (rs : List (ℕ × Option (List ℕ))). Agrees state rs) (sym reads) agrees)
    (subst (λ (ws : List (ℕ × Option (List ℕ))). StandsFor m.size (overlay ws state) places tables) (sym none) (subst (λ (n : ℕ). StandsFor n state places tables) (sym size_is) holds))

-- ---- what it leaves

pub leaves_looked : (p f : PassView) (g : SnapshotView) (commands : List Command) → Adds p f (entry_of_snapshot g ∷ []) → All ReadsAlone commands → LeavesAfter commands p f
leaves_looked p f g commands adds reads tables first within =
    let more = within_weaker p.shared.size.records p.log tables (λ places. places ≡ first) (RunsTo commands tables first) (λ places same. inr same) within in
    let here = within_at p f (entry_of_snapshot g ∷ []) tables (RunsTo commands tables first) adds (within_snapshot p.shared.size.records p.log (entry_of_snapshot g) tables (RunsTo commands tables first) refl more) in
    subst (λ (after : TableMap). LeavesAt f.shared.size.records f.log after (RunsTo commands tables first)) (sym (reads_stay commands tables reads)) here
