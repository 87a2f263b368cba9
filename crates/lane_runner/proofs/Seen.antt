-- What a snapshot that was begun at a pass leaves of it.
use Rattle.std.proofs.Common.{◌≡◌, ℕ, ◌+◌, ◌<◌, ◌≤◌, true, false, List, [], ◌∷◌, Option, None, Some, Result, Ok, Err, refl, sym, ap, subst, ◌∙◌, arith}
use Rattle.std.specs.Prelude.{option_map, IfSome}
use Rattle.plain_data.specs.State.{State, Agrees}
use Rattle.record_store.specs.Limits.{record_limit}
use Rattle.record_store.specs.Meaning.{Meaning}
use Rattle.record_store.specs.Walks.{IfTorn}
use Rattle.record_store.specs.declared.walk.Walk.{Walk}
use Rattle.record_store.specs.declared.walk.Walk.TheVariants.{Store, Torn, NoMemory}
use Rattle.replay_model.specs.declared.command.Command.{Command}
use Rattle.replay_model.specs.declared.outcome.Outcome.{Outcome}
use Rattle.replay_model.specs.declared.outcome.Placed.{Placed}
use Rattle.replay_model.specs.Running.{outcome_of}
use Rattle.replay_model.specs.TableMap.{TableMap}
use Rattle.stored_tables.specs.Laws.{FitsRecords}
use Rattle.stored_tables.specs.Kept.{KeepsTables}
use Rattle.stored_tables.specs.Places.{Places}
use Rattle.stored_tables.specs.Tables.{StandsFor, EachTables}
use Rattle.seat_post.specs.Ends.{Stood}
use Rattle.seat_post.specs.Snapshot.{SnapshotView, first_snapshot}
use Rattle.txn_engine.specs.Pass.{PassView, IsIdle, with_snapshot, ticked, engine_of, desk_of, observing}
use Rattle.seat_post.specs.Logs.{AreBelow}
use Rattle.txn_engine.specs.Snapshot.{Begins, snapshot_begun, finished, meaning_of_snapshot, unread}
use Rattle.seat_post.specs.Snapshot.{entry_of_snapshot}
use Rattle.lane_runner.specs.Adds.{IsNext, Adds}
use Rattle.lane_runner.specs.Blocks.{Commits, CountsOnce}
use Rattle.lane_runner.proofs.Adding.{Adds-one}
use Rattle.lane_runner.proofs.Entries.{never_stood}

-- where what a torn answer says does not hold, no answer is torn
pub not_torn : {T F : Type 0} (told : Result T (Walk F)) (P : Type 0) → IfTorn told (λ _. P) → (P → ⊥) → IfTorn told (λ _. ⊥)
not_torn (Ok value) P torn never = tt
not_torn (Err (Store fault)) P torn never = tt
not_torn (Err (Torn rid)) P torn never = never torn
not_torn (Err NoMemory) P torn never = tt

-- at the pass q a snapshot has read this, which was begun at p behind a tick to this clock
pub record HasSeen (p q : PassView) (clock : ℕ) (g : SnapshotView) : Type 0 where
  pub same : q ≡ observing (with_snapshot (snapshot_begun (ticked p clock) g.stamp) (Some g)) q.observed
  pub met : p.met ≤ g.stamp + 1
  pub snapshots : AreBelow p.log (g.stamp + 1)

-- the records that it sees, with these reads
abbrev sees : PassView → List (ℕ × Option (List ℕ)) → Meaning
sees p reads = record { size = p.shared.size.records; fixed = p.fixed; reads = reads; writes = []; given = [] }

abbrev stamp_in : Option SnapshotView → ℕ
stamp_in None = 0
stamp_in (Some g) = g.stamp

-- a snapshot that has read still is one, at its stamp
still_there : (snapshot : Option SnapshotView) (stamp : ℕ) → option_map (λ (g : SnapshotView). record g { reads = [] }) snapshot ≡ first_snapshot stamp → (g : SnapshotView) × (snapshot ≡ Some g) × (g.stamp ≡ stamp)
still_there None stamp is = cc
still_there (Some g) stamp is = (g, refl, ap stamp_in is)

-- one that begins
begun_is : (p t s : PassView) (clock : ℕ) → t ≡ ticked p clock → (begins : Begins t s) → s ≡ observing (snapshot_begun (ticked p clock) begins.stamp) s.observed
begun_is p t s clock ticks begins = begins.pass ∙ ap (λ (x : PassView). observing (snapshot_begun x begins.stamp) s.observed) ticks

pub sees_all : (p t s : PassView) (clock : ℕ) → t ≡ ticked p clock → Begins t s → (meaning_of_snapshot s).size ≡ p.shared.size.records
sees_all p t s clock ticks begins = ap (λ (x : PassView). (meaning_of_snapshot x).size) (begun_is p t s clock ticks begins)

module _ (p t s q : PassView) (clock : ℕ) (ticks : t ≡ ticked p clock) (begins : Begins t s) (rest : unread q ≡ unread s) where
  looks : s ≡ observing (snapshot_begun (ticked p clock) begins.stamp) s.observed
  looks = begun_is p t s clock ticks begins

  pub has_seen : (g : SnapshotView) × HasSeen p q clock g
  has_seen =
      let there = still_there q.snapshot begins.stamp (ap (λ (x : PassView). x.snapshot) rest ∙ ap (λ (x : PassView). (unread x).snapshot) looks) in
      let same : q ≡ observing (with_snapshot (snapshot_begun (ticked p clock) begins.stamp) (Some there.0)) q.observed =
      ap (λ (x : PassView). observing (with_snapshot x q.snapshot) q.observed) (rest ∙ ap unread looks) ∙ ap (λ (snapshot : Option SnapshotView). observing (with_snapshot (snapshot_begun (ticked p clock) begins.stamp) snapshot) q.observed) there.1 in
      let met : p.met ≤ begins.stamp + 1 = subst (λ (x : PassView). x.met ≤ begins.stamp + 1) ticks begins.met in
      let snapshots : AreBelow p.log (begins.stamp + 1) = subst (λ (x : PassView). AreBelow x.log (begins.stamp + 1)) ticks begins.snapshots in (
        there.0,
        record {
          same = subst (λ (n : ℕ). q ≡ observing (with_snapshot (snapshot_begun (ticked p clock) n) (Some there.0)) q.observed) (sym there.2) same;
          met = subst (λ (n : ℕ). p.met ≤ n + 1) (sym there.2) met;
          snapshots = subst (λ (n : ℕ). AreBelow p.log (n + 1)) (sym there.2) snapshots;
        },
      )

  -- what holds of each state that agrees with what it read and stands for tables
  each_state : (P : TableMap → Type 0) → EachTables (meaning_of_snapshot s) (meaning_of_snapshot q) (λ _ _ tables. P tables)
      → (state : State) (places : Places) (tables : TableMap) → Agrees state has_seen.0.reads → StandsFor p.shared.size.records state places tables → P tables
  each_state P each state places tables agrees holds =
      let after : meaning_of_snapshot q ≡ sees p has_seen.0.reads = ap meaning_of_snapshot has_seen.1.same in
      let told : EachTables (sees p []) (sees p has_seen.0.reads) (λ _ _ tables. P tables) =
      subst (λ (m : Meaning). EachTables m (sees p has_seen.0.reads) (λ _ _ tables. P tables)) (ap meaning_of_snapshot looks)
      (subst (λ (m : Meaning). EachTables (meaning_of_snapshot s) m (λ _ _ tables. P tables)) after each) in
      told state places tables agrees holds

  -- it has met no torn tables
  pub never_torn : (kept : State → Type 0) → KeepsTables kept → IfSome q.snapshot (λ g. Stood kept q.shared.size.records q.log (entry_of_snapshot g))
      → EachTables (meaning_of_snapshot s) (meaning_of_snapshot q) (λ _ _ _. ⊥) → ⊥
  never_torn kept keeps stood torn =
      let here : Stood kept p.shared.size.records p.log (entry_of_snapshot has_seen.0) =
      subst (λ (x : PassView). IfSome x.snapshot (λ g. Stood kept x.shared.size.records x.log (entry_of_snapshot g))) has_seen.1.same stood in
      never_stood kept p.shared.size.records p.log (entry_of_snapshot has_seen.0) keeps here (each_state (λ _. ⊥) torn)

  -- ---- its end

  next_snapshot : IsNext p (entry_of_snapshot has_seen.0)
  next_snapshot = record {
    commit_clock = λ is. cc;
    commit_log = λ is. cc;
    snapshot_met = λ _. has_seen.1.met;
    snapshot_log = λ _ e among kind. let low : e.stamp < has_seen.0.stamp + 1 = has_seen.1.snapshots e among kind in omega arith;
  }

  module _ (r f : PassView) (after : IfSome q.snapshot (λ g. r ≡ observing (finished q g) r.observed)) (same : f ≡ r) (idle : IsIdle p) (later : p.clock ≤ clock) where
    -- the pass before it, with its entry
    ends : f ≡ observing (finished (with_snapshot (snapshot_begun (ticked p clock) has_seen.0.stamp) (Some has_seen.0)) has_seen.0) r.observed
    ends = same ∙ subst (λ (x : PassView). IfSome x.snapshot (λ g. r ≡ observing (finished x g) r.observed)) has_seen.1.same after

    at_clock : f.clock ≡ clock
    at_clock = ap (λ (x : PassView). x.clock) ends

    pub Adds-finished : Adds p f (entry_of_snapshot has_seen.0 ∷ [])
    Adds-finished = Adds-one p f (entry_of_snapshot has_seen.0) next_snapshot
        (ap engine_of ends)
        (ap (λ (x : PassView). x.seat) ends)
        (ap (λ (x : PassView). x.others) ends)
        (ap desk_of ends ∙ idle)
        (ap (λ (x : PassView). x.log) ends)
        (omega (arith, at_clock))
        (let is : f.met ≡ has_seen.0.stamp + 1 = ap (λ (x : PassView). x.met) ends in omega (arith, has_seen.1.met))
        (let is : f.refusals ≡ p.refusals = ap (λ (x : PassView). x.refusals) ends in omega arith)

    pub none_refused : CountsOnce p f
    none_refused = record { once = let is : f.refusals ≡ p.refusals = ap (λ (x : PassView). x.refusals) ends in omega arith }

    -- the block has its entry
    pub commits_seen : (commands : List Command) (outcome : Outcome) (placed : Placed) → FitsRecords → EachTables (meaning_of_snapshot s) (meaning_of_snapshot q) (λ _ _ tables. outcome ≡ outcome_of commands tables)
        → IfSome q.snapshot (λ g. placed.stamp ≡ g.stamp) → true ≡ placed.snap → Commits commands p f placed outcome
    commits_seen commands outcome placed fits told stamp kind = record {
      entry = entry_of_snapshot has_seen.0;
      adds = Adds-finished;
      is_entry = record {
        stamp = sym (subst (λ (x : PassView). IfSome x.snapshot (λ g. placed.stamp ≡ g.stamp)) has_seen.1.same stamp);
        kind = kind;
        answers = λ state tables is_state holds agrees.
            each_state (λ tables. outcome ≡ outcome_of commands tables) told state holds.0 tables agrees (fits record_limit p.shared.size.records state holds.0 tables is_state holds.1);
        writes = λ commit. let both : true ≡ false = kind ∙ commit in cc;
      };
      seat = λ commit. absurd (let both : true ≡ false = kind ∙ commit in cc);
      weighs = λ commit. cc;
    }
