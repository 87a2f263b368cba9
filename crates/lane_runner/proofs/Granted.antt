-- A block is granted where the seat is alone and has room for it.
use Rattle.std.proofs.Common.{◌≡◌, ℕ, ◌+◌, ◌<◌, ◌≤◌, max, Bool, true, false, List, [], ◌∷◌, ◌++◌, Option, None, Some, Err, IsSome, append-nil, append_assoc, refl, sym, ap, subst, ◌∙◌, inl, inr, arith, All, if◌then◌else◌}
use Rattle.std.specs.Prelude.{IfSome, IfNone}
use Rattle.std.proofs.lemmas.List.Elements.{All-tail}
use Rattle.std.proofs.lemmas.List.Sums.{sum_by-cons, sum_by-append}
use Rattle.plain_data.specs.declared.entry.Entry.{Entry}
use Rattle.plain_data.specs.State.{State}
use Rattle.core_rule.specs.Views.{Among}
use Rattle.histories.specs.History.{Lawful}
use Rattle.history_replay.specs.Results.{StandsForSome}
use Rattle.replay_model.specs.declared.input.Block.{Block}
use Rattle.replay_model.specs.declared.outcome.Outcome.{Outcome}
use Rattle.replay_model.specs.declared.outcome.Placed.{Placed}
use Rattle.stamp_base.specs.Stamp.{bound_of_clock}
use Rattle.stored_tables.specs.Weight.{weight, all_add}
use Rattle.stored_tables.specs.Weights.{AddsAfter}
use Rattle.validate_core.specs.declared.conflict.Conflict.{Conflict}
use Rattle.seat_post.specs.Snapshot.{entry_of_snapshot}
use Rattle.seat_post.specs.Logs.{IsAbove}
use Rattle.seat_post.specs.Seats.{Bounds, IsAloneAt}
use Rattle.engine_answers.specs.declared.faults.CommitFault.{CommitFault}
use Rattle.txn_engine.specs.Collecting.{collected}
use Rattle.txn_engine.specs.Commits.{EndsCommit}
use Rattle.txn_engine.specs.Faults.{IsShown, IsPending}
use Rattle.txn_engine.specs.Leaves.{HoldsAbsent}
use Rattle.txn_engine.specs.Lists.{IsRoomy, IsRoomyOnceCollected}
use Rattle.txn_engine.specs.Pass.{EngineView, PassView, frame, IsIdle, IsAlone, begun, committed, with_bounds, entry_of, engine_of, desk_of, observing, removing, placing, with_met}
use Rattle.txn_engine.specs.Staged.{HasNoPlace}
use Rattle.lane_runner.specs.Rows.{stands}
use Rattle.lane_runner.specs.Adds.{IsNext}
use Rattle.lane_runner.specs.Blocks.{IsPlaceOf, Commits, IsRefused, AddsOthers}
use Rattle.lane_runner.specs.Lanes.{AreEntries}
use Rattle.lane_runner.specs.Weighs.{blocks_add}
use Rattle.lane_runner.specs.Holding.{HasPlaces, HasRecords}
use Rattle.lane_runner.specs.Finishing.{MayFinish}
use Rattle.lane_runner.specs.Behind.{WeighsAfter}
use Rattle.lane_runner.specs.Ready.{IsReady, IsReadyOnceCollected, HasRecordsFor, IsAmple}
use Rattle.lane_runner.proofs.Adding.{Adds-no_entry, alone_as, alone_stays}
use Rattle.lane_runner.proofs.Held.{absent_same, roomy_once}
use Rattle.lane_runner.proofs.Looked.{Sought}
use Rattle.lane_runner.proofs.Ran.{Opened, adds_entered}
use Rattle.lane_runner.proofs.Run.{Runs-new, Runs-result, Runs-others}
use Rattle.lane_runner.proofs.Weighing.{runs_weigh_after}
use Rattle.lane_runner.proofs.Within.{within_at}

-- ---- the last commit of a log

abbrev last_commit : List Entry → ℕ
last_commit [] = 0
last_commit (e ∷ es) = if e.snapshot then last_commit es else max e.stamp (last_commit es)

reaches_first : (kind : Bool) (stamp rest n : ℕ) → kind ≡ false → n ≡ stamp → n ≤ (if kind then rest else max stamp rest)
reaches_first true stamp rest n commit same = cc
reaches_first false stamp rest n commit same = omega arith

reaches_rest : (kind : Bool) (stamp rest n : ℕ) → n ≤ rest → n ≤ (if kind then rest else max stamp rest)
reaches_rest true stamp rest n low = low
reaches_rest false stamp rest n low = omega arith

stays_below : (kind : Bool) (stamp rest n : ℕ) → (kind ≡ false → stamp < n) → rest < n → (if kind then rest else max stamp rest) < n
stays_below true stamp rest n first low = low
stays_below false stamp rest n first low = let h : stamp < n = first refl in omega arith

up_to_last : (log : List Entry) (e : Entry) → Among e log → e.snapshot ≡ false → e.stamp ≤ last_commit log
up_to_last [] e among commit = absurd among
up_to_last (x ∷ log) e (inl same) commit = reaches_first x.snapshot x.stamp (last_commit log) e.stamp (ap (λ (y : Entry). y.snapshot) same ∙ commit) (sym (ap (λ (y : Entry). y.stamp) same))
up_to_last (x ∷ log) e (inr among) commit = reaches_rest x.snapshot x.stamp (last_commit log) e.stamp (up_to_last log e among commit)

last_below : (log : List Entry) (n : ℕ) → IsAbove log n → 0 < n → last_commit log < n
last_below [] n above some = some
last_below (x ∷ log) n above some = stays_below x.snapshot x.stamp (last_commit log) n (above x (inl refl)) (last_below log n (λ e among. above e (inr among)) some)

-- a commit entry that comes next is behind it
next_behind : (p : PassView) (entry : Entry) → IsNext p entry → entry.snapshot ≡ false → last_commit p.log < entry.stamp
next_behind p entry next commit =
    let later : bound_of_clock p.clock ≤ entry.stamp = next.commit_clock commit in
    last_below p.log entry.stamp (next.commit_log commit) (omega arith)

-- ---- the records

room_left : (fixed most some one more all now records : ℕ) → all ≡ some + (one + more) → now ≡ one → fixed + (most + all) ≤ records → fixed + (most + some + now) ≤ records
room_left fixed most some one more all now records sum same room = omega arith

module _ (adds_after : AddsAfter) (p : PassView) (block : Block) (more : List Block) (has : HasRecordsFor p (block ∷ more)) (lawful : Lawful (StandsForSome stands) p.shared.size.records p.log) where
  same_engine : engine_of p ≡ engine_of has.first
  same_engine = has.ran.adds.engine

  lawful_there : Lawful (StandsForSome stands) has.first.shared.size.records (has.first.log ++ has.ran.entries)
  lawful_there = subst (λ (log : List Entry). Lawful (StandsForSome stands) has.first.shared.size.records log) has.ran.adds.log
      (subst (λ (e : EngineView). Lawful (StandsForSome stands) e.size.records p.log) same_engine lawful)

  are_there : AreEntries has.first.shared.size.records has.ran.entries has.earlier has.results
  are_there = subst (λ (blocks : List Block). AreEntries has.first.shared.size.records has.ran.entries blocks has.results) (sym (has.ran.blocks_are ∙ append-nil has.ran.done)) has.ran.are_entries

  weighs : WeighsAfter has.first.shared.size.records (has.first.log ++ has.ran.entries) has.records.tables (has.records.most + blocks_add has.earlier has.records.tables)
  weighs = runs_weigh_after adds_after has.first.shared.size.records (last_commit has.first.log) has.first.log has.ran.entries has.earlier has.results has.records.tables has.records.most lawful_there has.records.leaves
      (up_to_last has.first.log) (λ entry among. next_behind has.first entry (has.ran.adds.each entry among)) are_there

  -- what the log leaves finds room with what the next block adds
  pub records_left : HasRecords p (all_add block.commands)
  records_left = record {
    tables = weighs.after;
    most = has.records.most + blocks_add has.earlier has.records.tables;
    leaves = within_at has.first p has.ran.entries weighs.after (λ places. weight places ≤ has.records.most + blocks_add has.earlier has.records.tables) has.ran.adds weighs.leaves;
    room = subst (λ (e : EngineView). e.fixed + (has.records.most + blocks_add has.earlier has.records.tables + all_add block.commands weighs.after) ≤ e.size.records) (sym same_engine)
        (room_left has.first.fixed has.records.most (blocks_add has.earlier has.records.tables) (all_add block.commands has.records.tables) (blocks_add more has.records.tables)
        (blocks_add (has.earlier ++ block ∷ more) has.records.tables) (all_add block.commands weighs.after) has.first.shared.size.records
        (sum_by-append (λ (b : Block). all_add b.commands has.records.tables) has.earlier (block ∷ more) ∙ ap (λ (n : ℕ). blocks_add has.earlier has.records.tables + n) (sum_by-cons (λ (b : Block). all_add b.commands has.records.tables) block more))
        (weighs.same block.commands) has.records.room);
  }

-- ---- from block to block

-- where none ran yet
pub ample_new : (p : PassView) (engine : EngineView) (blocks : List Block) → engine_of p ≡ engine → IsIdle p → IsReady p → HasPlaces engine → All MayFinish blocks → HasRecords p (blocks_add blocks) → IsAmple p (blocks ++ [])
ample_new p engine blocks same idle ready places may records = subst (λ (bs : List Block). IsAmple p bs) (sym (append-nil blocks)) (record {
  ready = ready;
  places = subst (λ (e : EngineView). HasPlaces e) (sym same) places;
  may = may;
  records = record { first = p; earlier = []; results = []; ran = Runs-new [] [] p refl refl idle; records = records };
})

-- one more has run, and other entries were added
pub ample_next : (p q r : PassView) (block : Block) (more : List Block) (placed : Placed) (outcome : Outcome) → IsAmple p (block ∷ more) → Commits block.commands p q placed outcome → IsPlaceOf block placed → AddsOthers q r → IsReady r → IsAmple r more
ample_next p q r block more placed outcome ample commits place others ready =
    let has = ample.records in
    let results : List (Placed × Outcome) = has.results ++ (placed, outcome) ∷ [] in
    record {
      ready = ready;
      places = subst (λ (e : EngineView). HasPlaces e) (sym (others.adds.engine ∙ commits.adds.engine)) ample.places;
      may = All-tail MayFinish block more ample.may;
      records = record {
        first = has.first;
        earlier = has.earlier ++ block ∷ [];
        results = results;
        ran = Runs-others (has.earlier ++ block ∷ []) results [] has.first q r (Runs-result has.earlier has.results [] has.first p q block placed outcome results has.ran refl commits place refl) others;
        records = subst (λ (blocks : List Block). HasRecords has.first (blocks_add blocks)) (sym (append_assoc has.earlier (block ∷ []) more)) has.records;
      };
    }

-- ---- a try

-- a seat that is alone meets no conflict
pub none_pending : (p : PassView) (conflict : Conflict) → IsAlone p → IsPending p conflict → ⊥
none_pending p conflict alone shown = shown.1.not_alone alone

none_shown : (p : PassView) (conflict : Conflict) → IsAlone p → IsShown p conflict → ⊥
none_shown p conflict alone shown = shown.1.not_alone alone

-- so its commit is refused only for want of a place
pub only_full : {kept : State → Type 0} {p q : PassView} {why : CommitFault} → IsAlone p → EndsCommit kept p q (Err why) → HasNoPlace p q
only_full {kept} {p} alone (EndsCommit.doomed conflict was) = absurd (none_shown p conflict alone was.shown)
only_full {kept} {p} alone (EndsCommit.stopped conflict is) = absurd (none_shown p conflict alone is.meets.shown)
only_full alone (EndsCommit.no_place has) = has

pub alone_open : (p q : PassView) (clock : ℕ) → frame q ≡ frame (begun p clock) → IsAlone p → IsAlone q
alone_open p q clock kept alone = subst (λ (f : PassView). IsAloneAt f.shared.size f.seat f.others) (sym kept) alone

pub alone_still : (q r : PassView) → frame r ≡ frame q → IsAlone q → IsAlone r
alone_still q r same alone = subst (λ (f : PassView). IsAloneAt f.shared.size f.seat f.others) (sym same) alone

-- it has committed
pub ready_committed : (p b q r r' : PassView) (known : Bounds) → Opened p b q → IsAlone p → r ≡ observing (placing (committed (with_bounds q known)) r.placed) r.observed → HoldsAbsent r → IsRoomyOnceCollected r → r' ≡ r → IsReadyOnceCollected r'
ready_committed p b q r r' known o alone ends absent roomy same = subst (λ (x : PassView). IsReadyOnceCollected x) (sym same) (record {
  alone = alone_stays p r (entry_of q ∷ []) (adds_entered p b q r known o ends) alone;
  absent = absent;
  roomy = roomy;
})

-- it has told that its log is lawful, and has collected
pub none_collected : (p q r : PassView) (met met' : ℕ) (known : Bounds) → q ≡ observing (with_met p met) q.observed → r ≡ removing (observing (collected q met' known r.queue) r.observed) r.gone → IsIdle p → p.met ≤ met → met ≤ met' → IsRefused 0 p r
none_collected p q r met met' known told after idle more most =
    let is : r ≡ removing (observing (collected (with_met p met) met' known r.queue) r.observed) r.gone = after ∙ ap (λ (x : PassView). removing (observing (collected x met' known r.queue) r.observed) r.gone) told in
    let same_clock : r.clock ≡ p.clock = ap (λ (x : PassView). x.clock) is in
    let last_met : r.met ≡ met' = ap (λ (x : PassView). x.met) is in
    let same_refusals : r.refusals ≡ p.refusals = ap (λ (x : PassView). x.refusals) is in
    record {
      adds = Adds-no_entry p r (ap engine_of is) (ap (λ (x : PassView). x.seat) is) (ap (λ (x : PassView). x.others) is) (ap desk_of is ∙ idle) (ap (λ (x : PassView). x.log) is) (omega arith) (omega arith) (omega arith);
      refusals = omega arith;
    }

pub ready_collected : (p q : PassView) → engine_of q ≡ engine_of p → q.seat ≡ p.seat → q.others ≡ p.others → q.given ≡ p.given → q.spare ≡ p.spare → q.log ≡ p.log → IsReadyOnceCollected p → IsRoomy q → IsReady q
ready_collected p q engine seat others given spare log ready roomy = record {
  alone = alone_as p q engine seat others ready.alone;
  absent = absent_same p q engine given spare log ready.absent;
  roomy = roomy;
}

-- it has promoted
pub ready_others : (p q : PassView) → AddsOthers p q → (HoldsAbsent p → HoldsAbsent q) → (IsRoomy p → IsRoomy q) → IsReady p → IsReady q
ready_others p q others absent roomy ready = record {
  alone = alone_stays p q others.entries others.adds ready.alone;
  absent = absent ready.absent;
  roomy = roomy ready.roomy;
}

-- it has seen what a snapshot reads
pub ready_seen : (p s f f' : PassView) (stamp : ℕ) → Sought p s f stamp → f' ≡ f → IsReady p → IsReadyOnceCollected f'
ready_seen p s f f' stamp o same ready = subst (λ (x : PassView). IsReadyOnceCollected x) (sym same) (record {
  alone = alone_stays p f (entry_of_snapshot o.snapshot ∷ []) o.adds ready.alone;
  absent = o.absent ready.absent;
  roomy = roomy_once f (o.roomy ready.roomy);
})

-- what is one of the variants is no other
pub some_is : {A : Type 0} (answer : Option A) → ((value : A) → answer ≡ Some value → ⊥) → IsSome answer → ⊥
some_is None other is = let bad : false ≡ true = is in cc
some_is (Some value) other is = other value refl

pub none_is : {A : Type 0} (answer : Option A) → answer ≡ None → IsSome answer → ⊥
none_is {A = A} answer is some = let bad : false ≡ true = subst (λ (x : Option A). IsSome x) is some in cc

-- a try of a block for which there is room, told behind it that the log is lawful
pub granted_once : {A : Type 0} (answer : Option A) (p q r : PassView) → IsReady p → (Lawful (StandsForSome stands) p.shared.size.records p.log → IsSome answer)
    → IfNone answer (IsRefused 1 p q) → IfSome answer (λ _. IsReady p → IsReadyOnceCollected q) → (IsAlone q → Lawful (StandsForSome stands) q.shared.size.records q.log) → (IsReadyOnceCollected q → IsReady r) → IsSome answer × IsReady r
granted_once None p q r ready granted refused once told collects =
    let still : q.log ≡ p.log = refused.adds.log ∙ append-nil p.log in
    let there : Lawful (StandsForSome stands) q.shared.size.records q.log = told (alone_stays p q [] refused.adds ready.alone) in
    let here : Lawful (StandsForSome stands) p.shared.size.records q.log = subst (λ (e : EngineView). Lawful (StandsForSome stands) e.size.records q.log) refused.adds.engine there in
    let bad : false ≡ true = granted (subst (λ (log : List Entry). Lawful (StandsForSome stands) p.shared.size.records log) still here) in
    cc
granted_once (Some value) p q r ready granted refused once told collects = (refl, collects (once ready))
