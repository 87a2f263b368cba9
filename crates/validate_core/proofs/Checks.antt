-- The checks of what a transaction overwrites, from step to step.
use Rattle.std.proofs.Common.{◌≡◌, ◌≢◌, ℕ, ◌+◌, ◌<◌, ◌≤◌, true, false, cond, List, [], ◌∷◌, ◌++◌, append-nil, refl, sym, ap, ◌∙◌, subst, inl, inr, ⊎_elim, take, take_all, length, arith, Result, Ok, Err, OnOk}
use Rattle.std.specs.Prelude.{nat_le}
use Rattle.std.proofs.lemmas.Bool.{le-leb, lt-leb}
use Rattle.plain_data.specs.State.{State}
use Rattle.word_layout.specs.Name.{rts}
use Rattle.core_rule.specs.View.{View, Flight, writing, Read, Write, checks, Stand, shown, Search, still, stands, Work, Load}
use Rattle.core_rule.specs.Views.{Among}
use Rattle.core_rule.specs.Searching.{IsAt, stand_in, look_in, stamp_seen, state_seen, checked_in, IsFinal, OthersPassed, Begins}
use Rattle.core_rule.specs.Deciding.{stamp_in, commit_of, IsFitting}
use Rattle.core_rule.specs.Hands.{Shared, Seated, IsReady, StaysReady, Steps}
use Rattle.core_rule.specs.Kinds.{load_read_stamp, decide_by_check}
use Rattle.core_rule.specs.Learnt.{IsOfAnother}
use Rattle.core_rule.specs.Paths.{EndsAt, load}
use Rattle.version_search.specs.Finding.{Finds, stand_for}
use Rattle.validate_core.specs.Sets.{SetsView, Turn, records_written}
use Rattle.validate_core.specs.Checked.{IsReadInTime, PassesCheck, Checks}
use Rattle.validate_core.specs.OneByOne.{OneByOne, none_yet}
use Rattle.validate_core.specs.Validating.{Works, Stage, StageOf, MetFinal, its_read_stamp, Writes}
use Rattle.validate_core.proofs.Works.{works_none, works_both, works_step, ready_none, ready_both, among_turn, among_last}
use Rattle.validate_core.proofs.OneByOne.{take_next, each_next, each_all, read_in_time, checks_some}
use Rattle.validate_core.proofs.Staging.{found_works, another_works}

pub check_begins : (stamp : ℕ) (s : SetsView) (up done : List Read) (checked : List Write) (i : ℕ) (u : Write) (v : View) → Turn i s.writes u → Stage stamp s up done checked v → Begins (checks u) u.record_number v.work
check_begins stamp s up done checked i u v turn st = (st.rests, refl, subst (Among u) (sym st.linked) (among_turn i s.writes u turn), st.undecided.undecided)

module _ (stamp : ℕ) (s : SetsView) (i : ℕ) (u : Write) (place w n : ℕ) (v x : View) (f : Finds (checks u) stamp u.record_number place w n v x) where
  found_search : x.work.search ≡ stands (stand_for (checks u) u.record_number place f.reaches.under) (shown w n)
  found_search = ap (λ (y : View). y.work.search) f.reaches.view

  pub checked_is : checked_in x.work.search ≡ u
  checked_is = ap checked_in found_search

  pub found_stage : {up done : List Read} {checked : List Write} → Stage stamp s up done checked v → Stage stamp s up done checked x
  found_stage {up} {done} {checked} st = subst (Stage stamp s up done checked) (sym f.reaches.view) record {
    in_flight = st.in_flight;
    rests = tt;
    reads = st.reads;
    raised = st.raised;
    finished = st.finished;
    linked = st.linked;
    passed = st.passed;
    undecided = record { undecided = st.undecided.undecided; unsettled = st.undecided.unsettled };
    collected = st.collected;
  }

  -- the search stands at the place of the version, which is committed or deleted
  pub found_at : IsAt place x.work.search
  found_at = subst (IsAt place) (sym found_search) refl

  pub found_look : look_in x.work.search ≡ shown (stamp_seen (look_in x.work.search)) (state_seen (look_in x.work.search))
  found_look = subst (λ (z : Search). look_in z ≡ shown (stamp_seen (look_in z)) (state_seen (look_in z))) (sym found_search) refl

  pub found_final : n ≢ 2 → IsFinal (state_seen (look_in x.work.search))
  found_final ne = let range = f.reaches.state in let low = range.0 in subst (λ (z : Search). IsFinal (state_seen (look_in z))) (sym found_search) (omega arith, range.1)

  pub found_aim : (stand_in x.work.search).aim ≡ checks (checked_in x.work.search)
  found_aim = subst (λ (z : Search). (stand_in z).aim ≡ checks (checked_in z)) (sym found_search) refl

  -- all others have passed, at the last write
  pub others_passed : {up done : List Read} → Turn i s.writes u → i + 1 ≡ length s.writes → Stage stamp s up done (take i s.writes) v → OthersPassed (checked_in x.work.search).record_number x.work.linked x.work.passed
  others_passed {up} {done} turn last st c has =
      let sx = found_stage st in
      let all : s.writes ≡ take i s.writes ++ u ∷ [] = sym (take_all (i + 1) s.writes (omega arith)) ∙ take_next i s.writes u turn in
      let there : Among c (take i s.writes ++ u ∷ []) = subst (Among c) (sx.linked ∙ all) has in
      ⊎_elim (λ (old : Among c (take i s.writes)). inr (sx.passed c old)) (λ (new : u ≡ c). inl (sym (ap (λ (y : Write). y.record_number) (checked_is ∙ new)))) (among_last c u (take i s.writes) there)

  module _ (kept : State → Type 0) (now at : Seated) (r : ℕ) (here : now.view ≡ x)
      (step : Steps kept (load_read_stamp (stand_in now.view.work.search) (checked_in now.view.work.search) (stamp_seen (look_in now.view.work.search)) (state_seen (look_in now.view.work.search))) now r at) where
    pub passes_works : Works v at.view
    passes_works = works_both v x at.view (found_works (checks u) stamp u.record_number place w n v x f) (subst (λ (y : View). Works y at.view) here (works_step now.view at.view _ _ _ step.view refl refl))

    pub passes_stage : {up done : List Read} → Turn i s.writes u → Stage stamp s up done (take i s.writes) v → r ≤ stamp → Stage stamp s up done (take (i + 1) s.writes) at.view
    passes_stage {up} {done} turn st le =
        let e = step.view in let sn = subst (Stage stamp s up done (take i s.writes)) (sym here) (found_stage st) in
        let is : checked_in now.view.work.search ≡ u = ap (λ (y : View). checked_in y.work.search) here ∙ checked_is in
        let in_flight : stamp_in now.view.flight ≡ stamp = ap stamp_in sn.in_flight in
        let test : nat_le r (stamp_in now.view.flight) ≡ true = le-leb r (stamp_in now.view.flight) (omega arith) in
        let work_is : at.view.work ≡ record now.view.work { search = still; passed = u.record_number ∷ now.view.work.passed } =
        ap (λ (y : View). y.work) e ∙ (λ j. record now.view.work { search = still; passed = cond (test j) ((is j).record_number ∷ now.view.work.passed) now.view.work.passed }) in
        let flight_is : at.view.flight ≡ now.view.flight = ap (λ (y : View). y.flight) e in
        subst (λ (y : Flight). StageOf stamp s up done (take (i + 1) s.writes) y at.view.work) (sym flight_is)
        (subst (λ (y : Work). StageOf stamp s up done (take (i + 1) s.writes) now.view.flight y) (sym work_is) record {
          in_flight = sn.in_flight;
          rests = tt;
          reads = sn.reads;
          raised = sn.raised;
          finished = sn.finished;
          linked = sn.linked;
          passed = λ c has. ⊎_elim (λ (old : Among c (take i s.writes)). inr (sn.passed c old)) (λ (new : u ≡ c). inl (ap (λ (y : Write). y.record_number) new))
              (among_last c u (take i s.writes) (subst (Among c) (take_next i s.writes u turn) has));
          undecided = record { undecided = sn.undecided.undecided; unsettled = sn.undecided.unsettled };
          collected = sn.collected;
        })

-- the first of the checks have passed
pub record Checking (core : Shared) (before : Seated) (stamp : ℕ) (s : SetsView) (i : ℕ) (now : Seated) : Type 0 where
  pub stays : StaysReady core before now
  pub works : Works before.view now.view
  pub checked : OneByOne (IsReadInTime stamp) (records_written (take i s.writes)) before.view.seen.loads now.view.seen.loads
  pub stage : Stage stamp s s.reads s.reads (take i s.writes) now.view

pub checking_starts : (core : Shared) (before : Seated) (stamp : ℕ) (s : SetsView) → IsReady core before → Stage stamp s s.reads s.reads [] before.view → Checking core before stamp s 0 before
checking_starts core before stamp s ready stage = record { stays = ready_none core before ready; works = works_none before.view; checked = none_yet before.view.seen.loads; stage = stage }

pub checking_next : (core : Shared) (before : Seated) (stamp : ℕ) (s : SetsView) (i : ℕ) (now at : Seated) → Checking core before stamp s i now → StaysReady core now at → Works now.view at.view
    → PassesCheck stamp i s.writes now.view.seen.loads at.view.seen.loads → Stage stamp s s.reads s.reads (take (i + 1) s.writes) at.view → Checking core before stamp s (i + 1) at
checking_next core before stamp s i now at c stays works passes stage = record {
  stays = ready_both core before now at c.stays stays;
  works = works_both before.view now.view at.view c.works works;
  checked = each_next (λ (w : Write). w.record_number) (IsReadInTime stamp) i s.writes passes.write before.view.seen.loads now.view.seen.loads at.view.seen.loads passes.turn c.checked passes.in_time;
  stage = stage;
}

-- all of them, with the last one
checks_all : (core : Shared) (before : Seated) (stamp : ℕ) (s : SetsView) (i : ℕ) (now : Seated) (after' : List Load) → i + 1 ≡ length s.writes → Checking core before stamp s i now → PassesCheck stamp i s.writes now.view.seen.loads after' → Checks stamp before.view.number (records_written s.writes) before.view.seen.loads after'
checks_all core before stamp s i now after' last c passes =
    checks_some stamp before.view.number s.writes before.view.seen.loads after' (omega arith)
    (each_all (λ (w : Write). w.record_number) (IsReadInTime stamp) (i + 1) s.writes before.view.seen.loads after' (omega arith)
    (each_next (λ (w : Write). w.record_number) (IsReadInTime stamp) i s.writes passes.write before.view.seen.loads now.view.seen.loads after' passes.turn c.checked passes.in_time))

pub ok_checks : {E : Type 0} (core : Shared) (before : Seated) (stamp : ℕ) (s : SetsView) (i : ℕ) (now : Seated) (after' : List Load) (r : Result (Unit {0}) E) → i + 1 ≡ length s.writes → Checking core before stamp s i now
    → OnOk r (PassesCheck stamp i s.writes now.view.seen.loads after') → OnOk r (Checks stamp before.view.number (records_written s.writes) before.view.seen.loads after')
ok_checks core before stamp s i now after' (Ok t) last c passes = checks_all core before stamp s i now after' last c passes
ok_checks core before stamp s i now after' (Err e) last c passes = tt

-- the next load was at the place of the version
pub loads_there : (stamp : ℕ) (s : SetsView) (i : ℕ) (u : Write) (place w n r : ℕ) (v x y : View) → Finds (checks u) stamp u.record_number place w n v x → y.seen.loads ≡ x.seen.loads ++ load (rts (stand_in x.work.search).place) r ∷ []
    → y.seen.loads ≡ x.seen.loads ++ load (rts place) r ∷ []
loads_there stamp s i u place w n r v x y f loads = loads ∙ ap (λ (z : Search). x.seen.loads ++ load (rts (stand_in z).place) r ∷ []) (found_search stamp s i u place w n v x f)

-- the next load found no greater read stamp at the place of the version
pub check_passes : (stamp : ℕ) (s : SetsView) (i : ℕ) (u : Write) (place w n r : ℕ) (v x y : View) → Turn i s.writes u → Finds (checks u) stamp u.record_number place w n v x → n ≢ 2 → r ≤ stamp
    → y.seen.loads ≡ x.seen.loads ++ load (rts (stand_in x.work.search).place) r ∷ [] → PassesCheck stamp i s.writes v.seen.loads y.seen.loads
check_passes stamp s i u place w n r v x y turn f ne le loads = record {
  write = u;
  turn = turn;
  in_time = read_in_time (checks u) stamp u.record_number place w n r v x y.seen.loads ne f le (loads_there stamp s i u place w n r v x y f loads);
}

-- a greater read stamp, which the next load found at the place of the version
pub later_shown : (stamp : ℕ) (s : SetsView) (i : ℕ) (u : Write) (place w n r : ℕ) (v x y : View) → Turn i s.writes u → Finds (checks u) stamp u.record_number place w n v x → n ≢ 2 → stamp < r → Works x y
    → y.seen.loads ≡ x.seen.loads ++ load (rts (stand_in x.work.search).place) r ∷ [] → IsOfAnother x r
    → (stamp < r) × IsOfAnother y r × Writes u.record_number s × MetFinal stamp u.record_number w (its_read_stamp r) v.seen.loads y.seen.loads
later_shown stamp s i u place w n r v x y turn f ne later works loads o =
    let range = f.reaches.state in let low = range.0 in let high = range.1 in (
      later,
      another_works r x y works o,
      record { write = u; among = among_turn i s.writes u turn; of_record = refl },
      record {
        status = n;
        final = (omega arith, high);
        met = record {
          place = place;
          earlier = [];
          met = x.seen.loads;
          later = [];
          path = subst (λ (ls : List Load). EndsAt stamp u.record_number place w n ls x.seen.loads) (sym (append-nil v.seen.loads)) f.path;
          loads = loads_there stamp s i u place w n r v x y f loads;
        };
      },
    )

-- a check that fails decides nothing, and leaves the log as it was
pub refused_works : (kept : State → Type 0) (p : Stand) (u : Write) (w n r : ℕ) (now at : Seated) → Steps kept (decide_by_check p u w n) now r at → stamp_in now.view.flight < r → Works now.view at.view
refused_works kept p u w n r now at step later =
    let x = now.view in
    let fails : nat_le r (stamp_in x.flight) ≡ false = lt-leb r (stamp_in x.flight) later in
    works_step x at.view
    (record x.work { search = still; passed = cond (nat_le r (stamp_in x.flight)) (u.record_number ∷ x.work.passed) x.work.passed; decided = nat_le r (stamp_in x.flight) })
    (record x.seen { loads = x.seen.loads ++ load (rts p.place) r ∷ [] }) (load (rts p.place) r ∷ [])
    (step.view ∙ (λ i. record x {
      work = record x.work { search = still; passed = cond (nat_le r (stamp_in x.flight)) (u.record_number ∷ x.work.passed) x.work.passed; decided = nat_le r (stamp_in x.flight) };
      log = cond (fails i) (x.log ++ commit_of x.flight x.work.finished x.work.linked ∷ []) x.log;
      seen = record x.seen { loads = x.seen.loads ++ load (rts p.place) r ∷ [] };
    })) refl refl

-- what is in flight is the commit entry of the sets, once all reads are finished
pub entry_is : (stamp : ℕ) (s : SetsView) (checked : List Write) (x : View) → Stage stamp s s.reads s.reads checked x → commit_of x.flight x.work.finished x.work.linked ≡ commit_of (writing stamp) s.reads s.writes
entry_is stamp s checked x st = λ i. commit_of (st.in_flight i) (st.finished i) (st.linked i)

-- so the entry that fits is the one that is decided
pub fits_found : (kept : State → Type 0) (records stamp : ℕ) (s : SetsView) (checked : List Write) (x : View) → Stage stamp s s.reads s.reads checked x → IsFitting kept records (commit_of (writing stamp) s.reads s.writes)
    → IsFitting kept records (commit_of x.flight x.work.finished x.work.linked)
fits_found kept records stamp s checked x st fits = subst (IsFitting kept records) (sym (entry_is stamp s checked x st)) fits
