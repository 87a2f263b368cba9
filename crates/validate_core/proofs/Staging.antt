-- The reads and the writes of a transaction, checked one by one.
use Rattle.std.proofs.Common.{◌≡◌, ◌≢◌, ℕ, ◌+◌, ◌<◌, ◌≤◌, Bool, true, false, cond, eq-eqb, List, [], ◌∷◌, ◌++◌, append_assoc, append-nil, refl, sym, ap, ◌∙◌, subst, inl, inr, take, take_all, length, arith, Result, Ok, Err, OnOk, OnErr, IfErr}
use Rattle.std.proofs.lemmas.Bool.{le-leb}
use Rattle.plain_data.specs.State.{State}
use Rattle.word_layout.specs.Size.{Size, places}
use Rattle.core_rule.specs.View.{View, Logged, writing, Read, Write, Aim, again, Stand, Look, shown, still, stands, Load}
use Rattle.core_rule.specs.Views.{Among}
use Rattle.validate_core.specs.declared.conflict.Conflict.{Conflict}
use Rattle.validate_core.specs.declared.conflict.Conflict.TheVariants.{Pending, ReadLater, Overtaken}
use Rattle.core_rule.specs.Searching.{Rests, IsReading, IsWhole, IsNotRead, IsFinal, is_final, ends, Begins}
use Rattle.core_rule.specs.Deciding.{AreReads, commit_of, StoodAt}
use Rattle.core_rule.specs.Hands.{Shared, Seated, IsReady, StaysReady, Steps}
use Rattle.core_rule.specs.Kinds.{raise_read_stamp}
use Rattle.core_rule.specs.Learnt.{IsOfAnother}
use Rattle.core_rule.specs.Paths.{EndsAt}
use Rattle.version_search.specs.Finding.{Finds, stand_for}
use Rattle.version_search.proofs.Grown.{grows_both}
use Rattle.validate_core.specs.Sets.{SetsView, Turn, IsInside, Once, versions_read, records_written}
use Rattle.validate_core.specs.Checked.{Raises, FindsFinal, FindsAgain, Checks, Validates}
use Rattle.validate_core.specs.OneByOne.{OneByOne, none_yet}
use Rattle.validate_core.specs.Validating.{Works, Decides, Stage, Stopped, Met, MetFinal, no_more, its_read_stamp, IsShown, HasRead}
use Rattle.validate_core.proofs.OneByOne.{take_next, each_next, finds_final}
use Rattle.validate_core.proofs.Works.{works_none, works_both, works_step, ready_over, ready_none, ready_both, among_turn, once_turn}

pub read_of : (ds found : List Read) (d : Read) → AreReads ds found → Among d ds → Among d found × IsWhole d
read_of [] found d h a = absurd a
read_of (c ∷ ds) found d h (inl e) = (subst (λ (x : Read). Among x found) e h.0, subst IsWhole e h.1)
read_of (c ∷ ds) found d h (inr a) = read_of ds found d h.3 a

pub once_reads : (ds found : List Read) → AreReads ds found → Once (λ (d : Read). d.record_number) ds
once_reads [] found h = tt
once_reads (d ∷ ds) found h = (λ c a e. h.2 c a e, once_reads ds found h.3)

-- ---- read stamps are raised

pub record Raising (core : Shared) (before : Seated) (stamp : ℕ) (s : SetsView) (i : ℕ) (now : Seated) : Type 0 where
  pub stays : StaysReady core before now
  pub works : Works before.view now.view
  pub raised : OneByOne Raises (versions_read (take i s.reads)) before.view.seen.loads now.view.seen.loads
  pub stage : Stage stamp s (take i s.reads) [] [] now.view

pub raising_starts : (core : Shared) (before : Seated) (stamp : ℕ) (s : SetsView) → IsReady core before → Stage stamp s [] [] [] before.view → Raising core before stamp s 0 before
raising_starts core before stamp s ready stage = record { stays = ready_none core before ready; works = works_none before.view; raised = none_yet before.view.seen.loads; stage = stage }

module _ (core : Shared) (before : Seated) (stamp : ℕ) (s : SetsView) (i : ℕ) (now : Seated) (d : Read) (turn : Turn i s.reads d) (at : Raising core before stamp s i now) where
  pub raise_found : Among d now.view.work.reads × IsWhole d
  raise_found = read_of s.reads now.view.work.reads d at.stage.reads (among_turn i s.reads d turn)

  pub raise_inside : (z : Size) → IsInside z s → d.place < places z
  raise_inside z inside = (inside.reads d (among_turn i s.reads d turn)).1

  pub raise_only : IsNotRead d.record_number now.view.work.raised
  raise_only c h = once_turn (λ (x : Read). x.record_number) i s.reads d (once_reads s.reads now.view.work.reads at.stage.reads) turn c (subst (Among c) at.stage.raised h)

  pub raises : {kept : State → Type 0} (n : ℕ) (next' : Seated) → Steps kept (raise_read_stamp d) now n next' → Raising core before stamp s (i + 1) next'
  raises {kept} n next' step =
      let e = step.view in let st = at.stage in record {
        stays = ready_both core before now next' at.stays (ready_over core now next' _ e refl refl refl at.stays.ready step.seat);
        works = works_both before.view now.view next'.view at.works (works_step now.view next'.view _ _ _ e refl refl);
        raised = each_next (λ (x : Read). (x.record_number, x.version)) Raises i s.reads d before.view.seen.loads now.view.seen.loads next'.view.seen.loads turn at.raised record { place = d.place; found = n; loads = ap (λ (v : View). v.seen.loads) e };
        stage = subst (Stage stamp s (take (i + 1) s.reads) [] []) (sym e) record {
          in_flight = st.in_flight;
          rests = st.rests;
          reads = st.reads;
          raised = ap (λ (xs : List Read). xs ++ d ∷ []) st.raised ∙ sym (take_next i s.reads d turn);
          finished = st.finished;
          linked = st.linked;
          passed = st.passed;
          undecided = record { undecided = st.undecided.undecided; unsettled = st.undecided.unsettled };
          collected = st.collected;
        };
      }

pub raised_all : (core : Shared) (before : Seated) (stamp : ℕ) (s : SetsView) (i : ℕ) (now : Seated) → length s.reads ≤ i → Raising core before stamp s i now → Stage stamp s s.reads [] [] now.view
raised_all core before stamp s i now over at = subst (λ (xs : List Read). Stage stamp s xs [] [] now.view) (take_all i s.reads over) at.stage

-- ---- conflicts

-- where the call began earlier, and where it ends later
met_earlier : (stamp rid w n : ℕ) (more : ℕ → List Load) (u v x : View) → Works u v → Met stamp rid w n more v.seen.loads x.seen.loads → Met stamp rid w n more u.seen.loads x.seen.loads
met_earlier stamp rid w n more u v x a m = record {
  place = m.place;
  earlier = a.grows.loaded ++ m.earlier;
  met = m.met;
  later = m.later;
  path = subst (λ (ls : List Load). EndsAt stamp rid m.place w n ls m.met) (ap (λ (ls : List Load). ls ++ m.earlier) a.grows.loads ∙ append_assoc u.seen.loads a.grows.loaded m.earlier) m.path;
  loads = m.loads;
}

final_earlier : (stamp rid w : ℕ) (more : ℕ → List Load) (u v x : View) → Works u v → MetFinal stamp rid w more v.seen.loads x.seen.loads → MetFinal stamp rid w more u.seen.loads x.seen.loads
final_earlier stamp rid w more u v x a m = record { status = m.status; final = m.final; met = met_earlier stamp rid w m.status more u v x a m.met }

pub shown_earlier : (stamp : ℕ) (s : SetsView) (u v x : View) (c : Conflict) → Works u v → IsShown stamp s v x c → IsShown stamp s u x c
shown_earlier stamp s u v x (Pending rid w) a h = (h.0, h.1, h.2, met_earlier stamp rid w 2 no_more u v x a h.3)
shown_earlier stamp s u v x (ReadLater rid w r) a h = (h.0, h.1, h.2, final_earlier stamp rid w (its_read_stamp r) u v x a h.3)
shown_earlier stamp s u v x (Overtaken rid seen now) a h = (h.0, h.1, h.2, h.3, final_earlier stamp rid now no_more u v x a h.4)

pub another_works : (n : ℕ) (v x : View) → Works v x → IsOfAnother v n → IsOfAnother x n
another_works n v x a o =
    subst (λ (y : View). IsOfAnother y n) (sym a.only) record { stamp = o.stamp; another = o.another; within = o.within; not_alone = λ alone. o.not_alone alone }

met_later : (stamp rid w n : ℕ) (more : ℕ → List Load) (u v x : View) → Works v x → Met stamp rid w n more u.seen.loads v.seen.loads → Met stamp rid w n more u.seen.loads x.seen.loads
met_later stamp rid w n more u v x a m = record {
  place = m.place;
  earlier = m.earlier;
  met = m.met;
  later = m.later ++ a.grows.loaded;
  path = m.path;
  loads = a.grows.loads ∙ ap (λ (ls : List Load). ls ++ a.grows.loaded) m.loads ∙ append_assoc m.met (more m.place ++ m.later) a.grows.loaded
      ∙ ap (λ (ls : List Load). m.met ++ ls) (append_assoc (more m.place) m.later a.grows.loaded);
}

final_later : (stamp rid w : ℕ) (more : ℕ → List Load) (u v x : View) → Works v x → MetFinal stamp rid w more u.seen.loads v.seen.loads → MetFinal stamp rid w more u.seen.loads x.seen.loads
final_later stamp rid w more u v x a m = record { status = m.status; final = m.final; met = met_later stamp rid w m.status more u v x a m.met }

pub shown_later : (stamp : ℕ) (s : SetsView) (u v x : View) (c : Conflict) → Works v x → IsShown stamp s u v c → IsShown stamp s u x c
shown_later stamp s u v x (Pending rid w) a h = (h.0, another_works w v x a h.1, h.2, met_later stamp rid w 2 no_more u v x a h.3)
shown_later stamp s u v x (ReadLater rid w r) a h = (h.0, another_works r v x a h.1, h.2, final_later stamp rid w (its_read_stamp r) u v x a h.3)
shown_later stamp s u v x (Overtaken rid seen now) a h = (h.0, h.1, another_works now v x a h.2, h.3, final_later stamp rid now no_more u v x a h.4)

-- a path of this call
pub met_now : (stamp rid place w n : ℕ) (v x : View) → EndsAt stamp rid place w n v.seen.loads x.seen.loads → Met stamp rid w n no_more v.seen.loads x.seen.loads
met_now stamp rid place w n v x path = record {
  place = place;
  earlier = [];
  met = x.seen.loads;
  later = [];
  path = subst (λ (ls : List Load). EndsAt stamp rid place w n ls x.seen.loads) (sym (append-nil v.seen.loads)) path;
  loads = sym (append-nil x.seen.loads);
}

-- ---- searches

rests_either : (b : Bool) (p : Stand) (look : Look) → IsReading p.aim → Rests (cond b still (stands p look))
rests_either true p look r = tt
rests_either false p look r = r

pub found_works : (aim : Aim) (limit rid place w n : ℕ) (v x : View) → Finds aim limit rid place w n v x → Works v x
found_works aim limit rid place w n v x f = works_step v x _ x.seen _ f.reaches.view f.path.loads f.reaches.lost

pub found_stops : (stamp : ℕ) (s : SetsView) (up done : List Read) (checked : List Write) (aim : Aim) (limit rid place w n : ℕ) (v x : View) → IsReading aim → Stage stamp s up done checked v → Finds aim limit rid place w n v x → Stopped s x
found_stops stamp s up done checked aim limit rid place w n v x reading st f =
    subst (Stopped s) (sym f.reaches.view) record {
      rests = rests_either (ends aim w n) (stand_for aim rid place f.reaches.under) (shown w n) reading;
      linked = st.linked;
      undecided = record { undecided = st.undecided.undecided; unsettled = st.undecided.unsettled };
      collected = st.collected;
    }

pub pending_shown : (stamp : ℕ) (s : SetsView) (aim : Aim) (rid place w n : ℕ) (v x : View) → n ≡ 2 → Finds aim stamp rid place w n v x → (w < stamp) × IsOfAnother x w × Met stamp rid w 2 no_more v.seen.loads x.seen.loads
pending_shown stamp s aim rid place w n v x is f =
    (f.reaches.early, (f.reaches.met is).another, met_now stamp rid place w 2 v x (subst (λ (k : ℕ). EndsAt stamp rid place w k v.seen.loads x.seen.loads) is f.path))

final_of : (n : ℕ) → IsFinal n → is_final n ≡ true
final_of n h = rw (le-leb 3 n h.0, le-leb n 4 h.1) refl

-- a read is searched again, and its version is found
pub again_stage : (stamp : ℕ) (s : SetsView) (i : ℕ) (d : Read) (place w n : ℕ) (v x : View) → Turn i s.reads d → Stage stamp s s.reads (take i s.reads) [] v → Finds (again d) stamp d.record_number place w n v x → n ≢ 2 → w ≡ d.version
    → Stage stamp s s.reads (take (i + 1) s.reads) [] x
again_stage stamp s i d place w n v x turn st f ne is =
    let range = f.reaches.state in let low = range.0 in let high = range.1 in
    let ended : ends (again d) w n ≡ true = rw (final_of n (omega arith, high), eq-eqb w d.version is) refl in
    subst (Stage stamp s s.reads (take (i + 1) s.reads) []) (sym (f.reaches.view ∙ (λ j. record v {
      work = record v.work {
        search = cond (ended j) still (stands (stand_for (again d) d.record_number place f.reaches.under) (shown w n));
        reads = cond (ended j) v.work.reads v.work.reads;
        finished = cond (ended j) (v.work.finished ++ d ∷ []) v.work.finished;
      };
      seen = x.seen;
    }))) record {
      in_flight = st.in_flight;
      rests = tt;
      reads = st.reads;
      raised = st.raised;
      finished = ap (λ (xs : List Read). xs ++ d ∷ []) st.finished ∙ sym (take_next i s.reads d turn);
      linked = st.linked;
      passed = st.passed;
      undecided = record { undecided = st.undecided.undecided; unsettled = st.undecided.unsettled };
      collected = st.collected;
    }

pub again_begins : (stamp : ℕ) (s : SetsView) (i : ℕ) (d : Read) (v : View) → Turn i s.reads d → Stage stamp s s.reads (take i s.reads) [] v → Begins (again d) d.record_number v.work
again_begins stamp s i d v turn st = (
  st.rests,
  refl,
  subst (Among d) (sym st.raised) (among_turn i s.reads d turn),
  st.undecided.undecided,
  λ h. once_turn (λ (x : Read). x.record_number) i s.reads d (once_reads s.reads v.work.reads st.reads) turn d (subst (Among d) st.finished h) refl,
)

pub overtaken_shown : (stamp : ℕ) (s : SetsView) (i : ℕ) (d : Read) (place w n : ℕ) (v x : View) → Turn i s.reads d → Finds (again d) stamp d.record_number place w n v x → n ≢ 2 → w ≢ d.version
    → (d.version < w) × (w < stamp) × IsOfAnother x w × HasRead d.record_number d.version s × MetFinal stamp d.record_number w no_more v.seen.loads x.seen.loads
overtaken_shown stamp s i d place w n v x turn f ne apart =
    let range = f.reaches.state in let low = range.0 in let high = range.1 in
    let o = f.reaches.overtaken (omega arith, high) in let over = o.0 in (
      omega arith,
      f.reaches.early,
      o.1 apart,
      record { read = d; among = among_turn i s.reads d turn; of_record = refl; at = refl },
      record { status = n; final = (omega arith, high); met = met_now stamp d.record_number place w n v x f.path },
    )

pub record Again (core : Shared) (before : Seated) (stamp : ℕ) (s : SetsView) (i : ℕ) (now : Seated) : Type 0 where
  pub stays : StaysReady core before now
  pub works : Works before.view now.view
  pub again : OneByOne (FindsAgain stamp) (versions_read (take i s.reads)) before.view.seen.loads now.view.seen.loads
  pub stage : Stage stamp s s.reads (take i s.reads) [] now.view

pub again_starts : (core : Shared) (before : Seated) (stamp : ℕ) (s : SetsView) → IsReady core before → Stage stamp s s.reads [] [] before.view → Again core before stamp s 0 before
again_starts core before stamp s ready stage = record { stays = ready_none core before ready; works = works_none before.view; again = none_yet before.view.seen.loads; stage = stage }

pub again_next : (core : Shared) (before : Seated) (stamp : ℕ) (s : SetsView) (i : ℕ) (d : Read) (place w n : ℕ) (now at : Seated) → Turn i s.reads d → Again core before stamp s i now → StaysReady core now at
    → Finds (again d) stamp d.record_number place w n now.view at.view → n ≢ 2 → w ≡ d.version → Again core before stamp s (i + 1) at
again_next core before stamp s i d place w n now at turn a stays f ne is = record {
  stays = ready_both core before now at a.stays stays;
  works = works_both before.view now.view at.view a.works (found_works (again d) stamp d.record_number place w n now.view at.view f);
  again = each_next (λ (x : Read). (x.record_number, x.version)) (FindsAgain stamp) i s.reads d before.view.seen.loads now.view.seen.loads at.view.seen.loads turn a.again
      (subst (λ (m : ℕ). FindsFinal stamp d.record_number m now.view.seen.loads at.view.seen.loads) is (finds_final (again d) stamp d.record_number place w n now.view at.view ne f));
  stage = again_stage stamp s i d place w n now.view at.view turn a.stage f ne is;
}

pub again_all : (core : Shared) (before : Seated) (stamp : ℕ) (s : SetsView) (i : ℕ) (now : Seated) → length s.reads ≤ i → Again core before stamp s i now → Stage stamp s s.reads s.reads [] now.view
again_all core before stamp s i now over at = subst (λ (xs : List Read). Stage stamp s s.reads xs [] now.view) (take_all i s.reads over) at.stage

-- what stops the rest of a call stops the call
pub err_works : {T E : Type 0} (u v x : View) (r : Result T E) → Works u v → OnErr r (Works v x) → OnErr r (Works u x)
err_works u v x (Ok t) a h = tt
err_works u v x (Err e) a h = works_both u v x a h

pub err_shown : {T : Type 0} (stamp : ℕ) (s : SetsView) (u v x : View) (r : Result T Conflict) → Works u v → IfErr r (IsShown stamp s v x) → IfErr r (IsShown stamp s u x)
err_shown stamp s u v x (Ok t) a h = tt
err_shown stamp s u v x (Err c) a h = shown_earlier stamp s u v x c a h

pub decides_earlier : (kept : State → Type 0) (records stamp : ℕ) (s : SetsView) (u v x : View) → Works u v → Decides kept records stamp s v x → Decides kept records stamp s u x
decides_earlier kept records stamp s u v x a d =
    let same : v.log ≡ u.log = ap (λ (y : View). y.log) a.only in record {
      log = d.log ∙ ap (λ (l : List Logged). l ++ commit_of (writing stamp) s.reads s.writes ∷ []) same;
      only = d.only ∙ ap (λ (y : View). record y { work = x.work; log = x.log; seen = x.seen }) a.only;
      grows = grows_both u.seen v.seen x.seen a.grows d.grows;
      lost = d.lost ∙ a.lost;
      stood = subst (λ (l : List Logged). StoodAt kept records l (commit_of (writing stamp) s.reads s.writes)) same d.stood;
      decided = d.decided;
    }

pub ok_decides : {E : Type 0} (kept : State → Type 0) (records stamp : ℕ) (s : SetsView) (u v x : View) (r : Result (Unit {0}) E) → Works u v → OnOk r (Decides kept records stamp s v x) → OnOk r (Decides kept records stamp s u x)
ok_decides kept records stamp s u v x (Ok t) a h = decides_earlier kept records stamp s u v x a h
ok_decides kept records stamp s u v x (Err e) a h = tt

pub ok_validates : {E : Type 0} (stamp : ℕ) (s : SetsView) (v u x : View) (after' : List Load) (r : Result (Unit {0}) E) → Works v x → OneByOne Raises (versions_read s.reads) v.seen.loads u.seen.loads → OneByOne (FindsAgain stamp) (versions_read s.reads) u.seen.loads x.seen.loads
    → OnOk r (Checks stamp x.number (records_written s.writes) x.seen.loads after') → OnOk r (Validates stamp v.number (versions_read s.reads) (records_written s.writes) v.seen.loads after')
ok_validates stamp s v u x after' (Ok t) works up found passed = record {
  raised = u.seen.loads;
  raises = up;
  searched = x.seen.loads;
  again = found;
  checks = subst (λ (n : ℕ). Checks stamp n (records_written s.writes) x.seen.loads after') (ap (λ (y : View). y.number) works.only) passed;
}
ok_validates stamp s v u x after' (Err e) works up found passed = tt
