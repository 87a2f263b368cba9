-- Lanes one behind another: which of them may run, how many stamps they may draw, and the entries of what they come to.
use Rattle.std.proofs.Common.{◌≡◌, ◌≢◌, ℕ, suc, ◌+◌, ◌≤◌, List, [], ◌∷◌, ◌++◌, append-nil, append_assoc, inl, inr, ⊎_elim, refl, sym, ap, subst, ◌∙◌, length, Result, Ok, Err, arith}
use Rattle.std.specs.Prelude.{All, IfOk}
use Rattle.std.proofs.lemmas.List.Elements.{All-nil, All-cons, All-append, All-head, All-tail}
use Rattle.std.proofs.lemmas.List.Sums.{sum_by-cons, sum_by_push, sum_by-append}
use Rattle.plain_data.specs.declared.entry.Entry.{Entry}
use Rattle.core_rule.specs.Views.{Among}
use Rattle.core_rule.proofs.Among.{Among-split}
use Rattle.replay_model.specs.declared.input.Block.{Block}
use Rattle.replay_model.specs.declared.outcome.Outcome.{Outcome}
use Rattle.replay_model.specs.declared.outcome.Placed.{Placed}
use Rattle.lane_queue.specs.declared.lane.Lane.{Lane}
use Rattle.lane_queue.specs.Subsequences.{IsSubsequence}
use Rattle.lane_queue.specs.Passes.{numbered, HasEnded}
use Rattle.txn_engine.specs.Alone.{AloneView}
use Rattle.txn_engine.specs.Pass.{PassView, EngineView, IsIdle}
use Rattle.lane_runner.specs.declared.done.LaneDone.{LaneDone}
use Rattle.lane_runner.specs.Room.{HasRoom, clock_after}
use Rattle.lane_runner.specs.Lanes.{MayRun, lane_draws}
use Rattle.lane_runner.specs.Weighs.{LeavesTables}
use Rattle.lane_runner.specs.Blocks.{AreOfSeat, IsOfSeat}
use Rattle.lane_runner.specs.Finishing.{results_of}
use Rattle.lane_runner.specs.Done.{DoesLane}
use Rattle.lane_runner.specs.Done.{tries_of_rest}
use Rattle.lane_threads.specs.All.{AreOfLane, AreOfLanes, tries_of_rests, all_draws}
use Rattle.lane_threads.specs.All.AreOfLanes.{none, next}
use Rattle.lane_threads.specs.Workers.{MayRunLane, draws_of, RunsLanes, DoesLanes, DoesAndReads, WorksAndReads, NothingIsRead}
use Rattle.lane_threads.specs.Seen.{IsRead, ReadsAll}
use Rattle.lane_runner.proofs.Adding.{Adds-none, Adds-trans}
use Rattle.lane_threads.proofs.Owned.{entered_none}
use Rattle.lane_threads.proofs.Merging.{merge_first, merge_before_second, merge_behind_second}

-- ---- how many stamps they may draw

pub draws_push : (tries : ℕ) (lanes : List Lane) (lane : Lane) → draws_of (lanes ++ lane ∷ []) tries ≡ draws_of lanes tries + lane_draws lane.blocks tries
draws_push tries lanes lane = sum_by_push (λ (x : Lane). lane_draws x.blocks tries) lanes lane

pub draws_append : (tries : ℕ) (lanes more : List Lane) → draws_of (lanes ++ more) tries ≡ draws_of lanes tries + draws_of more tries
draws_append tries lanes more = sum_by-append (λ (x : Lane). lane_draws x.blocks tries) lanes more

draws_cons : (tries : ℕ) (lane : Lane) (lanes : List Lane) → draws_of (lane ∷ lanes) tries ≡ lane_draws lane.blocks tries + draws_of lanes tries
draws_cons tries lane lanes = sum_by-cons (λ (x : Lane). lane_draws x.blocks tries) lane lanes

-- some of the lanes draw no more than all of them
pub draws_part : (tries : ℕ) (some all : List Lane) → IsSubsequence some all → draws_of some tries ≤ draws_of all tries
draws_part tries [] all part = omega arith
draws_part tries (x ∷ xs) [] part = elim part [ ]
draws_part tries (x ∷ xs) (y ∷ ys) (inl both) =
    let same : lane_draws x.blocks tries ≡ lane_draws y.blocks tries = ap (λ (lane : Lane). lane_draws lane.blocks tries) both.0 in
    let rest : draws_of xs tries ≤ draws_of ys tries = draws_part tries xs ys both.1 in
    omega (arith, draws_cons tries x xs, draws_cons tries y ys)
draws_part tries (x ∷ xs) (y ∷ ys) (inr part) =
    let rest : draws_of (x ∷ xs) tries ≤ draws_of ys tries = draws_part tries (x ∷ xs) ys part in
    omega (arith, draws_cons tries y ys)

-- the last of some lanes is one of all
pub last_of_part : (P : Lane → Type 0) (some : List Lane) (lane : Lane) (all : List Lane) → IsSubsequence (some ++ lane ∷ []) all → All P all → P lane
last_of_part P [] lane [] part may = elim part [ ]
last_of_part P [] lane (y ∷ ys) (inl both) may = subst P (sym both.0) (All-head P y ys may)
last_of_part P [] lane (y ∷ ys) (inr part) may = last_of_part P [] lane ys part (All-tail P y ys may)
last_of_part P (x ∷ xs) lane [] part may = elim part [ ]
last_of_part P (x ∷ xs) lane (y ∷ ys) (inl both) may = last_of_part P xs lane ys both.1 (All-tail P y ys may)
last_of_part P (x ∷ xs) lane (y ∷ ys) (inr part) may = last_of_part P (x ∷ xs) lane ys part (All-tail P y ys may)

-- a lane that was taken behind others may run, and there is room for its draws
module _ (lanes lanes' took took' : List Lane) (lane : Lane) (taken : took' ≡ took ++ lane ∷ []) (same : lanes' ≡ lanes) (part : IsSubsequence took' lanes') where
  part_with : IsSubsequence (took ++ lane ∷ []) lanes
  part_with = subst (λ (y : List Lane × List Lane). IsSubsequence y.0 y.1) (λ i. (taken i, same i)) part

  pub taken_may : All MayRunLane lanes → MayRunLane lane
  taken_may may = last_of_part MayRunLane took lane lanes part_with may

  pub taken_room : (tries first clock : ℕ) → HasRoom first (draws_of lanes tries) → clock ≤ clock_after first (draws_of took tries) → HasRoom clock (lane_draws lane.blocks tries)
  taken_room tries first clock room so_far =
      let drawn : draws_of (took ++ lane ∷ []) tries ≤ draws_of lanes tries = draws_part tries (took ++ lane ∷ []) lanes part_with in
      omega (arith, draws_push tries took lane)

-- ---- lanes with their numbers

pub draws_numbered : (tries n : ℕ) (lanes : List (List Block)) → draws_of (numbered n lanes) tries ≡ all_draws lanes tries
draws_numbered tries n [] = refl
draws_numbered tries n (blocks ∷ lanes) =
    let rest : draws_of (numbered (suc n) lanes) tries ≡ all_draws lanes tries = draws_numbered tries (suc n) lanes in
    omega (arith, draws_cons tries (record { number = n; blocks = blocks }) (numbered (suc n) lanes), sum_by-cons (λ (x : List Block). lane_draws x tries) blocks lanes)

pub each_numbered : (P : Block → Type 0) (n : ℕ) (lanes : List (List Block)) → All (All P) lanes → All (λ (lane : Lane). All P lane.blocks) (numbered n lanes)
each_numbered P n [] each = All-nil (λ (lane : Lane). All P lane.blocks)
each_numbered P n (blocks ∷ lanes) each =
    All-cons (λ (lane : Lane). All P lane.blocks) (record { number = n; blocks = blocks }) (numbered (suc n) lanes) (All-head (All P) blocks lanes each) (each_numbered P (suc n) lanes (All-tail (All P) blocks lanes each))

pub may_numbered : (n : ℕ) (lanes : List (List Block)) → All (All MayRun) lanes → All MayRunLane (numbered n lanes)
may_numbered n lanes may = each_numbered MayRun n lanes may

-- ---- entries of what they come to

pub AreOfLane-run : (lane : Lane) (done : LaneDone) (p q : PassView) → (does : DoesLane lane done p q) → AreOfLane p.shared.size.records does.runs.entries lane done
AreOfLane-run lane done p q does = record { lane_is = does.lane_is; first = does.runs.done; blocks_are = does.runs.blocks_are; are_entries = does.runs.are_entries; order = does.order }

pub AreOfLanes-one : (records : ℕ) (entries : List Entry) (lane : Lane) (done : LaneDone) → AreOfLane records entries lane done → AreOfLanes records entries (lane ∷ []) (done ∷ [])
AreOfLanes-one records entries lane done is = next entries [] entries lane [] done [] (merge_first entries) is (none [] (λ entry among. absurd among))

-- other entries before them
AreOfLanes-before : (records : ℕ) (entries more : List Entry) (lanes : List Lane) (dones : List LaneDone)
    → ((entry : Entry) → Among entry entries → LeavesTables records entry) → AreOfLanes records more lanes dones → AreOfLanes records (entries ++ more) lanes dones
AreOfLanes-before records entries more lanes dones keeps (none es others) = none (entries ++ es) (λ entry among. ⊎_elim (λ h. keeps entry h) (λ h. others entry h) (Among-split entry entries es among))
AreOfLanes-before records entries more lanes dones keeps (next es fs all l ls d ds merged is rest) =
    next es (entries ++ fs) (entries ++ all) l ls d ds (merge_before_second es fs all entries merged) is (AreOfLanes-before records entries fs ls ds keeps rest)

pub AreOfLanes-append : (records : ℕ) (entries more : List Entry) (lanes lanes' : List Lane) (dones dones' : List LaneDone)
    → AreOfLanes records entries lanes dones → AreOfLanes records more lanes' dones' → AreOfLanes records (entries ++ more) (lanes ++ lanes') (dones ++ dones')
AreOfLanes-append records entries more lanes lanes' dones dones' (none es keeps) second = AreOfLanes-before records es more lanes' dones' keeps second
AreOfLanes-append records entries more lanes lanes' dones dones' (next es fs all l ls d ds merged is first) second =
    next es (fs ++ more) (all ++ more) l (ls ++ lanes') d (ds ++ dones') (merge_behind_second es fs all more merged) is (AreOfLanes-append records fs more ls lanes' ds dones' first second)

-- ---- refusals

pub rests_append : (tries : ℕ) (dones more : List LaneDone) → tries_of_rests tries (dones ++ more) ≡ tries_of_rests tries dones + tries_of_rests tries more
rests_append tries [] more = omega arith
rests_append tries (done ∷ dones) more = let rest : tries_of_rests tries (dones ++ more) ≡ tries_of_rests tries dones + tries_of_rests tries more = rests_append tries dones more in omega arith

rest_counted : (tries : ℕ) (rest : List Block) (m n : ℕ) → (rest ≢ [] → m + tries ≤ n) → m ≤ n → m + tries_of_rest tries rest ≤ n
rest_counted tries [] m n counts low = omega arith
rest_counted tries (block ∷ rest) m n counts low = counts (λ none. cc)

-- ---- results

pub results_append : (dones more : List LaneDone) → results_of (dones ++ more) ≡ results_of dones ++ results_of more
results_append [] more = refl
results_append (done ∷ dones) more = ap (λ (rs : List (Placed × Outcome)). done.results ++ rs) (results_append dones more) ∙ sym (append_assoc done.results (results_of dones) (results_of more))

-- those of both are of the seat
seats_append : (seat : ℕ) (dones more : List LaneDone) → AreOfSeat seat (results_of dones) → AreOfSeat seat (results_of more) → AreOfSeat seat (results_of (dones ++ more))
seats_append seat dones more first second = subst (AreOfSeat seat) (sym (results_append dones more)) (All-append (λ (r : Placed × Outcome). IsOfSeat seat r.0) (results_of dones) (results_of more) first second)

-- ---- the work of one pass

pub RunsLanes-none : (tries : ℕ) (p : PassView) → IsIdle p → RunsLanes tries 0 p p [] []
RunsLanes-none tries p idle = record {
  entries = [];
  adds = Adds-none p idle;
  are_of_lanes = none [] (λ entry among. absurd among);
  refusals = omega arith;
  clock = omega arith;
  seats = All-nil (λ (r : Placed × Outcome). IsOfSeat p.seat r.0);
}

-- more draws than it made
pub RunsLanes-weaker : (tries m n : ℕ) (p q : PassView) (lanes : List Lane) (dones : List LaneDone) → m ≤ n → RunsLanes tries m p q lanes dones → RunsLanes tries n p q lanes dones
RunsLanes-weaker tries m n p q lanes dones few does = record { entries = does.entries; adds = does.adds; are_of_lanes = does.are_of_lanes; refusals = does.refusals; clock = (let clock = does.clock in omega arith); seats = does.seats }

-- the work on more lanes behind that on others
pub RunsLanes-append : (tries m n : ℕ) (p q r : PassView) (lanes more : List Lane) (dones dones' : List LaneDone) → RunsLanes tries m p q lanes dones → RunsLanes tries n q r more dones' → RunsLanes tries (m + n) p r (lanes ++ more) (dones ++ dones')
RunsLanes-append tries m n p q r lanes more dones dones' first second = record {
  entries = first.entries ++ second.entries;
  adds = Adds-trans p q r first.entries second.entries first.adds second.adds;
  are_of_lanes = AreOfLanes-append p.shared.size.records first.entries second.entries lanes more dones dones' first.are_of_lanes
      (subst (λ (e : EngineView). AreOfLanes e.size.records second.entries more dones') first.adds.engine second.are_of_lanes);
  refusals = omega (arith, first.refusals, second.refusals, rests_append tries dones dones');
  clock = omega (arith, first.clock, second.clock);
  seats = seats_append p.seat dones dones' first.seats (subst (λ (n : ℕ). AreOfSeat n (results_of dones')) first.adds.seat second.seats);
}

-- that on one more lane
pub RunsLanes-next : (tries m n : ℕ) (p q r : PassView) (lanes lanes' : List Lane) (lane : Lane) (dones dones' : List LaneDone) (done : LaneDone) → lanes' ≡ lanes ++ lane ∷ [] → dones' ≡ dones ++ done ∷ []
    → RunsLanes tries m p q lanes dones → DoesLane lane done q r → (done.rest ≢ [] → q.refusals + tries ≤ r.refusals) → r.clock ≤ clock_after q.clock n
    → RunsLanes tries (m + n) p r lanes' dones'
RunsLanes-next tries m n p q r lanes lanes' lane dones dones' done taken pushed so_far does rest clock =
    subst (λ (y : List Lane × List LaneDone). RunsLanes tries (m + n) p r y.0 y.1) (λ i. (sym taken i, sym pushed i)) (RunsLanes-append tries m n p q r lanes (lane ∷ []) dones (done ∷ []) so_far here)
  where
    here : RunsLanes tries n q r (lane ∷ []) (done ∷ [])
    here = record {
      entries = does.runs.entries;
      adds = does.runs.adds;
      are_of_lanes = AreOfLanes-one q.shared.size.records does.runs.entries lane done (AreOfLane-run lane done q r does);
      refusals =
          let counted : q.refusals + tries_of_rest tries done.rest ≤ r.refusals = rest_counted tries done.rest q.refusals r.refusals rest does.runs.adds.refusals in
          omega (arith, counted);
      clock = clock;
      seats = subst (AreOfSeat q.seat) (sym (append-nil done.results)) does.seats;
    }

pub DoesLanes-none : (tries : ℕ) (p : PassView) → IsIdle p → DoesLanes tries p p [] []
DoesLanes-none tries p idle = RunsLanes-weaker tries 0 (draws_of [] tries) p p [] [] (omega arith) (RunsLanes-none tries p idle)

pub DoesLanes-append : (tries : ℕ) (p q r : PassView) (lanes more : List Lane) (dones dones' : List LaneDone) → DoesLanes tries p q lanes dones → DoesLanes tries q r more dones' → DoesLanes tries p r (lanes ++ more) (dones ++ dones')
DoesLanes-append tries p q r lanes more dones dones' first second =
    RunsLanes-weaker tries (draws_of lanes tries + draws_of more tries) (draws_of (lanes ++ more) tries) p r (lanes ++ more) (dones ++ dones') (omega (arith, draws_append tries lanes more))
    (RunsLanes-append tries (draws_of lanes tries) (draws_of more tries) p q r lanes more dones dones' first second)

pub DoesLanes-next : (tries : ℕ) (p q r : PassView) (lanes lanes' : List Lane) (lane : Lane) (dones dones' : List LaneDone) (done : LaneDone) → lanes' ≡ lanes ++ lane ∷ [] → dones' ≡ dones ++ done ∷ []
    → DoesLanes tries p q lanes dones → DoesLane lane done q r → (done.rest ≢ [] → q.refusals + tries ≤ r.refusals) → r.clock ≤ clock_after q.clock (lane_draws lane.blocks tries)
    → DoesLanes tries p r lanes' dones'
DoesLanes-next tries p q r lanes lanes' lane dones dones' done taken pushed so_far does rest clock =
    RunsLanes-weaker tries (draws_of lanes tries + lane_draws lane.blocks tries) (draws_of lanes' tries) p r lanes' dones' (omega (arith, ap (λ (ls : List Lane). draws_of ls tries) taken, draws_push tries lanes lane))
    (RunsLanes-next tries (draws_of lanes tries) (lane_draws lane.blocks tries) p q r lanes lanes' lane dones dones' done taken pushed so_far does rest clock)

-- what follows from what is there
ok_then : {T E : Type 0} (answer : Result T E) (P Q : T → Type 0) → ((x : T) → P x → Q x) → IfOk answer P → IfOk answer Q
ok_then (Ok x) P Q then so = then x so
ok_then (Err fault) P Q then so = tt

-- one that reads nothing
none_read : (tries : ℕ) (p q : PassView) (lanes : List Lane) (dones : List LaneDone) → DoesLanes tries p q lanes dones → DoesAndReads tries 0 p q lanes dones []
none_read tries p q lanes dones does = record {
  does = RunsLanes-weaker tries (draws_of lanes tries) (draws_of lanes tries + 0) p q lanes dones (omega arith) does;
  few = omega arith;
  each = All-nil (IsRead p.met q);
  own = entered_none p.shared.size.records p.log q.log does.entries does.adds.log;
  in_order = λ i j d less within. absurd (omega arith);
  beside = record { stand = tt; all = λ still. absurd (omega (arith, still)) };
}

pub nothing_is_read : NothingIsRead
nothing_is_read tries pass taker worked readings is_none works = subst (WorksAndReads 0 tries pass taker worked) (sym is_none) (record {
  adds = works.adds;
  same = works.same;
  done = ok_then worked.done (λ done. HasEnded worked.taker × DoesLanes tries pass worked.pass worked.taker.took done.items)
      (λ done. HasEnded worked.taker × DoesAndReads tries 0 pass worked.pass worked.taker.took done.items [])
      (λ done so. (so.0, none_read tries pass worked.pass worked.taker.took done.items so.1)) works.done;
})

-- nothing is read by a seat that is alone where nothing is due
pub reads_none : (alone : AloneView) → IsIdle alone.pass → ReadsAll 0 [] alone alone []
reads_none alone idle = record {
  others = record { entries = []; adds = Adds-none alone.pass idle; keep = λ entry among. absurd among };
  beside = refl;
  given = refl;
  queue = refl;
  boost = refl;
  more = [];
  seen_are = refl;
  count = refl;
  clock = omega arith;
  each = All-nil (IsRead alone.pass.met alone.pass);
  own = entered_none alone.pass.shared.size.records alone.pass.log alone.pass.log [] (sym (append-nil alone.pass.log));
  in_order = λ i j d less within. absurd (omega arith);
}

pub no_items : {X : Type 0} (xs : List X) → length xs ≡ 0 → xs ≡ []
no_items [] is = refl
no_items (x ∷ xs) is = absurd (omega arith)
