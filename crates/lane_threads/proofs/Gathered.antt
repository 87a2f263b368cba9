-- What workers leave together, worker behind worker.
use Rattle.std.proofs.Common.{◌≡◌, inl, ℕ, suc, ◌+◌, Result, Ok, Err, List, [], ◌∷◌, ◌++◌, map, refl, sym, ap, subst, ◌∙◌, append-nil, append_assoc, length, get_or, take, drop, All, arith}
use Rattle.std.specs.Prelude.{◌<◌, max, IfOk}
use Rattle.std.specs.List.{AllByRecursion}
use Rattle.std.specs.Result.{IsOkAnd}
use Rattle.std.proofs.lemmas.List.{map-append, length-append}
use Rattle.std.proofs.lemmas.List.Elements.{All-nil, All-cons, All-append, All-weaker}
use Rattle.plain_data.specs.declared.entry.Entry.{Entry}
use Rattle.atomic_table.specs.Seated.{TableId}
use Rattle.core_rule.specs.Views.{Among}
use Rattle.core_rule.proofs.Among.{Among-left, Among-right}
use Rattle.replay_model.specs.declared.outcome.Outcome.{Outcome}
use Rattle.replay_model.specs.declared.outcome.Placed.{Placed}
use Rattle.replay_model.specs.TableMap.{TableMap}
use Rattle.lane_queue.specs.declared.lane.Lane.{Lane}
use Rattle.lane_queue.specs.Passes.{Taker, IsFresh, IsSamePass, HasEnded, taken_by}
use Rattle.txn_engine.specs.Pass.{PassView, EngineView}
use Rattle.txn_engine.specs.Retired.{RetiredView, retired}
use Rattle.txn_engine.specs.Joining.{AreOfEngine, logs_of, refusals_of, greatest_clock_of, greatest_met_of}
use Rattle.lane_runner.specs.declared.done.LaneDone.{LaneDone}
use Rattle.lane_runner.specs.Blocks.{AreOfSeat, IsOfSeat}
use Rattle.lane_runner.specs.Finishing.{results_of}
use Rattle.lane_threads.specs.declared.workers.Worker.{Worker}
use Rattle.lane_threads.specs.declared.workers.Worked.{Worked}
use Rattle.lane_threads.specs.declared.workers.Left.{Left}
use Rattle.lane_threads.specs.declared.gathering.Gathered.{Gathered}
use Rattle.lane_threads.specs.All.{Grown, IsGrown, grown_logs, all_added, AreOfLanes, all_refusals, latest_clock, greatest_met}
use Rattle.lane_threads.specs.Workers.{MayWork, MayBegin, DoesLanes, DoesAndReads, WorksAndReads, WorksAndRetires, EachRetires, draws_of}
use Rattle.lane_threads.specs.Seen.{HaveEntries, IsRead, met_first}
use Rattle.lane_threads.specs.Gathers.{Starts, GoesOn, GoesOnByEach, Gathers, GathersIn, IsOfSome, fresh_again}
use Rattle.lane_threads.proofs.LaneLists.{AreOfLanes-append, draws_append, rests_append, results_append}
use Rattle.lane_threads.proofs.Owned.{entered_all}

-- ---- one more at the end of a list

pub each_push : {X : Type 0} (P : X → Type 0) (xs : List X) (x : X) → AllByRecursion P xs → P x → AllByRecursion P (xs ++ x ∷ [])
each_push P [] x all one = (one, tt)
each_push P (y ∷ xs) x all one = (all.0, each_push P xs x all.1 one)

of_engine_push : (engine : EngineView) (rs : List RetiredView) (r : RetiredView) → AreOfEngine engine rs → r.engine ≡ engine → AreOfEngine engine (rs ++ r ∷ [])
of_engine_push engine [] r all one = (one, tt)
of_engine_push engine (x ∷ rs) r all one = (all.0, of_engine_push engine rs r all.1 one)

taken_push : (ts : List Taker) (t : Taker) → taken_by (ts ++ t ∷ []) ≡ taken_by ts ++ t.took
taken_push [] t = append-nil t.took
taken_push (x ∷ ts) t = ap (λ (lanes : List Lane). x.took ++ lanes) (taken_push ts t) ∙ sym (append_assoc x.took (taken_by ts) t.took)

logs_push : (rs : List RetiredView) (r : RetiredView) → logs_of (rs ++ r ∷ []) ≡ logs_of rs ++ r.log
logs_push [] r = append-nil r.log
logs_push (x ∷ rs) r = ap (λ (log : List Entry). x.log ++ log) (logs_push rs r) ∙ sym (append_assoc x.log (logs_of rs) r.log)

grown_push : (gs : List Grown) (g : Grown) → grown_logs (gs ++ g ∷ []) ≡ grown_logs gs ++ (g.pass.log ++ g.added)
grown_push [] g = append-nil (g.pass.log ++ g.added)
grown_push (x ∷ gs) g = ap (λ (log : List Entry). (x.pass.log ++ x.added) ++ log) (grown_push gs g) ∙ sym (append_assoc (x.pass.log ++ x.added) (grown_logs gs) (g.pass.log ++ g.added))

added_push : (gs : List Grown) (g : Grown) → all_added (gs ++ g ∷ []) ≡ all_added gs ++ g.added
added_push [] g = append-nil g.added
added_push (x ∷ gs) g = ap (λ (log : List Entry). x.added ++ log) (added_push gs g) ∙ sym (append_assoc x.added (all_added gs) g.added)

refusals_push : (rs : List RetiredView) (r : RetiredView) → refusals_of (rs ++ r ∷ []) ≡ refusals_of rs + r.refusals
refusals_push [] r = omega arith
refusals_push (x ∷ rs) r = let rest : refusals_of (rs ++ r ∷ []) ≡ refusals_of rs + r.refusals = refusals_push rs r in omega arith

all_refusals_push : (ps : List PassView) (p : PassView) → all_refusals (ps ++ p ∷ []) ≡ all_refusals ps + p.refusals
all_refusals_push [] p = omega arith
all_refusals_push (x ∷ ps) p = let rest : all_refusals (ps ++ p ∷ []) ≡ all_refusals ps + p.refusals = all_refusals_push ps p in omega arith

clock_push : (clock : ℕ) (rs : List RetiredView) (r : RetiredView) → greatest_clock_of clock (rs ++ r ∷ []) ≡ max (greatest_clock_of clock rs) r.clock
clock_push clock [] r = refl
clock_push clock (x ∷ rs) r = clock_push (max clock x.clock) rs r

latest_push : (ps : List PassView) (p : PassView) → latest_clock (ps ++ p ∷ []) ≡ max (latest_clock ps) p.clock
latest_push [] p = omega arith
latest_push (x ∷ ps) p = let rest : latest_clock (ps ++ p ∷ []) ≡ max (latest_clock ps) p.clock = latest_push ps p in omega arith

met_push : (met : ℕ) (rs : List RetiredView) (r : RetiredView) → greatest_met_of met (rs ++ r ∷ []) ≡ max (greatest_met_of met rs) r.met
met_push met [] r = refl
met_push met (x ∷ rs) r = met_push (max met x.met) rs r

greatest_push : (ps : List PassView) (p : PassView) → greatest_met (ps ++ p ∷ []) ≡ max (greatest_met ps) p.met
greatest_push [] p = omega arith
greatest_push (x ∷ ps) p = let rest : greatest_met (ps ++ p ∷ []) ≡ max (greatest_met ps) p.met = greatest_push ps p in omega arith

-- one more does not change what the first has met
met_stays : (seat : ℕ) (seats : List ℕ) (passes : List PassView) (p : PassView) → seat ∷ seats ≡ map (λ (x : PassView). x.seat) passes → met_first (passes ++ p ∷ []) ≡ met_first passes
met_stays seat seats [] p same = absurd (let count : suc (length seats) ≡ 0 = ap (λ (xs : List ℕ). length xs) same in omega arith)
met_stays seat seats (q ∷ passes) p same = refl

-- ---- a worker

-- what was done is there, and is so
pub done_of : {T E : Type 0} (answer : Result T E) (P Q : T → Type 0) → IsOkAnd answer P → IfOk answer Q → (done : T) × P done × Q done
done_of (Ok done) P Q is so = (done, is, so)
done_of (Err fault) P Q is so = elim is [ ]

-- its right to take lanes is the one that it began with
fresh_same : (t u : Taker) → IsFresh t → IsSamePass t u → fresh_again u ≡ t
fresh_same t u fresh same = λ i. record { queue = same.same_queue i; lanes = same.same_lanes i; share = same.same_share i; took = sym fresh.took_none i; ended = sym fresh.goes_on i }

module _ {C : Type 0} where
  abbrev pub passes_of : List (Worker C) → List PassView
  passes_of workers = map (λ (w : Worker C). w.pass) workers

  abbrev pub takers_of : List (Worker C) → List Taker
  takers_of workers = map (λ (w : Worker C). w.taker) workers

-- the first of all, when the others are split off
pub first_is : {X : Type 0} (all front : List X) (x : X) → 0 < length all → take 1 all ≡ front ++ x ∷ [] → all ≡ x ∷ drop 1 all
first_is [] front x some is = absurd (omega (arith, some))
first_is (y ∷ ys) [] x some is = ap (λ zs. get_or zs 0 y ∷ ys) is
first_is (y ∷ ys) (z ∷ zs) x some is = absurd (let count : 1 ≡ suc (length (zs ++ x ∷ [])) = ap (λ ws. length ws) is in omega (arith, length-append zs (x ∷ [])))

all_of_each : {X : Type 0} (P : X → Type 0) (xs : List X) → AllByRecursion P xs → All P xs
all_of_each P [] each = All-nil P
all_of_each P (x ∷ xs) each = All-cons P x xs each.0 (all_of_each P xs each.1)

-- so of the first what holds of all, and of each of the others
pub of_first : {X : Type 0} (P : X → Type 0) (all front : List X) (x : X) → 0 < length all → take 1 all ≡ front ++ x ∷ [] → AllByRecursion P all → P x
of_first P all front x some is each = (subst (AllByRecursion P) (first_is all front x some is) each).0

pub of_others : {X : Type 0} (P : X → Type 0) (all others : List X) → others ≡ drop 1 all → AllByRecursion P all → All P others
of_others P [] others is each = subst (All P) (sym is) (All-nil P)
of_others P (x ∷ xs) others is each = subst (All P) (sym is) (all_of_each P xs each.1)

-- what the workers behind the first have left
others_retire : {C : Type 0} {tries : ℕ} (w : Worker C) (more : List (Worker C)) (one : Left) (left : List Left) → EachRetires tries (w ∷ more) (one ∷ left) → EachRetires tries more left
others_retire w more one left all = record {
  count = (let count : suc (length left) ≡ suc (length more) = all.count in omega arith);
  each = λ i v other below. all.each (suc i) v other (omega (arith, below));
}

-- ---- their seats

abbrev seats_of : List RetiredView → List ℕ
seats_of others = map (λ (x : RetiredView). x.seat) others

abbrev AreOfSome : List RetiredView → List (Placed × Outcome) → Type 0
AreOfSome others results = All (λ (r : Placed × Outcome). IsOfSome (seats_of others) r.0) results

-- what one more comes to is of its seat
module _ (others : List RetiredView) (q : PassView) where
  abbrev one_more : List RetiredView
  one_more = others ++ retired q ∷ []

  in_all : (seat : ℕ) → Among seat (seats_of others ++ q.seat ∷ []) → Among seat (seats_of one_more)
  in_all seat among = subst (Among seat) (sym (map-append (λ (x : RetiredView). x.seat) others (retired q ∷ []))) among

  of_earlier : (r : Placed × Outcome) → IsOfSome (seats_of others) r.0 → IsOfSome (seats_of one_more) r.0
  of_earlier r is kind = let at = is kind in (at.0, at.1, in_all at.1 (Among-left at.1 (seats_of others) (q.seat ∷ []) at.2), at.3)

  of_last : (seat : ℕ) → q.seat ≡ seat → (r : Placed × Outcome) → IsOfSeat seat r.0 → IsOfSome (seats_of one_more) r.0
  of_last seat same r is kind = let at = is kind in (at.0, seat, in_all seat (Among-right seat (seats_of others) (q.seat ∷ []) (inl same)), at.1)

  apart_more : (theirs more : List LaneDone) (seat : ℕ) → q.seat ≡ seat → AreOfSome others (results_of theirs) → AreOfSeat seat (results_of more) → AreOfSome one_more (results_of (theirs ++ more))
  apart_more theirs more seat same apart seats = subst (AreOfSome one_more) (sym (results_append theirs more))
      (All-append (λ (r : Placed × Outcome). IsOfSome (seats_of one_more) r.0) (results_of theirs) (results_of more)
      (All-weaker (λ (r : Placed × Outcome). IsOfSome (seats_of others) r.0) (λ (r : Placed × Outcome). IsOfSome (seats_of one_more) r.0) of_earlier (results_of theirs) apart)
      (All-weaker (λ (r : Placed × Outcome). IsOfSeat seat r.0) (λ (r : Placed × Outcome). IsOfSome (seats_of one_more) r.0) (of_last seat same) (results_of more) seats))

module _ (engine : EngineView) (queue : TableId) (tries : ℕ) where
  -- the first one
  gathers_one : (due : ℕ) (p q : PassView) (t u : Taker) (done : List LaneDone) (readings : List (ℕ × TableMap)) → MayWork engine queue tries p t → IsSamePass t u → HasEnded u → DoesAndReads tries due p q u.took done readings
      → Gathers engine tries due (p ∷ []) (t ∷ []) q [] (u ∷ []) done readings
  gathers_one due p q t u done readings may same ended works = let does = works.does in record {
    engine_is = does.adds.engine ∙ may.uses.same;
    idle = does.adds.idle;
    of_engine = tt;
    seats = ap (λ (seat : ℕ). seat ∷ []) does.adds.seat;
    takers_are = ap (λ (x : Taker). x ∷ []) (fresh_same t u may.fresh same);
    have_ended = (ended, tt);
    grown = record { pass = p; added = does.entries } ∷ [];
    passes_are = refl;
    logs = ap (λ (log : List Entry). log ++ []) does.adds.log;
    each_grown = (record { each = does.adds.each; in_order = does.adds.in_order }, tt);
    are_of_lanes = subst (λ (y : List Entry × List Lane). AreOfLanes engine.size.records y.0 y.1 done) (λ i. (sym (append-nil does.entries) i, sym (append-nil u.took) i)) here;
    refusals = omega (arith, does.refusals);
    clock_from = omega (arith, does.adds.clock);
    clock_to = omega (arith, does.clock, ap (λ (lanes : List Lane). draws_of lanes tries) (append-nil u.took));
    met = omega (arith, does.adds.met);
    few = works.few;
    each_read = works.each;
    own = subst (λ (e : EngineView). HaveEntries e.size.records q.log readings) may.uses.same (entered_all p.shared.size.records p.log q.log readings works.own);
    in_order = works.in_order;
    ours = done;
    theirs = [];
    done_are = sym (append-nil done);
    beside = works.beside;
    apart = All-nil (λ (r : Placed × Outcome). IsOfSome [] r.0);
  } where
    here : AreOfLanes engine.size.records works.does.entries u.took done
    here = subst (λ (e : EngineView). AreOfLanes e.size.records works.does.entries u.took done) may.uses.same works.does.are_of_lanes

  -- one more, whose pass has retired
  gathers_more : (due : ℕ) (passes : List PassView) (takers : List Taker) (first : PassView) (others : List RetiredView) (ended : List Taker) (done : List LaneDone) (readings : List (ℕ × TableMap))
      → Gathers engine tries due passes takers first others ended done readings
      → (p q : PassView) (t u : Taker) (more : List LaneDone) → MayWork engine queue tries p t → IsSamePass t u → HasEnded u → DoesLanes tries p q u.took more
      → Gathers engine tries due (passes ++ p ∷ []) (takers ++ t ∷ []) first (others ++ retired q ∷ []) (ended ++ u ∷ []) (done ++ more) readings
  gathers_more due passes takers first others ended done readings so_far p q t u more may same is_end does = let here : Grown = record { pass = p; added = does.entries } in record {
    engine_is = so_far.engine_is;
    idle = so_far.idle;
    of_engine = of_engine_push engine others (retired q) so_far.of_engine (does.adds.engine ∙ may.uses.same);
    seats = ap (λ (seats : List ℕ). first.seat ∷ seats) (map-append (λ (r : RetiredView). r.seat) others (retired q ∷ [])) ∙ (λ i. so_far.seats i ++ does.adds.seat i ∷ []) ∙ sym (map-append (λ (x : PassView). x.seat) passes (p ∷ []));
    takers_are = map-append fresh_again ended (u ∷ []) ∙ (λ i. so_far.takers_are i ++ fresh_same t u may.fresh same i ∷ []);
    have_ended = each_push HasEnded ended u so_far.have_ended is_end;
    grown = so_far.grown ++ here ∷ [];
    passes_are = map-append (λ (g : Grown). g.pass) so_far.grown (here ∷ []) ∙ ap (λ (ps : List PassView). ps ++ p ∷ []) so_far.passes_are;
    logs = ap (λ (log : List Entry). first.log ++ log) (logs_push others (retired q)) ∙ sym (append_assoc first.log (logs_of others) q.log) ∙ (λ i. so_far.logs i ++ does.adds.log i) ∙ sym (grown_push so_far.grown here);
    each_grown = each_push IsGrown so_far.grown here so_far.each_grown (record { each = does.adds.each; in_order = does.adds.in_order });
    are_of_lanes = subst (λ (y : List Entry × List Lane). AreOfLanes engine.size.records y.0 y.1 (done ++ more)) (λ i. (sym (added_push so_far.grown here) i, sym (taken_push ended u) i)) both;
    refusals = omega (arith, so_far.refusals, does.refusals, refusals_push others (retired q), all_refusals_push passes p, rests_append tries done more);
    clock_from = omega (arith, so_far.clock_from, does.adds.clock, clock_push first.clock others (retired q), latest_push passes p);
    clock_to = omega (arith, so_far.clock_to, does.clock, clock_push first.clock others (retired q), latest_push passes p, draws_append tries (taken_by ended) u.took, ap (λ (lanes : List Lane). draws_of lanes tries) (taken_push ended u));
    met = omega (arith, so_far.met, does.adds.met, met_push first.met others (retired q), greatest_push passes p);
    few = so_far.few;
    own = so_far.own;
    ours = so_far.ours;
    theirs = so_far.theirs ++ more;
    done_are = ap (λ (ds : List LaneDone). ds ++ more) so_far.done_are ∙ append_assoc so_far.ours so_far.theirs more;
    beside = so_far.beside;
    apart = apart_more others q so_far.theirs more p.seat does.adds.seat so_far.apart does.seats;
    each_read = subst (λ (m : ℕ). All (IsRead m first) readings) (sym (met_stays first.seat (map (λ (r : RetiredView). r.seat) others) passes p so_far.seats)) so_far.each_read;
    in_order = so_far.in_order;
  } where
    both : AreOfLanes engine.size.records (all_added so_far.grown ++ does.entries) (taken_by ended ++ u.took) (done ++ more)
    both = AreOfLanes-append engine.size.records (all_added so_far.grown) does.entries (taken_by ended) u.took done more so_far.are_of_lanes
        (subst (λ (e : EngineView). AreOfLanes e.size.records does.entries u.took more) may.uses.same does.are_of_lanes)

  -- what is gathered of the first one
  gathers_start : (due : ℕ) (p : PassView) (t : Taker) (worked : Worked) (readings : List (ℕ × TableMap)) (g : Gathered) → MayWork engine queue tries p t → WorksAndReads due tries p t worked readings → Starts worked g → GathersIn engine tries due (p ∷ []) (t ∷ []) g readings
  gathers_start due p t worked readings g may works starts =
      let d = done_of worked.done (λ done. g.done.items ≡ done.items) (λ done. HasEnded worked.taker × DoesAndReads tries due p worked.pass worked.taker.took done.items readings) starts.done_is works.done in
      subst (λ (y : PassView × List RetiredView × List Taker × List LaneDone). Gathers engine tries due (p ∷ []) (t ∷ []) y.0 y.1 y.2 y.3 readings)
      (λ i. (sym starts.pass_is i, sym starts.retired_are i, sym starts.takers_are i, sym d.1 i))
      (gathers_one due p worked.pass t worked.taker d.0.items readings may works.same d.2.0 d.2.1)

  -- and of one more
  gathers_next : (due : ℕ) (passes : List PassView) (takers : List Taker) (g g' : Gathered) (readings : List (ℕ × TableMap)) (p : PassView) (t : Taker) (left : Left)
      → GathersIn engine tries due passes takers g readings → MayWork engine queue tries p t → WorksAndRetires tries p t left → GoesOn g g' left → GathersIn engine tries due (passes ++ p ∷ []) (takers ++ t ∷ []) g' readings
  gathers_next due passes takers g g' readings p t left so_far may works goes =
      let w = works.worked in
      let d = done_of w.done (λ done. g'.done.items ≡ g.done.items ++ done.items) (λ done. HasEnded w.taker × DoesLanes tries p w.pass w.taker.took done.items) (rw works.done_is at goes.done_is) works.works.done in
      let retired_are : g'.retired.items ≡ g.retired.items ++ retired w.pass ∷ [] = goes.retired_are ∙ ap (λ (r : RetiredView). g.retired.items ++ r ∷ []) works.retired_is in
      let takers_are : g'.takers.items ≡ g.takers.items ++ w.taker ∷ [] = goes.takers_are ∙ ap (λ (u : Taker). g.takers.items ++ u ∷ []) works.taker_is in
      subst (λ (y : PassView × List RetiredView × List Taker × List LaneDone). Gathers engine tries due (passes ++ p ∷ []) (takers ++ t ∷ []) y.0 y.1 y.2 y.3 readings)
      (λ i. (sym goes.pass_is i, sym retired_are i, sym takers_are i, sym d.1 i))
      (gathers_more due passes takers g.pass g.retired.items g.takers.items g.done.items readings so_far p w.pass t w.taker d.0.items may works.works.same d.2.0 d.2.1)

  -- ---- the same of a list of workers

  module _ {C : Type 0} where
    -- one more of them
    workers_next : (due : ℕ) (front : List (Worker C)) (w : Worker C) (g g' : Gathered) (readings : List (ℕ × TableMap)) (left : Left) → MayBegin engine queue tries w
        → WorksAndRetires tries w.pass w.taker left → GoesOn g g' left → GathersIn engine tries due (passes_of front) (takers_of front) g readings
        → GathersIn engine tries due (passes_of (front ++ w ∷ [])) (takers_of (front ++ w ∷ [])) g' readings
    workers_next due front w g g' readings left may works goes so_far =
        subst (λ (y : List PassView × List Taker). GathersIn engine tries due y.0 y.1 g' readings)
        (λ i. (sym (map-append (λ (x : Worker C). x.pass) front (w ∷ [])) i, sym (map-append (λ (x : Worker C). x.taker) front (w ∷ [])) i))
        (gathers_next due (passes_of front) (takers_of front) g g' readings w.pass w.taker left so_far may works goes)

    -- and each of some behind others
    workers_go_on : (due : ℕ) (front more : List (Worker C)) (left : List Left) (g g' : Gathered) (readings : List (ℕ × TableMap)) → AllByRecursion (MayBegin engine queue tries) more
        → EachRetires tries more left → GoesOnByEach g left g' → GathersIn engine tries due (passes_of front) (takers_of front) g readings
        → GathersIn engine tries due (passes_of (front ++ more)) (takers_of (front ++ more)) g' readings
    workers_go_on due front [] [] g g' readings begin each goes so_far =
        subst (λ (y : List (Worker C) × Gathered). GathersIn engine tries due (passes_of y.0) (takers_of y.0) y.1 readings) (λ i. (sym (append-nil front) i, sym goes i)) so_far
    workers_go_on due front [] (one ∷ left) g g' readings begin each goes so_far = absurd (let count : suc (length left) ≡ 0 = each.count in omega arith)
    workers_go_on due front (w ∷ more) [] g g' readings begin each goes so_far = absurd (let count : 0 ≡ suc (length more) = each.count in omega arith)
    workers_go_on due front (w ∷ more) (one ∷ left) g g' readings begin each goes so_far =
        subst (λ (ws : List (Worker C)). GathersIn engine tries due (passes_of ws) (takers_of ws) g' readings) (append_assoc front (w ∷ []) more)
        (workers_go_on due (front ++ w ∷ []) more left goes.0 g' readings begin.1 (others_retire w more one left each) goes.2
        (workers_next due front w g goes.0 readings one begin.0 (each.each 0 w one (omega arith)) goes.1 so_far))

    -- all of them, the first first
    pub workers_gather : (due : ℕ) (all : List (Worker C)) (w : Worker C) (more : List (Worker C)) (worked : Worked) (left : List Left) (g g' : Gathered) (readings : List (ℕ × TableMap)) → all ≡ w ∷ more
        → AllByRecursion (MayBegin engine queue tries) all → WorksAndReads due tries w.pass w.taker worked readings → Starts worked g → EachRetires tries more left → GoesOnByEach g left g'
        → GathersIn engine tries due (passes_of all) (takers_of all) g' readings
    workers_gather due all w more worked left g g' readings is begin works starts each goes =
        let may = subst (AllByRecursion (MayBegin engine queue tries)) is begin in
        subst (λ (ws : List (Worker C)). GathersIn engine tries due (passes_of ws) (takers_of ws) g' readings) (sym is)
        (workers_go_on due (w ∷ []) more left g g' readings may.1 each goes (gathers_start due w.pass w.taker worked readings g may.0 works starts))
