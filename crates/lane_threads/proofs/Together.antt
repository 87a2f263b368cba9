-- From what the workers leave to what the run of all lanes leaves.
use Rattle.std.proofs.Common.{◌≡◌, inl, inr, ℕ, zero, suc, ◌+◌, ◌-◌, ◌<◌, ◌≤◌, max, true, List, [], ◌∷◌, ◌++◌, length, map, refl, sym, ap, subst, ◌∙◌, arith, ⊎_elim}
use Rattle.std.specs.Prelude.{All, Option}
use Rattle.std.specs.List.{sum_by, range_with_len, AllByRecursion}
use Rattle.std.specs.List.Sorted.{IsPermutation}
use Rattle.std.proofs.lemmas.List.{length-map}
use Rattle.std.proofs.lemmas.List.Elements.{All-map, All-weaker}
use Rattle.std.proofs.lemmas.List.FromFn.{length-range_with_len}
use Rattle.std.proofs.lemmas.List.Sorted.{IsPermutation-refl, sum_by-IsPermutation}
use Rattle.std.proofs.lemmas.List.Sums.{sum_by-cons}
use Rattle.atomic_table.specs.Seated.{TableId}
use Rattle.plain_data.specs.declared.entry.Entry.{Entry}
use Rattle.stamp_base.specs.Stamp.{seat_of, stamp_of}
use Rattle.stamp_base.proofs.Stamps.{seat_of-stamp_of}
use Rattle.core_rule.specs.Views.{Among, AllIn}
use Rattle.core_rule.proofs.Among.{Among-left, Among-right, Among-split}
use Rattle.replay_model.specs.declared.input.Block.{Block}
use Rattle.replay_model.specs.declared.outcome.Outcome.{Outcome}
use Rattle.replay_model.specs.declared.outcome.Placed.{Placed}
use Rattle.replay_model.specs.TableMap.{TableMap}
use Rattle.lane_queue.specs.declared.lane.Lane.{Lane}
use Rattle.stored_tables.specs.Places.{fixed_records}
use Rattle.lane_queue.specs.Passes.{Taker, IsFresh, AreAll, AreOf, numbered, taken_by}
use Rattle.txn_engine.specs.Pass.{EngineView, PassView, IsIdle, IsAlone, with_snapshot, engine_of, desk_of}
use Rattle.seat_post.specs.Snapshot.{SnapshotView}
use Rattle.txn_engine.specs.Retired.{RetiredView}
use Rattle.txn_engine.specs.Alone.{AloneView}
use Rattle.txn_engine.specs.Joining.{AreOthers, come_together, greatest_clock_of, greatest_met_of, logs_of, refusals_of}
use Rattle.lane_runner.specs.declared.done.LaneDone.{LaneDone}
use Rattle.lane_threads.specs.declared.workers.Worker.{Worker}
use Rattle.lane_runner.specs.Room.{HasRoom}
use Rattle.lane_runner.specs.Finishing.{results_of}
use Rattle.lane_runner.specs.Lanes.{MayRun, lane_draws}
use Rattle.lane_threads.specs.All.{AreAllPasses, Grown, grown_logs, all_added, all_draws, RunsAndReads}
use Rattle.lane_threads.specs.Beside.{AreFewBeside}
use Rattle.lane_threads.specs.Seen.{HaveEntries, met_first}
use Rattle.lane_threads.specs.Workers.{MayRunLane, MayBegin, HasRoomBeside, draws_of}
use Rattle.lane_threads.specs.Gathers.{Gathers, IsOfSome, fresh_again}
use Rattle.lane_threads.proofs.LaneLists.{draws_numbered, may_numbered, results_append}
use Rattle.lane_threads.proofs.Beside.{few_beside, places}
use Rattle.lane_threads.proofs.Counting.{IsOfOther}
use Rattle.lane_threads.proofs.Owned.{have_behind}
use Rattle.lane_threads.proofs.Gathered.{passes_of, takers_of}
use Rattle.lane_threads.proofs.Readings.{read_later}

-- ---- the workers

pub count_passes : (engine : EngineView) (passes : List PassView) → AreAllPasses engine passes → length passes ≡ engine.size.seats
count_passes engine passes are = sym (length-map passes (λ (p : PassView). p.seat)) ∙ ap length are.seats ∙ length-range_with_len 0 engine.size.seats

module _ {C : Type 0} (engine : EngineView) (queue : TableId) (tries : ℕ) (lanes : List (List Block)) (fixed : fixed_records ≤ engine.fixed) where
  begin_each : (ws : List (Worker C)) → AllByRecursion (λ p. engine_of p ≡ engine) (passes_of ws) → AllByRecursion IsIdle (passes_of ws) → AllByRecursion (λ t. t.queue ≡ queue) (takers_of ws) → AllByRecursion IsFresh (takers_of ws)
      → AreOf (numbered 1 lanes) (takers_of ws) → All (All MayRun) lanes → AllByRecursion (λ p. HasRoom p.clock (all_draws lanes tries)) (passes_of ws) → AllByRecursion (MayBegin engine queue tries) ws
  begin_each [] engines idle queues fresh of may room = tt
  begin_each (w ∷ ws) engines idle queues fresh of may room = (
    record {
      uses = record { same = engines.0; idle = idle.0; fixed = fixed };
      queue_is = queues.0;
      fresh = fresh.0;
      lanes = subst (All MayRunLane) (sym of.0) (may_numbered 1 lanes may);
      room = subst (HasRoom w.pass.clock) (sym (ap (λ (ls : List Lane). draws_of ls tries) of.0 ∙ draws_numbered tries 1 lanes)) room.0;
    },
    begin_each ws engines.1 idle.1 queues.1 fresh.1 of.1 may room.1,
  )

  pub begin_all : (passes : List PassView) (takers : List Taker) (ws : List (Worker C)) → passes_of ws ≡ passes → takers_of ws ≡ takers → AreAllPasses engine passes → AreAll queue takers → AllByRecursion IsFresh takers
      → AreOf (numbered 1 lanes) takers → All (All MayRun) lanes → AllByRecursion (λ p. HasRoom p.clock (all_draws lanes tries)) passes → AllByRecursion (MayBegin engine queue tries) ws
  begin_all passes takers ws passes_are takers_are are all fresh of may room =
      begin_each ws (subst (AllByRecursion (λ p. engine_of p ≡ engine)) (sym passes_are) are.engines) (subst (AllByRecursion IsIdle) (sym passes_are) are.idle) (subst (AllByRecursion (λ t. t.queue ≡ queue)) (sym takers_are) all.each)
      (subst (AllByRecursion IsFresh) (sym takers_are) fresh) (subst (AreOf (numbered 1 lanes)) (sym takers_are) of) may (subst (AllByRecursion (λ p. HasRoom p.clock (all_draws lanes tries))) (sym passes_are) room)

-- ---- their room

pub less_room : (passes : List PassView) (draws due : ℕ) → AllByRecursion (λ p. HasRoom p.clock (draws + due)) passes → AllByRecursion (λ p. HasRoom p.clock draws) passes
less_room [] draws due each = tt
less_room (p ∷ ps) draws due each = (let here : HasRoom p.clock (draws + due) = each.0 in omega arith, less_room ps draws due each.1)

module _ {C : Type 0} (tries due : ℕ) (lanes : List (List Block)) where
  room_each : (ws : List (Worker C)) → AreOf (numbered 1 lanes) (takers_of ws) → AllByRecursion (λ p. HasRoom p.clock (all_draws lanes tries + due)) (passes_of ws) → AllByRecursion (HasRoomBeside due tries) ws
  room_each [] of room = tt
  room_each (w ∷ ws) of room = (
    subst (λ (n : ℕ). HasRoom w.pass.clock (n + due)) (sym (ap (λ (ls : List Lane). draws_of ls tries) of.0 ∙ draws_numbered tries 1 lanes)) room.0,
    room_each ws of.1 room.1,
  )

  pub room_all : (passes : List PassView) (takers : List Taker) (ws : List (Worker C)) → passes_of ws ≡ passes → takers_of ws ≡ takers → AreOf (numbered 1 lanes) takers
      → AllByRecursion (λ p. HasRoom p.clock (all_draws lanes tries + due)) passes → AllByRecursion (HasRoomBeside due tries) ws
  room_all passes takers ws passes_are takers_are of room =
      room_each ws (subst (AreOf (numbered 1 lanes)) (sym takers_are) of) (subst (AllByRecursion (λ p. HasRoom p.clock (all_draws lanes tries + due))) (sym passes_are) room)

-- ---- their rights to take lanes

each_again : (P : Taker → Type 0) (ended : List Taker) → ((t : Taker) → P (fresh_again t) → P t) → AllByRecursion P (map fresh_again ended) → AllByRecursion P ended
each_again P [] stays all = tt
each_again P (t ∷ ended) stays all = (stays t all.0, each_again P ended stays all.1)

share_again : (ended : List Taker) → sum_by (λ (t : Taker). t.share) ended ≡ sum_by (λ (t : Taker). t.share) (map fresh_again ended)
share_again [] = refl
share_again (t ∷ ended) = let rest = share_again ended in omega (arith, rest, sum_by-cons (λ (x : Taker). x.share) t ended, sum_by-cons (λ (x : Taker). x.share) (fresh_again t) (map fresh_again ended))

pub all_again : (queue : TableId) (takers ended : List Taker) → map fresh_again ended ≡ takers → AreAll queue takers → AreAll queue ended
all_again queue takers ended same all = record {
  each = each_again (λ t. t.queue ≡ queue) ended (λ t is. is) (subst (AllByRecursion (λ t. t.queue ≡ queue)) (sym same) all.each);
  whole = share_again ended ∙ ap (sum_by (λ (t : Taker). t.share)) same ∙ all.whole;
}

pub of_again : (lanes : List Lane) (takers ended : List Taker) → map fresh_again ended ≡ takers → AreOf lanes takers → AreOf lanes ended
of_again lanes takers ended same of = each_again (λ t. t.lanes ≡ lanes) ended (λ t is. is) (subst (AreOf lanes) (sym same) of)

-- ---- their seats

pub range_first : (n : ℕ) → 1 ≤ n → range_with_len 0 n ≡ 0 ∷ range_with_len 1 (n - 1)
range_first zero some = absurd (omega arith)
range_first (suc n) some = let e : n ≡ suc n - 1 = omega arith in ap (λ (k : ℕ). 0 ∷ range_with_len 1 k) e

in_range : (low count seat : ℕ) → Among seat (range_with_len low count) → (low ≤ seat) × (seat < low + count)
in_range low zero seat among = absurd among
in_range low (suc count) seat (inl same) = (omega (arith, same), omega (arith, same))
in_range low (suc count) seat (inr among) = let at = in_range (low + 1) count seat among in (omega (arith, at.0), omega (arith, at.1))

-- each of these is a seat behind the first
abbrev pub AreApart : List RetiredView → Type 0
AreApart others = (seat : ℕ) → Among seat (map (λ (r : RetiredView). r.seat) others) → (1 ≤ seat) × (seat < 64)

-- what they come to is none of the first seat's
of_others : (others : List RetiredView) (results : List (Placed × Outcome)) → AreApart others → All (λ (r : Placed × Outcome). IsOfSome (map (λ (x : RetiredView). x.seat) others) r.0) results → All (IsOfOther 0) (places results)
of_others others results apart of =
    All-map (IsOfOther 0) (λ (r : Placed × Outcome). r.0) results
    (All-weaker (λ (r : Placed × Outcome). IsOfSome (map (λ (x : RetiredView). x.seat) others) r.0) (λ (r : Placed × Outcome). IsOfOther 0 r.0)
    (λ r is kind seat.
    let at = is kind in
    let low = apart at.1 at.2 in
    let own : seat_of (stamp_of at.0 at.1) ≡ at.1 = seat_of-stamp_of at.0 at.1 (omega (arith, low.1)) in
    let same : seat_of r.0.stamp ≡ at.1 = ap seat_of at.3 ∙ own in
    omega (arith, low.0, seat, same)) results of)

module _ (engine : EngineView) (passes : List PassView) (first : PassView) (others : List RetiredView) (some : 1 ≤ engine.size.seats) (are : AreAllPasses engine passes) (seats : first.seat ∷ map (λ r. r.seat) others ≡ map (λ p. p.seat) passes) where
  all_seats : first.seat ∷ map (λ r. r.seat) others ≡ 0 ∷ range_with_len 1 (engine.size.seats - 1)
  all_seats = seats ∙ are.seats ∙ range_first engine.size.seats some

  pub first_seat : first.seat ≡ 0
  first_seat = let is = all_seats in cc

  pub others_behind : map (λ r. r.seat) others ≡ range_with_len 1 (engine.size.seats - 1)
  others_behind = let is = all_seats in cc

  -- the others are of other seats than the first
  pub others_apart : engine.size.seats ≤ 64 → AreApart others
  others_apart few seat among = let at = in_range 1 (engine.size.seats - 1) seat (subst (Among seat) others_behind among) in (at.0, omega (arith, at.1, few, some))

  pub other_seats : AreOthers engine.size others
  other_seats = let is = all_seats in let same : map (λ r. r.seat) others ≡ range_with_len 1 (engine.size.seats - 1) = cc in subst (IsPermutation (map (λ r. r.seat) others)) same (IsPermutation-refl (map (λ r. r.seat) others))

-- ---- all together

-- what was added stands in the logs
pub added_in_logs : (grown : List Grown) → AllIn (all_added grown) (grown_logs grown)
added_in_logs [] entry among = absurd among
added_in_logs (g ∷ gs) entry among =
    ⊎_elim (λ h. Among-left entry (g.pass.log ++ g.added) (grown_logs gs) (Among-right entry g.pass.log g.added h)) (λ h. Among-right entry (g.pass.log ++ g.added) (grown_logs gs) (added_in_logs gs entry h)) (Among-split entry g.added (all_added gs) among)

clock_grows : (clock : ℕ) (rs : List RetiredView) → clock ≤ greatest_clock_of clock rs
clock_grows clock [] = omega arith
clock_grows clock (r ∷ rs) = let more : max clock r.clock ≤ greatest_clock_of (max clock r.clock) rs = clock_grows (max clock r.clock) rs in omega arith

met_grows : (met : ℕ) (rs : List RetiredView) → met ≤ greatest_met_of met rs
met_grows met [] = omega arith
met_grows met (r ∷ rs) = let more : max met r.met ≤ greatest_met_of (max met r.met) rs = met_grows (max met r.met) rs in omega arith

module _ (engine : EngineView) (passes : List PassView) (takers : List Taker) (lanes : List (List Block)) (tries due : ℕ) (first : PassView) (others : List RetiredView) (ended : List Taker) (done : List LaneDone) (readings : List (ℕ × TableMap))
    (alone : AloneView) (snapshot : Option SnapshotView) (gathers : Gathers engine tries due passes takers first others ended done readings)
    (first_seat : first.seat ≡ 0) (each_once : IsPermutation (numbered 1 lanes) (taken_by ended)) (is : alone.pass ≡ with_snapshot (come_together first others) snapshot) (shared : alone.shared ≡ true) (earlier : alone.earlier ≡ refusals_of others) (is_alone : IsAlone alone.pass) (apart : AreApart others) where
  log_is : alone.pass.log ≡ grown_logs gathers.grown
  log_is = ap (λ (p : PassView). p.log) is ∙ gathers.logs

  draws : draws_of (taken_by ended) tries ≡ all_draws lanes tries
  draws = sum_by-IsPermutation (λ (lane : Lane). lane_draws lane.blocks tries) (numbered 1 lanes) (taken_by ended) each_once ∙ draws_numbered tries 1 lanes

  pub runs_all : RunsAndReads engine passes lanes tries due alone done readings
  runs_all = record {
    runs = record {
      together = record {
        shared = shared;
        engine_is = ap engine_of is ∙ gathers.engine_is;
        first = ap (λ (p : PassView). p.seat) is ∙ first_seat;
        is_alone = is_alone;
        idle = ap desk_of is ∙ gathers.idle;
        none_given = ap (λ (p : PassView). p.given) is;
        none_queued = ap (λ (p : PassView). p.queue) is;
        no_boost = ap (λ (p : PassView). p.boost) is;
      };
      taken = taken_by ended;
      each_once = each_once;
      grown = gathers.grown;
      passes_are = gathers.passes_are;
      log_is = log_is;
      each_grown = gathers.each_grown;
      are_of_lanes = gathers.are_of_lanes;
      in_log = subst (AllIn (all_added gathers.grown)) (sym log_is) (added_in_logs gathers.grown);
      refusals = omega (arith, gathers.refusals, earlier, ap (λ (p : PassView). p.refusals) is);
      clock_from = omega (arith, gathers.clock_from, ap (λ (p : PassView). p.clock) is);
      clock_to = omega (arith, gathers.clock_to, ap (λ (p : PassView). p.clock) is, draws);
      met = omega (arith, gathers.met, ap (λ (p : PassView). p.met) is);
    };
    few = gathers.few;
    each = read_later (met_first passes) (met_first passes) first alone.pass (omega arith) (ap engine_of is) (ap (λ (p : PassView). p.seat) is)
        (λ e among. subst (Among e) (sym (ap (λ (p : PassView). p.log) is)) (Among-left e first.log (logs_of others) among))
        (omega (arith, clock_grows first.clock others, ap (λ (p : PassView). p.clock) is)) (omega (arith, met_grows first.met others, ap (λ (p : PassView). p.met) is)) readings gathers.each_read;
    own = subst (λ (e : EngineView). HaveEntries e.size.records alone.pass.log readings) (sym (ap engine_of is ∙ gathers.engine_is))
        (subst (λ (log : List Entry). HaveEntries engine.size.records log readings) (sym (ap (λ (p : PassView). p.log) is)) (have_behind engine.size.records first.log (logs_of others) readings gathers.own));
    in_order = gathers.in_order;
    beside = subst (λ (results : List (Placed × Outcome)). AreFewBeside due (places results) readings) (sym (ap results_of gathers.done_are ∙ results_append gathers.ours gathers.theirs))
        (few_beside due readings (results_of gathers.ours) (results_of gathers.theirs) (of_others others (results_of gathers.theirs) apart gathers.apart) gathers.beside);
  }

-- the same of passes that are these
pub runs_all_on : (engine : EngineView) (passes passes' : List PassView) (takers : List Taker) (lanes : List (List Block)) (tries due : ℕ) (first : PassView) (others : List RetiredView) (ended : List Taker) (done : List LaneDone) (readings : List (ℕ × TableMap))
    (alone : AloneView) (snapshot : Option SnapshotView) → Gathers engine tries due passes takers first others ended done readings → first.seat ≡ 0 → IsPermutation (numbered 1 lanes) (taken_by ended)
    → alone.pass ≡ with_snapshot (come_together first others) snapshot → alone.shared ≡ true → alone.earlier ≡ refusals_of others → IsAlone alone.pass → AreApart others → passes ≡ passes' → RunsAndReads engine passes' lanes tries due alone done readings
runs_all_on engine passes passes' takers lanes tries due first others ended done readings alone snapshot gathers first_seat each_once is shared earlier is_alone apart same =
    subst (λ (ps : List PassView). RunsAndReads engine ps lanes tries due alone done readings) same
    (runs_all engine passes takers lanes tries due first others ended done readings alone snapshot gathers first_seat each_once is shared earlier is_alone apart)
