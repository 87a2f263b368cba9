-- Lanes behind lanes, with dumps between their blocks.
use Rattle.std.proofs.Common.{◌≡◌, ◌≢◌, ℕ, ◌+◌, ◌-◌, ◌≤◌, List, [], ◌∷◌, ◌++◌, All, length, sym, ap, subst, ◌∙◌, arith}
use Rattle.lane_queue.specs.Subsequences.{IsSubsequence}
use Rattle.lane_queue.specs.declared.lane.Lane.{Lane}
use Rattle.txn_engine.specs.Pass.{PassView, IsIdle}
use Rattle.lane_runner.specs.declared.done.LaneDone.{LaneDone}
use Rattle.lane_runner.specs.Done.{DoesLane}
use Rattle.lane_runner.specs.Finishing.{results_of}
use Rattle.lane_runner.specs.Lanes.{lane_draws}
use Rattle.lane_runner.specs.Room.{HasRoom, clock_after}
use Rattle.lane_threads.specs.Beside.{StandBeside}
use Rattle.lane_threads.specs.Seen.{AreEntered, IsRead, NeverFall}
use Rattle.lane_threads.specs.Workers.{DoesAndReads, RunsLanes, draws_of}
use Rattle.lane_threads.proofs.LaneLists.{RunsLanes-next, RunsLanes-none, RunsLanes-weaker, draws_push, taken_room}
use Rattle.snap_dump.specs.declared.dump.Dump.{Dump}
use Rattle.snap_dump.specs.Beside.{AreBeside}
use Rattle.snap_dump.specs.Dumps.{DumpsMade, how_many, seen_in}
use Rattle.snap_dump.proofs.Placed.{all_read, length-seen_in}

-- there is room for a lane that was taken, and for the dumps that are left
pub room_taken : (lanes lanes' took took' : List Lane) (lane : Lane) (taken : took' ≡ took ++ lane ∷ []) (same : lanes' ≡ lanes) (part : IsSubsequence took' lanes') (tries first clock due : ℕ) (made : ℕ)
    → HasRoom first (draws_of lanes tries + due) → clock ≤ clock_after first (draws_of took tries + made) → made ≤ due → HasRoom clock (lane_draws lane.blocks tries + (due - made))
room_taken lanes lanes' took took' lane taken same part tries first clock due made room so_far few =
    let here = taken_room lanes lanes' took took' lane taken same part tries (clock_after first due) (clock_after clock (due - made)) (omega (arith, room)) (omega (arith, so_far, few)) in
    omega (arith, here)

-- none was taken yet
pub runs_none : (tries : ℕ) (p : PassView) (took : List Lane) (done : List LaneDone) (draws : ℕ) → IsIdle p → took ≡ [] → done ≡ [] → RunsLanes tries draws p p took done
runs_none tries p took done draws idle no_lanes no_done =
    subst (λ (y : List Lane × List LaneDone). RunsLanes tries draws p p y.0 y.1) (λ i. (sym no_lanes i, sym no_done i))
    (RunsLanes-weaker tries 0 draws p p [] [] (omega arith) (RunsLanes-none tries p idle))

-- one lane more
pub runs_more : (tries : ℕ) (p q r : PassView) (took took' : List Lane) (lane : Lane) (dones dones' : List LaneDone) (done : LaneDone) (old mid new : List Dump) → took' ≡ took ++ lane ∷ [] → dones' ≡ dones ++ done ∷ []
    → RunsLanes tries (draws_of took tries + how_many old mid) p q took dones → DoesLane lane done q r → (done.rest ≢ [] → q.refusals + tries ≤ r.refusals) → r.clock ≤ clock_after q.clock (lane_draws lane.blocks tries + how_many mid new)
    → length old ≤ length mid → length mid ≤ length new → RunsLanes tries (draws_of took' tries + how_many old new) p r took' dones'
runs_more tries p q r took took' lane dones dones' done old mid new taken pushed so_far does rest clock low high =
    let m : ℕ = draws_of took tries + how_many old mid in
    let n : ℕ = lane_draws lane.blocks tries + how_many mid new in
    let drawn : draws_of took' tries ≡ draws_of (took ++ lane ∷ []) tries = ap (λ (ls : List Lane). draws_of ls tries) taken in
    RunsLanes-weaker tries (m + n) (draws_of took' tries + how_many old new) p r took' dones' (omega (arith, drawn, draws_push tries took lane, low, high))
    (RunsLanes-next tries m n p q r took took' lane dones dones' done taken pushed so_far does rest clock)

-- all lanes
pub does_dumping : (tries due : ℕ) (p q : PassView) (took : List Lane) (dones : List LaneDone) (old new : List Dump) → old ≡ [] → RunsLanes tries (draws_of took tries + how_many old new) p q took dones → (made : DumpsMade p q old new) → length new ≤ due → AreBeside due old made.more (results_of dones)
    → DoesAndReads tries due p q took dones (seen_in new)
does_dumping tries due p q took dones old new none does made within beside =
    let count = length-seen_in new in
    let are_new : new ≡ made.more = made.grown ∙ ap (λ (ds : List Dump). ds ++ made.more) none in
    record {
      does = RunsLanes-weaker tries (draws_of took tries + how_many old new) (draws_of took tries + length (seen_in new)) p q took dones (omega (arith, count)) does;
      few = omega (arith, count, within);
      each = subst (λ (ds : List Dump). All (IsRead p.met q) (seen_in ds)) (sym are_new) (all_read p.met q made.more made.each);
      own = subst (λ (ds : List Dump). AreEntered p.shared.size.records p.log q.log (seen_in ds)) (sym are_new) made.own;
      in_order = subst (λ (ds : List Dump). NeverFall (seen_in ds)) (sym are_new) made.in_order;
      beside = record {
        stand = subst (λ (ds : List Dump). StandBeside (seen_in ds) (results_of dones)) (sym are_new) beside.stand;
        all = λ still.
            let as_many = ap (λ (ds : List Dump). length ds) are_new in
            let no_old = ap (λ (ds : List Dump). length ds) none in
            let all = beside.all (omega (arith, still, count, as_many, no_old)) in
            omega (arith, all, count, as_many);
      };
    }
