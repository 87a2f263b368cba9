-- What several workers leave together.
use Rattle.std.specs.Prelude.{◌≡◌, ℕ, ◌+◌, ◌≤◌, false, List, [], ◌∷◌, ◌++◌, map, length, All}
use Rattle.std.specs.List.{AllByRecursion}
use Rattle.std.specs.Result.{IsOkAnd}
use Rattle.stamp_base.specs.Stamp.{stamp_of}
use Rattle.core_rule.specs.Views.{Among}
use Rattle.replay_model.specs.declared.outcome.Outcome.{Outcome}
use Rattle.replay_model.specs.declared.outcome.Placed.{Placed}
use Rattle.replay_model.specs.TableMap.{TableMap}
use Rattle.lane_queue.specs.Passes.{Taker, HasEnded, taken_by}
use Rattle.txn_engine.specs.Pass.{EngineView, PassView, IsIdle, engine_of}
use Rattle.txn_engine.specs.Retired.{RetiredView}
use Rattle.txn_engine.specs.Joining.{AreOfEngine, logs_of, refusals_of, greatest_clock_of, greatest_met_of}
use Rattle.lane_runner.specs.declared.done.LaneDone.{LaneDone}
use Rattle.lane_threads.specs.declared.workers.Worked.{Worked}
use Rattle.lane_threads.specs.declared.workers.Left.{Left}
use Rattle.lane_threads.specs.declared.gathering.Gathered.{Gathered}
use Rattle.lane_runner.specs.Room.{clock_after}
use Rattle.lane_runner.specs.Finishing.{results_of}
use Rattle.lane_threads.specs.Workers.{draws_of}
use Rattle.lane_threads.specs.All.{Grown, IsGrown, grown_logs, all_added, AreOfLanes, all_refusals, tries_of_rests, latest_clock, greatest_met}
use Rattle.lane_threads.specs.Beside.{AreBeside}
use Rattle.lane_threads.specs.Seen.{HaveEntries, IsRead, NeverFall, met_first}

-- what is gathered is what this worker left
pub record Starts (worked : Worked) (gathered : Gathered) : Type 0 where
  pub pass_is : gathered.pass ≡ worked.pass
  pub retired_are : gathered.retired.items ≡ []
  pub takers_are : gathered.takers.items ≡ worked.taker ∷ []
  pub done_is : IsOkAnd worked.done (λ done. gathered.done.items ≡ done.items)

-- what another worker left is gathered too
pub record GoesOn (before after' : Gathered) (left : Left) : Type 0 where
  pub pass_is : after'.pass ≡ before.pass
  pub retired_are : after'.retired.items ≡ before.retired.items ++ left.retired ∷ []
  pub takers_are : after'.takers.items ≡ before.takers.items ++ left.taker ∷ []
  pub done_is : IsOkAnd left.done (λ done. after'.done.items ≡ before.done.items ++ done.items)

-- what each of these workers left is, one behind another
abbrev pub GoesOnByEach : (before : Gathered) → List Left → (after' : Gathered) → Type 0
GoesOnByEach before [] after' = after' ≡ before
GoesOnByEach before (left ∷ more) after' = (between : Gathered) × GoesOn before between left × GoesOnByEach between more after'

-- the place is that of a snapshot, or its stamp is one of these seats
abbrev pub IsOfSome : List ℕ → Placed → Type 0
IsOfSome seats placed = placed.snap ≡ false → (clock seat : ℕ) × Among seat seats × (placed.stamp ≡ stamp_of clock seat)

-- a right to take lanes as it was when nothing was taken yet
abbrev pub fresh_again : Taker → Taker
fresh_again taker = record taker { took = []; ended = false }

-- What workers leave that began with these passes and these rights to take lanes: the first pass, which is open, the others, which have
-- retired, the rights, with what was taken, what the lanes came to, and what the worker of the first pass has read beside them.
pub record Gathers (engine : EngineView) (tries due : ℕ) (passes : List PassView) (takers : List Taker) (first : PassView) (others : List RetiredView) (ended : List Taker) (done : List LaneDone) (readings : List (ℕ × TableMap)) : Type 0 where
  pub engine_is : engine_of first ≡ engine
  pub idle : IsIdle first
  pub of_engine : AreOfEngine engine others
  pub seats : first.seat ∷ map (λ r. r.seat) others ≡ map (λ p. p.seat) passes
  -- no lane was left
  pub takers_are : map fresh_again ended ≡ takers
  pub have_ended : AllByRecursion HasEnded ended
  -- the logs, and the entries of the lanes that were added to them
  pub grown : List Grown
  pub passes_are : map (λ g. g.pass) grown ≡ passes
  pub logs : first.log ++ logs_of others ≡ grown_logs grown
  pub each_grown : AllByRecursion IsGrown grown
  pub are_of_lanes : AreOfLanes engine.size.records (all_added grown) (taken_by ended) done
  -- refusals and clocks
  pub refusals : all_refusals passes + tries_of_rests tries done ≤ first.refusals + refusals_of others
  pub clock_from : latest_clock passes ≤ greatest_clock_of first.clock others
  pub clock_to : greatest_clock_of first.clock others ≤ clock_after (latest_clock passes) (draws_of (taken_by ended) tries + length readings)
  pub met : greatest_met passes ≤ greatest_met_of first.met others
  -- the readings
  pub few : length readings ≤ due
  pub each_read : All (IsRead (met_first passes) first) readings
  pub own : HaveEntries engine.size.records first.log readings
  pub in_order : NeverFall readings
  -- they stand beside what the lanes of the first worker come to; what those of the others come to is of other seats
  pub ours : List LaneDone
  pub theirs : List LaneDone
  pub done_are : done ≡ ours ++ theirs
  pub beside : AreBeside due readings (results_of ours)
  pub apart : All (λ (result : Placed × Outcome). IsOfSome (map (λ (r : RetiredView). r.seat) others) result.0) (results_of theirs)

abbrev pub GathersIn : (engine : EngineView) (tries due : ℕ) (passes : List PassView) (takers : List Taker) → Gathered → List (ℕ × TableMap) → Type 0
GathersIn engine tries due passes takers g readings = Gathers engine tries due passes takers g.pass g.retired.items g.takers.items g.done.items readings
