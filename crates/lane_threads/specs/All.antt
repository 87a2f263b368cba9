-- What the run of all lanes takes, and what it leaves.
use Rattle.std.specs.Prelude.{◌≡◌, ℕ, ◌+◌, ◌≤◌, max, true, List, [], ◌∷◌, ◌++◌, map, length, All}
use Rattle.std.specs.List.{range_with_len, sum_by, AllByRecursion}
use Rattle.std.specs.List.Sorted.{IsPermutation}
use Rattle.plain_data.specs.declared.entry.Entry.{Entry}
use Rattle.core_rule.specs.Views.{Among, AllIn}
use Rattle.replay_model.specs.declared.input.Block.{Block}
use Rattle.replay_model.specs.TableMap.{TableMap}
use Rattle.lane_queue.specs.declared.lane.Lane.{Lane}
use Rattle.lane_queue.specs.Passes.{numbered}
use Rattle.txn_engine.specs.Pass.{EngineView, PassView, IsIdle, IsAlone, engine_of}
use Rattle.txn_engine.specs.Alone.{AloneView}
use Rattle.lane_runner.specs.declared.done.LaneDone.{LaneDone}
use Rattle.lane_runner.specs.Room.{clock_after}
use Rattle.lane_runner.specs.Done.{tries_of_rest}
use Rattle.lane_runner.specs.Adds.{IsNext, AreInOrder}
use Rattle.lane_threads.specs.Merges.{IsMerge}
use Rattle.lane_threads.specs.Beside.{AreFewBeside, places_of}
use Rattle.lane_threads.specs.Seen.{HaveEntries, IsRead, NeverFall, met_first}
use Rattle.lane_runner.specs.Weighs.{LeavesTables}
use Rattle.lane_runner.specs.Lanes.{AreEntries, KeepOrder, lane_draws}

-- ---- before

-- all passes of an engine, in the order of their seats, with no transaction in flight
pub record AreAllPasses (engine : EngineView) (passes : List PassView) : Type 0 where
  pub engines : AllByRecursion (λ p. engine_of p ≡ engine) passes
  pub idle : AllByRecursion IsIdle passes
  pub seats : map (λ p. p.seat) passes ≡ range_with_len 0 engine.size.seats

-- how many stamps all lanes may draw, with so many tries of each block
abbrev pub all_draws : List (List Block) → (tries : ℕ) → ℕ
all_draws lanes tries = sum_by (λ blocks. lane_draws blocks tries) lanes

-- of all passes: the sum of the refusals, the greatest of the clocks, and the greatest of the minima met
abbrev pub all_refusals : List PassView → ℕ
all_refusals [] = 0
all_refusals (p ∷ ps) = p.refusals + all_refusals ps

abbrev pub latest_clock : List PassView → ℕ
latest_clock [] = 0
latest_clock (p ∷ ps) = max p.clock (latest_clock ps)

abbrev pub greatest_met : List PassView → ℕ
greatest_met [] = 0
greatest_met (p ∷ ps) = max p.met (greatest_met ps)

-- ---- what lanes come to

-- these are the entries of a lane: its results are those of its first blocks, each with its entry, in their order; the others are the
-- rest
pub record AreOfLane (records : ℕ) (entries : List Entry) (lane : Lane) (done : LaneDone) : Type 0 where
  pub lane_is : done.lane ≡ lane.number
  pub first : List Block
  pub blocks_are : lane.blocks ≡ first ++ done.rest
  pub are_entries : AreEntries records entries first done.results
  pub order : KeepOrder done.results

-- These are the entries of lanes, those of each lane in their order, with what each of them came to; other entries between them leave the
-- tables and their weight.
pub data AreOfLanes (records : ℕ) : List Entry → List Lane → List LaneDone → Type 0 where
  none : (entries : List Entry) → ((entry : Entry) → Among entry entries → LeavesTables records entry) → AreOfLanes records entries [] []
  next : (entries more all : List Entry) (lane : Lane) (lanes : List Lane) (done : LaneDone) (dones : List LaneDone)
      → IsMerge entries more all → AreOfLane records entries lane done → AreOfLanes records more lanes dones
      → AreOfLanes records all (lane ∷ lanes) (done ∷ dones)

-- so many tries for each lane with a rest
abbrev pub tries_of_rests : (tries : ℕ) → List LaneDone → ℕ
tries_of_rests tries [] = 0
tries_of_rests tries (done ∷ dones) = tries_of_rest tries done.rest + tries_of_rests tries dones

-- ---- the logs

-- a pass as it was handed in, and the entries that were added behind its log
pub record Grown : Type 0 where
  pub pass : PassView
  pub added : List Entry

pub record IsGrown (grown : Grown) : Type 0 where
  pub each : (entry : Entry) → Among entry grown.added → IsNext grown.pass entry
  pub in_order : AreInOrder grown.added

-- the logs one behind the other, and all that was added to them
abbrev pub grown_logs : List Grown → List Entry
grown_logs [] = []
grown_logs (g ∷ gs) = (g.pass.log ++ g.added) ++ grown_logs gs

abbrev pub all_added : List Grown → List Entry
all_added [] = []
all_added (g ∷ gs) = g.added ++ all_added gs

-- ---- after

-- all seats of an engine have come together, and nothing is in flight or left over
pub record IsTogether (engine : EngineView) (alone : AloneView) : Type 0 where
  pub shared : alone.shared ≡ true
  pub engine_is : engine_of alone.pass ≡ engine
  pub first : alone.pass.seat ≡ 0
  pub is_alone : IsAlone alone.pass
  pub idle : IsIdle alone.pass
  pub none_given : alone.pass.given ≡ []
  pub none_queued : alone.pass.queue ≡ []
  pub no_boost : alone.pass.boost ≡ 0

-- All lanes were run, with so many tries of each block, on passes that were like these when they were handed in; beside what the lanes may
-- draw, so many stamps were drawn at most.
pub record RunsAll (engine : EngineView) (passes : List PassView) (lanes : List (List Block)) (tries due : ℕ) (alone : AloneView) (done : List LaneDone) : Type 0 where
  pub together : IsTogether engine alone
  -- the lanes, each once, in the order of what they came to
  pub taken : List Lane
  pub each_once : IsPermutation (numbered 1 lanes) taken
  -- the log is made of those of the passes, in their order, each with what was added behind it
  pub grown : List Grown
  pub passes_are : map (λ g. g.pass) grown ≡ passes
  pub log_is : alone.pass.log ≡ grown_logs grown
  pub each_grown : AllByRecursion IsGrown grown
  -- what was added are the entries of the lanes
  pub are_of_lanes : AreOfLanes engine.size.records (all_added grown) taken done
  pub in_log : AllIn (all_added grown) alone.pass.log
  -- a lane has a rest only where a block of it was refused so often
  pub refusals : all_refusals passes + tries_of_rests tries done ≤ alone.pass.refusals + alone.earlier
  pub clock_from : latest_clock passes ≤ alone.pass.clock
  pub clock_to : alone.pass.clock ≤ clock_after (latest_clock passes) (all_draws lanes tries + due)
  pub met : greatest_met passes ≤ alone.pass.met

-- Besides, the worker of the first pass has read all rows, at most so often and beside its blocks, each time with an entry of its own in the
-- log and not below the earlier ones.
pub record RunsAndReads (engine : EngineView) (passes : List PassView) (lanes : List (List Block)) (tries due : ℕ) (alone : AloneView) (done : List LaneDone) (readings : List (ℕ × TableMap)) : Type 0 where
  pub runs : RunsAll engine passes lanes tries (length readings) alone done
  pub few : length readings ≤ due
  pub each : All (IsRead (met_first passes) alone.pass) readings
  pub own : HaveEntries alone.pass.shared.size.records alone.pass.log readings
  pub in_order : NeverFall readings
  pub beside : AreFewBeside due (places_of done) readings
