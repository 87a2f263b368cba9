-- What a worker begins with, and what it leaves.
use Rattle.std.specs.Prelude.{◌≡◌, ℕ, ◌+◌, ◌≤◌, ◌<◌, List, [], All, IfOk, length, slice_index_or}
use Rattle.std.specs.List.{sum_by}
use Rattle.atomic_table.specs.Seated.{TableId}
use Rattle.plain_data.specs.declared.entry.Entry.{Entry}
use Rattle.replay_model.specs.TableMap.{TableMap}
use Rattle.lane_queue.specs.declared.lane.Lane.{Lane}
use Rattle.lane_queue.specs.Passes.{Taker, IsFresh, IsSamePass, HasEnded}
use Rattle.txn_engine.specs.Pass.{EngineView, PassView}
use Rattle.txn_engine.specs.Retired.{retired}
use Rattle.lane_runner.specs.declared.done.LaneDone.{LaneDone}
use Rattle.lane_threads.specs.declared.workers.Worker.{Worker}
use Rattle.lane_threads.specs.declared.workers.Worked.{Worked}
use Rattle.lane_threads.specs.declared.workers.Left.{Left}
use Rattle.lane_runner.specs.Room.{HasRoom, clock_after}
use Rattle.lane_runner.specs.Using.{MayUse}
use Rattle.lane_runner.specs.Adds.{Adds}
use Rattle.lane_runner.specs.Blocks.{AreOfSeat}
use Rattle.lane_runner.specs.Finishing.{results_of}
use Rattle.lane_runner.specs.Lanes.{MayRun, AddsSome, lane_draws}
use Rattle.lane_threads.specs.All.{AreOfLanes, tries_of_rests}
use Rattle.lane_threads.specs.Beside.{AreBeside}
use Rattle.lane_threads.specs.Seen.{IsRead, NeverFall, AreEntered}

-- each block of a lane may be run
abbrev pub MayRunLane : Lane → Type 0
MayRunLane lane = All MayRun lane.blocks

-- how many stamps these lanes may draw, with so many tries of each block
abbrev pub draws_of : List Lane → (tries : ℕ) → ℕ
draws_of lanes tries = sum_by (λ lane. lane_draws lane.blocks tries) lanes

-- a pass that this engine may be used with, and a right to take lanes of this queue that has taken none yet, which may run any of its lanes
pub record MayWork (engine : EngineView) (queue : TableId) (tries : ℕ) (pass : PassView) (taker : Taker) : Type 0 where
  pub uses : MayUse engine pass
  pub queue_is : taker.queue ≡ queue
  pub fresh : IsFresh taker
  pub lanes : All MayRunLane taker.lanes
  pub room : HasRoom pass.clock (draws_of taker.lanes tries)

-- a pass has run these lanes, which came to this at its seat, and has drawn so many stamps at most
pub record RunsLanes (tries draws : ℕ) (before after' : PassView) (lanes : List Lane) (done : List LaneDone) : Type 0 where
  pub entries : List Entry
  pub adds : Adds before after' entries
  pub are_of_lanes : AreOfLanes before.shared.size.records entries lanes done
  pub refusals : before.refusals + tries_of_rests tries done ≤ after'.refusals
  pub clock : after'.clock ≤ clock_after before.clock draws
  pub seats : AreOfSeat before.seat (results_of done)

-- no more than these lanes may draw
abbrev pub DoesLanes : (tries : ℕ) (before after' : PassView) (lanes : List Lane) (done : List LaneDone) → Type 0
DoesLanes tries before after' lanes done = RunsLanes tries (draws_of lanes tries) before after' lanes done

-- Or besides one for each reading that it made beside them: at most so many, one behind each result while some are due, each with an entry
-- of its own in the log of the pass. None of them is more than one below what the pass had met before, nor below an earlier one.
pub record DoesAndReads (tries due : ℕ) (before after' : PassView) (lanes : List Lane) (done : List LaneDone) (readings : List (ℕ × TableMap)) : Type 0 where
  pub does : RunsLanes tries (draws_of lanes tries + length readings) before after' lanes done
  pub few : length readings ≤ due
  pub each : All (IsRead before.met after') readings
  pub own : AreEntered before.shared.size.records before.log after'.log readings
  pub in_order : NeverFall readings
  pub beside : AreBeside due readings (results_of done)

-- what a worker leaves that began with this pass and this right to take lanes: unless it had no memory, no lane was left
pub record Works (tries : ℕ) (pass : PassView) (taker : Taker) (worked : Worked) : Type 0 where
  pub adds : AddsSome pass worked.pass
  pub same : IsSamePass taker worked.taker
  pub done : IfOk worked.done (λ done. HasEnded worked.taker × DoesLanes tries pass worked.pass worked.taker.took done.items)

-- the same of a worker that may read all rows so often beside its lanes
pub record WorksAndReads (due tries : ℕ) (pass : PassView) (taker : Taker) (worked : Worked) (readings : List (ℕ × TableMap)) : Type 0 where
  pub adds : AddsSome pass worked.pass
  pub same : IsSamePass taker worked.taker
  pub done : IfOk worked.done (λ done. HasEnded worked.taker × DoesAndReads tries due pass worked.pass worked.taker.took done.items readings)

-- one that reads nothing is such a worker where nothing is due
abbrev pub NothingIsRead : Type 0
NothingIsRead =
    (tries : ℕ) (pass : PassView) (taker : Taker) (worked : Worked) (readings : List (ℕ × TableMap))
    → readings ≡ []
    → Works tries pass taker worked
    → WorksAndReads 0 tries pass taker worked readings

-- the same as `Works` of a worker whose pass has retired then
pub record WorksAndRetires (tries : ℕ) (pass : PassView) (taker : Taker) (left : Left) : Type 0 where
  pub worked : Worked
  pub works : Works tries pass taker worked
  pub retired_is : left.retired ≡ retired worked.pass
  pub taker_is : left.taker ≡ worked.taker
  pub done_is : left.done ≡ worked.done

module _ {C : Type 0} where
  abbrev pub MayBegin : (engine : EngineView) (queue : TableId) (tries : ℕ) → Worker C → Type 0
  MayBegin engine queue tries worker = MayWork engine queue tries worker.pass worker.taker

  -- there is room for so many draws besides
  abbrev pub HasRoomBeside : (due tries : ℕ) → Worker C → Type 0
  HasRoomBeside due tries worker = HasRoom worker.pass.clock (draws_of worker.taker.lanes tries + due)

  -- each of these workers has left this, in their order
  pub record EachRetires (tries : ℕ) (workers : List (Worker C)) (left : List Left) : Type 0 where
    pub count : length left ≡ length workers
    pub each : (i : ℕ) (w : Worker C) (one : Left) → i < length workers → WorksAndRetires tries (slice_index_or workers i w).pass (slice_index_or workers i w).taker (slice_index_or left i one)
