-- The order that a report prints: a place for each of its whole head lines.
use Rattle.std.specs.Prelude.{ℕ, List, Bool, true, false, Option}
use Rattle.std.specs.List.{filter_map}
use Rattle.std.specs.Option.{option_map}
use Rattle.replay_model.specs.declared.input.Input.{Input}
use Rattle.replay_model.specs.declared.outcome.Placed.{Placed}
use Rattle.replay_model.specs.Replay.{block_at, block_or_none}
use Rattle.report_check.specs.declared.head.Head.{Head}
use Rattle.report_check.specs.declared.head.Said.{Said}
use Rattle.report_check.specs.declared.head.Said.TheVariants.{Ran, Snap, Refused}
use Rattle.report_check.specs.Lines.{whole_lines}
use Rattle.report_check.specs.Reading.{head_of}

-- whether the block is a snapshot; of a refused one the input tells it, and one that is not there is none
abbrev pub said_snap : Input → ℕ → ℕ → Said → Bool
said_snap input lane number Ran = false
said_snap input lane number Snap = true
said_snap input lane number (Refused command cause) = (block_or_none (block_at input.lanes lane number)).snap

-- the same of a head line
abbrev pub is_snap : Input → Head → Bool
is_snap input head = said_snap input head.lane head.number head.said

-- the place that a head line tells
abbrev pub placed_by : Input → Head → Placed
placed_by input head = record { stamp = head.stamp; snap = is_snap input head; lane = head.lane; number = head.number }

-- the place that a line tells, if it is a head line
abbrev pub placed_in : Input → List ℕ → Option Placed
placed_in input line = option_map (placed_by input) (head_of line)

-- the places of all whole lines that are head lines, in their order
unfoldable pub printed : Input → List ℕ → List Placed
printed input report = filter_map (placed_in input) (whole_lines report)
