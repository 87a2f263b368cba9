-- How far a clock comes with the draws of blocks.
use Rattle.std.proofs.Common.{◌≡◌, ℕ, ◌+◌, ◌<◌, ◌≤◌, arith}
use Rattle.stamp_base.specs.Limits.{greatest_clock}
use Rattle.txn_engine.specs.Pass.{PassView, next_clock}
use Rattle.lane_runner.specs.Room.{HasRoom, clock_after}

-- a clock is left, and a later one
pub clock_left : (p : PassView) (reading : ℕ) → HasRoom p.clock 1 → next_clock p reading ≡ greatest_clock + 1 → ⊥
clock_left p reading room out = omega arith

pub clock_later : (p : PassView) (reading : ℕ) → p.clock < next_clock p reading
clock_later p reading = omega arith

pub clock_drawn : (p : PassView) (reading : ℕ) → next_clock p reading ≤ clock_after p.clock 1
clock_drawn p reading = omega arith

-- one draw more
pub drawn_again : (first now after' draws : ℕ) → now ≤ clock_after first draws → after' ≤ clock_after now 1 → after' ≤ clock_after first (draws + 1)
drawn_again first now after' draws so_far more = omega arith

-- room for one of many
pub room_for_one : (first now draws more : ℕ) → now ≤ clock_after first draws → HasRoom first (draws + 1 + more) → HasRoom now 1
room_for_one first now draws more so_far room = omega arith

-- draws behind others
pub drawn_both : (first now after' some more : ℕ) → now ≤ clock_after first some → after' ≤ clock_after now more → after' ≤ clock_after first (some + more)
drawn_both first now after' some more so_far rest = omega arith

pub room_behind : (first now some more : ℕ) → now ≤ clock_after first some → HasRoom first (some + more) → HasRoom now more
room_behind first now some more so_far room = omega arith

pub clock_still : (clock : ℕ) → clock ≤ clock_after clock 0
clock_still clock = omega arith

-- room for one more among so many
pub room_among : (first now draws count : ℕ) → now ≤ clock_after first draws → draws < count → HasRoom first count → HasRoom now 1
room_among first now draws count so_far fewer room = omega arith

-- not all draws need have come
pub drawn_most : (first now draws most : ℕ) → now ≤ clock_after first draws → draws ≤ most → now ≤ clock_after first most
drawn_most first now draws most so_far fewer = omega arith

pub room_part : (clock some more : ℕ) → HasRoom clock (some + more) → HasRoom clock more
room_part clock some more room = omega arith
