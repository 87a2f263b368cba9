use Rattle.std.specs.Option.{IsSomeAnd}
use Rattle.lane_futures.specs.Lanes.{HasRoomLeft, ComeToTheSame, tries_there}
use Rattle.program_rows.proofs.by_hand.turn_to_the_end.Given as goal

abbrev pub invariant-loop-lanes : goal.invariant-loop-lanes
invariant-loop-lanes l = record {
  room : IsSomeAnd l.lanes HasRoomLeft;
  same : ComeToTheSame l.initial.lanes l.lanes;
}

abbrev pub decreases-loop-lanes : goal.decreases-loop-lanes
decreases-loop-lanes l = tries_there l.lanes
