use Rattle.lane_queue.proofs.EachOnceKept.{push_lane, learns_length}
use Rattle.lane_queue.proofs.filling.put_lane.Goals as goal

pub push_as-requires-clause-rule : goal.push_as-requires-clause-rule
push_as-requires-clause-rule g c = (push_lane _ _ _ _ c.requires.first.0 c.requires.before_ends c.requires.first.1, learns_length _ _ c.requires.first.0 c.requires.first.2)
