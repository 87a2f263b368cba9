use Rattle.lane_queue.proofs.EachOnceKept.{push_end, learns_length}
use Rattle.lane_queue.proofs.filling.put_end.Goals as goal

pub push_as-requires-clause-rule : goal.push_as-requires-clause-rule
push_as-requires-clause-rule g c = (push_end _ _ _ c.requires.first.0, learns_length _ _ c.requires.first.0 c.requires.first.1)
