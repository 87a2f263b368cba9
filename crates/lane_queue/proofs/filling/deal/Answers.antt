use Rattle.lane_queue.proofs.EachOnceKept.{forks}
use Rattle.lane_queue.proofs.filling.deal.Goals as goal

pub another-inner-requires-clause-rule : goal.another-inner-requires-clause-rule
another-inner-requires-clause-rule c = forks _ _ c.requires.shares c.requires.ends c.requires.single
