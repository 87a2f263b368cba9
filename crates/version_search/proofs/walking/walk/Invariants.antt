use Rattle.core_rule.specs.Searching.{stand_in}
use Rattle.version_search.proofs.Walks.{Going}
use Rattle.version_search.proofs.walking.walk.Given as goal

abbrev pub invariant-loop-shown : goal.invariant-loop-shown
invariant-loop-shown g l = Going l.core l.layout l.fn.hand l.hand (stand_in l.fn.hand.view.work.search).aim l.rid l.from l.place l.limit

abbrev pub decreases-loop-shown : goal.decreases-loop-shown
decreases-loop-shown g l = (stand_in l.hand.view.work.search).under
