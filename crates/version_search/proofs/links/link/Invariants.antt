use Rattle.std.proofs.Common.{◌*◌, ◌-◌}
use Rattle.core_rule.specs.Searching.{stand_in, joint_in, write_of, front_fill}
use Rattle.version_search.proofs.Betweens.{Between}
use Rattle.version_search.proofs.links.link.Given as goal

abbrev pub invariant-loop-above : goal.invariant-loop-above
invariant-loop-above g l = Between l.core l.layout l.fn.hand l.hand (write_of l.rid (front_fill l.fn.hand.view.places.fills)) l.above l.below

abbrev pub decreases-loop-above : goal.decreases-loop-above
decreases-loop-above g l = 2 * (stand_in l.hand.view.work.search).under - (joint_in l.hand.view.work.search).least
