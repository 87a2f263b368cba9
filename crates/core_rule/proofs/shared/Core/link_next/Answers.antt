use Rattle.core_rule.specs.Kinds.{link_next}
use Rattle.core_rule.specs.Searching.{stand_in, look_in, joint_in, stamp_seen}
use Rattle.core_rule.proofs.HandKept.{steps_of}
use Rattle.core_rule.proofs.shared.Core.link_next.Goals as goal

pub returns : goal.returns
returns g c = let e = c.compare_exchange.ensures in steps_of g.J.Keeps.kept (λ v. link_next (stand_in v.work.search) (joint_in v.work.search) c.args.above (stamp_seen (look_in v.work.search))) _ _ c.compare_exchange.result _ c.hand.view_is e.table e.id e.told
