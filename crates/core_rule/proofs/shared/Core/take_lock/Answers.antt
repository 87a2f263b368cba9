use Rattle.core_rule.specs.Kinds.{take_lock}
use Rattle.core_rule.proofs.HandKept.{steps_of}
use Rattle.core_rule.proofs.shared.Core.take_lock.Goals as goal

pub returns : goal.returns
returns g c = let e = c.compare_exchange.ensures in steps_of g.J.Keeps.kept (λ v. take_lock c.args.rid c.args.stamp) _ _ c.compare_exchange.result _ c.hand.view_is e.table e.id e.told
