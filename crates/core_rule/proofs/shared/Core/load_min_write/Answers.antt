use Rattle.core_rule.specs.Kinds.{load_min_write}
use Rattle.core_rule.proofs.HandKept.{steps_of}
use Rattle.core_rule.proofs.shared.Core.load_min_write.Goals as goal

pub returns : goal.returns
returns g c = let e = c.load.ensures in steps_of g.J.Keeps.kept (λ v. load_min_write) _ _ c.load.result _ c.hand.view_is e.table e.id e.told
