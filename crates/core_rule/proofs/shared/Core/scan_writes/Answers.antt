use Rattle.core_rule.specs.Kinds.{scan_writes}
use Rattle.core_rule.proofs.HandKept.{steps_of}
use Rattle.core_rule.proofs.shared.Core.scan_writes.Goals as goal

pub returns : goal.returns
returns g c = let e = c.load.ensures in steps_of g.J.Keeps.kept (λ v. scan_writes c.args.seat) _ _ c.load.result _ c.hand.view_is e.table e.id e.told
