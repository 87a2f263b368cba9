use Rattle.std.proofs.Common.{ℕ, ap, subst}
use Rattle.core_rule.specs.Hands.{Seated, Steps}
use Rattle.core_rule.specs.Kinds.{load_floor}
use Rattle.core_rule.specs.Collecting.{record_in, version_in}
use Rattle.core_rule.proofs.HandKept.{steps_of}
use Rattle.core_rule.proofs.shared.Core.load_floor.Goals as goal

pub returns : goal.returns
returns g c =
    let e = c.load.ensures in let before = c.args.hand.now in let new = c.load.new.seat in
    let after' : Seated = record { table = new.table_id; id = new.id; view = new.me.0 } in
    subst (λ (r : ℕ). Steps g.J.Keeps.kept (load_floor r (version_in before.view.work.item)) before c.load.result after') (ap record_in c.requires.at)
    (steps_of g.J.Keeps.kept (λ v. load_floor (record_in v.work.item) (version_in v.work.item)) _ _ c.load.result after' c.hand.view_is e.table e.id e.told)
