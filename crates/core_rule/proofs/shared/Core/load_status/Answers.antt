use Rattle.std.proofs.Common.{ℕ, sym, subst}
use Rattle.core_rule.specs.Searching.{stand_in}
use Rattle.core_rule.specs.Hands.{Seated, Steps}
use Rattle.core_rule.specs.Kinds.{load_status}
use Rattle.core_rule.proofs.HandKept.{steps_of}
use Rattle.core_rule.proofs.shared.Core.load_status.Goals as goal

pub returns : goal.returns
returns g c =
    let load = c.load-found in let e = load.ensures in let before = c.args.hand.now in let new = load.new.seat in
    let after' : Seated = record { table = new.table_id; id = new.id; view = new.me.0 } in
    subst (λ (n : ℕ). Steps g.J.Keeps.kept (load_status (stand_in before.view.work.search) c.args.stamp) before n after') (sym c.shown_by.ensures)
    (steps_of g.J.Keeps.kept (λ v. load_status (stand_in v.work.search) c.args.stamp) _ _ load.result after' c.hand.view_is e.table e.id e.told)
