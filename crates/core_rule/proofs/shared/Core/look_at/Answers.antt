use Rattle.std.proofs.Common.{ap, ◌∙◌}
use Rattle.core_rule.specs.Hands.{Seated}
use Rattle.core_rule.specs.Kinds.{look_at}
use Rattle.core_rule.proofs.Finding.{finds_place}
use Rattle.core_rule.proofs.shared.Core.look_at.Goals as goal

pub returns : goal.returns
returns g c =
    let t = c.load-found.ensures in let before = c.hand.view_is in
    finds_place g.J.Keeps.kept (look_at c.args.place) c.load-found.result c.args.hand.now _ c.hand.inside.seat.me.0 (ap (λ (h : Seated). h.view) before)
    (record { same_table = t.table ∙ ap (λ (h : Seated). h.table) before; same_id = t.id ∙ ap (λ (h : Seated). h.id) before }) t.told
