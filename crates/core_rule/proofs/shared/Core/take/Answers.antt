use Rattle.std.proofs.Common.{rules, ◌≡◌, ◌↔◌, IsTrue, ℕ, nat_eq, sym, ap, ◌∙◌, subst}
use Rattle.plain_data.specs.State.{State}
use Rattle.core_rule.specs.View.{View}
use Rattle.core_rule.specs.Hands.{Seated, IsSameSeat, Takes}
use Rattle.core_rule.specs.Kinds.{take}
use Rattle.core_rule.proofs.Finding.{finds_place}
use Rattle.core_rule.proofs.shared.Core.take.Goals as goal
use Rattle.core_rule.proofs.shared.Core.take.Goals.{else-taken-via-then-taken+then-place-records+else-place-places, else-taken-via-then-taken+else-place-records, else-taken-via-else-taken}

pub returns-then-place-places : goal.returns-then-place-places
returns-then-place-places g c =
    let t = c.compare_exchange-found.ensures in let before = c.hand.view_is in
    finds_place g.J.Keeps.kept (take c.args.place) c.compare_exchange-found.result c.args.hand.now _ c.hand.inside.seat.me.0 (ap (λ (h : Seated). h.view) before)
    (record { same_table = t.table ∙ ap (λ (h : Seated). h.table) before; same_id = t.id ∙ ap (λ (h : Seated). h.id) before }) t.told

pub returns-else-taken : goal.returns-else-taken
returns-else-taken g c =
    let t = c.compare_exchange-found.ensures in let before = c.hand.view_is in let new = c.compare_exchange-found.new.seat in
    let after' : Seated = record { table = new.table_id; id = new.id; view = new.me.0 } in
    let takes : Takes g.J.Keeps.kept c.args.place c.args.hand.now (nat_eq c.compare_exchange-found.result 0) after' =
    finds_place g.J.Keeps.kept (take c.args.place) c.compare_exchange-found.result c.args.hand.now after' c.hand.inside.seat.me.0 (ap (λ (h : Seated). h.view) before)
    (record { same_table = t.table ∙ ap (λ (h : Seated). h.table) before; same_id = t.id ∙ ap (λ (h : Seated). h.id) before }) t.told in
    let named : (h : Seated) → h ≡ after' → Takes g.J.Keeps.kept c.args.place c.args.hand.now (nat_eq c.compare_exchange-found.result 0) h = λ h e. subst (λ (x : Seated). Takes g.J.Keeps.kept c.args.place c.args.hand.now (nat_eq c.compare_exchange-found.result 0) x) (sym e) takes in
    elim c.else-taken.branch [
      | else-taken-via-then-taken+then-place-records+else-place-places w ↦ named c.else-taken.hand w.hand-is
      | else-taken-via-then-taken+else-place-records w ↦ named c.else-taken.hand w.hand-is
      | else-taken-via-else-taken w ↦ named c.else-taken.hand w.hand-is
    ]
