use Rattle.std.proofs.Common.{◌∙◌, ap, subst}
use Rattle.std.proofs.lemmas.List.{take-set}
use Rattle.core_rule.specs.View.{Write}
use Rattle.core_rule.specs.Views.{Among}
use Rattle.validate_core.specs.Sets.{SetsView}
use Rattle.validate_core.proofs.Noting.{of_set}
use Rattle.validate_core.proofs.sets.Sets.add_write.Goals as goal

pub enter-requires-clause-item : goal.enter-requires-clause-item
enter-requires-clause-item c =
    let n = c.make_item.new.self in
    of_set (λ (u : Write). u.record_number) c.args.rid n.count n.items.items c.set.new.self c.make_item.ensures.item (ap (λ (u : Write). u.record_number) c.set.ensures)

pub enter-requires-clause-first : goal.enter-requires-clause-first
enter-requires-clause-first c =
    let n = c.make_item.new.self in
    λ x among. c.requires.first x (subst (Among x) (take-set n.items.items n.count c.set.new.self ∙ c.make_item.ensures.same ∙ ap (λ (s : SetsView). s.writes) c.self.view_is) among)
