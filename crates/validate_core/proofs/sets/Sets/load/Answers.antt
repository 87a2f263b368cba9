use Rattle.std.proofs.Common.{◌<◌, ◌∙◌, ℕ, ap, sym, subst, set, length, length-set}
use Rattle.std.proofs.lemmas.List.{take-set, get_or-set_same}
use Rattle.core_rule.specs.View.{Read}
use Rattle.core_rule.specs.Views.{Among}
use Rattle.validate_core.specs.Sets.{SetsView}
use Rattle.validate_core.proofs.Noting.{of_set}
use Rattle.validate_core.proofs.sets.Sets.load.Goals as goal

pub enter-requires-clause-item : goal.enter-requires-clause-item
enter-requires-clause-item g c =
    let n = c.make_item.new.self in let begun = c.begin.new.self in let number = λ (d : Read). d.record_number in
    let inside : n.count < length (set n.items.items n.count begun) = subst (λ (k : ℕ). n.count < k) (sym (length-set n.items.items n.count begun)) c.make_item.ensures.item in
    of_set (λ (d : Read). d.record_number) c.args.rid n.count (set n.items.items n.count begun) c.load_into.new.read inside
    (ap number c.load_into.ensures.read ∙ ap number (c.index_mut-2.ensures.value ∙ get_or-set_same n.items.items n.count begun c.index_mut-2.result.now c.make_item.ensures.item) ∙ ap number c.begin.ensures.version)

pub enter-requires-clause-first : goal.enter-requires-clause-first
enter-requires-clause-first g c =
    let n = c.make_item.new.self in let begun = c.begin.new.self in
    λ x among.
    c.requires.first x (subst (Among x) (take-set (set n.items.items n.count begun) n.count c.load_into.new.read ∙ take-set n.items.items n.count begun ∙ c.make_item.ensures.same ∙ ap (λ (s : SetsView). s.reads) c.self.view_is) among)
