use Rattle.std.proofs.Common.{ap, ◌∙◌, subst}
use Rattle.core_rule.specs.View.{View}
use Rattle.core_rule.specs.Views.{Among}
use Rattle.validate_core.proofs.installing.put.Goals as goal

pub link-requires-clause-only : goal.link-requires-clause-only
link-requires-clause-only g c = λ u h same.
    let linked = ap (λ (v : View). v.work.linked) c.fill.ensures.view in
    c.requires.only c.write_at-write.result.now c.write_at-write.ensures u (subst (Among u) linked h) (same ∙ c.rid-rid.ensures)
