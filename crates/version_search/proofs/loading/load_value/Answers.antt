use Rattle.std.proofs.Common.{◌≡◌, ℕ, Some, ap, ◌∙◌, subst}
use Rattle.core_rule.specs.Deciding.{read_value}
use Rattle.core_rule.specs.View.{Read}
use Rattle.version_search.specs.Loading.{IsLeftIn}
use Rattle.version_search.proofs.Grown.{grows_loads}
use Rattle.version_search.proofs.loading.load_value.Goals as goal

pub returns-clause-left : goal.returns-clause-left
returns-clause-left g c =
    let read = c.load_into.new.read in
    let status = ap (λ (d : Read). d.status) c.load_into.ensures.read ∙ ap (λ (d : Read). d.status) c.begin.ensures.version in
    let value : Some c.in-Some.cells ≡ Some read.cells = c.in-Some.ensures.value ∙ ap (λ (s : ℕ). read_value (record read { status = s })) status in
    let cells : read.cells ≡ c.in-Some.cells = cc in
    subst (IsLeftIn c.load_into.new.hand.view) cells c.load_into.ensures.left

pub returns-clause-grows : goal.returns-clause-grows
returns-clause-grows g c = grows_loads c.args.hand.now.view.seen c.load_into.new.hand.view.seen _ c.load_into.ensures.loads c.load_into.ensures.lost
