use Rattle.std.proofs.Common.{ap, sym, ◌∙◌, ℕ, List, ◌++◌, Option}
use Rattle.core_rule.specs.Searching.{stand_in}
use Rattle.core_rule.specs.View.{View, Load}
use Rattle.version_search.specs.Links.{missed_at}
use Rattle.version_search.proofs.links.join_between.Goals as goal

pub returns-in-Some-clause-lost : goal.returns-in-Some-clause-lost
returns-in-Some-clause-lost g c =
    let v = c.args.hand.now.view in
    let at : Option ℕ → List Load = λ above. v.seen.lost ++ missed_at c.args.rid above (stand_in v.work.search).place c.link_next.result in
    ap (λ (w : View). w.seen.lost) c.link_next.ensures.view ∙ ap at (sym c.in-Some.is)

pub returns-in-None-clause-lost : goal.returns-in-None-clause-lost
returns-in-None-clause-lost g c =
    let v = c.args.hand.now.view in
    let at : ℕ → Option ℕ → List Load = λ rid above. v.seen.lost ++ missed_at rid above (stand_in v.work.search).place c.link_head.result in
    ap (λ (w : View). w.seen.lost) c.link_head.ensures.view ∙ (λ i. at (sym c.requires.rid i) (sym c.in-None.is i))
