use Rattle.std.proofs.Common.{ℕ, sym, ap, subst}
use Rattle.core_rule.specs.View.{Aim, Search}
use Rattle.core_rule.specs.Status.{status_word}
use Rattle.core_rule.specs.Searching.{stand_in}
use Rattle.version_search.specs.Finding.{Arrives, Sees}
use Rattle.version_search.proofs.Walks.{Going, begins, goes_on, arrives}
use Rattle.version_search.proofs.walking.walk.Goals as goal

pub loop-shown-preserved : goal.loop-shown-preserved
loop-shown-preserved g c =
    let core = c.args.core.now in let before = c.args.hand.now in let now = c.loop-shown.hand in let at = c.look_at.new.hand in let next' = c.load_next-next.new.hand in
    let aim = (stand_in before.view.work.search).aim in
    subst (λ (p : ℕ). Going core c.layout-layout.result before next' aim c.args.rid c.args.from p c.args.limit) (sym c.link_place-place.ensures.place)
    (goes_on core c.layout-layout.result c.layout-layout.ensures before aim c.args.rid c.args.from c.args.limit c.requires.reading c.loop-shown.place c.load_next-next.result now at next' c.loop-shown.invariant c.look_at.ensures.stays
    c.in_default.ensures.passed c.load_next-next.ensures).0

pub loop-shown-init : goal.loop-shown-init
loop-shown-init g c =
    begins c.args.core.now c.layout-layout.result c.layout-layout.ensures c.args.hand.now (stand_in c.args.hand.now.view.work.search).aim c.args.rid c.args.from c.args.limit c.requires.ready c.requires.here c.requires.place

pub returns-in-Some-clause-arrives : goal.returns-in-Some-clause-arrives
returns-in-Some-clause-arrives g c =
    let before = c.args.hand.now in let now = c.loop-shown.hand in let at = c.look_at.new.hand in let found = c.in-Some.shown in let going = c.loop-shown.invariant in
    let aim = (stand_in before.view.work.search).aim in
    let same = ap (λ (z : Search). (stand_in z).aim) going.here.search in
    let sees = subst (λ (a : Aim). Sees a c.args.limit c.args.rid c.loop-shown.place found.wts (status_word found.status) now.view at.view) same c.in-Some.ensures.sees in
    subst (λ (p : ℕ). Arrives aim c.args.limit c.args.rid c.args.from p found.wts (status_word found.status) before.view at.view) (sym c.in-Some.ensures.place)
    (arrives c.args.core.now c.layout-layout.result c.layout-layout.ensures before aim c.args.rid c.args.from c.args.limit c.loop-shown.place found.wts (status_word found.status) now at going sees)
