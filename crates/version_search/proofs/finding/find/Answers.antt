use Rattle.std.proofs.Common.{ℕ, ◌≤◌, Bool, refl, sym, ◌∙◌, subst, arith}
use Rattle.core_rule.specs.Status.{status_word}
use Rattle.core_rule.specs.declared.status.Status.TheVariants.{Pending, Deleted}
use Rattle.core_rule.specs.View.{reads}
use Rattle.core_rule.specs.Searching.{stand_in}
use Rattle.version_search.specs.Finding.{Finds, Reads, status_of}
use Rattle.version_search.proofs.Statuses.{same_word, word_is, word_is_not}
use Rattle.version_search.proofs.Walks.{headed_aim, finds_from, reads_it, shown_state}
use Rattle.version_search.proofs.finding.find.Goals as goal

pub returns-then-eq-clause-pending : goal.returns-then-eq-clause-pending
returns-then-eq-clause-pending g c =
    let core = c.args.core.now in let before = c.args.hand.now in let mid = c.load_head-link.new.hand in let n = c.load_head-link.result in let kept = g.J.Keeps.kept in let limit = c.limit_at-limit.result in
    let place = c.walk-shown.result.place in let w = c.walk-shown.result.wts in let status = c.walk-shown.result.status in let x = c.walk-shown.new.hand.view in
    let found = finds_from kept core before mid reads c.args.rid n limit c.requires.ready c.load_head-link.ensures (stand_in mid.view.work.search).aim c.args.rid c.link_place-from.result
    place w (status_word status) x (headed_aim kept core before mid reads c.args.rid n limit c.requires.ready c.load_head-link.ensures) refl c.link_place-from.ensures.place c.walk-shown.ensures.arrives in
    (place, subst (λ (l : ℕ). Finds reads l c.args.rid place w 2 before.view x) c.limit_at-limit.ensures (subst (λ (s : ℕ). Finds reads limit c.args.rid place w s before.view x) (word_is status Pending (sym c.eq.ensures ∙ c.if-eq.true)) found))

pub returns-else-eq-clause-version : goal.returns-else-eq-clause-version
returns-else-eq-clause-version g c =
    let core = c.args.core.now in let before = c.args.hand.now in let mid = c.load_head-link.new.hand in let n = c.load_head-link.result in let kept = g.J.Keeps.kept in let limit = c.limit_at-limit.result in
    let place = c.walk-shown.result.place in let w = c.walk-shown.result.wts in let status = c.walk-shown.result.status in let s = status_word status in let x = c.walk-shown.new.hand.view in
    let found = finds_from kept core before mid reads c.args.rid n limit c.requires.ready c.load_head-link.ensures (stand_in mid.view.work.search).aim c.args.rid c.link_place-from.result
    place w s x (headed_aim kept core before mid reads c.args.rid n limit c.requires.ready c.load_head-link.ensures) refl c.link_place-from.ensures.place c.walk-shown.ensures.arrives in
    let ne = word_is_not status Pending (sym c.eq.ensures ∙ c.if-eq.false) in let low = found.reaches.state.0 in let high : s ≤ 4 = found.reaches.state.1 in
    let above : 3 ≤ s = omega arith in
    let it = reads_it limit c.args.rid place w s before.view x above high found in
    subst (λ (l : ℕ). Reads l c.args.rid place w (status_of c.eq-else-eq.result) before.view x) c.limit_at-limit.ensures (subst (λ (b : Bool). Reads limit c.args.rid place w (status_of b) before.view x) (sym (c.eq-else-eq.ensures ∙ same_word status Deleted)) (subst (λ (y : ℕ). Reads limit c.args.rid place w y before.view x) (shown_state s above high) it))
