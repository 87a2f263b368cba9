use Rattle.std.proofs.Common.{ℕ, ap, sym, subst, ◌∙◌}
use Rattle.core_rule.specs.View.{View}
use Rattle.core_rule.specs.Hands.{Shared}
use Rattle.validate_core.specs.Sets.{IsInside}
use Rattle.validate_core.specs.Validating.{IsInstalled}
use Rattle.seat_post.specs.Post.{PostView, closed}
use Rattle.seat_post.proofs.EndMore.{at_known}
use Rattle.seat_post.proofs.Over.{view_over_same, post_over}
use Rattle.seat_post.proofs.post.Post.abort.Goals as goal

pub abort-requires-clause-inside : goal.abort-requires-clause-inside
abort-requires-clause-inside g c =
    let is = at_known _ _ _ _ _ (ap (λ (p : PostView). p.phase) c.self.view_is ∙ c.requires.phase) c.self.invariant in
    subst (λ (x : Shared). IsInside x.size c.self.inside.sets) (ap (λ (p : PostView). p.shared) c.self.view_is ∙ c.requires.core) is.at.inside

pub abort-requires-clause-installed : goal.abort-requires-clause-installed
abort-requires-clause-installed g c =
    let is = at_known _ _ _ _ _ (ap (λ (p : PostView). p.phase) c.self.view_is ∙ c.requires.phase) c.self.invariant in
    subst (λ (n : ℕ). IsInstalled n c.self.inside.sets c.self.inside.hand.view) (ap (λ (p : PostView). p.stamp) c.self.view_is ∙ sym c.requires.stamp) is.at.installed

pub invariant_of-self : goal.invariant_of-self
invariant_of-self g c =
    let is = at_known _ _ _ _ _ (ap (λ (p : PostView). p.phase) c.self.view_is ∙ c.requires.phase) c.self.invariant in
    let a = c.abort.ensures in
    let e = c.let_go.ensures in
    rw e.phase (post_over c.args.core.now _ _ _ _ _ _ _ _ is a.stands (ap (λ (v : View). v.counts.in_reserved) a.as_before.only) is.at.installed.in_flight a.stays.ready a.aborted.ends e.stamp e.reads e.writes)

pub returns : goal.returns
returns g c =
    let i = c.self.inside in
    let is = at_known _ _ _ _ _ (ap (λ (p : PostView). p.phase) c.self.view_is ∙ c.requires.phase) c.self.invariant in
    let a = c.abort.ensures in
    let e = c.let_go.ensures in
    rw e.phase (view_over_same i.hand c.abort.new.hand i.phase i.stamp _ _ i.sets c.let_go.new.sets a.stays.seat.same_table a.stands a.as_before (a.linked ∙ sym is.at.installed.linked) a.seen is.at.installed.in_flight a.log e.stamp e.reads e.writes
    ∙ ap closed c.self.view_is)
