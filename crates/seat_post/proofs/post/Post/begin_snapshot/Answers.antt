use Rattle.std.proofs.Common.{ap, subst, ◌∙◌, ◌≤◌, ◌+◌}
use Rattle.seat_post.specs.declared.phase.Phase.TheVariants.{Idle}
use Rattle.seat_post.specs.Logs.{AreBelow}
use Rattle.seat_post.specs.Observing.{MeetsMinimum}
use Rattle.seat_post.specs.Post.{PostView, IsAlonePost, observed_in}
use Rattle.seat_post.proofs.AloneSeats.{alone_told}
use Rattle.seat_post.proofs.SnapshotPosts.{post_in_snapshot, opened_size, opened_held, opened_kept, opened_alone, opened_minimum, below_logged}
use Rattle.seat_post.proofs.Posts.{at_phase}
use Rattle.seat_post.proofs.post.Post.begin_snapshot.Goals as goal

pub begin_snapshot-requires-clause-ends : goal.begin_snapshot-requires-clause-ends
begin_snapshot-requires-clause-ends g c = (at_phase _ Idle _ _ _ c.self.invariant (ap (λ (p : PostView). p.phase) c.self.view_is ∙ c.requires.idle)).ends

pub invariant_of-self : goal.invariant_of-self
invariant_of-self g c =
    let phase = ap (λ (p : PostView). p.phase) c.self.view_is ∙ c.requires.idle in
    let e = c.begin_snapshot.ensures in
    post_in_snapshot c.args.core.now _ _ _ _ _ c.self.invariant (at_phase _ Idle _ _ _ c.self.invariant phase) phase e.stays.ready (opened_size _ _ _ e.opens) (opened_held _ _ _ e.opens) (opened_kept _ _ _ e.opens) e.in_snapshot

pub returns-clause-snapshots : goal.returns-clause-snapshots
returns-clause-snapshots g c = subst (λ (p : PostView). AreBelow p.log (c.begin_snapshot.result + 1)) c.self.view_is (below_logged c.self.inside.hand.view.log c.begin_snapshot.result c.begin_snapshot.ensures.snapshots)

pub returns-clause-alone : goal.returns-clause-alone
returns-clause-alone g c =
    let v = c.self.inside.hand.view in
    subst (λ (p : PostView). IsAlonePost p → p.published ≤ c.begin_snapshot.result + 1) c.self.view_is (λ alone. opened_alone c.begin_snapshot.result v c.begin_snapshot.new.hand.view c.begin_snapshot.ensures.opens (alone_told v alone))

pub returns-clause-minimum : goal.returns-clause-minimum
returns-clause-minimum g c =
    let hand' = c.begin_snapshot.new.hand in
    subst (λ (p : PostView). MeetsMinimum p.shared.size.seats p.seat p.published (c.begin_snapshot.result + 1) p.observed (observed_in hand')) c.self.view_is (opened_minimum c.begin_snapshot.result c.self.inside.hand hand' c.begin_snapshot.ensures.opens)
