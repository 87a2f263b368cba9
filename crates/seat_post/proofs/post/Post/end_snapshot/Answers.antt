use Rattle.std.proofs.Common.{sym, ap, subst, ◌∙◌}
use Rattle.std.specs.Prelude.{IsSome, IfSome}
use Rattle.word_layout.specs.Name.{published_read}
use Rattle.core_rule.specs.Hands.{Shared}
use Rattle.core_rule.specs.Paths.{load}
use Rattle.seat_post.specs.declared.phase.Phase.TheVariants.{Idle}
use Rattle.core_rule.specs.Deciding.{StoodAt}
use Rattle.seat_post.specs.InSnapshot.{logged_snapshot}
use Rattle.seat_post.specs.Ends.{Stood}
use Rattle.seat_post.specs.Observing.{with_load}
use Rattle.seat_post.specs.Post.{PostView}
use Rattle.seat_post.specs.Seats.{observed_of}
use Rattle.seat_post.specs.Snapshot.{entry_of_snapshot}
use Rattle.seat_post.proofs.SnapshotPosts.{in_snapshot_of, post_ended, stood_snapshot}
use Rattle.seat_post.proofs.Posts.{at_phase}
use Rattle.seat_post.proofs.post.Post.end_snapshot.Goals as goal

pub end_snapshot-requires-clause-in_snapshot : goal.end_snapshot-requires-clause-in_snapshot
end_snapshot-requires-clause-in_snapshot g c =
    let idle = at_phase _ Idle _ _ _ c.self.invariant (ap (λ (p : PostView). p.phase) c.self.view_is ∙ c.requires.idle) in
    in_snapshot_of _ _ _ idle (subst (λ (p : PostView). IsSome p.snapshot) (sym c.self.view_is) c.requires.snapshot)

pub invariant_of-self : goal.invariant_of-self
invariant_of-self g c =
    let phase = ap (λ (p : PostView). p.phase) c.self.view_is ∙ c.requires.idle in
    let e = c.end_snapshot.ensures in
    post_ended c.args.core.now _ _ _ _ _ _ c.self.invariant (at_phase _ Idle _ _ _ c.self.invariant phase) phase e.stays.ready e.view.1

pub returns-clause-stood : goal.returns-clause-stood
returns-clause-stood g c =
    let v = c.self.inside.hand.view in
    let idle = at_phase _ Idle _ _ _ c.self.invariant (ap (λ (p : PostView). p.phase) c.self.view_is ∙ c.requires.idle) in
    let rests = (in_snapshot_of _ _ _ idle (subst (λ (p : PostView). IsSome p.snapshot) (sym c.self.view_is) c.requires.snapshot)).rests in
    let stood = subst (λ (x : Shared). StoodAt g.J.Keeps.kept x.size.records v.log (logged_snapshot v)) (sym (ap (λ (p : PostView). p.shared) c.self.view_is ∙ c.requires.core)) c.end_snapshot.ensures.stood in
    subst (λ (p : PostView). IfSome p.snapshot (λ o. Stood g.J.Keeps.kept p.shared.size.records p.log (entry_of_snapshot o))) c.self.view_is (stood_snapshot g.J.Keeps.kept v.size.records v rests stood)

pub returns-clause-loads : goal.returns-clause-loads
returns-clause-loads g c =
    let e = c.end_snapshot.ensures.view in
    (e.0, ap observed_of e.1 ∙ ap (λ (p : PostView). with_load p.observed (load (published_read p.seat) e.0)) c.self.view_is)
