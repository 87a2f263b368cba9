use Rattle.std.proofs.Common.{sym, ap, subst, ◌∙◌, ◌+◌}
use Rattle.std.specs.Prelude.{IsSome, IfSome}
use Rattle.core_rule.specs.View.{View}
use Rattle.histories.specs.History.{IsValue, UpTo}
use Rattle.seat_post.specs.declared.phase.Phase.TheVariants.{Idle}
use Rattle.record_store.specs.Into.{value_if}
use Rattle.seat_post.specs.Reading.{FindsInSnapshot}
use Rattle.seat_post.specs.Post.{PostView, IsAlonePost, observed_in}
use Rattle.seat_post.proofs.AloneSeats.{alone_told}
use Rattle.seat_post.proofs.SnapshotPosts.{in_snapshot_of, post_in_snapshot, left_snapshot, read_alike, found_snapshot}
use Rattle.seat_post.proofs.Posts.{at_phase}
use Rattle.seat_post.proofs.post.Post.read_snapshot.Goals as goal

pub read_snapshot-requires-clause-in_snapshot : goal.read_snapshot-requires-clause-in_snapshot
read_snapshot-requires-clause-in_snapshot g c =
    let idle = at_phase _ Idle _ _ _ c.self.invariant (ap (λ (p : PostView). p.phase) c.self.view_is ∙ c.requires.idle) in
    in_snapshot_of _ _ _ idle (subst (λ (p : PostView). IsSome p.snapshot) (sym c.self.view_is) c.requires.snapshot)

pub invariant_of-self : goal.invariant_of-self
invariant_of-self g c =
    let phase = ap (λ (p : PostView). p.phase) c.self.view_is ∙ c.requires.idle in
    let idle = at_phase _ Idle _ _ _ c.self.invariant phase in
    let e = c.read_snapshot.ensures in
    let view = read_alike _ _ _ _ e.finds_alike in
    post_in_snapshot c.args.core.now _ _ _ _ _ c.self.invariant idle phase e.stays.ready (ap (λ (v : View). v.size) view) (ap (λ (v : View). v.places.held) view) (ap (λ (v : View). v.counts.in_reserved) view) e.in_snapshot

pub returns-clause-left : goal.returns-clause-left
returns-clause-left g c =
    let v = c.self.inside.hand.view in
    let idle = at_phase _ Idle _ _ _ c.self.invariant (ap (λ (p : PostView). p.phase) c.self.view_is ∙ c.requires.idle) in
    let rests = (in_snapshot_of _ _ _ idle (subst (λ (p : PostView). IsSome p.snapshot) (sym c.self.view_is) c.requires.snapshot)).rests in
    subst (λ (p : PostView). IsAlonePost p → IfSome p.snapshot (λ o. IsValue (UpTo p.log o.stamp) c.args.rid (value_if c.read_snapshot.result c.read_snapshot.new.into))) c.self.view_is (λ alone. left_snapshot v c.args.rid (value_if c.read_snapshot.result c.read_snapshot.new.into) rests (c.read_snapshot.ensures.left (alone_told v alone)))

pub returns-clause-found : goal.returns-clause-found
returns-clause-found g c =
    let idle = at_phase _ Idle _ _ _ c.self.invariant (ap (λ (p : PostView). p.phase) c.self.view_is ∙ c.requires.idle) in
    let rests = (in_snapshot_of _ _ _ idle (subst (λ (p : PostView). IsSome p.snapshot) (sym c.self.view_is) c.requires.snapshot)).rests in
    subst (λ (p : PostView). IfSome p.snapshot (λ o. FindsInSnapshot (o.stamp + 1) c.args.rid p.observed (observed_in c.read_snapshot.new.hand) (value_if c.read_snapshot.result c.read_snapshot.new.into))) c.self.view_is
    (found_snapshot c.self.inside.hand.view c.read_snapshot.new.hand.view c.args.rid (value_if c.read_snapshot.result c.read_snapshot.new.into) rests c.read_snapshot.ensures.finds_alike)
