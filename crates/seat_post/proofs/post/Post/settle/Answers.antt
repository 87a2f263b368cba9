use Rattle.word_layout.specs.Size.{Size}
use Rattle.core_rule.specs.Hands.{Shared}
use Rattle.seat_post.proofs.Answered.{if_ok_map, on_err_map}
use Rattle.seat_post.proofs.Settlement.{settles_post, settles_all, stops_post}
use Rattle.seat_post.specs.Collecting.{trail_in}
use Rattle.seat_post.specs.Settling.{SettlesPost, SettlesAll, StopsSome, StopsPost}
use Rattle.seat_post.specs.SettlingOne.{SettlesFirst}
use Rattle.std.proofs.Common.{◌≡◌, [], refl, ap, ◌∙◌, sym, subst}
use Rattle.stamp_base.specs.Stamp.{bound_of_clock}
use Rattle.core_rule.specs.View.{View, no_work, nothing_reserved}
use Rattle.seat_post.specs.Seats.{IsAloneAt}
use Rattle.seat_post.specs.Logs.{IsAbove}
use Rattle.seat_post.specs.Post.{PostView, post_of}
use Rattle.seat_post.specs.declared.phase.Phase.TheVariants.{Idle}
use Rattle.seat_post.proofs.AloneSeats.{alone_told}
use Rattle.seat_post.proofs.Posts.{at_phase, post_idle}
use Rattle.seat_post.proofs.post.Post.settle.Goals as goal

pub settle_all-told-requires-clause-settling : goal.settle_all-told-requires-clause-settling
settle_all-told-requires-clause-settling g c =
    let i = c.self.inside in
    record {
      alone = alone_told i.hand.view (subst (λ (p : PostView). IsAloneAt p.shared.size p.seat p.others) (sym c.self.view_is) c.requires.alone);
      ends = (at_phase i.phase Idle i.hand i.stamp i.sets c.self.invariant (ap (λ (p : PostView). p.phase) c.self.view_is ∙ c.requires.idle)).ends;
      holds_none = c.self.invariant.holds_none;
      above = subst (λ (p : PostView). IsAbove p.log (bound_of_clock p.clock)) (sym c.self.view_is) c.requires.above;
    }

pub invariant_of-self : goal.invariant_of-self
invariant_of-self g c =
    let i = c.self.inside in
    let phase = ap (λ (p : PostView). p.phase) c.self.view_is ∙ c.requires.idle in
    let idle = at_phase i.phase Idle i.hand i.stamp i.sets c.self.invariant phase in
    let s = c.settle_all-told.ensures in
    let b = c.publish_read.ensures in
    let work : c.publish_read.new.hand.view.work ≡ no_work = ap (λ (v : View). v.work) b.view in
    let size : c.publish_read.new.hand.view.size ≡ i.hand.view.size = ap (λ (v : View). v.size) b.view ∙ s.settles.size in
    let kept : c.publish_read.new.hand.view.counts.in_reserved ≡ nothing_reserved = ap (λ (v : View). v.counts.in_reserved) b.view ∙ s.none_reserved in
    let held : c.publish_read.new.hand.view.places.held ≡ [] = ap (λ (v : View). v.places.held) b.view ∙ s.settling.holds_none in
    post_idle c.args.core.now i.phase c.publish_read.new.hand i.stamp i.sets phase b.ready.ready (rw size c.self.invariant.size) held kept (record {
      ends = rw work (record { rests = tt; settled = λ u among. absurd among; collected = refl });
      whole = λ at. rw work (λ d among. absurd among);
      no_stamp = idle.no_stamp;
      none_read = idle.none_read;
      none_written = idle.none_written;
    })

pub returns-clause-settles : goal.returns-clause-settles
returns-clause-settles g c =
    let i = c.self.inside in
    let s = c.settle_all-told.ensures in
    let b = c.publish_read.ensures in
    subst (λ (p : PostView). SettlesPost g.J.Keeps.kept p (post_of c.publish_read.new.hand i.phase i.stamp i.sets)) c.self.view_is (settles_post g.J.Keeps.kept i.hand c.settle_all-told.new.hand c.publish_read.new.hand i.phase i.stamp c.publish_read.result i.sets s.stays.seat.same_table b.ready.seat.same_table s.settles s.settling b.view b.met)

pub returns-clause-done : goal.returns-clause-done
returns-clause-done g c =
    let i = c.self.inside in
    let told = c.settle_all-told in
    let last = c.publish_read.new.hand in
    let size : i.hand.view.size ≡ c.args.core.now.size = ap (λ (p : PostView). p.shared.size) c.self.view_is ∙ ap (λ (x : Shared). x.size) c.requires.core in
    let after = post_of last i.phase i.stamp i.sets in
    if_ok_map told.result _ (SettlesAll c.args.self.now after)
    (λ all first. subst (λ (p : PostView). SettlesAll p after all) c.self.view_is
    (settles_all i.hand told.new.hand last i.phase i.stamp c.publish_read.result i.sets c.publish_read.ensures.view all
    (subst (λ (x : Size). SettlesFirst x i.hand.view.number x.records all (trail_in i.hand.view) (trail_in told.new.hand.view)) (sym size) first)))
    told.ensures.done

pub returns-clause-stops : goal.returns-clause-stops
returns-clause-stops g c =
    let i = c.self.inside in
    let told = c.settle_all-told in
    let last = c.publish_read.new.hand in
    let z = c.args.core.now.size in
    let size : i.hand.view.size ≡ z = ap (λ (p : PostView). p.shared.size) c.self.view_is ∙ ap (λ (x : Shared). x.size) c.requires.core in
    let after = post_of last i.phase i.stamp i.sets in
    on_err_map told.result _ (StopsPost c.args.self.now after)
    (λ (stops : StopsSome z i.hand.view told.new.hand.view). subst (λ (p : PostView). StopsPost p after) c.self.view_is
    (stops_post i.hand told.new.hand last i.phase i.stamp c.publish_read.result i.sets c.publish_read.ensures.view
    (subst (λ (x : Size). StopsSome x i.hand.view told.new.hand.view) (sym size) stops)))
    told.ensures.stops
