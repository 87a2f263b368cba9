use Rattle.std.proofs.Common.{ap, ◌∙◌, sym, subst}
use Rattle.core_rule.specs.View.{View}
use Rattle.seat_post.specs.Leaves.{AreAbsent}
use Rattle.seat_post.specs.Post.{PostView, IsAlonePost, observing, observed_in}
use Rattle.seat_post.specs.Rescan.{LooksOver, looked_over}
use Rattle.seat_post.specs.declared.phase.Phase.TheVariants.{Idle}
use Rattle.seat_post.proofs.AloneSeats.{alone_told}
use Rattle.seat_post.proofs.Posts.{at_phase}
use Rattle.seat_post.proofs.Announcing.{Announces, announces, ended, none_read, post_ended}
use Rattle.seat_post.proofs.Rescanning.{Overlooks, Overlooked, bounded_alone, overlooks, overlooked, overlooked_view, absent_below, looks_over}
use Rattle.seat_post.proofs.post.Post.look_over.Given.{Over}
use Rattle.seat_post.proofs.post.Post.look_over.Goals as goal

pub idle-requires-clause-ends : goal.idle-requires-clause-ends
idle-requires-clause-ends g c = (at_phase _ Idle c.self.inside.hand c.self.inside.stamp c.self.inside.sets c.self.invariant (ap (λ (p : PostView). p.phase) c.self.view_is ∙ c.requires.idle)).ends

pub publish_read-stamp-requires-clause-ends : goal.publish_read-stamp-requires-clause-ends
publish_read-stamp-requires-clause-ends g c =
    let i = c.self.inside in let e = c.idle.ensures in let r = c.raise_min_write in
    (announces i.hand c.idle.new.hand r.new.hand i.phase i.stamp r.result i.sets c.args.self.now c.self.invariant c.self.view_is c.requires.idle c.requires.alone e.rises e.unchanged r.ensures.raises r.ensures.view).ends

pub list_absent-requires-clause-alone : goal.list_absent-requires-clause-alone
list_absent-requires-clause-alone g c =
    let i = c.self.inside in let e = c.idle.ensures in let r = c.raise_min_write in
    let is = announces i.hand c.idle.new.hand r.new.hand i.phase i.stamp r.result i.sets c.args.self.now c.self.invariant c.self.view_is c.requires.idle c.requires.alone e.rises e.unchanged r.ensures.raises r.ensures.view in
    bounded_alone i.hand.view r.new.hand.view c.publish_read-stamp.new.hand.view c.publish_read-stamp.result is c.publish_read-stamp.ensures.view (alone_told i.hand.view (subst IsAlonePost (sym c.self.view_is) c.requires.alone))

-- the minimum was raised; searches were made; and they are over
raised : (g : Over) (c : goal.After-publish_read g) → Announces c.self.inside.hand.view c.raise_min_write.new.hand.view
raised g c =
    let i = c.self.inside in let e = c.idle.ensures in let r = c.raise_min_write in
    announces i.hand c.idle.new.hand r.new.hand i.phase i.stamp r.result i.sets c.args.self.now c.self.invariant c.self.view_is c.requires.idle c.requires.alone e.rises e.unchanged r.ensures.raises r.ensures.view

over : (g : Over) (c : goal.After-publish_read g) → Overlooks c.self.inside.hand.view c.list_absent.new.hand.view c.publish_read-stamp.result
over g c =
    let r = c.publish_read-stamp.ensures in
    overlooks c.self.inside.hand.view c.raise_min_write.new.hand.view c.publish_read-stamp.new.hand.view c.list_absent.new.hand.view c.publish_read-stamp.result (raised g c) r.view r.met r.below c.list_absent.ensures.looks

end : (g : Over) (c : goal.After-publish_read g) → Overlooked c.self.inside.hand.view c.publish_read.new.hand.view
end g c =
    let last = c.publish_read.ensures in
    overlooked c.self.inside.hand.view c.list_absent.new.hand.view c.publish_read.new.hand.view c.publish_read-stamp.result c.publish_read.result (over g c) last.view last.met last.below

pub invariant_of-self : goal.invariant_of-self
invariant_of-self g c =
    let i = c.self.inside in
    let is = (end g c).only in
    let work = ap (λ (v : View). v.work) is in
    post_ended c.args.core.now i.phase i.hand c.publish_read.new.hand i.stamp i.sets (ap (λ (p : PostView). p.phase) c.self.view_is ∙ c.requires.idle) c.self.invariant c.publish_read.ensures.ready.ready (ap (λ (v : View). v.size) is) (ap (λ (v : View). v.places.held) is) (ap (λ (v : View). v.counts.in_reserved) is) (ended _ work) (λ rests. none_read _ work)

pub returns-clause-value : goal.returns-clause-value
returns-clause-value g c =
    let i = c.self.inside in
    let table = c.publish_read.ensures.ready.seat.same_table ∙ c.list_absent.ensures.stays.seat.same_table ∙ c.publish_read-stamp.ensures.ready.seat.same_table ∙ c.raise_min_write.ensures.ready.seat.same_table ∙ c.idle.ensures.ready.seat.same_table in
    overlooked_view i.hand c.publish_read.new.hand i.phase i.stamp i.sets table (end g c) ∙ ap (λ (p : PostView). observing (looked_over p) (observed_in c.publish_read.new.hand)) c.self.view_is

pub returns-clause-absent : goal.returns-clause-absent
returns-clause-absent g c =
    let v = c.self.inside.hand.view in
    let n = c.args.numbers.now in
    let log = ap (λ (v : View). v.log) c.publish_read-stamp.ensures.view ∙ ap (λ (v : View). v.log) (raised g c).only in
    subst (λ (p : PostView). AreAbsent p.log c.publish_read.new.hand.view.published.write n.fixed n.records c.list_absent.new.numbers.spare) c.self.view_is
    (absent_below v c.publish_read-stamp.new.hand.view c.list_absent.new.hand.view c.publish_read.new.hand.view c.publish_read-stamp.result n.fixed n.records c.list_absent.new.numbers.spare (over g c) (end g c) log c.list_absent.ensures.absent)

pub publish_read-requires-clause-ends : goal.publish_read-requires-clause-ends
publish_read-requires-clause-ends g c = c.list_absent.ensures.looks.ends (ended _ (ap (λ (v : View). v.work) c.publish_read-stamp.ensures.view))

pub returns-clause-loads : goal.returns-clause-loads
returns-clause-loads g c =
    let last = c.publish_read in
    let n = c.args.numbers.now in
    subst (λ (p : PostView). LooksOver p.shared.size.seats p.seat last.new.hand.view.clock.met last.new.hand.view.published.write n.fixed n.records c.list_absent.new.numbers.spare p.observed (observed_in last.new.hand)) c.self.view_is
    (looks_over _ _ _ c.list_absent.new.hand.view last.new.hand.view _ _ n.fixed n.records c.list_absent.new.numbers.spare (raised g c) c.publish_read-stamp.ensures.view (over g c) c.list_absent.ensures.looks c.list_absent.ensures.each last.ensures.view (end g c))
