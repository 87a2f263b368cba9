use Rattle.std.proofs.Common.{◌≡◌, ap, sym, subst, ◌∙◌, map, List}
use Rattle.word_layout.specs.Size.{Size}
use Rattle.stamp_base.specs.Stamp.{bound_of_clock}
use Rattle.core_rule.specs.View.{View, Read}
use Rattle.core_rule.specs.Views.{Among}
use Rattle.core_rule.specs.Deciding.{entry_of}
use Rattle.core_rule.specs.Hands.{Shared}
use Rattle.rapid_gc.specs.Bounds.{AreAsBefore, MakesSingle}
use Rattle.rapid_gc.specs.Queues.{AreCommitted, AllBelow}
use Rattle.seat_post.specs.declared.phase.Phase.TheVariants.{Idle}
use Rattle.seat_post.specs.Collecting.{AreQueued, CollectsPost}
use Rattle.seat_post.specs.Post.{PostView, IsAlonePost, post_of}
use Rattle.seat_post.proofs.AloneSeats.{alone_told}
use Rattle.seat_post.proofs.Queued.{are_committed, collects_post, nothing_left}
use Rattle.seat_post.proofs.Posts.{at_phase, post_idle}
use Rattle.seat_post.proofs.Observed.{post_grows}
use Rattle.seat_post.proofs.post.Post.collect.Goals as goal

pub collect-requires-clause-ends : goal.collect-requires-clause-ends
collect-requires-clause-ends g c = (at_phase _ Idle _ _ _ c.self.invariant (ap (λ (p : PostView). p.phase) c.self.view_is ∙ c.requires.idle)).ends

pub collect-requires-clause-committed : goal.collect-requires-clause-committed
collect-requires-clause-committed g c =
    let v = c.self.inside.hand.view in
    let queued : AreQueued v.size.records (map entry_of v.log) c.args.queue.now.items = subst (λ (p : PostView). AreQueued p.shared.size.records p.log c.args.queue.now.items) (sym c.self.view_is) c.requires.queued in
    let same : v.size ≡ c.args.core.now.size = ap (λ (p : PostView). p.shared.size) c.self.view_is ∙ ap (λ (s : Shared). s.size) c.requires.core in
    subst (λ (z : Size). AreCommitted z.records v.log c.args.queue.now.items) same (are_committed v.size.records v.log c.args.queue.now.items queued)

pub invariant_of-self : goal.invariant_of-self
invariant_of-self g c =
    let phase = ap (λ (p : PostView). p.phase) c.self.view_is ∙ c.requires.idle in
    let idle = at_phase _ Idle _ _ _ c.self.invariant phase in
    let e = c.collect.ensures in
    let size : c.collect.new.hand.view.size ≡ c.self.inside.hand.view.size = ap (λ (v : View). v.size) e.view in
    let held : c.collect.new.hand.view.places.held ≡ c.self.inside.hand.view.places.held = ap (λ (v : View). v.places.held) e.view in
    post_idle c.args.core.now _ _ _ _ phase e.stays.ready (rw size c.self.invariant.size) (held ∙ c.self.invariant.holds_none) (nothing_left _ _ _ e.in_reserved c.self.invariant.none_reserved) (record {
      ends = e.ends;
      whole = λ at. λ d among. absurd (subst (λ (ds : List Read). Among d ds) (ap (λ (v : View). v.work.reads) e.view) among);
      no_stamp = idle.no_stamp;
      none_read = idle.none_read;
      none_written = idle.none_written;
    })

pub returns-clause-bounds : goal.returns-clause-bounds
returns-clause-bounds g c = subst (λ (p : PostView). AreAsBefore c.args.queue.now.items p.bounds.counts c.collect.new.hand.view.counts) c.self.view_is c.collect.ensures.known

pub returns-clause-tops : goal.returns-clause-tops
returns-clause-tops g c = ap (λ (v : View). v.tops) c.collect.ensures.view ∙ ap (λ (p : PostView). p.bounds.tops) c.self.view_is

pub returns-clause-seen : goal.returns-clause-seen
returns-clause-seen g c = λ alone. c.collect.ensures.seen (alone_told c.self.inside.hand.view (subst IsAlonePost (sym c.self.view_is) alone))

pub returns-clause-alone : goal.returns-clause-alone
returns-clause-alone g c = λ alone.
    let is = alone_told c.self.inside.hand.view (subst IsAlonePost (sym c.self.view_is) alone) in
    c.collect.ensures.alone is (subst (λ (p : PostView). AllBelow (bound_of_clock p.clock) c.args.queue.now.items) (sym c.self.view_is) c.requires.below)

pub returns-clause-single : goal.returns-clause-single
returns-clause-single g c = λ alone.
    let is = alone_told c.self.inside.hand.view (subst IsAlonePost (sym c.self.view_is) alone) in
    let one = c.collect.ensures.single is (subst (λ (p : PostView). AllBelow (bound_of_clock p.clock) c.args.queue.now.items) (sym c.self.view_is) c.requires.below) in
    subst (λ (p : PostView). MakesSingle c.args.queue.now.items p.bounds.tops c.collect.new.hand.view.counts) c.self.view_is one

pub returns-clause-grows : goal.returns-clause-grows
returns-clause-grows g c =
    let i = c.self.inside in
    let e = c.collect.ensures in
    post_grows i.hand c.collect.new.hand i.phase i.stamp i.sets c.args.self.now c.self.view_is (record { loaded = e.loads.0; missed = e.lost.0; loads = e.loads.1; lost = e.lost.1 })

pub returns-clause-collects : goal.returns-clause-collects
returns-clause-collects g c =
    let i = c.self.inside in
    let hand' = c.collect.new.hand in
    subst (λ (p : PostView). CollectsPost p (post_of hand' i.phase i.stamp i.sets) c.args.queue.now.items c.collect.new.queue.items c.collect.result) c.self.view_is
    (collects_post i.hand hand' i.phase i.stamp i.sets _ _ _ c.collect.ensures.collects)
