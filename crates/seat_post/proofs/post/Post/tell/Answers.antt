use Rattle.std.proofs.Common.{◌≡◌, ℕ, ap, ◌∙◌, sym, subst, arith}
use Rattle.word_layout.specs.Name.{min_write}
use Rattle.core_rule.specs.Paths.{load}
use Rattle.histories.specs.History.{Lawful}
use Rattle.core_rule.specs.View.{View, Work}
use Rattle.core_rule.specs.Searching.{Ends}
use Rattle.core_rule.specs.Snapshots.{AreAllWhole}
use Rattle.seat_post.specs.Observing.{with_load}
use Rattle.seat_post.specs.Post.{PostView, shared_of, observed_in}
use Rattle.seat_post.specs.Seats.{IsAloneAt, observed_of}
use Rattle.seat_post.specs.declared.phase.Phase.TheVariants.{Idle}
use Rattle.seat_post.proofs.AloneSeats.{alone_told}
use Rattle.seat_post.proofs.Posts.{at_phase}
use Rattle.seat_post.proofs.Announcing.{post_ended, ready_same}
use Rattle.seat_post.proofs.post.Post.tell.Goals as goal

pub invariant_of-self : goal.invariant_of-self
invariant_of-self g c =
    let i = c.self.inside in
    let phase = ap (λ (p : PostView). p.phase) c.self.view_is ∙ c.requires.idle in
    let at = at_phase _ Idle i.hand i.stamp i.sets c.self.invariant phase in
    let view = c.load_min_write.ensures.view in
    let ready = ready_same (shared_of i.hand) i.hand c.load_min_write.new.hand c.self.invariant.ready c.load_min_write.ensures.seat.same_table (ap (λ (v : View). v.size) view) (ap (λ (v : View). v.number) view) (ap (λ (v : View). v.published) view) in
    post_ended (shared_of i.hand) i.phase i.hand c.load_min_write.new.hand i.stamp i.sets phase c.self.invariant ready (ap (λ (v : View). v.size) view) (ap (λ (v : View). v.places.held) view) (ap (λ (v : View). v.counts.in_reserved) view) (subst (λ (w : Work). Ends w) (sym (ap (λ (v : View). v.work) view)) at.ends) (λ rests. subst (λ (w : Work). AreAllWhole w.reads) (sym (ap (λ (v : View). v.work) view)) (at.whole (sym (ap (λ (v : View). v.flight) view) ∙ rests)))

pub returns-clause-lawful : goal.returns-clause-lawful
returns-clause-lawful g c = λ on.
    let alone = subst (λ (p : PostView). IsAloneAt p.shared.size p.seat p.others) (sym c.self.view_is) on in
    subst (λ (p : PostView). Lawful g.J.Keeps.kept p.shared.size.records p.log) c.self.view_is (c.load_min_write.ensures.learnt.5 (alone_told c.self.inside.hand.view alone))

pub returns-clause-load : goal.returns-clause-load
returns-clause-load g c =
    let h = c.load_min_write.new.hand in
    let e = c.load_min_write.ensures.view in
    let met : c.load_min_write.result ≡ h.view.clock.met = let is = ap (λ (v : View). v.clock.met) e in let low = c.load_min_write.ensures.learnt.0 in omega arith in
    ap (λ (v : View). observed_of v) e
    ∙ ap (λ (n : ℕ). with_load (observed_in c.self.inside.hand) (load min_write n)) met
    ∙ ap (λ (p : PostView). with_load p.observed (load min_write h.view.clock.met)) c.self.view_is
