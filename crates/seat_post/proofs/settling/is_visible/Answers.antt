use Rattle.std.proofs.Common.{◌≡◌, ◌+◌, ◌≤◌, ℕ, refl, ap, subst, arith, rules, inl, inr, ◌∙◌}
use Rattle.stamp_base.specs.Stamp.{bound_of_clock}
use Rattle.word_layout.specs.Size.{Size}
use Rattle.core_rule.specs.View.{View}
use Rattle.seat_post.specs.Observing.{MeetsMinimum}
use Rattle.seat_post.specs.Seats.{Observed, observed_of}
use Rattle.seat_post.specs.Settling.{entries_of}
use Rattle.seat_post.specs.SettlingOne.{FindsBelow}
use Rattle.seat_post.proofs.Steady.{steady_same, steady_idle, steady_raised, steady_looked, steady_settling, steady_settles}
use Rattle.seat_post.proofs.Searching.{only_looked}
use Rattle.seat_post.proofs.Observed.{idle_seen, raises_grow}
use Rattle.seat_post.proofs.Dues.{found_here, apart_or_zero, not_zero, finds_below}
use Rattle.seat_post.proofs.Queued.{meets_minimum}
use Rattle.seat_post.proofs.ReservedPlace.{not_off}
use Rattle.seat_post.proofs.Settlement.{visible_entered}
use Rattle.seat_post.proofs.settling.is_visible.Given.{Over}
use Rattle.seat_post.proofs.settling.is_visible.Goals as goal

pub publish_read-bound-requires-clause-ends : goal.publish_read-bound-requires-clause-ends
publish_read-bound-requires-clause-ends g c =
    let idled = steady_idle c.args.hand.now c.idle.new.hand c.requires.settling.ends c.idle.ensures.rises c.idle.ensures.unchanged in
    let r = c.raise_min_write in
    (steady_raised c.idle.new.hand.view r.new.hand.view r.result r.new.hand.view.seen r.ensures.view (raises_grow _ _ _ c.idle.new.hand.view r.result r.new.hand.view r.ensures.raises) r.ensures.not_back idled.ends).ends

pub returns-clause-settling : goal.returns-clause-settling
returns-clause-settling g c =
    let i = c.idle.ensures in
    let r = c.raise_min_write in
    let b = c.publish_read-bound in
    let steady = steady_looked c.args.hand.now c.idle.new.hand r.new.hand b.new.hand c.find.new.hand.view r.result b.result c.args.rid c.in-Version.place c.in-Version.found _ c.requires.settling.ends i.rises i.unchanged r.ensures.view (raises_grow _ _ _ c.idle.new.hand.view r.result r.new.hand.view r.ensures.raises) r.ensures.not_back b.ensures.view b.ensures.met c.in-Version.ensures.version in
    steady_settling c.args.hand.now.view c.find.new.hand.view c.requires.settling steady

pub returns-clause-searches : goal.returns-clause-searches
returns-clause-searches g c =
    let i = c.idle.ensures in
    let r = c.raise_min_write in
    let b = c.publish_read-bound in
    only_looked c.args.hand.now c.idle.new.hand r.new.hand b.new.hand c.find.new.hand.view r.result b.result _ c.args.rid c.in-Version.place c.in-Version.found _ i.rises i.unchanged r.ensures.view b.ensures.view c.in-Version.ensures.version

pub returns-clause-settles : goal.returns-clause-settles
returns-clause-settles g c =
    let i = c.idle.ensures in
    let r = c.raise_min_write in
    let b = c.publish_read-bound in
    let steady = steady_looked c.args.hand.now c.idle.new.hand r.new.hand b.new.hand c.find.new.hand.view r.result b.result c.args.rid c.in-Version.place c.in-Version.found _ c.requires.settling.ends i.rises i.unchanged r.ensures.view (raises_grow _ _ _ c.idle.new.hand.view r.result r.new.hand.view r.ensures.raises) r.ensures.not_back b.ensures.view b.ensures.met c.in-Version.ensures.version in
    steady_settles g.J.Keeps.kept c.args.hand.now.view c.find.new.hand.view steady

pub returns-clause-entered : goal.returns-clause-entered
returns-clause-entered g c = λ above.
    let i = c.idle.ensures in
    let r = c.raise_min_write in
    let b = c.publish_read-bound in
    let found = c.in-Version.ensures.version in
    let here = found_here c.in-Version.found c.args.first.wts _ _ refl refl above in
    let steady = steady_looked c.args.hand.now c.idle.new.hand r.new.hand b.new.hand c.find.new.hand.view r.result b.result c.args.rid c.in-Version.place c.in-Version.found _ c.requires.settling.ends i.rises i.unchanged r.ensures.view (raises_grow _ _ _ c.idle.new.hand.view r.result r.new.hand.view r.ensures.raises) r.ensures.not_back b.ensures.view b.ensures.met found in
    let alone = (steady_settling c.args.hand.now.view c.find.new.hand.view c.requires.settling steady).alone in
    visible_entered _ c.args.rid _ c.in-Version.found c.args.first.wts _ b.new.hand.view c.find.new.hand.view alone here.0 here.1 found

-- the search that was made
searched : (g : Over) (c : goal.After-struct_known-in-Version-2-1 g) → FindsBelow c.args.core.now.size.seats c.args.hand.now.view.number c.args.rid c.in-Version.found (entries_of c.args.hand.now.view) (observed_of c.args.hand.now.view) (observed_of c.find.new.hand.view)
searched g c =
    let v = c.args.hand.now.view in
    let i = c.idle.new.hand.view in
    let r = c.raise_min_write in
    let b = c.publish_read-bound in
    let idled = steady_idle c.args.hand.now c.idle.new.hand c.requires.settling.ends c.idle.ensures.rises c.idle.ensures.unchanged in
    let own = r.ensures.raises.alone (steady_settling v i c.requires.settling idled).alone in
    let reached = r.ensures.raises.value in
    let published = c.idle.ensures.published in
    let raised = ap (λ (x : View). x.clock.met) r.ensures.view in
    let met = b.ensures.met in
    let high : bound_of_clock v.clock.clock ≤ b.result + 1 = omega arith in
    let minimum = meets_minimum i.published.write i r.new.hand.view b.new.hand.view r.result b.result r.ensures.raises (omega arith) b.ensures.view in
    let seats : i.size ≡ c.args.core.now.size = idled.size ∙ c.requires.ready.hand_of.same_size in
    let seen = idle_seen c.args.hand.now c.idle.new.hand c.idle.ensures.rises c.idle.ensures.unchanged in
    finds_below c.args.core.now.size.seats v.number i.published.write b.result c.args.rid c.in-Version.place c.in-Version.found _ (entries_of v) (observed_of v) b.new.hand.view c.find.new.hand.view
    (λ e among commit. let low = c.requires.settling.above e among commit in omega arith)
    (λ e among commit. let low = c.requires.settling.above e among commit in omega arith)
    (subst (λ (y : Size × ℕ × Observed). MeetsMinimum y.0.seats y.1 i.published.write (b.result + 1) y.2 (observed_of b.new.hand.view)) (λ k. (seats k, idled.number k, seen k)) minimum)
    c.in-Version.ensures.version

pub returns-clause-visible : goal.returns-clause-visible
returns-clause-visible g c = λ on.
    let here = found_here c.in-Version.found c.args.first.wts _ _ refl refl on in
    let v = c.args.hand.now.view in
    record {
      decided = not_off c.args.first.decided c.if-not-first.false;
      written = not_zero c.args.first.wts here.1;
      finds = subst (λ (n : ℕ). FindsBelow c.args.core.now.size.seats v.number c.args.rid n (entries_of v) (observed_of v) (observed_of c.find.new.hand.view)) here.0 (searched g c);
    }

pub returns-clause-hidden : goal.returns-clause-hidden
returns-clause-hidden g c = λ off. inr (record {
  decided = not_off c.args.first.decided c.if-not-first.false;
  found = c.in-Version.found;
  finds = searched g c;
  other = apart_or_zero c.in-Version.found c.args.first.wts _ _ refl refl off;
})

pub returns-then-not-first-clause-hidden : goal.returns-then-not-first-clause-hidden
returns-then-not-first-clause-hidden g c = λ off. inl (search rules, refl)

pub returns-then-not-first-clause-settles : goal.returns-then-not-first-clause-settles
returns-then-not-first-clause-settles g c = steady_settles g.J.Keeps.kept c.args.hand.now.view c.args.hand.now.view (steady_same c.args.hand.now.view c.args.hand.now.view refl c.requires.settling.ends)
