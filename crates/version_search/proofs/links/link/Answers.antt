use Rattle.std.proofs.Common.{◌≡◌, ◌≢◌, ℕ, suc, sym, ap, ◌∙◌, subst, arith, None, Some}
use Rattle.core_rule.specs.View.{writing}
use Rattle.core_rule.specs.Searching.{write_of, front_fill}
use Rattle.version_search.proofs.Betweens.{Between, begins, goes_down, loses, wins}
use Rattle.version_search.proofs.links.link.Goals as goal

pub loop-above-init : goal.loop-above-init
loop-above-init g c =
    let core = c.args.core.now in let before = c.args.hand.now in let f = front_fill before.view.places.fills in
    subst (λ (p : ℕ). Between core c.layout-layout.result before c.load_head_to_link-first.new.hand (write_of c.args.rid f) None p) (sym c.link_place-below.ensures.place)
    (begins core c.layout-layout.result c.layout-layout.ensures before c.args.rid c.load_head_to_link-first.result f c.mark.new.hand c.load_head_to_link-first.new.hand c.requires.ready
    (c.requires.in_flight ∙ ap writing c.requires.stamp) c.mark.ensures c.load_head_to_link-first.ensures)

pub loop-above-preserved-then-wts-stamp : goal.loop-above-preserved-then-wts-stamp
loop-above-preserved-then-wts-stamp g c =
    let core = c.args.core.now in let before = c.args.hand.now in let u = write_of c.args.rid (front_fill before.view.places.fills) in
    subst (λ (p : ℕ). Between core c.layout-layout.result before c.load_next-next.new.hand u (Some c.loop-above.below) p) (sym c.link_place-below-then-wts-stamp.ensures.place)
    (goes_down core c.layout-layout.result c.layout-layout.ensures before u c.loop-above.above c.loop-above.below c.load_stamp-wts.result c.loop-above.hand c.load_stamp-wts.new.hand c.loop-above.invariant c.load_stamp-wts.ensures
    (omega arith) c.load_next-next.result c.load_next-next.new.hand c.load_next-next.ensures)

pub loop-above-preserved : goal.loop-above-preserved
loop-above-preserved g c =
    let core = c.args.core.now in let before = c.args.hand.now in let u = write_of c.args.rid (front_fill before.view.places.fills) in
    let ne : c.join_between-found.result ≢ suc c.loop-above.below = λ e. absurd (omega arith) in
    subst (λ (p : ℕ). Between core c.layout-layout.result before c.join_between-found.new.hand u c.loop-above.above p) (sym c.link_place-below-else-wts-stamp.ensures.place)
    (loses core c.layout-layout.result c.layout-layout.ensures before u c.loop-above.above c.loop-above.below c.load_stamp-wts.result c.loop-above.hand c.load_stamp-wts.new.hand c.loop-above.invariant c.load_stamp-wts.ensures
    c.join_between-found.result c.point.new.hand c.join_between-found.new.hand c.point.ensures c.join_between-found.ensures.stays c.join_between-found.ensures.view c.join_between-found.ensures.loads c.join_between-found.ensures.lost (omega arith) c.join_between-found.ensures.link ne)

pub returns-then-found-from-clause-linked : goal.returns-then-found-from-clause-linked
returns-then-found-from-clause-linked g c =
    let core = c.args.core.now in let before = c.args.hand.now in let u = write_of c.args.rid (front_fill before.view.places.fills) in
    let is : c.join_between-found.result ≡ suc c.loop-above.below = omega arith in
    wins core c.layout-layout.result c.layout-layout.ensures before u c.loop-above.above c.loop-above.below c.load_stamp-wts.result c.loop-above.hand c.load_stamp-wts.new.hand c.loop-above.invariant c.load_stamp-wts.ensures
    c.join_between-found.result c.point.new.hand c.join_between-found.new.hand c.point.ensures c.join_between-found.ensures.view c.join_between-found.ensures.loads c.join_between-found.ensures.lost (omega arith) is
