use Rattle.std.proofs.Common.{ℕ, sym, subst}
use Rattle.rapid_gc.proofs.Seeks.{Seeking, begins, goes_on}
use Rattle.rapid_gc.proofs.seek.seek.Goals as goal

pub loop-layout-init : goal.loop-layout-init
loop-layout-init g c =
    let core = c.args.core.now in let before = c.args.hand.now in let now = c.seek_head-head.new.hand in
    subst (λ (p : ℕ). Seeking core c.layout-layout.result before now c.args.rid c.args.stamp p) (sym c.link_place-place.ensures.place)
    (begins core c.layout-layout.result c.layout-layout.ensures before c.args.rid c.args.stamp c.seek_head-head.result now c.requires.ready c.requires.at c.seek_head-head.ensures)

pub loop-layout-preserved : goal.loop-layout-preserved
loop-layout-preserved g c =
    let core = c.args.core.now in let before = c.args.hand.now in let l = c.loop-layout in let at = c.seek_stamp-wts in let next' = c.seek_next-next in
    subst (λ (p : ℕ). Seeking core c.layout-layout.result before next'.new.hand c.args.rid c.args.stamp p) (sym c.link_place-place-in-loop-layout.ensures.place)
    (goes_on core c.layout-layout.result c.layout-layout.ensures before c.args.rid c.args.stamp l.place at.result l.hand at.new.hand l.invariant at.ensures c.if-wts-stamp.false next'.result next'.new.hand next'.ensures).0
