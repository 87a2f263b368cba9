use Rattle.std.proofs.Common.{◌<◌, arith}
use Rattle.rapid_gc.proofs.Freed.{begins, goes_on}
use Rattle.rapid_gc.proofs.free.free_from.Goals as goal

pub loop-to-init : goal.loop-to-init
loop-to-init g c =
    let before = c.args.hand.now in
    begins c.args.core.now c.layout-layout.result c.layout-layout.ensures before c.args.first c.requires.ready c.requires.at c.requires.in_range c.requires.left

pub loop-to-preserved : goal.loop-to-preserved
loop-to-preserved g c =
    let before = c.args.hand.now in let pos : 0 < c.loop-to.to = omega arith in
    (goes_on c.args.core.now c.layout-layout.result c.layout-layout.ensures before c.args.first c.loop-to.to c.loop-to.freed c.link_place-place.result c.follow-to.result c.loop-to.hand c.follow-to.new.hand c.loop-to.invariant pos
    c.link_place-place.ensures.place c.follow-to.ensures c.saturating_add-freed.result c.free_place.new.hand c.saturating_add-freed.ensures c.free_place.ensures).0
