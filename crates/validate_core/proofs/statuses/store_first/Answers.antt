use Rattle.std.proofs.Common.{◌≡◌, ◌<◌, arith}
use Rattle.validate_core.proofs.Settling.{starts, is_first, is_linked, not_settled, stores, settled_all, ends_all}
use Rattle.validate_core.proofs.statuses.store_first.Goals as goal

pub loop-i-init : goal.loop-i-init
loop-i-init g c = let r = c.requires in starts c.args.core.now c.args.hand.now c.args.sets.now c.args.count c.args.decided r.ready r.rests r.linked r.unsettled r.decided r.collected

pub store_status-requires-clause-inside : goal.store_status-requires-clause-inside
store_status-requires-clause-inside g c =
    let u = c.write_at.result.now in let lt : c.loop-i.i < c.args.count = omega arith in
    c.requires.inside u (is_first c.args.core.now c.args.hand.now c.args.sets.now c.args.count c.args.decided c.loop-i.i c.loop-i.hand u c.write_at.ensures c.loop-i.invariant lt)

pub store_status-requires-clause-linked : goal.store_status-requires-clause-linked
store_status-requires-clause-linked g c =
    let u = c.write_at.result.now in let lt : c.loop-i.i < c.args.count = omega arith in
    is_linked c.args.core.now c.args.hand.now c.args.sets.now c.args.count c.args.decided c.loop-i.i c.loop-i.hand u c.write_at.ensures c.loop-i.invariant lt

pub store_status-requires-clause-once : goal.store_status-requires-clause-once
store_status-requires-clause-once g c =
    not_settled c.args.core.now c.args.hand.now c.args.sets.now c.args.count c.args.decided c.loop-i.i c.loop-i.hand c.write_at.result.now c.write_at.ensures c.loop-i.invariant c.requires.once

pub loop-i-preserved : goal.loop-i-preserved
loop-i-preserved g c =
    stores c.args.core.now c.args.hand.now c.args.sets.now c.args.count c.args.decided c.loop-i.i c.loop-i.hand c.write_at.result.now c.write_at.ensures c.loop-i.invariant _ c.store_status.new.hand c.store_status.ensures

pub returns-clause-settled : goal.returns-clause-settled
returns-clause-settled g c = let same : c.loop-i.i ≡ c.args.count = omega arith in settled_all c.args.core.now c.args.hand.now c.args.sets.now c.args.count c.args.decided c.loop-i.i c.loop-i.hand same c.loop-i.invariant

pub returns-clause-ends : goal.returns-clause-ends
returns-clause-ends g c = let same : c.loop-i.i ≡ c.args.count = omega arith in ends_all c.args.core.now c.args.hand.now c.args.sets.now c.args.count c.args.decided c.loop-i.i c.loop-i.hand same c.loop-i.invariant
