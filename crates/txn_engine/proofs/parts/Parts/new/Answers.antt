use Rattle.std.proofs.Common.{[], ◌∷◌, length, length-append, ap, arith}
use Rattle.seat_post.proofs.Bounds.{each_more}
use Rattle.txn_engine.proofs.parts.Parts.new.Goals as goal

pub loop-seat-preserved : goal.loop-seat-preserved
loop-seat-preserved g c =
    let items = c.in_ok-push.ensures.items in
    let long = length-append c.loop-seat.lists.items (c.in_ok-empty.field-0 ∷ []) in
    let same = ap length items in
    let count = c.loop-seat.invariant.count in
    record {
      count = omega arith;
      empty = each_more _ c.loop-seat.lists.items c.push.new.self.items c.in_ok-empty.field-0 c.loop-seat.invariant.empty c.in_ok-empty.ensures items;
    }

pub returns : goal.returns
returns g c =
    let i = c.loop-seat.invariant in
    let count = i.count in
    let some = c.requires in
    let test = c.loop-seat-test.false in
    let end = c.loop-seat.auto._seat-end (omega arith) in
    record { count = omega arith; room = c.in_ok-passes.ensures.capacity; empty = i.empty }
