use Rattle.std.proofs.Common.{◌≡◌, ◌<◌, ◌≤◌, arith}
use Rattle.rapid_gc.proofs.Floors.{below_floor}
use Rattle.rapid_gc.proofs.collecting.collect_below.Goals as goal

pub returns-then-load_floor-item-clause-became : goal.returns-then-load_floor-item-clause-became
returns-then-load_floor-item-clause-became g c =
    let low : c.args.item.stamp ≤ c.args.reached = omega arith in let won : c.take_lock.result ≡ 0 = omega arith in let below : c.args.item.stamp < c.load_floor.result = omega arith in
    (low, below_floor c.args.item c.take_lock.result c.load_floor.result c.args.hand.now c.take_lock.new.hand c.load_floor.new.hand c.drop_item.new.hand won below c.take_lock.ensures c.load_floor.ensures c.drop_item.ensures)
