use Rattle.version_pool.proofs.Turns.{TakesFree-one}
use Rattle.version_pool.proofs.Visits.{visits}
use Rattle.version_pool.proofs.takes.visit.Goals as goal

pub returns-then-free-clause-free : goal.returns-then-free-clause-free
returns-then-free-clause-free g c =
    let before = c.args.hand.now in
    let takes = TakesFree-one c.args.place before c.take-free.result c.take-free.new.hand c.take-free.ensures c.if-free.true in
    rw c.if-free.true (visits c.args.place c.args.core.now.size before.view c.take-free.new.hand.view c.give.new.hand.view c.requires.ready.hand_of.same_size c.requires.usable takes c.give.ensures.view)
