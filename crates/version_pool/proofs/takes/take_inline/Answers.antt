use Rattle.version_pool.proofs.Turns.{takes_counted}
use Rattle.version_pool.proofs.takes.take_inline.Goals as goal

pub returns-clause-counted : goal.returns-clause-counted
returns-clause-counted g c = takes_counted c.args.rid c.args.hand.now c.take.result c.take.new.hand c.take.ensures
