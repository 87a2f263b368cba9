use Rattle.version_pool.proofs.Turns.{looks_counted, takes_counted}
use Rattle.version_pool.proofs.takes.take_if_free.Goals as goal

pub returns-then-not-look_at-clause-counted : goal.returns-then-not-look_at-clause-counted
returns-then-not-look_at-clause-counted g c = looks_counted c.args.place c.args.hand.now c.look_at.result c.look_at.new.hand c.look_at.ensures

pub returns-clause-counted : goal.returns-clause-counted
returns-clause-counted g c = takes_counted c.args.place c.look_at.new.hand c.take.result c.take.new.hand c.take.ensures
