use Rattle.std.proofs.Common.{rules}
use Rattle.connections.proofs.Taking.{takes_more, takes_none}
use Rattle.connections.proofs.handing.+take.Goals as goal

pub returns-in_default-clause-takes : goal.returns-in_default-clause-takes
returns-in_default-clause-takes t c = takes_none c.args.stamp c.args.most c.args.pass.now c.args.numbers.now c.take.new.self (search rules) (search rules) c.in_default.ensures.takes

pub returns-clause-takes : goal.returns-clause-takes
returns-clause-takes t c = takes_more c.args.stamp c.args.most c.args.pass.now c.take_in.new.self c.take-2.new.pass c.args.numbers.now c.take.new.self c.take-2.new.numbers c.in-Some.rid (search rules) (search rules) c.in-Some.ensures.takes c.take_in.ensures c.take-2.ensures.takes
