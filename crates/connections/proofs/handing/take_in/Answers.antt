use Rattle.std.proofs.Common.{rules}
use Rattle.connections.proofs.Taking.{takes_at}
use Rattle.connections.proofs.handing.take_in.Goals as goal

pub returns-clause-takes : goal.returns-clause-takes
returns-clause-takes c = takes_at c.number-stamp.result 12 c.args.pass.now _ c.take.new.pass c.args.numbers.now c.take.new.numbers (search rules) (search rules) c.take.ensures.takes
