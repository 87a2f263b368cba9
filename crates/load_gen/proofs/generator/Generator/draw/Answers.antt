use Rattle.std.proofs.Common.{ap}
use Rattle.load_gen.specs.Generator.{drawn}
use Rattle.load_gen.proofs.TextLaws.{next_state-is}
use Rattle.load_gen.proofs.generator.Generator.draw.Goals as goal

pub returns-clause-state : goal.returns-clause-state
returns-clause-state c = next_state-is c.args.self.now.state

pub returns-clause-number : goal.returns-clause-number
returns-clause-number c = ap drawn (next_state-is c.args.self.now.state)
