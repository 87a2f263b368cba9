use Rattle.std.proofs.Common.{arith}
use Rattle.validate_core.proofs.Noting.{length_behind}
use Rattle.validate_core.proofs.noted.Noted.grow.Goals as goal

pub overflow_sub-wanted-then-wanted-gt-FEW-2 : goal.overflow_sub-wanted-then-wanted-gt-FEW-2
overflow_sub-wanted-then-wanted-gt-FEW-2 g c = let h = length_behind g.V.OfRecord.number c.args.self.now c.requires.noted in let e = c.len-behind.ensures.len in omega arith
