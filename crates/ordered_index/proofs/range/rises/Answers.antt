use Rattle.std.proofs.Common.{sym, ◌∙◌, arith}
use Rattle.ordered_index.proofs.Listing.{nearer}
use Rattle.ordered_index.proofs.range.rises.Goals as goal

pub returns-clause-nearer : goal.returns-clause-nearer
returns-clause-nearer c = λ yes. nearer c.args.before c.args.next (sym c.is_before.ensures ∙ yes) (omega arith) (omega arith) (omega arith) (omega arith)
