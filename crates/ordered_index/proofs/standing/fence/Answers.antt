use Rattle.std.proofs.Common.{sym}
use Rattle.ordered_index.proofs.Words.{content-low}
use Rattle.ordered_index.proofs.standing.fence.Goals as goal

pub returns : goal.returns
returns c = sym (content-low c.args.words.now)
