use Rattle.ordered_index.proofs.Words.{content_inner, content_leaf}
use Rattle.ordered_index.proofs.standing.is_inner.Goals as goal

pub returns-clause-inner : goal.returns-clause-inner
returns-clause-inner c = content_inner c.args.words.now

pub returns-clause-leaf : goal.returns-clause-leaf
returns-clause-leaf c = content_leaf c.args.words.now
