-- Which words a table has follows from how the families are laid out.
use Rattle.word_layout.proofs.Words.{word_of-below, word_of-injective}
use Rattle.word_layout.proofs.Layout.words.Goals as goal

pub returns-clause-within : goal.returns-clause-within
returns-clause-within c = word_of-below c.args.self.now

pub returns-clause-apart : goal.returns-clause-apart
returns-clause-apart c = word_of-injective c.args.self.now
