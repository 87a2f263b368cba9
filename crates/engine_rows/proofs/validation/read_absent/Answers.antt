use Rattle.engine_rows.proofs.Begun.{roomy_begun}
use Rattle.engine_rows.proofs.validation.read_absent.Goals as goal

pub finds_absent-requires-clause-begun : goal.finds_absent-requires-clause-begun
finds_absent-requires-clause-begun c = roomy_begun c.args.core.now.size c.args.sets.now c.reserve.new.self c.args.hand.now.view c.requires.begun c.reserve.ensures.reads c.reserve.ensures.writes
