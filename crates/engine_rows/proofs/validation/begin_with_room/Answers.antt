use Rattle.engine_rows.proofs.Begun.{roomy_begun}
use Rattle.engine_rows.proofs.validation.begin_with_room.Goals as goal

pub returns-clause-begun : goal.returns-clause-begun
returns-clause-begun c = roomy_begun _ _ _ _ c.in_ok-sets.ensures.begun c.reserve.ensures.reads c.reserve.ensures.writes
