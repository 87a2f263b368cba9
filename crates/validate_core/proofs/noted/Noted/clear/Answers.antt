use Rattle.std.proofs.Common.{refl}
use Rattle.validate_core.proofs.Noting.{none_noted}
use Rattle.validate_core.proofs.noted.Noted.clear.Goals as goal

pub returns-clause-noted : goal.returns-clause-noted
returns-clause-noted g c = none_noted g.V.OfRecord.number _ refl c.wipe.ensures refl c.requires.chained.places
