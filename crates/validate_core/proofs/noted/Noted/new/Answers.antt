use Rattle.std.proofs.Common.{ℕ, refl}
use Rattle.std.proofs.lemmas.List.{length-replicate}
use Rattle.validate_core.specs.Noted.{few}
use Rattle.validate_core.proofs.Noting.{none_noted}
use Rattle.validate_core.proofs.noted.Noted.new.Goals as goal

pub returns-clause-noted : goal.returns-clause-noted
returns-clause-noted g c = none_noted g.V.OfRecord.number _ refl c.new-2.ensures.empty refl (length-replicate {A = ℕ} few 0)
