use Rattle.validate_core.proofs.Works.{works_stands}
use Rattle.validate_core.proofs.deciding.Installed.abort.Goals as goal

pub returns-clause-stands : goal.returns-clause-stands
returns-clause-stands g c = works_stands c.args.hand.now.view c.store_all.new.hand.view c.store_all.ensures.works
