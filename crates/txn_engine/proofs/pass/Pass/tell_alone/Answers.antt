use Rattle.std.proofs.Common.{◌≤◌, subst}
use Rattle.core_rule.specs.Offers.{made_within}
use Rattle.txn_engine.specs.Pass.{PassView}
use Rattle.txn_engine.proofs.Joined.{last_alone}
use Rattle.txn_engine.proofs.pass.Pass.tell_alone.Goals as goal

pub returns : goal.returns
returns g c = last_alone c.args.self.now (subst (λ (p : PassView). made_within p.shared.size.seats p.others.splitting ≤ p.shared.size.seats) c.self.view_is c.tell_made.ensures)
