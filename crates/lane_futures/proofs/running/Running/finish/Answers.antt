use Rattle.std.proofs.Common.{rules, ap, subst}
use Rattle.txn_engine.specs.Pass.{IsIdle}
use Rattle.lane_futures.specs.Lanes.{LanesView}
use Rattle.lane_futures.proofs.Turned.{leads_none}
use Rattle.lane_futures.proofs.running.Running.finish.Goals as goal

pub returns-clause-come : goal.returns-clause-come
returns-clause-come g c over = record {
  last = c.args.self;
  leads = leads_none c.args.self (subst (λ (l : LanesView). IsIdle l.pass) c.self.view_is c.self.invariant.0.idle);
  over = over;
  pass_is = ap (λ (l : LanesView). l.pass) c.self.view_is;
  done_is = search rules;
}
