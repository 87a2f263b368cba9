use Rattle.std.proofs.Common.{[], subst}
use Rattle.txn_engine.specs.Pass.{IsIdle}
use Rattle.lane_futures.specs.Lanes.{LanesView}
use Rattle.lane_runner.proofs.Adding.{Adds-none}
use Rattle.lane_futures.proofs.Turned.{leads_none, room_left}
use Rattle.lane_futures.proofs.running.Running.turn.Goals as goal

pub returns-in_default-clause-leads : goal.returns-in_default-clause-leads
returns-in_default-clause-leads g c = leads_none c.args.self.now (subst (λ (l : LanesView). IsIdle l.pass) c.self.view_is c.self.invariant.0.idle)

pub returns-in_default-clause-adds : goal.returns-in_default-clause-adds
returns-in_default-clause-adds g c = ([], Adds-none c.args.self.now.pass (subst (λ (l : LanesView). IsIdle l.pass) c.self.view_is c.self.invariant.0.idle))

pub returns-clause-room : goal.returns-clause-room
returns-clause-room g c = room_left c.args.self.now c.attempt_at.new.self c.in_ok-attempt_at.ensures.leads c.requires
