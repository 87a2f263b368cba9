use Rattle.lane_futures.proofs.Turned.{tries_of_all}
use Rattle.lane_futures.proofs.lanes.Lanes.new.Goals as goal

pub returns-in_err-done-clause-tries : goal.returns-in_err-done-clause-tries
returns-in_err-done-clause-tries g c = tries_of_all c.args.sessions.items

pub returns-clause-tries : goal.returns-clause-tries
returns-clause-tries g c = tries_of_all c.args.sessions.items
