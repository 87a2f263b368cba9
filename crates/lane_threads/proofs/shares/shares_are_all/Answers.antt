use Rattle.lane_threads.proofs.Shared.{shares_are_all}
use Rattle.lane_threads.proofs.shares.shares_are_all.Goals as goal

pub returns : goal.returns
returns c = shares_are_all
