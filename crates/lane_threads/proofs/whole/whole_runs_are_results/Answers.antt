use Rattle.lane_threads.proofs.WholeRun.{are_results}
use Rattle.lane_threads.proofs.whole.whole_runs_are_results.Goals as goal

pub returns : goal.returns
returns c = are_results
