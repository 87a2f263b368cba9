use Rattle.lane_threads.proofs.Becoming.{runs_become_whole}
use Rattle.lane_threads.proofs.whole.runs_become_whole.Goals as goal

pub returns : goal.returns
returns c = runs_become_whole
