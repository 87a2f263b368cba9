use Rattle.history_replay.proofs.SortedResults.{results_are_replay}
use Rattle.history_replay.proofs.results_are_replay.Goals as goal

pub returns : goal.returns
returns g c = results_are_replay g.J.Stands.stands
