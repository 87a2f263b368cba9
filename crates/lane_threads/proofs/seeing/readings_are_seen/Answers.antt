use Rattle.lane_threads.proofs.Readings.{readings_are_seen}
use Rattle.lane_threads.proofs.seeing.readings_are_seen.Goals as goal

pub returns : goal.returns
returns c = readings_are_seen c.lawful_has_states.ensures
