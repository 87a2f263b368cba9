use Rattle.input_runner.proofs.Enough.{sizes_are_enough}
use Rattle.input_runner.proofs.sizes.sizes_are_enough.Goals as goal

pub returns : goal.returns
returns c = sizes_are_enough
