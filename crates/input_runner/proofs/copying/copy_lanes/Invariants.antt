use Rattle.std.proofs.Common.{◌≡◌, take}
use Rattle.input_runner.proofs.copying.copy_lanes.Given as goal

abbrev pub invariant-loop-blocks : goal.invariant-loop-blocks
invariant-loop-blocks l = l.copy.items ≡ take l.blocks-index l.lanes
