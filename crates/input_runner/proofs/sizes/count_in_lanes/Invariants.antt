use Rattle.std.proofs.Common.{◌≡◌, take}
use Rattle.input_runner.specs.Sizes.{count_in_all}
use Rattle.input_runner.proofs.sizes.count_in_lanes.Given as goal

abbrev pub invariant-loop-blocks : goal.invariant-loop-blocks
invariant-loop-blocks l = l.count ≡ count_in_all l.changes (take l.blocks-index l.lanes)
