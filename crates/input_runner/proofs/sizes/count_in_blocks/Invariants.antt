use Rattle.std.proofs.Common.{◌≡◌, take}
use Rattle.input_runner.specs.Sizes.{count_in}
use Rattle.input_runner.proofs.sizes.count_in_blocks.Given as goal

abbrev pub invariant-loop-block : goal.invariant-loop-block
invariant-loop-block l = l.count ≡ count_in l.changes (take l.block-index l.blocks)
