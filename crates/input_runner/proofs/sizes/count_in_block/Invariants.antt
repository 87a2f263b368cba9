use Rattle.std.proofs.Common.{◌≡◌, take}
use Rattle.std.specs.List.{count_by}
use Rattle.txn_script.specs.Grammar.{counts}
use Rattle.input_runner.proofs.sizes.count_in_block.Given as goal

abbrev pub invariant-loop-command : goal.invariant-loop-command
invariant-loop-command l = l.count ≡ count_by (counts l.changes) (take l.command-index l.block.commands)
