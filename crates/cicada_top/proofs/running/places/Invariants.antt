use Rattle.std.proofs.Common.{◌≡◌, take}
use Rattle.input_runner.specs.Ran.{order_of}
use Rattle.cicada_top.proofs.running.places.Given as goal

abbrev pub invariant-loop-result : goal.invariant-loop-result
invariant-loop-result l = l.order.items ≡ order_of (take l.result-index l.results)
