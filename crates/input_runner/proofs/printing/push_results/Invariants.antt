use Rattle.std.proofs.Common.{◌≡◌, ◌++◌, take}
use Rattle.input_runner.specs.Printing.{results_text}
use Rattle.input_runner.proofs.printing.push_results.Given as goal

abbrev pub invariant-loop-result : goal.invariant-loop-result
invariant-loop-result l = l.text.items ≡ l.fn.text.items ++ results_text l.input (take l.result-index l.results)
