use Rattle.core_rule.specs.Hands.{IsReady}
use Rattle.core_rule.specs.Searching.{Ends}
use Rattle.engine_rows.proofs.clocks.all_hold.Given as goal

abbrev pub invariant-loop-step : goal.invariant-loop-step
invariant-loop-step l = IsReady l.core l.hand × Ends l.hand.view.work
