use Rattle.core_rule.specs.Hands.{IsReady}
use Rattle.core_rule.specs.Searching.{Ends}
use Rattle.engine_rows.proofs.clocks.draw_and_raise.Given as goal

abbrev pub invariant-loop-turn : goal.invariant-loop-turn
invariant-loop-turn l = IsReady l.core l.hand × Ends l.hand.view.work
