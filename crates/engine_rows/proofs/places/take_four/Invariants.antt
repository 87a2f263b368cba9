use Rattle.core_rule.specs.Hands.{IsReady}
use Rattle.engine_rows.proofs.places.take_four.Given as goal

abbrev pub invariant-loop-turn : goal.invariant-loop-turn
invariant-loop-turn l = IsReady l.core l.hand
