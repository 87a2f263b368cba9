use Rattle.std.proofs.Common.{◌≡◌}
use Rattle.std.specs.Arc.{arc_value}
use Rattle.crossbeam_queue.specs.Passes.{IsPassOf}
use Rattle.number_queue.specs.View.{known}
use Rattle.number_queue.proofs.pass.NumberPass.offer.Given as goal

-- no step has put or taken a number
abbrev pub invariant-loop-turn : goal.invariant-loop-turn
invariant-loop-turn l = record {
  of : IsPassOf (arc_value l.self-inside.queue) l.self-inside.pass;
  known_stays : known l.self-inside.pass ≡ known l.initial.self-inside.pass;
  rest : l.self-inside ≡ record l.initial.self-inside { pass = l.self-inside.pass };
}
