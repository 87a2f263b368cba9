use Rattle.std.proofs.Common.{ℕ, ◌≤◌, true, refl, sym, subst, ◌∙◌}
use Rattle.lane_runner.specs.Room.{clock_after}
use Rattle.lane_runner.proofs.Held.{Commits-then}
use Rattle.lane_runner.proofs.Ran.{leaves_closed}
use Rattle.lane_runner.proofs.alone_block.look_up.Goals as goal

pub close-requires-clause-engine : goal.close-requires-clause-engine
close-requires-clause-engine c = (c.in_ok-done.ensures.enters.committed (record { stamp = c.in_ok-done.done.0; snap = true; lane = 0; number = 0 }) refl refl).adds.engine ∙ c.requires.engine

pub close-requires-clause-awaits : goal.close-requires-clause-awaits
close-requires-clause-awaits c = c.in_ok-done.ensures.awaits

pub returns-clause-holds : goal.returns-clause-holds
returns-clause-holds c = c.close.ensures.holds

pub returns-clause-committed : goal.returns-clause-committed
returns-clause-committed c = λ placed stamp kind.
    Commits-then c.args.commands.now placed c.in_ok-done.done.1 c.args.alone.now.pass c.see_commands.new.alone.pass c.close.new.alone.pass (c.in_ok-done.ensures.enters.committed placed stamp kind) c.close.ensures.adds

pub returns-clause-behind : goal.returns-clause-behind
returns-clause-behind c = c.in_ok-done.ensures.behind

pub returns-clause-leaves : goal.returns-clause-leaves
returns-clause-leaves c = λ tables first within.
    leaves_closed c.see_commands.new.alone.pass c.close.new.alone.pass _ _ c.close.ensures.adds (c.in_ok-done.ensures.enters.leaves c.close.ensures.lawful tables first within)

pub returns-clause-clock : goal.returns-clause-clock
returns-clause-clock c = subst (λ (n : ℕ). n ≤ clock_after c.args.alone.now.pass.clock 1) (sym c.close.ensures.clock) c.in_ok-done.ensures.enters.clock
