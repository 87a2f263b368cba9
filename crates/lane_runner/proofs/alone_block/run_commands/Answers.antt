use Rattle.std.proofs.Common.{ℕ, ◌≤◌, false, refl, sym, subst, ◌∙◌}
use Rattle.lane_runner.specs.Room.{clock_after}
use Rattle.lane_runner.proofs.Held.{Commits-then}
use Rattle.lane_runner.proofs.Ran.{leaves_closed}
use Rattle.lane_runner.proofs.alone_block.run_commands.Goals as goal

pub close-requires-clause-engine : goal.close-requires-clause-engine
close-requires-clause-engine c = (c.in_ok-done.ensures.enters.committed (record { stamp = c.in_ok-done.done.0; snap = false; lane = 0; number = 0 }) refl refl).adds.engine ∙ c.requires.pass.same

pub close-requires-clause-awaits : goal.close-requires-clause-awaits
close-requires-clause-awaits c = c.in_ok-done.ensures.awaits

pub returns-clause-holds : goal.returns-clause-holds
returns-clause-holds c = c.close.ensures.holds

pub returns-clause-committed : goal.returns-clause-committed
returns-clause-committed c = λ placed stamp kind.
    Commits-then c.args.commands.now placed c.in_ok-done.done.1 c.args.alone.now.pass c.commit_commands.new.alone.pass c.close.new.alone.pass (c.in_ok-done.ensures.enters.committed placed stamp kind) c.close.ensures.adds

pub returns-clause-leaves : goal.returns-clause-leaves
returns-clause-leaves c = λ tables first within.
    leaves_closed c.commit_commands.new.alone.pass c.close.new.alone.pass _ _ c.close.ensures.adds (c.in_ok-done.ensures.enters.leaves c.close.ensures.lawful tables first within)

pub returns-clause-clock : goal.returns-clause-clock
returns-clause-clock c = subst (λ (n : ℕ). n ≤ clock_after c.args.alone.now.pass.clock 1) (sym c.close.ensures.clock) c.in_ok-done.ensures.enters.clock

pub commit_commands-requires-clause-pass : goal.commit_commands-requires-clause-pass
commit_commands-requires-clause-pass c = c.requires.pass

pub commit_commands-requires-clause-holds : goal.commit_commands-requires-clause-holds
commit_commands-requires-clause-holds c = c.requires.holds

pub commit_commands-requires-clause-commands : goal.commit_commands-requires-clause-commands
commit_commands-requires-clause-commands c = c.requires.commands

pub commit_commands-requires-clause-short : goal.commit_commands-requires-clause-short
commit_commands-requires-clause-short c = c.requires.short

pub commit_commands-requires-clause-few : goal.commit_commands-requires-clause-few
commit_commands-requires-clause-few c = c.requires.few

pub commit_commands-requires-clause-places : goal.commit_commands-requires-clause-places
commit_commands-requires-clause-places c = c.requires.places

pub commit_commands-requires-clause-records : goal.commit_commands-requires-clause-records
commit_commands-requires-clause-records c = c.requires.records

pub commit_commands-requires-clause-room : goal.commit_commands-requires-clause-room
commit_commands-requires-clause-room c = c.requires.room
