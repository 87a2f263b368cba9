use Rattle.std.proofs.Common.{ℕ, ◌≤◌, sym, subst, ◌∙◌}
use Rattle.stored_tables.specs.Declare.{with_index}
use Rattle.stored_tables.specs.Packed.{IsPacked}
use Rattle.lane_runner.specs.Room.{clock_after}
use Rattle.lane_runner.proofs.Loaded.{HasLoaded-more}
use Rattle.lane_runner.proofs.Ran.{leaves_closed, some_closed}
use Rattle.lane_runner.proofs.loading.declare.Goals as goal

pub close-requires-clause-engine : goal.close-requires-clause-engine
close-requires-clause-engine c = c.in_ok-commit_index.ensures.enters.adds.1.engine ∙ c.requires.pass.same

pub close-requires-clause-awaits : goal.close-requires-clause-awaits
close-requires-clause-awaits c = c.in_ok-commit_index.ensures.awaits

pub returns-clause-declares : goal.returns-clause-declares
returns-clause-declares c = λ tables rows first so_far.
    let p = c.args.alone.now.pass in
    let r = c.commit_index.new.alone.pass in
    let w = c.close.new.alone.pass in
    let e = c.in_ok-commit_index.ensures.enters in
    let after = with_index tables c.args.table c.args.column in
    HasLoaded-more first p w tables after rows rows so_far c.close.ensures.holds (some_closed p r w e.adds c.close.ensures.adds) (leaves_closed r w after (λ places. IsPacked places rows) c.close.ensures.adds (e.leaves c.close.ensures.lawful tables rows so_far.leaves))

pub returns-clause-clock : goal.returns-clause-clock
returns-clause-clock c = subst (λ (n : ℕ). n ≤ clock_after c.args.alone.now.pass.clock 1) (sym c.close.ensures.clock) c.in_ok-commit_index.ensures.enters.clock
