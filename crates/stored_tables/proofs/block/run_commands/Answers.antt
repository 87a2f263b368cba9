use Rattle.std.proofs.Common.{◌≡◌, ◌<◌, ◌≤◌, ◌+◌, ◌*◌, List, length, get_or, Ok, refl, sym, ap, ◌∙◌, arith}
use Rattle.std.specs.Prelude.{All, IsOk}
use Rattle.replay_model.specs.declared.command.Command.{Command}
use Rattle.stored_tables.specs.Plan.Follows.{stays}
use Rattle.stored_tables.proofs.Listed.{pushed}
use Rattle.stored_tables.proofs.Midway.{runs_begin}
use Rattle.stored_tables.proofs.Running.{StepTo, idle_at, not_refused, next_runs, step_value, step_refused, left_all}
use Rattle.stored_tables.proofs.Runs.{ok_of, runs_memory, runs_moved, runs_value}
use Rattle.record_store.proofs.Refusals.{torn_moved}
use Rattle.stored_tables.proofs.TornChanges.{of_command}
use Rattle.stored_tables.specs.Tears.{NamesTornChange}
use Rattle.stored_tables.specs.Answers.{DueBy, IsIdle, Stands}
use Rattle.stored_tables.specs.Plan.{run_plan}
use Rattle.stored_tables.specs.Runs.{Runs}
use Rattle.stored_tables.proofs.block.run_commands.Goals as goal
use Rattle.stored_tables.proofs.block.run_commands.Goals.{After-run_command}

-- the command that ran is the one at this number
within : (g : _) (c : After-run_command g) → c.loop-i.i < length c.args.commands.now
within g c = omega (arith, ap length c.as_slice-command-items.ensures)

here : (g : _) (c : After-run_command g) → c.command-item.result ≡ get_or c.args.commands.now c.loop-i.i c.command-item.result
here g c = c.command-item.is ∙ ap (λ (cs : List Command). get_or cs c.loop-i.i c.command-item.result) c.as_slice-command-items.ensures

-- the commands up to it, and it
gone : (g : _) (c : After-run_command g) → Runs g.S.RecordRead.read_gives g.S.RecordStore.write_gives g.S.RecordStore.fresh_gives g.S.RecordRead.meaning
    (Stands (g.S.RecordRead.meaning c.args.store.now)) (DueBy (run_plan c.args.commands.now))
    (StepTo c.args.commands.now c.loop-i.i c.loop-i.answers.items (g.S.RecordRead.meaning c.run_command.new.store)) (128 * c.loop-i.i + 128)
    c.args.store.now c.run_command.new.store c.run_command.result
gone g c = next_runs {meaning = g.S.RecordRead.meaning} c.args.commands.now c.command-item.result c.loop-i.i c.loop-i.answers.items
    c.args.store.now c.loop-i.store c.run_command.new.store c.run_command.result (within g c) (here g c) c.loop-i.invariant.runs c.run_command.ensures.runs

still : (g : _) (c : After-run_command g) → All IsIdle c.args.commands.now → c.run_command.new.store ≡ c.args.store.now
still g c all = c.run_command.ensures.idle (idle_at c.args.commands.now c.command-item.result c.loop-i.i all (within g c) (here g c))
    ∙ c.loop-i.invariant.idle all

pub returns-then-is_err-clause-runs : goal.returns-then-is_err-clause-runs
returns-then-is_err-clause-runs g c =
    runs_memory _ 0 (128 * length c.args.commands.now) (omega arith) c.args.store.now c.args.store.now (Ok (tt {0}))
    (runs_begin {F = g.row.S-Fault.Denot} _ _ (λ _ _ _ _. Unit {0}) c.args.store.now (λ state held stands. tt))

pub loop-i-init : goal.loop-i-init
loop-i-init g c = record {
  runs = runs_begin {F = g.row.S-Fault.Denot} _ _ _ c.args.store.now
      (λ state held stands. (
        held.1,
        ap (λ answers. Ok (answers, held.1))
            (sym (c.reserve.ensures.items ∙ c.new-answers.ensures.items)),
        (held.0, stands, stays held.0),
      ));
  rest = refl;
  idle = λ all. refl;
}

pub run_command-requires-clause-size : goal.run_command-requires-clause-size
run_command-requires-clause-size g c = rw c.loop-i.invariant.runs.by.grow.size c.requires.size

pub run_command-requires-clause-fixed : goal.run_command-requires-clause-fixed
run_command-requires-clause-fixed g c = rw c.loop-i.invariant.runs.by.grow.fixed c.requires.fixed

pub returns-in_err-answer-clause-runs : goal.returns-in_err-answer-clause-runs
returns-in_err-answer-clause-runs g c =
    runs_moved _ (128 * c.loop-i.i + 128) (128 * length c.args.commands.now) (omega (arith, within g (goal.at.returns-in_err-answer-clause-runs g c).After-run_command)) c.args.store.now c.run_command.new.store
    c.from_residual.result c.run_command.result c.in_err-answer.field-0.0
    (gone g (goal.at.returns-in_err-answer-clause-runs g c).After-run_command) c.in_err-answer.was c.from_residual.ensures.1

pub returns-then-is_err-2-clause-runs : goal.returns-then-is_err-2-clause-runs
returns-then-is_err-2-clause-runs g c =
    runs_memory _ (128 * c.loop-i.i + 128) (128 * length c.args.commands.now) (omega (arith, within g (goal.at.returns-then-is_err-2-clause-runs g c).After-run_command)) c.args.store.now c.run_command.new.store
    c.run_command.result
    (gone g (goal.at.returns-then-is_err-2-clause-runs g c).After-run_command)

pub returns-in-Err-clause-runs : goal.returns-in-Err-clause-runs
returns-in-Err-clause-runs g c =
    runs_value _ (128 * c.loop-i.i + 128) (128 * length c.args.commands.now) c.args.store.now c.run_command.new.store
    c.run_command.result _ _ (omega (arith, within g (goal.at.returns-in-Err-clause-runs g c).After-run_command))
    (gone g (goal.at.returns-in-Err-clause-runs g c).After-run_command) c.in_ok-answer.was (λ asked state held agrees stands did. step_refused c.args.commands.now c.loop-i.i
    c.loop-i.answers.items (g.S.RecordRead.meaning c.run_command.new.store) _ c.in-Err.cause asked state held c.in-Err.is did)

pub loop-i-preserved : goal.loop-i-preserved
loop-i-preserved g c =
    record {
      runs = runs_value _ (128 * c.loop-i.i + 128) (128 * (c.loop-i.i + 1)) c.args.store.now c.run_command.new.store c.run_command.result
          _ _ (omega arith)
          (gone g (goal.at.loop-i-preserved g c).After-run_command) c.in_ok-answer.was
          (λ asked state held agrees stands did. step_value c.args.commands.now c.loop-i.i c.loop-i.answers.items _
          (g.S.RecordRead.meaning c.run_command.new.store) _ c.in-Ok.answer asked state held c.in-Ok.is
          (pushed _ _ _ _ _ c.push.ensures.items c.is_err-in-Ok.ensures.negation c.if-is_err-2.false) did);
      rest = c.run_command.ensures.rest ∙ c.loop-i.invariant.rest;
      idle = still g (goal.at.loop-i-preserved g c).After-run_command;
    }

pub returns-clause-runs : goal.returns-clause-runs
returns-clause-runs g c =
    let past : length c.args.commands.now ≤ c.loop-i.i = omega (arith, c.loop-i-test.false, ap length c.as_slice-command-items.ensures) in
    let below : c.loop-i.i ≤ length c.args.commands.now = omega (arith, c.loop-i.auto.i-end, ap length c.as_slice-command-items.ensures)
    in
    runs_value _ (128 * c.loop-i.i) (128 * length c.args.commands.now) c.args.store.now c.loop-i.store (Ok (tt {0})) _ _
    (omega (arith, below)) c.loop-i.invariant.runs refl
    (λ asked state held agrees stands left. left_all c.args.commands.now c.loop-i.i c.loop-i.answers.items _
    (g.S.RecordRead.meaning c.loop-i.store) asked state held past c.from_vec.ensures left)

pub returns-in_err-answer-clause-idle : goal.returns-in_err-answer-clause-idle
returns-in_err-answer-clause-idle g c =
    still g (goal.at.returns-in_err-answer-clause-idle g c).After-run_command

pub returns-then-is_err-2-clause-idle : goal.returns-then-is_err-2-clause-idle
returns-then-is_err-2-clause-idle g c =
    still g (goal.at.returns-then-is_err-2-clause-idle g c).After-run_command

pub returns-in-Err-clause-idle : goal.returns-in-Err-clause-idle
returns-in-Err-clause-idle g c =
    still g (goal.at.returns-in-Err-clause-idle g c).After-run_command

pub returns-in-Err-clause-unrefused : goal.returns-in-Err-clause-unrefused
returns-in-Err-clause-unrefused g c =
    λ all. not_refused _ c.in-Err.cause c.in-Err.is (ok_of c.run_command.result (λ ran. IsOk ran) _ c.in_ok-answer.was
    (c.run_command.ensures.answered (idle_at c.args.commands.now c.command-item.result c.loop-i.i all (within g (goal.at.returns-in-Err-clause-unrefused g c).After-run_command) (here g (goal.at.returns-in-Err-clause-unrefused g c).After-run_command))))

-- what no call changes
pub returns-in_err-answer-clause-rest : goal.returns-in_err-answer-clause-rest
returns-in_err-answer-clause-rest g c = c.run_command.ensures.rest ∙ c.loop-i.invariant.rest

pub returns-then-is_err-2-clause-rest : goal.returns-then-is_err-2-clause-rest
returns-then-is_err-2-clause-rest g c = c.run_command.ensures.rest ∙ c.loop-i.invariant.rest

pub returns-in-Err-clause-rest : goal.returns-in-Err-clause-rest
returns-in-Err-clause-rest g c = c.run_command.ensures.rest ∙ c.loop-i.invariant.rest

pub returns-in_err-answer-clause-tears : goal.returns-in_err-answer-clause-tears
returns-in_err-answer-clause-tears g c =
    torn_moved c.from_residual.result c.run_command.result c.in_err-answer.field-0.0 _ c.in_err-answer.was c.from_residual.ensures.1
    (of_command c.args.commands.now c.command-item.result c.loop-i.i (λ table. NamesTornChange table (g.S.RecordRead.meaning c.run_command.new.store))
    c.run_command.result (within g (goal.at.returns-in_err-answer-clause-tears g c).After-run_command) (here g (goal.at.returns-in_err-answer-clause-tears g c).After-run_command) c.run_command.ensures.tears)
