use Rattle.std.proofs.Common.{◌≡◌, ◌<◌, List, length, get_or, Ok, refl, sym, ap, ◌∙◌, arith}
use Rattle.std.specs.Prelude.{All}
use Rattle.replay_model.specs.declared.command.Command.{Command}
use Rattle.stored_tables.proofs.Listed.{pushed}
use Rattle.stored_tables.proofs.Running.{SeenTo, idle_at, next_looks, seen_value, seen_all, seen_refused}
use Rattle.stored_tables.proofs.Runs.{looks_begin, looks_memory, looks_moved, looks_value}
use Rattle.record_store.proofs.Refusals.{torn_moved}
use Rattle.stored_tables.proofs.TornChanges.{names_after, of_command}
use Rattle.stored_tables.specs.Tears.{NamesTorn}
use Rattle.stored_tables.specs.Answers.{IsIdle, Stands}
use Rattle.stored_tables.specs.Runs.{Looks}
use Rattle.stored_tables.proofs.block.read_commands.Goals as goal
use Rattle.stored_tables.proofs.block.read_commands.Goals.{After-read_command}

-- the command that ran is the one at this number
within : (g : _) (c : After-read_command g) → c.loop-i.i < length c.args.commands.now
within g c = omega (arith, ap length c.as_slice-command-items.ensures)

here : (g : _) (c : After-read_command g) → c.command-item.result ≡ get_or c.args.commands.now c.loop-i.i c.command-item.result
here g c = c.command-item.is ∙ ap (λ (cs : List Command). get_or cs c.loop-i.i c.command-item.result) c.as_slice-command-items.ensures

-- the commands up to it, and it
gone : (g : _) (c : After-read_command g) → Looks g.S.RecordRead.read_gives g.S.RecordRead.meaning (Stands (g.S.RecordRead.meaning c.args.store.now))
    (SeenTo c.args.commands.now c.loop-i.i c.loop-i.answers.items) c.args.store.now c.read_command.new.store c.read_command.result
gone g c = next_looks {meaning = g.S.RecordRead.meaning} c.args.commands.now c.command-item.result c.loop-i.i c.loop-i.answers.items
    c.args.store.now c.loop-i.store c.read_command.new.store c.read_command.result (within g c) (here g c) c.loop-i.invariant.looks c.read_command.ensures.looks

still : (g : _) (c : After-read_command g) → All IsIdle c.args.commands.now → c.read_command.new.store ≡ c.args.store.now
still g c all = c.read_command.ensures.idle (idle_at c.args.commands.now c.command-item.result c.loop-i.i all (within g c) (here g c))
    ∙ c.loop-i.invariant.idle all

pub returns-then-is_err-clause-looks : goal.returns-then-is_err-clause-looks
returns-then-is_err-clause-looks g c =
    looks_memory _ c.args.store.now c.args.store.now (Ok (tt {0}))
    (looks_begin {F = g.row.S-Fault.Denot} _ (λ _ _ _. Unit {0}) c.args.store.now tt (λ state held stands. tt))

pub loop-i-init : goal.loop-i-init
loop-i-init g c = record {
  looks = looks_begin {F = g.row.S-Fault.Denot} _ _ c.args.store.now tt (λ state held stands. ap (λ answers. Ok (answers, held.1))
      (sym (c.reserve.ensures.items ∙ c.new-answers.ensures.items)));
  rest = refl;
  idle = λ all. refl;
}

pub returns-in_err-answer-clause-looks : goal.returns-in_err-answer-clause-looks
returns-in_err-answer-clause-looks g c =
    looks_moved _ c.args.store.now c.read_command.new.store c.from_residual.result c.read_command.result c.in_err-answer.field-0.0
    (gone g (goal.at.returns-in_err-answer-clause-looks g c).After-read_command) c.in_err-answer.was c.from_residual.ensures.1

pub returns-then-is_err-2-clause-looks : goal.returns-then-is_err-2-clause-looks
returns-then-is_err-2-clause-looks g c =
    looks_memory _ c.args.store.now c.read_command.new.store c.read_command.result
    (gone g (goal.at.returns-then-is_err-2-clause-looks g c).After-read_command)

pub returns-in-Err-clause-looks : goal.returns-in-Err-clause-looks
returns-in-Err-clause-looks g c =
    looks_value _ c.args.store.now c.read_command.new.store c.read_command.result _ _
    (gone g (goal.at.returns-in-Err-clause-looks g c).After-read_command) c.in_ok-answer.was (λ state held agrees stands did. seen_refused c.args.commands.now c.loop-i.i
    c.loop-i.answers.items _ c.in-Err.cause state held c.in-Err.is did)

pub loop-i-preserved : goal.loop-i-preserved
loop-i-preserved g c =
    record {
      looks = looks_value _ c.args.store.now c.read_command.new.store c.read_command.result _ _
          (gone g (goal.at.loop-i-preserved g c).After-read_command) c.in_ok-answer.was
          (λ state held agrees stands did. seen_value c.args.commands.now c.loop-i.i c.loop-i.answers.items _ _ c.in-Ok.answer state held
          c.in-Ok.is (pushed _ _ _ _ _ c.push.ensures.items c.is_err-in-Ok.ensures.negation c.if-is_err-2.false) did);
      rest = c.read_command.ensures.rest ∙ c.loop-i.invariant.rest;
      idle = still g (goal.at.loop-i-preserved g c).After-read_command;
    }

pub returns-clause-looks : goal.returns-clause-looks
returns-clause-looks g c =
    looks_value _ c.args.store.now c.loop-i.store (Ok (tt {0})) _ _ c.loop-i.invariant.looks refl
    (λ state held agrees stands saw. seen_all c.args.commands.now c.loop-i.i c.loop-i.answers.items _ state held
    (omega (arith, c.loop-i-test.false, ap length c.as_slice-command-items.ensures)) c.from_vec.ensures saw)

pub returns-in_err-answer-clause-idle : goal.returns-in_err-answer-clause-idle
returns-in_err-answer-clause-idle g c =
    still g (goal.at.returns-in_err-answer-clause-idle g c).After-read_command

pub returns-then-is_err-2-clause-idle : goal.returns-then-is_err-2-clause-idle
returns-then-is_err-2-clause-idle g c =
    still g (goal.at.returns-then-is_err-2-clause-idle g c).After-read_command

pub returns-in-Err-clause-idle : goal.returns-in-Err-clause-idle
returns-in-Err-clause-idle g c =
    still g (goal.at.returns-in-Err-clause-idle g c).After-read_command

pub returns-in_err-answer-clause-tears : goal.returns-in_err-answer-clause-tears
returns-in_err-answer-clause-tears g c =
    torn_moved c.from_residual.result c.read_command.result c.in_err-answer.field-0.0 _ c.in_err-answer.was c.from_residual.ensures.1
    (of_command c.args.commands.now c.command-item.result c.loop-i.i (λ table. NamesTorn table (g.S.RecordRead.meaning c.args.store.now) (g.S.RecordRead.meaning c.read_command.new.store))
    c.read_command.result (within g (goal.at.returns-in_err-answer-clause-tears g c).After-read_command) (here g (goal.at.returns-in_err-answer-clause-tears g c).After-read_command)
    (names_after _ (g.S.RecordRead.meaning c.args.store.now) (g.S.RecordRead.meaning c.loop-i.store) (g.S.RecordRead.meaning c.read_command.new.store)
    c.read_command.result c.loop-i.invariant.looks.by.only c.read_command.ensures.tears))
