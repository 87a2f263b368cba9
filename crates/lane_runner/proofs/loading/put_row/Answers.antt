use Rattle.std.proofs.Common.{◌≡◌, false, List, [], ◌∷◌, ◌++◌, refl, sym, ap, subst, ◌∙◌, All, length, ◌≤◌, arith}
use Rattle.replay_model.specs.declared.command.Command.{Command}
use Rattle.replay_model.specs.declared.command.Command.TheVariants.{Put}
use Rattle.replay_model.specs.Input.{AreCommands}
use Rattle.stored_tables.specs.Answers.{IsShort}
use Rattle.stored_tables.specs.Weight.{all_add}
use Rattle.lane_runner.specs.Holding.{HasRecords, LeavesAfter}
use Rattle.lane_runner.proofs.Loaded.{are_put, is_short_put, room_put, HasLoaded-put}
use Rattle.lane_runner.proofs.loading.put_row.Goals as goal
use Rattle.lane_runner.proofs.loading.put_row.Goals.{In_ok-push}

commands_are : (c : In_ok-push) → c.push.new.self ≡ Put c.args.table c.args.key c.args.values ∷ []
commands_are c = c.in_ok-push.ensures.ok ∙ ap (λ (xs : List Command). xs ++ Put c.args.table c.args.key c.args.values ∷ []) c.new-commands.ensures

pub run_commands-requires-clause-commands : goal.run_commands-requires-clause-commands
run_commands-requires-clause-commands c =
    subst (λ (xs : List Command). AreCommands 8 xs) (sym (commands_are (goal.at.run_commands-requires-clause-commands c).In_ok-push)) (are_put c.args.table c.args.key c.args.values c.requires.table)

pub run_commands-requires-clause-short : goal.run_commands-requires-clause-short
run_commands-requires-clause-short c =
    subst (λ (xs : List Command). All IsShort xs) (sym (commands_are (goal.at.run_commands-requires-clause-short c).In_ok-push)) (is_short_put c.args.table c.args.key c.args.values)

pub run_commands-requires-clause-records : goal.run_commands-requires-clause-records
run_commands-requires-clause-records c =
    subst (λ (xs : List Command). HasRecords c.args.alone.now.pass (all_add xs)) (sym (commands_are (goal.at.run_commands-requires-clause-records c).In_ok-push)) (room_put c.args.alone.now.pass c.args.table c.args.key c.args.values c.requires.records)

pub returns-clause-puts : goal.returns-clause-puts
returns-clause-puts c = λ tables rows first none so_far.
    let commands = commands_are (goal.at.returns-clause-puts c).In_ok-push in
    let leaves = subst (λ (xs : List Command). LeavesAfter xs c.args.alone.now.pass c.run_commands.new.alone.pass) commands c.in_ok-run_commands.ensures.leaves in
    HasLoaded-put c.rows_pack.ensures first c.args.alone.now.pass c.run_commands.new.alone.pass tables rows c.args.table c.args.key c.args.values none so_far c.in_ok-run_commands.ensures.holds
    (c.in_ok-run_commands.ensures.committed (record { stamp = c.in_ok-run_commands.field-0.0; snap = false; lane = 0; number = 0 }) refl refl).adds leaves

pub run_commands-requires-clause-pass : goal.run_commands-requires-clause-pass
run_commands-requires-clause-pass c = c.requires.pass

pub run_commands-requires-clause-holds : goal.run_commands-requires-clause-holds
run_commands-requires-clause-holds c = c.requires.holds

pub run_commands-requires-clause-few : goal.run_commands-requires-clause-few
run_commands-requires-clause-few c = subst (λ (xs : List Command). length xs ≤ 64) (sym (commands_are (goal.at.run_commands-requires-clause-few c).In_ok-push)) (omega arith)

pub run_commands-requires-clause-places : goal.run_commands-requires-clause-places
run_commands-requires-clause-places c = c.requires.places

pub run_commands-requires-clause-room : goal.run_commands-requires-clause-room
run_commands-requires-clause-room c = c.requires.room

pub returns-clause-shared : goal.returns-clause-shared
returns-clause-shared c = c.run_commands.ensures.shared

pub returns-clause-clock : goal.returns-clause-clock
returns-clause-clock c = c.in_ok-run_commands.ensures.clock

pub returns-in_err-push-clause-shared : goal.returns-in_err-push-clause-shared
returns-in_err-push-clause-shared c = refl

pub returns-in_err-run_commands-clause-shared : goal.returns-in_err-run_commands-clause-shared
returns-in_err-run_commands-clause-shared c = c.run_commands.ensures.shared
