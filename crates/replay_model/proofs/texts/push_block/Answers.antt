use Rattle.std.proofs.Common.{length, ap, sym, ◌∙◌}
use Rattle.std.specs.Option.{option_copied}
use Rattle.replay_model.specs.Input.{AreCommands}
use Rattle.replay_model.proofs.AnswerLaws.{block_is}
use Rattle.replay_model.proofs.texts.push_block.Goals as goal

pub push_answers-requires-clause-commands : goal.push_answers-requires-clause-commands
push_answers-requires-clause-commands c =
    let input = c.args.input.now in
    block_is (λ block. AreCommands (length input.tables) block.commands) input.lanes c.args.placed.now.lane c.args.placed.now.number _ (sym c.block_at.ensures ∙ ap option_copied c.unwrap-block.ensures) c.requires.well_formed.lanes.commands
