-- Outcomes that can be printed: those with one answer to each command.
use Rattle.std.specs.Prelude.{◌≡◌, ℕ, List, length, slice_get, Some}
use Rattle.replay_model.specs.declared.command.Command.{Command}
use Rattle.replay_model.specs.declared.input.Block.{Block}
use Rattle.replay_model.specs.declared.outcome.Outcome.{Outcome}
use Rattle.replay_model.specs.declared.outcome.Placed.{Placed}
use Rattle.replay_model.specs.Replay.{block_named}
use Rattle.replay_model.specs.declared.outcome.Outcome.TheVariants.{Done, Refused}

-- the commands were refused, or each has one answer
abbrev pub HasAnswers : List Command → Outcome → Type 0
HasAnswers commands (Done answers) = length commands ≡ length answers
HasAnswers commands (Refused command cause) = Unit {0}

-- so it is of each block of an order and its outcome
abbrev pub AllAnswered : List (List Block) → List Placed → List Outcome → Type 0
AllAnswered lanes order outcomes =
    (i : ℕ) (placed : Placed) (outcome : Outcome) → slice_get order i ≡ Some placed → slice_get outcomes i ≡ Some outcome → HasAnswers (block_named lanes placed).commands outcome
