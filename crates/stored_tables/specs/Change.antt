-- How an `add` or a `sub` changes a column.
use Rattle.std.specs.Prelude.{ℕ, Result}
use Rattle.replay_model.specs.declared.command.Command.{Command}
use Rattle.replay_model.specs.declared.command.Command.TheVariants.{Add, Sub}
use Rattle.replay_model.specs.declared.outcome.Cause.{Cause}
use Rattle.replay_model.specs.Effect.{sum_of, difference_of}
use Rattle.stored_tables.specs.declared.command.Change.{Change}
use Rattle.stored_tables.specs.declared.command.Change.TheVariants.{Plus, Minus}

-- the changed value, or the cause for which there is none
abbrev pub changed : Change → ℕ → Result ℕ Cause
changed (Plus by) value = sum_of by value
changed (Minus by) value = difference_of by value

-- the command that changes so
abbrev pub command_with : ℕ → ℕ → ℕ → Change → Command
command_with table key column (Plus by) = Add table key column by
command_with table key column (Minus by) = Sub table key column by
