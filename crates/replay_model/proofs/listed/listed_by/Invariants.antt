use Rattle.std.proofs.Common.{◌≡◌, drop}
use Rattle.replay_model.specs.Effect.{by_column}
use Rattle.replay_model.proofs.listed.listed_by.Given as goal

abbrev pub invariant-loop-i : goal.invariant-loop-i
invariant-loop-i l = l.sorted ≡ by_column l.column (drop l.i l.pairs)
