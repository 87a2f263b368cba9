use Rattle.std.proofs.Common.{◌≡◌, take, Ok}
use Rattle.std.specs.Prelude.{All}
use Rattle.stored_tables.specs.Answers.{IsIdle, Stands}
use Rattle.stored_tables.specs.Blocks.{Saw}
use Rattle.stored_tables.specs.Runs.{Looks}
use Rattle.stored_tables.proofs.block.read_commands.Given as goal

-- the commands so far were answered
abbrev pub invariant-loop-i : goal.invariant-loop-i
invariant-loop-i g l = record {
  looks : Looks g.S.RecordRead.read_gives g.S.RecordRead.meaning (Stands (g.S.RecordRead.meaning l.fn.store))
      (λ _. Saw (take l.i l.commands) l.answers.items) l.fn.store l.store (Ok (tt {0}));
  rest : g.S.RecordRead.rest l.store ≡ g.S.RecordRead.rest l.fn.store;
  idle : All IsIdle l.commands → l.store ≡ l.fn.store;
}
