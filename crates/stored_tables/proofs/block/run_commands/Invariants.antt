use Rattle.std.proofs.Common.{◌≡◌, ◌*◌, take, Ok}
use Rattle.std.specs.Prelude.{All}
use Rattle.stored_tables.specs.Plan.{run_plan}
use Rattle.stored_tables.specs.Answers.{IsIdle, Stands, DueBy}
use Rattle.stored_tables.specs.Blocks.{Left}
use Rattle.stored_tables.specs.Runs.{Runs}
use Rattle.stored_tables.proofs.block.run_commands.Given as goal

-- the commands so far were answered, and left tables
abbrev pub invariant-loop-i : goal.invariant-loop-i
invariant-loop-i g l = record {
  runs : Runs g.S.RecordRead.read_gives g.S.RecordStore.write_gives g.S.RecordStore.fresh_gives g.S.RecordRead.meaning
      (Stands (g.S.RecordRead.meaning l.fn.store)) (DueBy (run_plan l.commands)) (λ _. Left (take l.i l.commands) l.answers.items
      (g.S.RecordRead.meaning l.store)) (128 * l.i) l.fn.store l.store (Ok (tt {0}));
  rest : g.S.RecordRead.rest l.store ≡ g.S.RecordRead.rest l.fn.store;
  idle : All IsIdle l.commands → l.store ≡ l.fn.store;
}
