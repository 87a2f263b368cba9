use Rattle.std.proofs.Common.{◌≡◌, ℕ, List, [], take, Ok}
use Rattle.plain_data.specs.State.{overlay}
use Rattle.replay_model.specs.TableMap.{Row}
use Rattle.stored_tables.specs.Lists.{Lists}
use Rattle.stored_tables.specs.Rows.{part_in}
use Rattle.stored_tables.specs.Runs.{Looks}
use Rattle.stored_tables.proofs.reading.read_rows.Given as goal

-- so many rows were read, each for the entry at its place
abbrev pub invariant-loop-key : goal.invariant-loop-key
invariant-loop-key g l = record {
  looks : Looks g.S.RecordRead.read_gives g.S.RecordRead.meaning
      (λ state (rows : List (ℕ × Row)). Lists (overlay (g.S.RecordRead.meaning l.fn.store).writes state) (part_in l.part) l.entries rows)
      (λ _ state rows. l.pairs.items ≡ take l.key-index rows) l.fn.store l.store (Ok (tt {0}));
  rest : g.S.RecordRead.rest l.store ≡ g.S.RecordRead.rest l.fn.store;
  nothing : l.entries ≡ [] → l.store ≡ l.fn.store;
}
