use Rattle.std.proofs.Common.{◌≡◌}
use Rattle.ledger_example.proofs.accounts.open_all.Given as goal

abbrev pub invariant-loop-owner : goal.invariant-loop-owner
invariant-loop-owner g l = record {
  rest : g.S.RecordRead.rest l.store ≡ g.S.RecordRead.rest l.fn.store;
  fixed : (g.S.RecordRead.meaning l.store).fixed ≡ (g.S.RecordRead.meaning l.fn.store).fixed;
}
