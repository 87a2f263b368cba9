use Rattle.std.proofs.Common.{◌≡◌}
use Rattle.pass_rows.proofs.limits.take_all.Given as goal

abbrev pub invariant-loop-rid : goal.invariant-loop-rid
invariant-loop-rid g l = g.S.RecordRead.rest l.store ≡ g.S.RecordRead.rest l.fn.store
