use Rattle.std.proofs.Common.{sym, subst}
use Rattle.connections.specs.Rows.{IsUnlawful}
use Rattle.connections.proofs.InSnapshots.{never_unlawful, torn_at}
use Rattle.connections.proofs.in_snapshot.answer_of.Goals as goal

pub unreachable-requires : goal.unreachable-requires
unreachable-requires c d = never_unlawful d.resume.result.seat.now _ d.finish.result d.resume.result.snapshot
    (subst IsUnlawful (sym d.resume.ensures.seat) (torn_at (IsUnlawful d.args.pass.now) d.args.told d.in-Err.walk d.in-Torn.field-0 d.in-Err.is d.in-Torn.is d.requires.torn)) d.finish.ensures.finishes
