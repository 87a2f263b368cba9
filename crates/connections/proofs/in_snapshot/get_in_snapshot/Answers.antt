use Rattle.std.proofs.Common.{rules, ap}
use Rattle.txn_engine.specs.Snapshot.{SnapshotFrame, meaning_of_snapshot}
use Rattle.connections.proofs.InSnapshots.{in_snapshot, torn_unlawful}
use Rattle.connections.proofs.in_snapshot.get_in_snapshot.Goals as goal

pub answer_of-requires-clause-torn : goal.answer_of-requires-clause-torn
answer_of-requires-clause-torn c =
    let told = c.get_row-told in
    torn_unlawful told.new.store.seat.now (meaning_of_snapshot c.resume-snapshot.result.seat.now) c.keeps_tables.ensures _ told.result (search rules) told.new.store.snapshot told.ensures.looks.by.only told.ensures.looks.torn

pub returns-clause-did : goal.returns-clause-did
returns-clause-did c =
    let told = c.get_row-told in
    in_snapshot c.resume-snapshot.result told.new.store (λ s. s.seat.now) c.args.pass.now _ c.resume-snapshot.ensures.seat (search rules) told.result c.answer_of.result c.answer_of.ensures.told c.answer_of.ensures.fault told.ensures.looks
    (ap (λ (x : SnapshotFrame (Unit {0})). x.of_pass) told.ensures.rest) told.ensures.memory (λ is. absurd is)
