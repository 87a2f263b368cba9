use Rattle.std.proofs.Common.{rules}
use Rattle.connections.proofs.InTxns.{in_txn, leaves_remove, open_on, torn_doomed}
use Rattle.connections.proofs.TxnStores.{goes_there, halves_there, pass_frame, runs_there}
use Rattle.connections.proofs.in_txn.remove_in_txn.Goals as goal

pub go_on-requires-clause-torn : goal.go_on-requires-clause-torn
go_on-requires-clause-torn c =
    let told = c.remove_and_reclaim-told in
    torn_doomed c.args.engine.now c.args.pass.now c.resume-txn.result.seat.now told.new.store.seat.now _ c.resume-txn.ensures.seat (search rules) c.requires.pass (pass_frame told.ensures.rest) told.result c.keeps_tables.ensures told.ensures.runs.by.grow told.ensures.runs.torn

pub returns-clause-did : goal.returns-clause-did
returns-clause-did c =
    let told = c.remove_and_reclaim-told in
    in_txn c.args.engine.now c.args.pass.now c.resume-txn.result.seat.now told.new.store.seat.now _ c.resume-txn.ensures.seat (search rules) c.requires.pass (pass_frame told.ensures.rest) _ told.result c.go_on.result c.go_on.new.pass (record { runs = runs_there c.resume-txn.result told.new.store (λ t. t.seat.now) told.result told.ensures.runs; asks_nothing = goes_there c.resume-txn.result told.new.store (λ t. t.seat.now) told.result told.ensures.asks_nothing; halves = halves_there c.resume-txn.result told.new.store (λ t. t.seat.now) c.args.table c.args.key told.result told.ensures.halves; kept = told.ensures.kept }) c.go_on.ensures.goes_on c.go_on.ensures.idle c.go_on.ensures.no_entry

pub returns-clause-open_there : goal.returns-clause-open_there
returns-clause-open_there c =
    let told = c.remove_and_reclaim-told in
    open_on c.args.engine.now c.args.pass.now c.resume-txn.result.seat.now told.new.store.seat.now _ c.resume-txn.ensures.seat (search rules) c.requires.pass (pass_frame told.ensures.rest) told.result c.go_on.result c.go_on.new.pass (leaves_remove c.args.engine.now c.args.pass.now c.resume-txn.result.seat.now told.new.store.seat.now c.resume-txn.ensures.seat c.requires.pass (pass_frame told.ensures.rest) c.args.table c.args.key told.ensures.runs.asked told.result told.ensures.runs.by.grow told.ensures.runs.did) c.go_on.ensures.goes_on
