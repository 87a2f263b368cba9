use Rattle.std.proofs.Common.{rules}
use Rattle.txn_engine.specs.Pass.{meaning_of_pass}
use Rattle.connections.proofs.InTxns.{in_txn, leaves_declare, open_on, tables_torn, torn_doomed}
use Rattle.connections.proofs.TxnStores.{calls_there, fault_there, pass_frame}
use Rattle.connections.proofs.in_txn.declare_in_txn.Goals as goal

pub go_on-requires-clause-torn : goal.go_on-requires-clause-torn
go_on-requires-clause-torn c =
    let told = c.declare_index-told in
    torn_doomed c.args.engine.now c.args.pass.now c.resume-txn.result.seat.now told.new.store.seat.now _ c.resume-txn.ensures.seat (search rules) c.requires.pass (pass_frame told.ensures.rest) told.result c.keeps_tables.ensures told.ensures.after (tables_torn (meaning_of_pass c.resume-txn.result.seat.now) (meaning_of_pass told.new.store.seat.now) told.result told.ensures.torn)

pub returns-clause-did : goal.returns-clause-did
returns-clause-did c =
    let told = c.declare_index-told in
    in_txn c.args.engine.now c.args.pass.now c.resume-txn.result.seat.now told.new.store.seat.now _ c.resume-txn.ensures.seat (search rules) c.requires.pass (pass_frame told.ensures.rest) _ told.result c.go_on.result c.go_on.new.pass (record {
      declared = told.ensures.declared;
      torn = told.ensures.torn;
      fault = fault_there c.resume-txn.result told.new.store (λ t. t.seat.now) (λ asks. ⊥) told.result told.ensures.fault;
      calls = calls_there c.resume-txn.result told.new.store (λ t. t.seat.now) 0 told.ensures.calls;
      few = told.ensures.few;
      after = told.ensures.after;
      refused = told.ensures.refused;
      unchanged = told.ensures.unchanged;
    }) c.go_on.ensures.goes_on c.go_on.ensures.idle c.go_on.ensures.no_entry

pub returns-clause-open_there : goal.returns-clause-open_there
returns-clause-open_there c =
    let told = c.declare_index-told in
    open_on c.args.engine.now c.args.pass.now c.resume-txn.result.seat.now told.new.store.seat.now _ c.resume-txn.ensures.seat (search rules) c.requires.pass (pass_frame told.ensures.rest) told.result c.go_on.result c.go_on.new.pass (leaves_declare c.args.engine.now c.args.pass.now c.resume-txn.result.seat.now told.new.store.seat.now c.resume-txn.ensures.seat c.requires.pass (pass_frame told.ensures.rest) c.args.table c.args.column told.result told.ensures.after told.ensures.declared told.ensures.unchanged) c.go_on.ensures.goes_on
