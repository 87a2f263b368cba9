use Rattle.std.proofs.Common.{List, Vec, Global}
use Rattle.stored_tables.specs.declared.rows_lawful.RowsLawful.{RowsLawful}
use Rattle.txn_engine.specs.declared.pass.Pass.{Pass}
use Rattle.txn_engine.specs.Pass.{PassView}
use Rattle.lane_runner.specs.declared.done.LaneDone.{LaneDone}
use Rattle.lane_futures.proofs.Polled.{on_pending, same_there}
use Rattle.lane_futures.proofs.future.LanesFuture.poll.Goals as goal

pub returns-in-Ok-true-clause-same : goal.returns-in-Ok-true-clause-same
returns-in-Ok-true-clause-same g c =
    let pass_of : (Pass RowsLawful × g.row.C.Denot × Vec LaneDone Global) → PassView = λ x. x.0 in
    let dones_of : (Pass RowsLawful × g.row.C.Denot × Vec LaneDone Global) → List LaneDone = λ x. x.2.items in
    on_pending c.yield_now.result _ (λ output come. same_there output pass_of dones_of c.args.self.now c.turn.new.self c.in-Ok-true.ensures.same come)
