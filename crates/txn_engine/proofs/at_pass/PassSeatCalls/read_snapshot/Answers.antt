use Rattle.std.proofs.Common.{subst}
use Rattle.record_store.specs.Into.{value_if}
use Rattle.txn_engine.specs.Inside.{pass_view}
use Rattle.txn_engine.specs.Pass.{PassView}
use Rattle.txn_engine.specs.Snapshot.{FindsSeen}
use Rattle.txn_engine.proofs.at_pass.PassSeatCalls.read_snapshot.Goals as goal

pub invariant_of-self : goal.invariant_of-self
invariant_of-self g c = rw c.read_snapshot.ensures.after c.self.invariant

pub returns-clause-found : goal.returns-clause-found
returns-clause-found g c =
    let i = c.self.inside in
    subst (λ (x : PassView). FindsSeen x (pass_view c.read_snapshot.new.self i.boost i.queue i.numbers i.refusals i.commits i.dead i.counted) c.args.rid (value_if c.read_snapshot.result c.read_snapshot.new.into)) c.self.view_is c.read_snapshot.ensures.found
