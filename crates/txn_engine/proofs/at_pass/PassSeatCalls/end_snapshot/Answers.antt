use Rattle.std.proofs.Common.{rules, sym, subst}
use Rattle.txn_engine.specs.Inside.{pass_view}
use Rattle.txn_engine.specs.Pass.{PassView}
use Rattle.txn_engine.specs.Snapshot.{HasSnapshot}
use Rattle.txn_engine.proofs.Snapshots.{pass_ended, absent_ended}
use Rattle.txn_engine.proofs.at_pass.PassSeatCalls.end_snapshot.Goals as goal

pub invariant_of-self : goal.invariant_of-self
invariant_of-self g c =
    let i = c.self.inside in
    pass_ended i.post c.end_snapshot.new.self i.post.snapshot i.queue i.numbers _ _ c.self.invariant (subst (λ (p : PassView). HasSnapshot p) (sym c.self.view_is) c.requires.snapshot) c.end_snapshot.ensures.after

pub returns-clause-finishes : goal.returns-clause-finishes
returns-clause-finishes g c =
    let i = c.self.inside in
    let p = c.args.self.now in
    let q = pass_view c.end_snapshot.new.self i.boost i.queue i.numbers i.refusals i.commits i.dead i.counted in
    record { after = search rules; loads = search rules; stamp = search rules; stood = search rules; absent = absent_ended p q p.snapshot c.requires.snapshot (search rules) }
