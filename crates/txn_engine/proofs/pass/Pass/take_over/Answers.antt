use Rattle.std.proofs.Common.{ap, ◌∙◌}
use Rattle.txn_engine.specs.Pass.{PassView, DeskView}
use Rattle.txn_engine.proofs.Joined.{pass_joined}
use Rattle.txn_engine.proofs.pass.Pass.take_over.Goals as goal

pub invariant_of-self : goal.invariant_of-self
invariant_of-self g c =
    let i = c.self.inside in
    let alive = ap (λ (p : PassView). p.dead) c.self.view_is ∙ ap (λ (d : DeskView). d.dead) c.requires.idle in
    rw (c.join.ensures, c.add_all.ensures, c.take_back.ensures.after) (pass_joined i.post c.other.inside.hand i.queue i.numbers _ _ c.self.invariant alive c.other.invariant.commits c.other.invariant.snapshots)
