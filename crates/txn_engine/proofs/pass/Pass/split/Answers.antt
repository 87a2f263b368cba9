use Rattle.std.proofs.Common.{ap, ◌∙◌}
use Rattle.txn_engine.specs.Pass.{PassView, DeskView}
use Rattle.txn_engine.proofs.Together.{pass_others}
use Rattle.txn_engine.proofs.pass.Pass.split.Goals as goal

pub invariant_of-self : goal.invariant_of-self
invariant_of-self g c =
    let alive = ap (λ (p : PassView). p.dead) c.self.view_is ∙ ap (λ (d : DeskView). d.dead) c.requires.idle in
    let i = c.self.inside in
    rw c.split-post.ensures.after (pass_others i.post _ i.queue i.numbers _ _ c.self.invariant alive)
