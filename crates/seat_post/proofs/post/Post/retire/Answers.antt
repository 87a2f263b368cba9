use Rattle.std.proofs.Common.{ap, ◌∙◌}
use Rattle.seat_post.specs.Post.{PostView}
use Rattle.seat_post.specs.declared.phase.Phase.TheVariants.{Idle}
use Rattle.seat_post.proofs.Posts.{at_phase}
use Rattle.seat_post.proofs.post.Post.retire.Goals as goal

pub retire-requires-clause-ends : goal.retire-requires-clause-ends
retire-requires-clause-ends g c = (at_phase c.self.inside.phase Idle c.self.inside.hand c.self.inside.stamp c.self.inside.sets c.self.invariant (ap (λ (p : PostView). p.phase) c.self.view_is ∙ c.requires.idle)).ends
