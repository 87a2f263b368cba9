use Rattle.std.proofs.Common.{◌<◌, ◌≤◌, ◌⊎◌, ⊎_elim, refl, sym, subst}
use Rattle.std.proofs.lemmas.Bool.{cases_lt}
use Rattle.stamp_base.specs.Stamp.{bound_of_clock}
use Rattle.core_rule.specs.View.{View}
use Rattle.core_rule.specs.Hands.{Seated}
use Rattle.core_rule.specs.Searching.{Ends}
use Rattle.engine_rows.proofs.clocks.idles.Goals as goal

pub returns-clause-ends : goal.returns-clause-ends
returns-clause-ends c =
    let was = c.args.hand.now.view in let published = was.published.write in let bound = bound_of_clock was.clock.clock in
    ⊎_elim
    (λ (rises : published < bound). subst (λ (v : View). Ends v.work) (sym (c.idle.ensures.rises rises)) record { rests = tt; settled = λ u h. absurd h; collected = refl })
    (λ (stays : bound ≤ published). subst (λ (s : Seated). Ends s.view.work) (sym (c.idle.ensures.unchanged stays)) c.requires.ends)
    (cases_lt published bound)
