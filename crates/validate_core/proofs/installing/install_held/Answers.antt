use Rattle.std.proofs.Common.{ℕ, subst}
use Rattle.validate_core.specs.Installing.{Puts}
use Rattle.validate_core.proofs.Works.{among_turn}
use Rattle.validate_core.proofs.Placing.{held_installs}
use Rattle.validate_core.proofs.installing.install_held.Goals as goal

pub put-requires-clause-fits : goal.put-requires-clause-fits
put-requires-clause-fits g c = λ u turn. c.requires.fits u (among_turn 0 c.args.sets.now.writes u turn)

pub returns-clause-installs : goal.returns-clause-installs
returns-clause-installs g c =
    let z = c.args.core.now.size in let before = c.args.hand.now.view in let after' = c.put.new.hand.view in
    held_installs z c.args.sets.now c.put.new.sets c.args.place before after' c.requires.begun c.requires.one
    (subst (λ (t : ℕ). Puts z t 0 c.args.place c.args.sets.now c.put.new.sets before after') c.published_write-stamp.ensures c.put.ensures.puts)
