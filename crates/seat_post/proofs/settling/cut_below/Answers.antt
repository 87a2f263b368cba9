use Rattle.seat_post.proofs.Steady.{steady_collected, steady_settling, steady_settles}
use Rattle.seat_post.proofs.Settlement.{entry_below}
use Rattle.seat_post.proofs.settling.cut_below.Goals as goal

pub collect-requires-clause-below : goal.collect-requires-clause-below
collect-requires-clause-below g c = entry_below c.args.hand.now.view c.args.rid c.args.stamp c.requires.settling c.requires.entered

pub returns-clause-settling : goal.returns-clause-settling
returns-clause-settling g c =
    let e = c.collect.ensures in
    steady_settling c.args.hand.now.view c.collect.new.hand.view c.requires.settling (steady_collected c.args.hand.now.view c.collect.new.hand.view _ _ _ _ _ e.view e.met e.grows)

pub returns-clause-settles : goal.returns-clause-settles
returns-clause-settles g c =
    let e = c.collect.ensures in
    steady_settles g.J.Keeps.kept c.args.hand.now.view c.collect.new.hand.view (steady_collected c.args.hand.now.view c.collect.new.hand.view _ _ _ _ _ e.view e.met e.grows)
