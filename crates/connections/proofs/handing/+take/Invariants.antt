use Rattle.connections.proofs.handing.+take.Given as goal

abbrev pub decreases-take : goal.decreases-take
decreases-take l = l.most
