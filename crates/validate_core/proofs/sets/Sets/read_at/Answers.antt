use Rattle.std.proofs.Common.{◌<◌, length, sym, subst}
use Rattle.validate_core.specs.Noted.{noted}
use Rattle.validate_core.specs.Sets.{SetsView, Turn}
use Rattle.validate_core.proofs.Noting.{noted_get, turn_of}
use Rattle.validate_core.proofs.sets.Sets.read_at.Goals as goal

pub returns : goal.returns
returns c =
    let n = c.self.inside.reads in let x = c.index.result.now in
    let below : c.args.i < length (noted n) = subst (λ (s : SetsView). c.args.i < length s.reads) (sym c.self.view_is) c.requires in
    subst (λ (s : SetsView). Turn c.args.i s.reads x) c.self.view_is
    (turn_of c.args.i (noted n) x (noted_get n c.args.i x c.self.invariant.reads_are.within below c.index.ensures))
