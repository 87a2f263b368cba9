use Rattle.program_rows.proofs.Shares.{shares_are}
use Rattle.program_rows.proofs.seats.shared.Goals as goal

pub returns : goal.returns
returns c = shares_are c.args.engine.now c.args.alone.pass c.share.result.items c.requires.seat c.share.ensures.passes
