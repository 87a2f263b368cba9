use Rattle.engine_rows.proofs.Begun.{write_begun}
use Rattle.engine_rows.proofs.validation.write_then.Goals as goal

pub run-requires-clause-begun : goal.run-requires-clause-begun
run-requires-clause-begun g c =
    let begun = c.requires.begun in
    write_begun c.args.core.now.size c.args.sets c.write.new.self c.args.hand.view _ begun c.requires.record c.write.ensures.writes c.write.ensures.reads c.write.ensures.once
