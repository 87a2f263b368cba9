use Rattle.std.proofs.Common.{List, ℕ, subst, ◌∙◌}
use Rattle.dump_top.specs.Parts.{IsWrittenInPart}
use Rattle.dump_top.proofs.Readings.{first_part}
use Rattle.dump_top.proofs.writing.write_dump.Goals as goal

pub returns-clause-part : goal.returns-clause-part
returns-clause-part g c =
    subst (λ (text : List ℕ). IsWrittenInPart text (g.K.Sink.taken c.args.sink.now) (g.K.Sink.taken c.write_all.new.sink)) (c.deref.ensures.value ∙ c.in-Ok.ensures)
    (first_part c.deref.result.now c.in-Err.stop.sent (g.K.Sink.taken c.args.sink.now) (g.K.Sink.taken c.write_all.new.sink) c.in-Err.ensures.unfinished c.in-Err.ensures.part)
