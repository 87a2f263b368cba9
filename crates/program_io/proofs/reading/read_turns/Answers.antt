use Rattle.std.proofs.Common.{arith}
use Rattle.std.proofs.lemmas.List.{length-take}
use Rattle.program_io.proofs.Streams.{reads-more}
use Rattle.program_io.proofs.reading.read_turns.Goals as goal

pub returns-in_err-count-clause-reads : goal.returns-in_err-count-clause-reads
returns-in_err-count-clause-reads g c =
    let turn = c.read_turn.ensures.reads in
    reads-more _ _ _ _ _ _ c.loop-bytes.invariant.given turn.2 (omega (arith, turn.1, length-take c.min-wanted.result c.loop-bytes.room, c.loop-bytes.bytes.ok.0))
