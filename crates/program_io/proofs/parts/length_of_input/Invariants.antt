use Rattle.std.proofs.Common.{◌≡◌, ◌+◌, length}
use Rattle.program_io.proofs.PartLaws.{ahead, to_done}
use Rattle.program_io.proofs.parts.length_of_input.Given as goal

abbrev pub invariant-loop-line : goal.invariant-loop-line
invariant-loop-line l = record {
  counted : ahead l.length (to_done l.rest) ≡ to_done l.bytes;
  bound : l.length + length l.rest ≡ length l.bytes;
}

abbrev pub decreases-loop-line : goal.decreases-loop-line
decreases-loop-line l = length l.rest
