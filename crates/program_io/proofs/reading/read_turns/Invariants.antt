use Rattle.std.proofs.Common.{vec_len, length, ◌≡◌, ◌-◌, ◌+◌, ◌≤◌}
use Rattle.std.specs.Io.KnownBytes.{prepend_known}
use Rattle.program_io.proofs.reading.read_turns.Given as goal

abbrev pub invariant-loop-bytes : goal.invariant-loop-bytes
invariant-loop-bytes g l = record {
  given : g.S.Source.left l.initial.source ≡ prepend_known l.bytes.items (g.S.Source.left l.source);
  bounded : length l.bytes.items ≤ l.most + 1;
  never_falls : g.S.Source.faults l.initial.source ≤ g.S.Source.faults l.source;
}

abbrev pub decreases-loop-bytes : goal.decreases-loop-bytes
decreases-loop-bytes g l = l.most + 1 - vec_len l.bytes
