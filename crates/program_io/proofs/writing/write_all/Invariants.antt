use Rattle.std.proofs.Common.{◌≡◌, length, take, ◌-◌, ◌≤◌}
use Rattle.std.specs.Io.KnownBytes.{append_known}
use Rattle.outside_io.specs.Faults.{count_end}
use Rattle.program_io.proofs.writing.write_all.Given as goal

abbrev pub invariant-loop-sent : goal.invariant-loop-sent
invariant-loop-sent g l = record {
  taken : g.K.Sink.taken l.sink ≡ append_known (g.K.Sink.taken l.initial.sink) (take l.sent l.text);
  within : l.sent ≤ length l.text;
  never_falls : g.K.Sink.faults l.initial.sink ≤ g.K.Sink.faults l.sink;
  stays_ended : g.K.Sink.faults l.initial.sink ≡ count_end → g.K.Sink.faults l.sink ≡ count_end;
}

abbrev pub decreases-loop-sent : goal.decreases-loop-sent
decreases-loop-sent g l = length l.text - l.sent
