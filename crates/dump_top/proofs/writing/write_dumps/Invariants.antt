use Rattle.std.proofs.Common.{◌≡◌, ◌≤◌, take}
use Rattle.std.specs.Io.KnownBytes.{append_known}
use Rattle.outside_io.specs.Faults.{count_end}
use Rattle.snap_dump.specs.Dumps.{seen_in}
use Rattle.dump_top.specs.Texts.{readings_text}
use Rattle.dump_top.proofs.writing.write_dumps.Given as goal

-- the dumps so far were written
abbrev pub invariant-loop-dump : goal.invariant-loop-dump
invariant-loop-dump g l = record {
  taken : g.K.Sink.taken l.sink ≡ append_known (g.K.Sink.taken l.initial.sink) (readings_text l.declared (seen_in (take l.dump-index l.dumps)));
  never_falls : g.K.Sink.faults l.initial.sink ≤ g.K.Sink.faults l.sink;
  stays_ended : g.K.Sink.faults l.initial.sink ≡ count_end → g.K.Sink.faults l.sink ≡ count_end;
}
