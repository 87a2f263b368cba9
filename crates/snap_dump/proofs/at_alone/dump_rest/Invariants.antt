use Rattle.std.proofs.Common.{◌≡◌, ◌+◌, ◌≤◌, length}
use Rattle.txn_engine.specs.Pass.{engine_of}
use Rattle.lane_runner.specs.Blocks.{AddsOthers}
use Rattle.lane_runner.specs.Room.{clock_after}
use Rattle.snap_dump.specs.Dumps.{DumpsMade, KeepsOthers}
use Rattle.snap_dump.proofs.at_alone.dump_rest.Given as goal

-- so many more were made
abbrev pub invariant-loop : goal.invariant-loop
invariant-loop l = record {
  engine : engine_of l.alone.pass ≡ l.engine;
  others : AddsOthers l.initial.alone.pass l.alone.pass;
  made : DumpsMade l.initial.alone.pass l.alone.pass l.initial.made.items l.made.items;
  count : length l.made.items ≡ length l.initial.made.items + l.counter;
  keeps : KeepsOthers l.initial.alone.pass l.alone.pass;
  beside : l.alone.beside ≡ l.initial.alone.beside;
  clock : l.alone.pass.clock ≤ clock_after l.initial.alone.pass.clock l.counter;
}
