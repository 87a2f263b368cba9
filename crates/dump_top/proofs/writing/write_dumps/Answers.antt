use Rattle.std.proofs.Common.{Result, Ok, Err, arith}
use Rattle.std.specs.Prelude.{OnErr}
use Rattle.dump_top.proofs.Readings.{part_behind, written_more}
use Rattle.dump_top.proofs.writing.write_dumps.Goals as goal

on_err : {T E P : Type 0} (r : Result T E) → P → OnErr r P
on_err (Ok x) p = tt
on_err (Err e) p = p

pub returns-in_err-write_dump-clause-part : goal.returns-in_err-write_dump-clause-part
returns-in_err-write_dump-clause-part g c =
    on_err c.from_residual.result (part_behind c.args.declared.now c.args.dumps.now c.loop-dump.dump-index c.dump-item.result (g.K.Sink.taken c.args.sink.now) (g.K.Sink.taken c.loop-dump.sink) (g.K.Sink.taken c.write_dump.new.sink)
    c.loop-dump-test.true c.dump-item.is c.loop-dump.invariant.taken c.in_err-write_dump.ensures.part)

pub loop-dump-preserved : goal.loop-dump-preserved
loop-dump-preserved g c =
    let done = c.write_dump.ensures in
    let so_far = c.loop-dump.invariant in
    record {
      taken = written_more c.args.declared.now c.args.dumps.now c.loop-dump.dump-index c.dump-item.result (g.K.Sink.taken c.args.sink.now) (g.K.Sink.taken c.loop-dump.sink) (g.K.Sink.taken c.write_dump.new.sink)
          c.loop-dump-test.true c.dump-item.is so_far.taken c.in_ok-write_dump.ensures.all;
      never_falls = (let a = done.never_falls in let b = so_far.never_falls in omega (arith, a, b));
      stays_ended = λ ended. done.stays_ended (so_far.stays_ended ended);
    }
