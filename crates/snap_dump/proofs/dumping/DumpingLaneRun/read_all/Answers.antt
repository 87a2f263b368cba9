use Rattle.std.proofs.Common.{arith}
use Rattle.snap_dump.proofs.Placed.{length-seen_in, reads_all}
use Rattle.snap_dump.proofs.dumping.DumpingLaneRun.read_all.Goals as goal

pub dump_rest-requires-clause-within : goal.dump_rest-requires-clause-within
dump_rest-requires-clause-within g c = let made = length-seen_in c.args.reader.made.items in omega (arith, made, c.requires.few)

pub dump_rest-requires-clause-room : goal.dump_rest-requires-clause-room
dump_rest-requires-clause-room g c = let made = length-seen_in c.args.reader.made.items in omega (arith, made, c.requires.room)

pub returns-clause-reads : goal.returns-clause-reads
returns-clause-reads g c =
    let rest = c.in_ok-dump_rest.ensures in
    reads_all c.args.alone.now c.dump_rest.new.alone c.args.self.now.dumps c.args.reader.made.items c.dump_rest.new.made.items rest.others rest.keeps rest.beside rest.made rest.all rest.clock
