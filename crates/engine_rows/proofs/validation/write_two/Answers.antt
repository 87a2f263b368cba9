use Rattle.std.proofs.Common.{◌<◌, arith}
use Rattle.engine_rows.proofs.Begun.{roomy_begun, write_begun}
use Rattle.engine_rows.proofs.validation.write_two.Goals as goal

pub run-requires-clause-begun : goal.run-requires-clause-begun
run-requires-clause-begun c =
    let size = c.args.core.now.size in let v = c.args.hand.now.view in let room = c.reserve.new.self in
    let more = c.requires.records in let first : 0 < size.records = omega arith in
    let begun = roomy_begun size c.args.sets room v c.requires.begun c.reserve.ensures.reads c.reserve.ensures.writes in
    let one = write_begun size room c.write.new.self v _ begun first c.write.ensures.writes c.write.ensures.reads c.write.ensures.once in
    write_begun size c.write.new.self c.write-2.new.self v _ one more c.write-2.ensures.writes c.write-2.ensures.reads c.write-2.ensures.once
